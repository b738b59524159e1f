use Rattle.thread_tests.proofs.deep_tests.+dive.Given as goal

abbrev pub decreases-dive : goal.decreases-dive
decreases-dive l = l.depth
