use Rattle.job_core.proofs.Ends.{settles}
use Rattle.job_core.proofs.runs.every_closed_run.Goals as goal

pub returns : goal.returns
returns c fails shards seats steps end run closed = settles fails shards seats steps end run closed
