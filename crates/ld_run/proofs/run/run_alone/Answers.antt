use Rattle.ld_run.specs.Words.{words_of}
use Rattle.ld_run.specs.Out.{due}
use Rattle.ld_run.specs.Promise.{sunk}
use Rattle.ld_run.proofs.Says.{says, no_front}
use Rattle.ld_run.proofs.run.run_alone.Goals as goal

pub returns-in-Err-clause-says : goal.returns-in-Err-clause-says
returns-in-Err-clause-says g c =
    λ is.
    says c.say.result c.in-Err.stop (due (words_of c.args.words.now) (g.F.Folder.files c.args.folder.now) (g.S.Source.left c.args.source.now))
    (g.S.Source.faults c.args.source.now) (g.S.Source.faults c.due_text.new.source) (g.F.Folder.faults c.args.folder.now) (g.F.Folder.faults c.due_text.new.folder)
    (sunk g.K.Sink.held g.K.Sink.finished g.K.Sink.faults c.args.out.now c.args.out.now) (sunk g.E.Sink.held g.E.Sink.finished g.E.Sink.faults c.args.err.now c.say.new.err)
    c.status.result c.in-Err.ensures.due c.in-Err.ensures.source_faults c.in-Err.ensures.folder_faults c.status.ensures c.say.ensures

pub returns-in-Err-clause-front : goal.returns-in-Err-clause-front
returns-in-Err-clause-front g c =
    λ is.
    no_front (due (words_of c.args.words.now) (g.F.Folder.files c.args.folder.now) (g.S.Source.left c.args.source.now))
    (g.K.Sink.held c.args.out.now) (g.K.Sink.finished c.args.out.now) (g.K.Sink.faults c.args.out.now) (g.K.Sink.faults c.args.out.now)
