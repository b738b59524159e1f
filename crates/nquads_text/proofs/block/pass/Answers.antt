use Rattle.nquads_text.proofs.Puts.{passed}
use Rattle.nquads_text.proofs.block.pass.Goals as goal

pub returns-clause-bytes : goal.returns-clause-bytes
returns-clause-bytes g c = passed c.write_all.result (g.K.Sink.held c.args.sink.now) (g.K.Sink.held c.write_all.new.sink) c.args.block.now c.args.bytes.now c.requires c.write_all.ensures.all c.write_all.ensures.front
