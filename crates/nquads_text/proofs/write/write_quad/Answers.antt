use Rattle.nquads_text.proofs.Puts.{then, fails, fails_second, faulted, passes_then}
use Rattle.std.proofs.Common.{◌++◌, codes}
use Rattle.nquads_text.specs.Written.{triple_text, graph_text}
use Rattle.nquads_text.proofs.write.write_quad.Goals as goal

pub returns-in_err-write_triple-clause-bytes : goal.returns-in_err-write_triple-clause-bytes
returns-in_err-write_triple-clause-bytes g c =
    let held = g.K.Sink.held in
    faulted c.from_residual.result (held c.args.sink.now) (held c.write_triple.new.sink) c.args.block.now c.write_triple.new.block (triple_text c.args.quad.now ++ graph_text c.args.quad.now.graph ++ codes " .\n") c.from_residual.ensures.0 (fails (held c.args.sink.now) (held c.write_triple.new.sink) c.args.block.now (triple_text c.args.quad.now ++ graph_text c.args.quad.now.graph) (codes " .\n") (fails (held c.args.sink.now) (held c.write_triple.new.sink) c.args.block.now (triple_text c.args.quad.now) (graph_text c.args.quad.now.graph) c.in_err-write_triple.ensures.bytes))

pub returns-in_err-write_graph-clause-bytes : goal.returns-in_err-write_graph-clause-bytes
returns-in_err-write_graph-clause-bytes g c =
    let held = g.K.Sink.held in
    faulted c.from_residual-in_err-write_graph.result (held c.args.sink.now) (held c.write_graph.new.sink) c.args.block.now c.write_graph.new.block (triple_text c.args.quad.now ++ graph_text c.args.quad.now.graph ++ codes " .\n") c.from_residual-in_err-write_graph.ensures.0 (fails (held c.args.sink.now) (held c.write_graph.new.sink) c.args.block.now (triple_text c.args.quad.now ++ graph_text c.args.quad.now.graph) (codes " .\n") (fails_second (held c.args.sink.now) (held c.write_triple.new.sink) (held c.write_graph.new.sink) c.args.block.now c.write_triple.new.block (triple_text c.args.quad.now) (graph_text c.args.quad.now.graph) c.in_ok-write_triple.ensures.bytes c.in_err-write_graph.ensures.bytes))

pub returns-clause-bytes : goal.returns-clause-bytes
returns-clause-bytes g c =
    let held = g.K.Sink.held in
    passes_then c.put.result (held c.args.sink.now) (held c.write_graph.new.sink) (held c.put.new.sink) c.args.block.now c.write_graph.new.block c.put.new.block (triple_text c.args.quad.now ++ graph_text c.args.quad.now.graph) (codes " .\n") (then (held c.args.sink.now) (held c.write_triple.new.sink) (held c.write_graph.new.sink) c.args.block.now c.write_triple.new.block c.write_graph.new.block (triple_text c.args.quad.now) (graph_text c.args.quad.now.graph) c.in_ok-write_triple.ensures.bytes c.in_ok-write_graph.ensures.bytes) c.put.ensures.bytes
