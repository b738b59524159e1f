use Rattle.nquads_text.proofs.LineEnds.{split_line}
use Rattle.nquads_text.proofs.lines.next_line.Goals as goal

pub returns-clause-first : goal.returns-clause-first
returns-clause-first c =
    split_line c.args.bytes.now c.split_at.result.0.now c.split_at.result.1.now c.split_at-2.result.1.now c.line_len.result c.end_len.result c.requires c.line_len.ensures.value c.split_at.ensures.front c.split_at.ensures.back c.end_len.ensures.value c.split_at-2.ensures.back
