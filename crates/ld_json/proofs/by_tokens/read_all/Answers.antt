use Rattle.std.proofs.Common.{◌≡◌, [], sym, ◌∙◌, arith, rules}
use Rattle.json.specs.Lex.{tokens}
use Rattle.json.specs.Json.{value}
use Rattle.ld_json.proofs.Turns.{whole_read, whole_refused}
use Rattle.ld_json.proofs.Knot.{text_read-whole}
use Rattle.ld_json.proofs.by_tokens.read_all.Goals as goal

pub returns-in_err-tree-clause-err : goal.returns-in_err-tree-clause-err
returns-in_err-tree-clause-err c refused =
    sym (text_read-whole c.args.text.now) ∙ whole_refused (value 127 (tokens c.args.text.now)) (rw c.in_ok-reader.ensures.ok at (c.read.ensures.err (grind arith)))

pub returns-clause-ok : goal.returns-clause-ok
returns-clause-ok c =
    let none : c.read.new.reader ≡ [] = search rules in
    sym (text_read-whole c.args.text.now) ∙ whole_read (value 127 (tokens c.args.text.now)) _ (rw (c.in_ok-reader.ensures.ok, none) at c.in_ok-tree.ensures.ok)
