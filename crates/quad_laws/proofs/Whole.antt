-- Quads that were written are read back.
use Rattle.std.proofs.Common.{◌≡◌, ℕ, ◌+◌, false, List, [], ◌∷◌, ◌++◌, Ok, refl, sym, ap, ◌∙◌, append_assoc, codes, map}
use Rattle.rdf_terms.specs.declared.term.Quad.{Quad}
use Rattle.nquads_text.specs.Lines.{lines, lines_from, read_from, with_line, prepended}
use Rattle.nquads_text.specs.Written.{quad_text, written, triple_text, graph_text}
use Rattle.quad_laws.specs.Text.{AreGood, line_text}
use Rattle.quad_laws.proofs.Statements.{good_from, said_back}
use Rattle.quad_laws.proofs.Ends.{line_whole, line_back}

pub quad_is_line : (q : Quad) → quad_text q ≡ line_text q ++ 10 ∷ []
quad_is_line q = sym (append_assoc (triple_text q ++ graph_text q.graph) (codes " .") (10 ∷ []))

pub lines_back : (qs : List Quad) → AreGood qs → lines (written qs) ≡ map line_text qs
lines_back [] good = refl
lines_back (q ∷ qs) good =
    let g = good_from q good.0 in
    let whole = line_whole q g.subject_valid g.predicate_valid g.object_valid g.graph_valid g.subject_text g.predicate_text g.object_text g.graph_is_text in
    ap (λ l. lines_from false (l ++ written qs)) (quad_is_line q) ∙ ap (lines_from false) (append_assoc (line_text q) (10 ∷ []) (written qs)) ∙ line_back (line_text q) (written qs) whole ∙ ap (λ ls. line_text q ∷ ls) (lines_back qs good.1)

pub read_back : (number : ℕ) (qs : List Quad) → AreGood qs → read_from number (map line_text qs) ≡ Ok qs
read_back number [] good = refl
read_back number (q ∷ qs) good =
    ap (λ r. with_line number (line_text q) r (read_from (number + 1) (map line_text qs))) (said_back q good.0) ∙ ap (prepended (q ∷ [])) (read_back (number + 1) qs good.1)

pub whole_back : (number : ℕ) (qs : List Quad) → AreGood qs → read_from number (lines (written qs)) ≡ Ok qs
whole_back number qs good = ap (read_from number) (lines_back qs good) ∙ read_back number qs good
