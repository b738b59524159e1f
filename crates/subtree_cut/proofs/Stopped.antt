-- The plan at which planning stopped is the plan where it has few pieces.
use Rattle.std.proofs.Common.{ℕ, ◌≡◌, nat_le, true, false, length, sym, ap, ◌∙◌, arith}
use Rattle.ld_model.specs.Tree.{Tree}
use Rattle.expand_model.specs.Scope.{Options}
use Rattle.expand_model.specs.Over.{state_of, document_over}
use Rattle.cut_model.specs.Planning.{Plan, empty_plan, opens_or_takes, planned}
use Rattle.cut_model.specs.Cutting.{most_pieces}
use Rattle.stop_laws.specs.Stopping.{has_many, chooses_or_stops}
use Rattle.stop_laws.proofs.Stopping.{stopping_finds_the_same_plan}

module _ (o : Options) (t : Tree) (limit : ℕ) (p : Plan) (is : p ≡ state_of (document_over o chooses_or_stops opens_or_takes t (empty_plan limit))) where
  pub same_plan : nat_le (length p.pieces) most_pieces ≡ true → planned o limit t ≡ p.pieces
  same_plan few =
      let here : has_many p ≡ false = grind (arith, few) in
      ap (λ q. q.pieces) ((stopping_finds_the_same_plan o t limit).few (ap has_many (sym is) ∙ here) ∙ sym is)

  pub many_planned : nat_le (length p.pieces) most_pieces ≡ false → nat_le (length (planned o limit t)) most_pieces ≡ false
  many_planned many =
      let here : has_many p ≡ true = grind (arith, many) in
      let whole = (stopping_finds_the_same_plan o t limit).many (ap has_many (sym is) ∙ here) in
      grind (arith, whole)
