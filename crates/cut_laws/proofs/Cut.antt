-- The plan of a cut is legal and faithful.
use Rattle.std.proofs.Common.{ℕ, zero, suc, ◌≡◌, ◌*◌, List, [], length, Bool, true, false, Ok, Err, sym, ap, ◌∙◌, subst}
use Rattle.std.specs.Prelude.{if◌then◌else◌, nat_le}
use Rattle.ld_model.specs.Tree.{Tree}
use Rattle.expand_model.specs.Scope.{Options}
use Rattle.expand_model.specs.Over.{Outcome, state_of, document_over}
use Rattle.range_laws.specs.Right.{keeps_each}
use Rattle.cut_model.specs.Pieces.{Piece, Ranges, ranges_of}
use Rattle.cut_model.specs.Legal.{IsLegal}
use Rattle.cut_model.specs.Reached.{notes_ranges, reached_of, IsFaithful}
use Rattle.cut_model.specs.Planning.{capped, empty_plan, planned}
use Rattle.cut_model.specs.Cutting.{cut_within, cut}
use Rattle.cut_laws.proofs.Lists.{append_nil, IsFront}
use Rattle.cut_laws.proofs.PiecesInRegions.{KeysApart}
use Rattle.cut_laws.proofs.Beside.{Follows, beside_document}

front_of : {X : Type 0} (new : List Piece) (m : Outcome (List Piece) X) → Follows new m → IsFront (state_of m) new
front_of new (Ok v) e = ([], sym e ∙ sym (append_nil v.1))
front_of new (Err e) h = h

module _ (o : Options) (t : Tree) (apart : KeysApart t) where
  planned_is : (limit : ℕ) → IsLegal (planned o limit t) × IsFaithful o t (planned o limit t)
  planned_is limit =
      let plan : List Piece = planned o limit t in
      let ranges : Ranges = ranges_of plan in
      let r = beside_document o ranges t apart (empty_plan limit) [] in
      let is : plan ≡ r.new = r.is in (
        subst IsLegal (sym is) r.legal,
        subst (λ l. IsFront (reached_of o ranges t) l) (sym is) (front_of r.new (document_over o (notes_ranges o ranges) keeps_each t []) (r.follows (λ p n h. ap (λ l. ranges_of l p n) is))),
      )

  cut_within_is : (n limit : ℕ) → IsLegal (cut_within n o t limit) × IsFaithful o t (cut_within n o t limit)
  unfolding cut_within
  cut_within_is zero limit = planned_is limit
  cut_within_is (suc n) limit = by (nat_le (length (planned o limit t)) 4096) (cut_within_is n (capped (limit * 2)))
    where
      by : (b : Bool) → IsLegal (cut_within n o t (capped (limit * 2))) × IsFaithful o t (cut_within n o t (capped (limit * 2))) → IsLegal (if b then planned o limit t else cut_within n o t (capped (limit * 2))) × IsFaithful o t (if b then planned o limit t else cut_within n o t (capped (limit * 2)))
      by true rest = planned_is limit
      by false rest = rest

  pub cut_is : (limit : ℕ) → IsLegal (cut o t limit) × IsFaithful o t (cut o t limit)
  cut_is limit = cut_within_is 64 limit
