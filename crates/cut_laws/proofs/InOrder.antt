-- The results of a legal plan's pieces, taken in the plan's order: what is known of the piece that is reached next is the next result.
use Rattle.std.proofs.Common.{ℕ, zero, suc, ◌≡◌, List, [], ◌∷◌, ◌++◌, Bool, true, false, Option, None, Some, Result, length, refl, ap, ◌∙◌, subst}
use Rattle.std.specs.Prelude.{if◌then◌else◌, slice_get}
use Rattle.std.specs.List.{AllByRecursion}
use Rattle.std.specs.Option.{option_map}
use Rattle.ld_json.specs.declared.location.Step.{Step}
use Rattle.ld_model.specs.Tree.{Tree}
use Rattle.expand_model.specs.Scope.{Fault}
use Rattle.cut_model.specs.Pieces.{Piece, count_behind, begins_at, ranges_of}
use Rattle.cut_model.specs.Legal.{IsNonEmpty, AreApart, IsLegal}
use Rattle.cut_model.specs.Answers.{RangeAnswer}
use Rattle.cut_model.specs.Grafting.{known_by}
use Rattle.cut_laws.proofs.Lists.{is_some, all_split}
use Rattle.cut_laws.proofs.Places.{begins_itself, apart_begin}

-- There is a piece, and it begins with this item.
abbrev pub begins_by : List Step → ℕ → Option Piece → Bool
begins_by p n None = false
begins_by p n (Some x) = begins_at p n x

-- Where no range of the plan begins, none of its pieces does.
pub none_begins : (plan : List Piece) (p : List Step) (n i : ℕ) → ranges_of plan p n ≡ None → begins_by p n (slice_get plan i) ≡ false
none_begins [] p n i h = refl
none_begins (x ∷ xs) p n zero h = by (begins_at p n x) h
  where
    by : (b : Bool) → (if b then Some (count_behind x.items) else ranges_of xs p n) ≡ None → b ≡ false
    by true h = absurd (subst is_some h tt)
    by false h = refl
none_begins (x ∷ xs) p n (suc i) h = none_begins xs p n i (by (begins_at p n x) h)
  where
    by : (b : Bool) → (if b then Some (count_behind x.items) else ranges_of xs p n) ≡ None → ranges_of xs p n ≡ None
    by true h = absurd (subst is_some h tt)
    by false h = h

legal_at : (l : List Piece) (x : Piece) (rest : List Piece) → IsLegal (l ++ x ∷ rest) → IsNonEmpty x
legal_at [] x rest h = h.0
legal_at (y ∷ l) x rest h = legal_at l x rest h.2

-- The piece with this number.
pub piece_at : (l : List Piece) (x : Piece) (rest : List Piece) → slice_get (l ++ x ∷ rest) (length l) ≡ Some x
piece_at [] x rest = refl
piece_at (y ∷ l) x rest = piece_at l x rest

-- What is known where it begins is the result with its number, if there is one.
abbrev pub known_as : Piece → Option (Result (List Tree) Fault) → Option RangeAnswer
known_as x d = option_map (λ d. record { behind = count_behind x.items; result = d }) d

pub next_known : (l : List Piece) (x : Piece) (rest : List Piece) (ds : List (Result (List Tree) Fault)) → IsLegal (l ++ x ∷ rest) → known_by (l ++ x ∷ rest) ds x.at.place x.from ≡ known_as x (slice_get ds (length l))
next_known [] x rest [] legal = refl
next_known [] x rest (d ∷ ds) legal = ap (λ b. if b then Some (record { behind = count_behind x.items; result = d }) else known_by rest ds x.at.place x.from) (begins_itself x)
next_known (y ∷ l) x rest [] legal = refl
next_known (y ∷ l) x rest (d ∷ ds) legal =
    ap (λ b. if b then Some (record { behind = count_behind y.items; result = d }) else known_by (l ++ x ∷ rest) ds x.at.place x.from)
    (apart_begin y x legal.0 (legal_at l x rest legal.2) (all_split (λ z. AreApart y z) l (x ∷ rest) legal.1).1.0)
    ∙ next_known l x rest ds legal.2
