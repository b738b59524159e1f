-- The results of a legal and faithful plan's pieces, from the first one on, make the expansion: all of them, or those up to an error.
use Rattle.std.proofs.Common.{ℕ, ◌≡◌, List, [], ◌∷◌, ◌++◌, Bool, true, false, Option, Some, Result, Ok, Err, sym, ap, ◌∙◌, subst}
use Rattle.std.specs.Prelude.{if◌then◌else◌}
use Rattle.std.specs.List.{AllByRecursion}
use Rattle.ld_model.specs.Tree.{Tree, Trees}
use Rattle.expand_model.specs.Scope.{Options, Fault}
use Rattle.expand_model.specs.Rules.{At}
use Rattle.expand_model.specs.Expand.{items, document}
use Rattle.expand_model.specs.Over.{Asked, document_over}
use Rattle.range_laws.specs.Right.{outcome}
use Rattle.cut_model.specs.Pieces.{Piece, count_behind, begins_at, ranges_of}
use Rattle.cut_model.specs.Legal.{IsNonEmpty, AreApart, IsLegal}
use Rattle.cut_model.specs.Reached.{noted, reached_of, IsFaithful}
use Rattle.cut_model.specs.Answers.{RangeAnswer, answer_of, IsAnswered}
use Rattle.cut_model.specs.Grafting.{AreResults, known_by}
use Rattle.cut_laws.proofs.Lists.{is_some, some_or, append_assoc, all_split, IsFront}
use Rattle.cut_laws.proofs.Places.{begins_itself, apart_begin}
use Rattle.cut_laws.proofs.RightAnswers.{IsOfRanges, answered_run}
use Rattle.cut_laws.proofs.LastReached.{GoesOn, AllButLast, reached_ends}

-- A result stands where the plan has a range.
pub grafted_ranges : (plan : List Piece) (ds : List (Result (List Tree) Fault)) → IsOfRanges (known_by plan ds) (ranges_of plan)
grafted_ranges [] ds p n g h = absurd (subst is_some (sym h) tt)
grafted_ranges (x ∷ xs) [] p n g h = absurd (subst is_some (sym h) tt)
grafted_ranges (x ∷ xs) (d ∷ ds) p n g h = by (begins_at p n x) h (λ h. grafted_ranges xs ds p n g h)
  where
    by : (b : Bool) → (if b then Some (record { behind = count_behind x.items; result = d }) else known_by xs ds p n) ≡ Some g → (known_by xs ds p n ≡ Some g → ranges_of xs p n ≡ Some g.behind) → (if b then Some (count_behind x.items) else ranges_of xs p n) ≡ Some g.behind
    by true h rest = ap (λ y. Some (some_or {X = RangeAnswer} (record { behind = count_behind x.items; result = d }) y).behind) h
    by false h rest = rest h

-- what is taken apart of a legal plan
legal_some : (xs ys : List Piece) → IsLegal (xs ++ ys) → AllByRecursion IsNonEmpty xs
legal_some [] ys h = tt
legal_some (x ∷ xs) ys h = (h.0, legal_some xs ys h.2)

fronts : (P : Piece → Type 0) (xs ys : List Piece) → AllByRecursion P (xs ++ ys) → AllByRecursion P xs
fronts P [] ys h = tt
fronts P (x ∷ xs) ys h = (h.0, fronts P xs ys h.1)

module _ (o : Options) where
  -- what is answered of the others stays so behind one more piece
  others : (x : Piece) (d : Result (List Tree) Fault) (xs : List Piece) (ds : List (Result (List Tree) Fault)) (ys : List Piece) → IsNonEmpty x → AllByRecursion (λ y. AreApart x y) ys → AllByRecursion IsNonEmpty ys
      → AllByRecursion (λ y. IsAnswered o (known_by xs ds) y) ys → AllByRecursion (λ y. IsAnswered o (known_by (x ∷ xs) (d ∷ ds)) y) ys
  others x d xs ds [] some apart each h = tt
  others x d xs ds (y ∷ ys) some apart each h = (ap (λ b. if b then Some (record { behind = count_behind x.items; result = d }) else known_by xs ds y.at.place y.from) (apart_begin x y some each.0 apart.0) ∙ h.0, others x d xs ds ys some apart.1 each.1 h.1)

  -- the first piece has the first result
  first : (x : Piece) (d : Result (List Tree) Fault) (xs : List Piece) (ds : List (Result (List Tree) Fault)) → items o x.items x.from x.at [] ≡ d → IsAnswered o (known_by (x ∷ xs) (d ∷ ds)) x
  first x d xs ds is = ap (λ b. if b then Some (record { behind = count_behind x.items; result = d }) else known_by xs ds x.at.place x.from) (begins_itself x) ∙ ap (λ e. Some (record { behind = count_behind x.items; result = e })) (sym is)

  results_answer : (ys rest : List Piece) (ds : List (Result (List Tree) Fault)) → IsLegal (ys ++ rest) → AreResults o (ys ++ rest) ds → AllButLast o ys → AllByRecursion (λ y. IsAnswered o (known_by (ys ++ rest) ds) y) ys
  results_answer [] rest ds legal results ends = tt
  results_answer (y ∷ ys) rest [] legal results ends = absurd results
  results_answer (y ∷ ys) rest (Ok ts ∷ ds) legal results ends = (
    first y (Ok ts) (ys ++ rest) ds results.0,
    others y (Ok ts) (ys ++ rest) ds ys legal.0 (fronts (λ z. AreApart y z) ys rest legal.1) (legal_some ys rest legal.2) (results_answer ys rest ds legal.2 results.1 (behind y ys ends)),
  )
    where
      behind : (y : Piece) (ys : List Piece) → AllButLast o (y ∷ ys) → AllButLast o ys
      behind y [] h = tt
      behind y (z ∷ zs) h = h.1
  results_answer (y ∷ []) rest (Err f ∷ ds) legal results ends = (first y (Err f) rest ds results.0, tt)
  results_answer (y ∷ z ∷ zs) rest (Err f ∷ ds) legal results ends = absurd (subst GoesOn results.0 ends.0)

  -- Pieces that were noted so far: what is known of each is right, and they are the first ones of the plan.
  abbrev pub AreKnown : List Piece → List (Result (List Tree) Fault) → List Piece → Type 0
  AreKnown plan ds l = AllByRecursion (λ y. IsAnswered o (known_by plan ds) y) l × IsFront l plan

  known_before : (plan : List Piece) (ds : List (Result (List Tree) Fault)) (l : List Piece) (x : Piece) → AreKnown plan ds (l ++ x ∷ []) → AreKnown plan ds l × IsAnswered o (known_by plan ds) x
  known_before plan ds l x h =
      let parts = all_split (λ y. IsAnswered o (known_by plan ds) y) l (x ∷ []) h.0 in
      ((parts.0, (x ∷ h.1.0, h.1.1 ∙ append_assoc l (x ∷ []) h.1.0)), parts.1.0)

  -- A run that answers what is known of the plan's pieces by their results comes to the expansion.
  pub graft_run : {S : Type 0} (ask : Trees → ℕ → At → S → Asked S) (settle : Trees → ℕ → At → ℕ → S → Option S) (P : S → List Piece → Type 0) (t : Tree) (plan : List Piece) (ds : List (Result (List Tree) Fault)) (s : S)
      → IsLegal plan → IsFaithful o t plan → AreResults o plan ds → P s []
      → ((ts : Trees) (n : ℕ) (a : At) (s : S) (l : List Piece) → P s l → AreKnown plan ds (noted (ranges_of plan a.place n) ts n a l) → ((ask ts n a s).answer ≡ answer_of (known_by plan ds a.place n)) × P (ask ts n a s).state (noted (ranges_of plan a.place n) ts n a l))
      → outcome (document_over o ask settle t s) ≡ document o t
  graft_run ask settle P t plan ds s legal faithful results p kept =
      let log = reached_of o (ranges_of plan) t in
      answered_run o ask settle P (AreKnown plan ds) (known_by plan ds) (ranges_of plan) (grafted_ranges plan ds) (known_before plan ds) kept t s p (
        subst (λ plan. AllByRecursion (λ y. IsAnswered o (known_by plan ds) y) log) (sym faithful.1)
            (results_answer log faithful.0 ds (subst IsLegal faithful.1 legal) (subst (λ plan. AreResults o plan ds) faithful.1 results) (reached_ends o (ranges_of plan) t)),
        faithful,
      )
