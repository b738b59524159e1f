-- A cursor over a legal and faithful plan answers what is known of its pieces.
use Rattle.std.proofs.Common.{ℕ, suc, ◌≡◌, ◌+◌, List, [], ◌∷◌, ◌++◌, true, false, Option, None, Some, Result, Ok, Err, length, refl, sym, ap, ◌∙◌, subst, arith}
use Rattle.std.specs.Prelude.{if◌then◌else◌, slice_get}
use Rattle.std.specs.Option.{option_map}
use Rattle.std.proofs.lemmas.Option.{slice_get-map}
use Rattle.ld_json.specs.declared.location.Step.{Step}
use Rattle.ld_model.specs.Tree.{Tree, Trees}
use Rattle.expand_model.specs.Scope.{Options, Fault}
use Rattle.expand_model.specs.Rules.{At}
use Rattle.expand_model.specs.Expand.{document}
use Rattle.expand_model.specs.Over.{document_over}
use Rattle.range_laws.specs.Right.{outcome, keeps_each}
use Rattle.cut_model.specs.Pieces.{Piece, begins_at, ranges_of}
use Rattle.cut_model.specs.Legal.{IsLegal}
use Rattle.cut_model.specs.Reached.{piece_of, noted, IsFaithful}
use Rattle.cut_model.specs.Answers.{RangeAnswer, answer_of, IsAnswered}
use Rattle.cut_model.specs.Grafting as model
use Rattle.cut_model.specs.Grafting.{known_by}
use Rattle.cut_laws.proofs.Lists.{is_some, some_or, append_assoc, all_split}
use Rattle.cut_laws.proofs.Places.{begins_itself}
use Rattle.cut_laws.proofs.InOrder.{begins_by, none_begins, piece_at, known_as, next_known}
use Rattle.cut_laws.proofs.Results.{grafted_ranges, AreKnown, graft_run}
use Rattle.tree_expand.specs.View.{given_view}
use Rattle.tree_expand.specs.declared.ranges.Refusal.{Refusal}
use Rattle.subtree_cut.specs.View.{piece_view, plan_view}
use Rattle.subtree_cut.specs.Results.{AreResults, known_results, outcomes_of}
use Rattle.subtree_cut.specs.Cursor.{passes, takes, takes_at, asks}
use Rattle.subtree_cut.specs.declared.plan.ExpandPiece.{ExpandPiece}
use Rattle.subtree_cut.specs.declared.grafting.Cursor.{Cursor}

-- Results that are all known are results of the plan as the definitions have them.
pub known_are_results : (o : Options) (plan : List Piece) (ds : List (Result (List Tree) Refusal)) → AreResults o plan (known_results ds) → model.AreResults o plan (outcomes_of ds)
known_are_results o [] [] h = tt
known_are_results o (x ∷ xs) (Ok ts ∷ ds) h = (h.0, known_are_results o xs ds h.1)
known_are_results o (x ∷ xs) (Err r ∷ ds) h = (h.0, none_left ds h.1)
  where
    none_left : (ds : List (Result (List Tree) Refusal)) → known_results ds ≡ [] → outcomes_of ds ≡ []
    none_left [] h = refl
    none_left (d ∷ ds) h = cc
known_are_results o [] (d ∷ ds) h = absurd h
known_are_results o (x ∷ xs) [] h = absurd h

next_of : {X : Type 0} (xs ys : List X) → slice_get (xs ++ ys) (length xs) ≡ slice_get ys 0
next_of [] ys = refl
next_of (x ∷ xs) ys = next_of xs ys

one_longer : {X Y : Type 0} (xs : List X) (ys : List Y) (x : X) (y : Y) → length xs ≡ length ys → length (xs ++ x ∷ []) ≡ length (ys ++ y ∷ [])
one_longer xs ys x y h = longer xs x ∙ ap suc h ∙ sym (longer ys y)
  where
    longer : {Z : Type 0} (zs : List Z) (z : Z) → length (zs ++ z ∷ []) ≡ suc (length zs)
    longer [] z = refl
    longer (w ∷ zs) z = ap suc (longer zs z)

one_more : {X : Type 0} (xs : List X) (x : X) → length xs + 1 ≡ length (xs ++ x ∷ [])
one_more [] x = omega arith
one_more (y ∷ xs) x = let k = one_more xs x in omega (arith, k)

no_result : (plan : List Piece) (ds : List (Result (List Tree) Fault)) (p : List Step) (n : ℕ) → ranges_of plan p n ≡ None → known_by plan ds p n ≡ None
no_result plan ds p n e = by (known_by plan ds p n) refl
  where
    by : (g : Option RangeAnswer) → known_by plan ds p n ≡ g → g ≡ None
    by None h = refl
    by (Some g) h = absurd (subst is_some (sym (grafted_ranges plan ds p n g h) ∙ e) tt)

-- What the cursor does with an item, by whether its next piece begins there.
passes_here : (x : Option ExpandPiece) (p : List Step) (n : ℕ) (s : Cursor) → begins_by p n (option_map (piece_view s.plan.now.contexts.items) x) ≡ false → takes_at x p n s ≡ passes s
passes_here None p n s h = refl
passes_here (Some x) p n s h = ap (λ b. if b then takes (piece_view s.plan.now.contexts.items x) s.left s else passes s) h

takes_here : (y : Option ExpandPiece) (x : Piece) (p : List Step) (n : ℕ) (s : Cursor) → option_map (piece_view s.plan.now.contexts.items) y ≡ Some x → begins_at p n x ≡ true → takes_at y p n s ≡ takes x s.left s
takes_here None x p n s h begins = absurd (subst is_some (sym h) tt)
takes_here (Some y) x p n s h begins =
    let same : piece_view s.plan.now.contexts.items y ≡ x = ap (λ z. some_or x z) h in
    ap (λ z. if begins_at p n z then takes z s.left s else passes s) same ∙ ap (λ b. if b then takes x s.left s else passes s) begins

-- The same, by how the code comes to it.
pub passes_if : (s : Cursor) (x : ExpandPiece) (p : List Step) (n : ℕ) → Some x ≡ slice_get s.plan.now.pieces.items s.next → begins_at p n (piece_view s.plan.now.contexts.items x) ≡ false → passes s ≡ takes_at (slice_get s.plan.now.pieces.items s.next) p n s
passes_if s x p n at begins = sym (ap (λ y. takes_at y p n s) (sym at) ∙ ap (λ b. if b then takes (piece_view s.plan.now.contexts.items x) s.left s else passes s) begins)

pub takes_if : (s : Cursor) (x : ExpandPiece) (p : List Step) (n : ℕ) (left : List (Result (List Tree) Refusal)) → Some x ≡ slice_get s.plan.now.pieces.items s.next → begins_at p n (piece_view s.plan.now.contexts.items x) ≡ true → s.left ≡ left
    → takes (piece_view s.plan.now.contexts.items x) left s ≡ takes_at (slice_get s.plan.now.pieces.items s.next) p n s
takes_if s x p n left at begins is =
    sym (ap (λ y. takes_at y p n s) (sym at) ∙ ap (λ b. if b then takes (piece_view s.plan.now.contexts.items x) s.left s else passes s) begins ∙ ap (λ l. takes (piece_view s.plan.now.contexts.items x) l s) is)

module _ (o : Options) (plan : List Piece) (ds : List (Result (List Tree) Fault)) where
  -- The cursor stands behind these pieces.
  pub record IsBehind (s : Cursor) (l : List Piece) : Type 0 where
    pub plan_is : plan_view s.plan.now ≡ plan
    pub next_is : s.next ≡ length l
    pub taken : List (Result (List Tree) Fault)
    pub results : ds ≡ taken ++ outcomes_of s.left
    pub as_many : length taken ≡ length l

  takes_next : (x : Piece) (left : List (Result (List Tree) Refusal)) (s : Cursor) (l : List Piece) (r : RangeAnswer) → IsBehind s l → s.left ≡ left → known_as x (slice_get (outcomes_of left) 0) ≡ Some r
      → ((takes x left s).answer ≡ answer_of (known_as x (slice_get (outcomes_of left) 0))) × IsBehind (takes x left s).state (l ++ x ∷ [])
  takes_next x [] s l r behind is known = absurd (subst is_some (sym known) tt)
  takes_next x (d ∷ left) s l r behind is known = (
    refl,
    record {
      plan_is = behind.plan_is;
      next_is = ap (λ k. k + 1) behind.next_is ∙ one_more l x;
      taken = behind.taken ++ given_view d ∷ [];
      results = behind.results ∙ ap (λ z. behind.taken ++ outcomes_of z) is ∙ sym (append_assoc behind.taken (given_view d ∷ []) (outcomes_of left));
      as_many = one_longer behind.taken l (given_view d) x behind.as_many;
    },
  )

  next_result : (s : Cursor) (l : List Piece) → IsBehind s l → slice_get ds (length l) ≡ slice_get (outcomes_of s.left) 0
  next_result s l behind =
      ap (λ z. slice_get z (length l)) behind.results
      ∙ ap (λ k. slice_get (behind.taken ++ outcomes_of s.left) k) (sym behind.as_many)
      ∙ next_of behind.taken (outcomes_of s.left)

  -- The cursor's next piece, as one of the plan.
  next_piece : (s : Cursor) (k : ℕ) → plan_view s.plan.now ≡ plan → option_map (piece_view s.plan.now.contexts.items) (slice_get s.plan.now.pieces.items k) ≡ slice_get plan k
  next_piece s k is = sym (slice_get-map (piece_view s.plan.now.contexts.items) s.plan.now.pieces.items k) ∙ ap (λ z. slice_get z k) is

  module _ (legal : IsLegal plan) where
    asks_right : (ts : Trees) (n : ℕ) (a : At) (s : Cursor) (l : List Piece) → IsBehind s l → (g : Option ℕ) → ranges_of plan a.place n ≡ g → AreKnown o plan ds (noted g ts n a l)
        → ((asks ts n a s).answer ≡ answer_of (known_by plan ds a.place n)) × IsBehind (asks ts n a s).state (noted g ts n a l)
    asks_right ts n a s l behind None e known =
        let is : asks ts n a s ≡ passes s = passes_here (slice_get s.plan.now.pieces.items s.next) a.place n s (ap (λ x. begins_by a.place n x) (next_piece s s.next behind.plan_is) ∙ none_begins plan a.place n s.next e) in
        (ap (λ q. q.answer) is ∙ ap answer_of (sym (no_result plan ds a.place n e)), subst (λ q. IsBehind q.state l) (sym is) behind)
    asks_right ts n a s l behind (Some more) e known =
        let x : Piece = piece_of more ts n a in
        let rest : List Piece = known.1.0 in
        let whole : plan ≡ l ++ x ∷ rest = known.1.1 ∙ append_assoc l (x ∷ []) rest in
        let here : option_map (piece_view s.plan.now.contexts.items) (slice_get s.plan.now.pieces.items s.next) ≡ Some x = next_piece s s.next behind.plan_is ∙ ap (λ k. slice_get plan k) behind.next_is ∙ ap (λ z. slice_get z (length l)) whole ∙ piece_at l x rest in
        let is : asks ts n a s ≡ takes x s.left s = takes_here (slice_get s.plan.now.pieces.items s.next) x a.place n s here (begins_itself x) in
        let answer : known_by plan ds a.place n ≡ known_as x (slice_get (outcomes_of s.left) 0) = ap (λ z. known_by z ds a.place n) whole ∙ next_known l x rest ds (subst IsLegal whole legal) ∙ ap (known_as x) (next_result s l behind) in
        let next = takes_next x s.left s l _ behind refl (sym answer ∙ (all_split (λ y. IsAnswered o (known_by plan ds) y) l (x ∷ []) known.0).1.0) in
        (ap (λ q. q.answer) is ∙ next.0 ∙ ap answer_of (sym answer), subst (λ q. IsBehind q.state (l ++ x ∷ [])) (sym is) next.1)

    -- A cursor at the start of the plan makes the run that of expansion.
    pub cursor_run : (t : Tree) (s : Cursor) → IsFaithful o t plan → model.AreResults o plan ds → IsBehind s [] → outcome (document_over o asks keeps_each t s) ≡ document o t
    cursor_run t s faithful results behind =
        graft_run o asks keeps_each IsBehind t plan ds s legal faithful results behind (λ ts n a s l behind known. asks_right ts n a s l behind (ranges_of plan a.place n) refl known)
