-- From what each worker hands back to what was gathered.
use Rattle.std.proofs.Common.{◌≡◌, ℕ, zero, suc, ◌<◌, Bool, true, false, List, [], ◌∷◌, ◌++◌, length, map, set, refl, sym, ap, ◌∙◌, subst, slice_get, Some, None, Option, All, Ok, arith}
use Rattle.std.specs.Prelude.{IfSome, IfOk, Result, replicate}
use Rattle.std.proofs.lemmas.List.{length-replicate}
use Rattle.std.proofs.lemmas.List.Elements.{All-nil, All-head, All-tail, All-map, All-contains, All-weaker, All-push}
use Rattle.std.proofs.lemmas.Option.{slice_get_within}
use Rattle.std.specs.declared.alloc.AllocError.{AllocError}
use Rattle.first_error.specs.Word.{Shared, IsSeatOf as IsErrSeatOf}
use Rattle.steal_pool.specs.Pools.{Each, Deques, IsSeatOf}
use Rattle.steal_pool.specs.Works.{IsHeldAnswer, SameSeats, HasRan}
use Rattle.steal_pool.specs.Workers.{Fine, IsNew}
use Rattle.steal_pool.specs.Gathers.{filled, all_filled, seats_of, IsInside, IsFailureOf, IsGathered}
use Rattle.steal_pool.specs.declared.worker.Worker.{Worker}
use Rattle.steal_pool.specs.declared.gather.Gathered.{Gathered}
use Rattle.steal_pool.specs.declared.work.Ran.{Ran}
use Rattle.steal_pool.proofs.Lists.{some_is, each_set, got_mapped, got_map, got_below, got_all, all_each, all_mapped, map_length}
use Rattle.steal_pool.proofs.Gathers.{filled_long}

-- slots without answers
each_replicate : {X : Type 0} (F : ℕ → X → Type 0) (n : ℕ) (x : X) → ((k : ℕ) → F k x) → Each F (replicate n x)
each_replicate F zero x all k y e = absurd (cc)
each_replicate F (suc n) x all zero y e = subst (F 0) (some_is x y e) (all 0)
each_replicate F (suc n) x all (suc k) y e = each_replicate (λ j. F (suc j)) n x (λ j. all (suc j)) k y e

filled_each : {A : Type 0} (F : ℕ → Option A → Type 0) (slots : List (Option A)) (xs : List (ℕ × A)) → Each F slots → All (λ x. F x.0 (Some x.1)) xs → Each F (filled slots xs)
filled_each F slots [] each all = each
filled_each F slots (x ∷ xs) each all = filled_each F (set slots x.0 (Some x.1)) xs
    (each_set F slots x.0 (Some x.1) (All-head (λ y. F y.0 (Some y.1)) x xs all) (λ k o apart got. each k o got))
    (All-tail (λ y. F y.0 (Some y.1)) x xs all)

module _ {P A E S : Type 0} where
  all_filled_each : (F : ℕ → Option A → Type 0) (slots : List (Option A)) (ws : List (Worker P A E S)) → Each F slots → All (λ w. All (λ x. F x.0 (Some x.1)) w.answers.items) ws → Each F (all_filled slots ws)
  all_filled_each F slots [] each all = each
  all_filled_each F slots (w ∷ ws) each all = all_filled_each F (filled slots w.answers.items) ws
      (filled_each F slots w.answers.items each (All-head (λ v. All (λ x. F x.0 (Some x.1)) v.answers.items) w ws all))
      (All-tail (λ v. All (λ x. F x.0 (Some x.1)) v.answers.items) w ws all)

  all_filled_long : (slots : List (Option A)) (ws : List (Worker P A E S)) → length (all_filled slots ws) ≡ length slots
  all_filled_long slots [] = refl
  all_filled_long slots (w ∷ ws) = all_filled_long (filled slots w.answers.items) ws ∙ filled_long slots w.answers.items

  -- a worker that came back
  abbrev pub came : Worker P A E S → Result (Worker P A E S) AllocError
  came w = Ok w

  pub seats_snoc : (ws : List (Worker P A E S)) (w : (Worker P A E S)) (rest : List S) → seats_of (ws ++ w ∷ []) ++ rest ≡ seats_of ws ++ w.seat ∷ rest
  seats_snoc [] w rest = refl
  seats_snoc (v ∷ ws) w rest = ap (λ (l : List S). v.seat ∷ l) (seats_snoc ws w rest)

  -- one more new worker
  pub seats_added : (ws ws' : List (Worker P A E S)) (w : Worker P A E S) (left rest all : List S) → ws' ≡ ws ++ w ∷ [] → left ≡ w.seat ∷ rest → seats_of ws ++ left ≡ all → seats_of ws' ++ rest ≡ all
  seats_added ws ws' w left rest all more is so_far = ap (λ (l : List (Worker P A E S)). seats_of l ++ rest) more ∙ (seats_snoc ws w rest ∙ (ap (λ (l : List S). seats_of ws ++ l) (sym is) ∙ so_far))

  pub new_added : (pool : Deques) (word : Shared P) (ws ws' : List (Worker P A E S)) (w : Worker P A E S) → ws' ≡ ws ++ w ∷ [] → All (IsNew pool word) ws → IsSeatOf pool w.pieces → IsErrSeatOf word w.errors → w.answers.items ≡ [] → w.failure ≡ None → All (IsNew pool word) ws'
  new_added pool word ws ws' w more all pieces errors none unfailed = subst (All (IsNew pool word)) (sym more) (All-push (IsNew pool word) ws w all record { pieces = pieces; errors = errors; no_answers = none; no_failure = unfailed })

  module _ (count : ℕ) (fails : ℕ → Bool) (fits : S → Type 0) (good : ℕ → A → Type 0) (bad : ℕ → E → Type 0) (done : S → ℕ → A → Type 0) (pool : Deques) (word : Shared P) where
    abbrev IsFine : (Worker P A E S) → Type 0
    IsFine w = Fine count fails fits good bad done pool word w

    -- a new worker is fine
    pub new_fine : (w : (Worker P A E S)) → IsNew pool word w → fits w.seat → IsFine w
    new_fine w new usable = record {
      usable = usable;
      pieces = new.pieces;
      errors = new.errors;
      answers = subst (λ (l : List (ℕ × A)). All (λ x. (x.0 < count) × (fails x.0 ≡ false) × good x.0 x.1 × done w.seat x.0 x.1) l) (sym new.no_answers) (All-nil (λ x. (x.0 < count) × (fails x.0 ≡ false) × good x.0 x.1 × done w.seat x.0 x.1));
      failure = subst (λ (f : Option (ℕ × E)). IfSome f (λ x. (x.0 < count) × (fails x.0 ≡ true) × bad x.0 x.1)) (sym new.no_failure) tt;
    }

    pub all_new_fine : (ws : List (Worker P A E S)) → All (IsNew pool word) ws → All fits (seats_of ws) → All IsFine ws
    all_new_fine ws new usable = all_each IsFine ws (λ k w got. new_fine w (got_all (IsNew pool word) ws k w new got) (got_all (λ (v : (Worker P A E S)). fits v.seat) ws k w (all_mapped fits (λ (v : (Worker P A E S)). v.seat) ws usable) got))

    fine_inside : (w : (Worker P A E S)) → IsFine w → IsInside count w
    fine_inside w f = All-weaker (λ x. (x.0 < count) × (fails x.0 ≡ false) × good x.0 x.1 × done w.seat x.0 x.1) (λ x. x.0 < count) (λ x h. h.0) w.answers.items f.answers

    pub all_inside : (n : ℕ) (ws : List (Worker P A E S)) → n ≡ count → All IsFine ws → All (IsInside n) ws
    all_inside n ws is all = subst (λ (m : ℕ). All (IsInside m) ws) (sym is) (All-weaker IsFine (IsInside count) fine_inside ws all)

    own_failure : (ws : List (Worker P A E S)) (f : Option (ℕ × E)) → All IsFine ws → IsFailureOf ws f → IfSome f (λ x. (x.0 < count) × (fails x.0 ≡ true) × bad x.0 x.1)
    own_failure ws None all of = tt
    own_failure ws (Some x) all of =
        let fine : IsFine of.0 = All-contains IsFine ws of.0 all of.1 in
        subst (λ (f : Option (ℕ × E)). IfSome f (λ x. (x.0 < count) × (fails x.0 ≡ true) × bad x.0 x.1)) of.2 fine.failure

    pub gathered : (n : ℕ) (ws : List (Worker P A E S)) (g : Gathered A E S) → n ≡ count → 0 < length ws → All IsFine ws → g.seats.items ≡ seats_of ws → g.slots.items ≡ all_filled (replicate n None) ws → IsFailureOf ws g.failure → IsGathered count fails fits good bad done g
    gathered n ws g n_is some fine seats slots failure = record {
      some_seat = let l = ap length seats in let m = map_length (λ (w : (Worker P A E S)). w.seat) ws in omega arith;
      seats_fit = subst (All fits) (sym seats) (All-map fits (λ (w : (Worker P A E S)). w.seat) ws (All-weaker IsFine (λ w. fits w.seat) (λ w f. f.usable) ws fine));
      slot_each = ap length slots ∙ (all_filled_long (replicate n None) ws ∙ (length-replicate n None ∙ n_is));
      slots_held = subst (Each Slot) (sym slots) (all_filled_each Slot (replicate n None) ws (each_replicate Slot n None (λ k. tt)) (all_each (λ (w : (Worker P A E S)). All (λ x. Slot x.0 (Some x.1)) w.answers.items) ws held));
      failure_own = own_failure ws g.failure fine failure;
    }
      where
        Slot : ℕ → Option A → Type 0
        Slot piece slot = IfSome slot (IsHeldAnswer fails good done g.seats.items piece)

        held : (k : ℕ) (w : (Worker P A E S)) → slice_get ws k ≡ Some w → All (λ x. IfSome (Some x.1) (IsHeldAnswer fails good done g.seats.items x.0)) w.answers.items
        held k w got = All-weaker (λ x. (x.0 < count) × (fails x.0 ≡ false) × good x.0 x.1 × done w.seat x.0 x.1) (λ x. IfSome (Some x.1) (IsHeldAnswer fails good done g.seats.items x.0))
            (λ x h. (h.1, h.2, (k, w.seat, ap (λ (l : List S). slice_get l k) seats ∙ got_mapped (λ (v : (Worker P A E S)). v.seat) ws k w got, h.3))) w.answers.items (got_all IsFine ws k w fine got).answers

    module _ (same : S → S → Type 0) where
      abbrev Gives : (Worker P A E S) → Result (Worker P A E S) AllocError → Type 0
      Gives start back = IfOk back (λ w. same start.seat w.seat × IsFine w)

      -- each worker that came back is one that was sent out
      pub back : (ws ws' : List (Worker P A E S)) (backs : List (Result (Worker P A E S) AllocError)) → map came ws' ≡ backs → length backs ≡ length ws
          → ((k : ℕ) (start : (Worker P A E S)) (r : Result (Worker P A E S) AllocError) → slice_get ws k ≡ Some start → slice_get backs k ≡ Some r → Gives start r)
          → Each (λ k w'. (w : (Worker P A E S)) × (slice_get ws k ≡ Some w) × same w.seat w'.seat × IsFine w') ws'
      back ws ws' backs is long gives k w' got =
          let there : slice_get backs k ≡ Some (Ok w') = ap (λ (l : List (Result (Worker P A E S) AllocError)). slice_get l k) (sym is) ∙ got_mapped came ws' k w' got in
          let w = got_below ws k (let b = slice_get_within backs k (Ok w') there in omega arith) in
          let g = gives k w.0 (Ok w') w.1 there in
          (w.0, w.1, g.0, g.1)

      pub back_fine : (ws ws' : List (Worker P A E S)) → Each (λ k w'. (w : (Worker P A E S)) × (slice_get ws k ≡ Some w) × same w.seat w'.seat × IsFine w') ws' → All IsFine ws'
      back_fine ws ws' each = all_each IsFine ws' (λ k w' got. (each k w' got).3)

      pub back_same : (ws ws' : List (Worker P A E S)) (seats : List S) → seats ≡ seats_of ws' → length ws' ≡ length ws → Each (λ k w'. (w : (Worker P A E S)) × (slice_get ws k ≡ Some w) × same w.seat w'.seat × IsFine w') ws' → SameSeats same (seats_of ws) seats
      back_same ws ws' seats is long each = record {
        count = ap length is ∙ (map_length (λ (w : (Worker P A E S)). w.seat) ws' ∙ (long ∙ sym (map_length (λ (w : (Worker P A E S)). w.seat) ws)));
        each = λ k s t a b.
            let m = got_map (λ (w : (Worker P A E S)). w.seat) ws k s a in
            let m' = got_map (λ (w : (Worker P A E S)). w.seat) ws' k t (ap (λ (l : List S). slice_get l k) (sym is) ∙ b) in
            let e = each k m'.0 m'.1 in
            subst (λ (z : S). same z t) m.2 (subst (λ (z : S). same m.0.seat z) m'.2 (subst (λ (w : (Worker P A E S)). same w.seat m'.0.seat) (some_is e.0 m.0 (sym e.1 ∙ m.1)) e.2));
      }

-- the seats are the same as before the workers had them
pub same_through : {A S : Type 0} (count : ℕ) (fails : ℕ → Bool) (fits : S → Type 0) (good : ℕ → A → Type 0) (done : S → ℕ → A → Type 0) (same : S → S → Type 0) → ((a b c : S) → same a b → same b c → same a c) → (old mid : List S) (ran : Ran A S) → SameSeats same old mid → HasRan count fails fits good done same mid ran → HasRan count fails fits good done same old ran
same_through count fails fits good done same trans old mid ran first h = record {
  none_fails = h.none_fails;
  answers = h.answers;
  answers_held = h.answers_held;
  seats_same = record {
    count = h.seats_same.count ∙ first.count;
    each = λ k s t a b. let m = got_below mid k (let w = slice_get_within old k s a in let c = first.count in omega arith) in trans s m.0 t (first.each k s m.0 a m.1) (h.seats_same.each k m.0 t m.1 b);
  };
  seats_fit = h.seats_fit;
}
