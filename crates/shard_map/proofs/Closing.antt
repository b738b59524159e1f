-- What a map comes to.
use Rattle.std.proofs.Common.{◌≡◌, ℕ, zero, suc, ◌+◌, ◌%◌, ◌<◌, ◌≢◌, Bool, true, false, List, [], ◌∷◌, ◌++◌, length, cond, map, drop, refl, sym, ap, ◌∙◌, subst, ⊎_elim, slice_index, Some, None, arith, Vec}
use Rattle.std.specs.Prelude.{Contains, count_by, slice_get, ◌&&◌, ◌||◌, nat_le, nat_lt, if◌then◌else◌}
use Rattle.std.specs.declared.alloc.Global.{Global}
use mathlib.Core.Option.{some, some-injective}
use lib.ListN.{get_elem?}
use Rattle.std.proofs.lemmas.Bool.{both_ways, and_parts, and_left, cases_Bool, cases_eq, lt-leb, ltb-true, eq-eqb, ne_eqb}
use Rattle.std.proofs.lemmas.List.{map-append, append_assoc}
use Rattle.atomic_table.proofs.Lists.{drop_at}
use Rattle.std.proofs.lemmas.List.Sums.{sum_by-cons}
use Rattle.atomic_table.specs.Table.{State, Final, Seen}
use Rattle.shard_map.specs.declared.view.View.{View}
use Rattle.shard_map.specs.Views.{covers, Rises, spans}
use Rattle.shard_map.specs.Rule.{Slot, IsRun, Holds, home_runs, gathered, IsClosed}
use Rattle.shard_map.proofs.Spans.{nothing_in}
use Rattle.shard_map.proofs.Moves.{finds_even}

module _ {P : Type 0} (start_of end_of : P → ℕ) where
  abbrev has : ℕ → P → Bool
  has p x = nat_le (start_of x) p && nat_lt p (end_of x)

  counts : (p : ℕ) (x : P) (xs : List P) → count_by (has p) (x ∷ xs) ≡ cond (has p x) 1 0 + count_by (has p) xs
  counts p x xs = sum_by-cons (λ y. cond (has p y) 1 0) x xs

  behind : (xs : List P) (a p : ℕ) → Rises a (spans start_of end_of xs) → p < a → count_by (has p) xs ≡ 0
  behind [] a p up l = refl
  behind (x ∷ xs) a p up l =
      let le = up.0 in let lt = up.1 in
      let out : has p x ≡ false = and_left (nat_le (start_of x) p) (nat_lt p (end_of x)) (lt-leb (start_of x) p (omega arith)) in
      counts p x xs ∙ (ap (λ b. cond b 1 0 + count_by (has p) xs) out ∙ (let h = behind xs (end_of x) p up.2 (omega arith) in omega arith))

  -- a piece that is covered is in one run alone
  pub just_one : (xs : List P) (a p : ℕ) → Rises a (spans start_of end_of xs) → covers (spans start_of end_of xs) p ≡ true → count_by (has p) xs ≡ 1
  just_one [] a p up e = absurd (both_ways false refl e)
  just_one (x ∷ xs) a p up e = ⊎_elim
      (λ (t : has p x ≡ true). let low = ltb-true p (end_of x) (and_parts (nat_le (start_of x) p) (nat_lt p (end_of x)) t).1 in
      counts p x xs ∙ (ap (λ b. cond b 1 0 + count_by (has p) xs) t ∙ (let h = behind xs (end_of x) p up.2 low in omega arith)))
      (λ (t : has p x ≡ false). counts p x xs ∙ (ap (λ b. cond b 1 0 + count_by (has p) xs) t ∙
      (let later : covers (spans start_of end_of xs) p ≡ true = ap (λ b. b || covers (spans start_of end_of xs) p) (sym t) ∙ e in let h = just_one xs (end_of x) p up.2 later in omega arith)))
      (cases_Bool (has p x))

module _ {P : Type 0} where
  pub length-gathered : (ws : List ℕ) (xs : List (Slot P)) → length ws ≡ length xs → length (gathered ws xs) ≡ length ws
  length-gathered [] xs e = refl
  length-gathered (w ∷ ws) [] e = absurd (omega arith)
  length-gathered (w ∷ ws) (x ∷ xs) e = ap suc (length-gathered ws xs (omega arith))

  of_gathered : (ws : List ℕ) (xs : List (Slot P)) (j : ℕ) (runs : List P) → slice_get (gathered ws xs) j ≡ Some runs → (x : Slot P) × (get_elem? xs j ≡ some x) × (j < length ws) × (home_runs (slice_index ws j) x ≡ runs)
  of_gathered [] xs j runs e = absurd (cc)
  of_gathered (w ∷ ws) [] j runs e = absurd (cc)
  of_gathered (w ∷ ws) (x ∷ xs) zero runs e = (x, refl, (omega arith), (let is : home_runs w x ≡ runs = cc (e) in is))
  of_gathered (w ∷ ws) (x ∷ xs) (suc j) runs e = let h = of_gathered ws xs j runs e in (h.0, h.1, (let l = h.2 in omega arith), h.3)

  at_gathered : (ws : List ℕ) (xs : List (Slot P)) (j : ℕ) (x : Slot P) → get_elem? xs j ≡ some x → j < length ws → slice_get (gathered ws xs) j ≡ Some (home_runs (slice_index ws j) x)
  at_gathered [] xs j x e l = absurd (omega arith)
  at_gathered (w ∷ ws) [] j x e l = absurd (cc)
  at_gathered (w ∷ ws) (y ∷ xs) zero x e l = ap (λ z. Some (home_runs w z)) (some-injective y x e)
  at_gathered (w ∷ ws) (y ∷ xs) (suc j) x e l = at_gathered ws xs j x e (omega arith)

  odd_none : (n : ℕ) (x : Slot P) → n % 2 ≢ 0 → home_runs n x ≡ []
  odd_none n None ne = refl
  odd_none n (Some y) ne = ap (λ b. if b then y.items else []) (ne_eqb (n % 2) 0 ne)

  even_runs : (n : ℕ) (y : Vec P Global) → n % 2 ≡ 0 → home_runs n (Some y) ≡ y.items
  even_runs n y e = ap (λ b. if b then y.items else []) (eq-eqb (n % 2) 0 e)

module _ {J P : Type 0} (count shards : J → ℕ) (fails : J → ℕ → Bool) (part : J → ℕ → ℕ → P) (start_of end_of : P → ℕ) (both : P → P → P) (job : J) where
  abbrev Ok : State (Slot P) (View J) → Type 0
  Ok s = Holds count shards fails part start_of end_of both job s

  -- the last state of the rule, and what its slots then have
  pub closes : (id : ℕ) (v : View J) (ws : List ℕ) (xs : List (Slot P)) → v.turn ≡ None → length ws ≡ length xs → Final (Seen Ok id v) ws xs → IsClosed count shards fails part start_of end_of both job v (gathered ws xs)
  closes id v ws xs idle same (s, (h, at), words, len, homes) = record {
    shard_lists = length-gathered ws xs same ∙ long;
    rises = λ j runs e. (good j runs e).0;
    own = λ j runs e. (good j runs e).1;
    all = λ full j p c.
        let entered = (h.each id v at).listed (j, p) c in
        let low = h.inside j p entered in
        let even = finds_even count shards fails part start_of end_of both job s id v h at full idle j low in
        let home = h.even j low even in
        let there = homes j (Some home.runs) home.at in
        let get = at_gathered ws xs j (Some home.runs) there (let l = long in omega arith) in (
          home.runs.items,
          get ∙ ap Some (even_runs (slice_index ws j) home.runs (ap (λ (l : List ℕ). slice_index l j % 2) (sym words) ∙ even)),
          just_one start_of end_of home.runs.items 0 p home.good.rises (home.good.covered p ∙ entered),
        );
  }
    where
      long : length ws ≡ shards job
      long = ap length (sym words) ∙ h.words_len

      good : (j : ℕ) (runs : List P) → slice_get (gathered ws xs) j ≡ Some runs → Rises 0 (spans start_of end_of runs) × ((x : P) → Contains runs x → IsRun count shards fails part start_of end_of both job j x)
      good j runs e =
          let g = of_gathered ws xs j runs e in
          ⊎_elim
          (λ (t : slice_index ws j % 2 ≡ 0).
          let home = h.even j (let l = long in let k = g.2 in omega arith) (ap (λ (l : List ℕ). slice_index l j % 2) words ∙ t) in
          let slot : g.0 ≡ Some home.runs = some-injective g.0 (Some home.runs) (sym g.1 ∙ homes j (Some home.runs) home.at) in
          let is : home.runs.items ≡ runs = sym (even_runs (slice_index ws j) home.runs t) ∙ (ap (home_runs (slice_index ws j)) (sym slot) ∙ g.3) in (
            subst (λ l. Rises 0 (spans start_of end_of l)) is home.good.rises,
            λ x c. home.good.own x (subst (λ l. Contains l x) (sym is) c),
          ))
          (λ (t : slice_index ws j % 2 ≡ 0 → ⊥).
          let is : [] ≡ runs = sym (odd_none (slice_index ws j) g.0 t) ∙ g.3 in (
            subst (λ l. Rises 0 (spans start_of end_of l)) is tt,
            λ x c. absurd (nothing_in x (subst (λ l. Contains l x) (sym is) c)),
          ))
          (cases_eq (slice_index ws j % 2) 0)

-- one more list of runs was laid down
pub one_more : {P : Type 0} (lists next : List (Vec P Global)) (y : Vec P Global) (ws : List ℕ) (xs : List (Slot P)) (at n : ℕ) (x : Slot P) (all : List (List P)) → next ≡ lists ++ y ∷ [] → y.items ≡ home_runs n x → get_elem? ws at ≡ some n → get_elem? xs at ≡ some x
    → map (λ (r : Vec P Global). r.items) lists ++ gathered (drop at ws) (drop at xs) ≡ all → map (λ (r : Vec P Global). r.items) next ++ gathered (drop (at + 1) ws) (drop (at + 1) xs) ≡ all
one_more {P} lists next y ws xs at n x all push is word slot left =
    let more : suc at ≡ at + 1 = omega arith in
    ap (λ l. map (λ (r : Vec P Global). r.items) l ++ gathered (drop (at + 1) ws) (drop (at + 1) xs)) push
    ∙ (ap (λ l. l ++ gathered (drop (at + 1) ws) (drop (at + 1) xs)) (map-append (λ (r : Vec P Global). r.items) lists (y ∷ []))
    ∙ (append_assoc (map (λ (r : Vec P Global). r.items) lists) (y.items ∷ []) (gathered (drop (at + 1) ws) (drop (at + 1) xs))
    ∙ (ap (λ l. map (λ (r : Vec P Global). r.items) lists ++ l ∷ gathered (drop (at + 1) ws) (drop (at + 1) xs)) is
    ∙ (ap (λ k. map (λ (r : Vec P Global). r.items) lists ++ home_runs n x ∷ gathered (drop k ws) (drop k xs)) (sym more)
    ∙ (ap (λ l. map (λ (r : Vec P Global). r.items) lists ++ gathered l (x ∷ drop (suc at) xs)) (sym (drop_at ws at n word))
    ∙ (ap (λ l. map (λ (r : Vec P Global). r.items) lists ++ gathered (drop at ws) l) (sym (drop_at xs at x slot)) ∙ left))))))
