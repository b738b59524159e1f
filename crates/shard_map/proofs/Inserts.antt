-- A part that enters: what becomes of the runs.
use Rattle.std.proofs.Common.{◌≡◌, ℕ, suc, ◌+◌, ◌-◌, ◌<◌, ◌≤◌, Bool, true, false, List, [], ◌∷◌, length, refl, sym, ap, ◌∙◌, subst, ⊎_elim, arith}
use Rattle.std.specs.Prelude.{Contains, ◌||◌, ◌==◌, insert, Option, None, Some, MatchOption, Vec}
use Rattle.std.specs.declared.alloc.Global.{Global}
use Rattle.shard_map.specs.declared.view.View.{View}
use Rattle.shard_map.specs.Views.{covers, Rises, spans, new_pieces, pairs_of, has_ended}
use Rattle.shard_map.specs.Rule.{IsRun, parts_from}
use Rattle.shard_map.proofs.Spans.{Contains-first, Contains-later, covers-insert, new-insert, new-same}
use Rattle.shard_map.proofs.Places.{spans-insert, Contains-insert_cases}

pub grows-insert : (ss : List (ℕ × ℕ)) (at p q : ℕ) → covers ss q ≡ true → covers (insert ss at (p, p + 1)) q ≡ true
grows-insert ss at p q e = covers-insert ss at p q ∙ or_right (q == p) (covers ss q) e
  where
    or_right : (a b : Bool) → b ≡ true → (a || b) ≡ true
    or_right true b e = refl
    or_right false b e = e

-- just the pair of the piece is new
pub pair-insert : (j : ℕ) (ss : List (ℕ × ℕ)) (at p : ℕ) → covers ss p ≡ false → pairs_of j (new_pieces ss (insert ss at (p, p + 1))) ≡ (j, p) ∷ []
pair-insert j ss at p free = ap (pairs_of j) (new-insert ss at p free)

module _ {J P : Type 0} (count shards : J → ℕ) (fails : J → ℕ → Bool) (part : J → ℕ → ℕ → P) (start_of end_of : P → ℕ) (both : P → P → P) (job : J) where
  abbrev Run : ℕ → P → Type 0
  Run j x = IsRun count shards fails part start_of end_of both job j x

  -- there are no more runs than pieces
  fewer : (xs : List P) (a n : ℕ) → a ≤ n → Rises a (spans start_of end_of xs) → ((x : P) → Contains xs x → end_of x ≤ n) → a + length xs ≤ n
  fewer [] a n le up all = omega arith
  fewer (x ∷ xs) a n le up all = let e = all x (Contains-first x xs) in let h = fewer xs (end_of x) n e up.2 (λ y c. all y (Contains-later x xs y c)) in let u = up.0 in let v = up.1 in omega arith

  pub few : (j : ℕ) (xs : List P) → Rises 0 (spans start_of end_of xs) → ((x : P) → Contains xs x → Run j x) → length xs ≤ count job
  few j xs up own = let h = fewer xs 0 (count job) (omega arith) up (λ x c. (own x c).inside) in omega arith

  -- the part of a piece that doesn't fail is a run
  pub part_runs : (j p : ℕ) (x : P) → x ≡ part job j p → p < count job → fails job p ≡ false → start_of x ≡ p → end_of x ≡ p + 1 → Run j x
  part_runs j p x is low good starts ends = record {
    solid = omega arith;
    inside = omega arith;
    good = λ q a b. let same : p ≡ q = omega arith in subst (λ z. fails job z ≡ false) same good;
    is = let none : end_of x - suc (start_of x) ≡ 0 = omega arith in is ∙ (ap (λ z. part job j z) (sym starts) ∙ ap (λ n. parts_from count shards fails part start_of end_of both job j (start_of x) n) (sym none));
  }

  pub own-insert : (j : ℕ) (xs : List P) (at : ℕ) (y : P) → Run j y → ((x : P) → Contains xs x → Run j x) → (x : P) → Contains (insert xs at y) x → Run j x
  own-insert j xs at y new own x c = ⊎_elim (λ (t : y ≡ x). subst (λ z. Run j z) t new) (λ t. own x t) (Contains-insert_cases xs at y x c)

  pub spans-part : (xs : List P) (at p : ℕ) (y : P) → start_of y ≡ p → end_of y ≡ p + 1 → spans start_of end_of (insert xs at y) ≡ insert (spans start_of end_of xs) at (p, p + 1)
  spans-part xs at p y starts ends = spans-insert start_of end_of xs at y ∙ (ap (λ a. insert (spans start_of end_of xs) at (a, end_of y)) starts ∙ ap (λ b. insert (spans start_of end_of xs) at (p, b)) ends)

  -- what `put` tells: the part is among the runs, or was handed back
  abbrev pub WasPut : Option P → Vec P Global → Vec P Global → P → ℕ → Type 0
  WasPut r old new y p = MatchOption r
      ((covers (spans start_of end_of old.items) p ≡ false) × Rises 0 (spans start_of end_of new.items) × (at : ℕ) × (new.items ≡ insert old.items at y))
      (λ kept. (kept ≡ y) × (covers (spans start_of end_of old.items) p ≡ true) × (new ≡ old))

  pub put_own : (r : Option P) (old new : Vec P Global) (y : P) (p j : ℕ) → WasPut r old new y p → Run j y → ((x : P) → Contains old.items x → Run j x) → (x : P) → Contains new.items x → Run j x
  put_own None old new y p j put run own x c = own-insert j old.items put.2 y run own x (subst (λ l. Contains l x) put.3 c)
  put_own (Some k) old new y p j put run own x c = own x (subst (λ (v : Vec P Global). Contains v.items x) put.2 c)

  pub put_grows : (r : Option P) (old new : Vec P Global) (y : P) (p q : ℕ) → WasPut r old new y p → start_of y ≡ p → end_of y ≡ p + 1 → covers (spans start_of end_of old.items) q ≡ true → covers (spans start_of end_of new.items) q ≡ true
  put_grows None old new y p q put starts ends e = ap (λ l. covers (spans start_of end_of l) q) put.3 ∙ (ap (λ l. covers l q) (spans-part old.items put.2 p y starts ends) ∙ grows-insert (spans start_of end_of old.items) put.2 p q e)
  put_grows (Some k) old new y p q put starts ends e = ap (λ (v : Vec P Global). covers (spans start_of end_of v.items) q) put.2 ∙ e

  -- what the end of the turn then tells
  pub put_ended : (r : Option P) (old new : Vec P Global) (y : P) (p j left : ℕ) (v w : View J) (began : List (ℕ × ℕ)) → WasPut r old new y p → start_of y ≡ p → end_of y ≡ p + 1 → began ≡ spans start_of end_of old.items
      → w ≡ has_ended v j left (spans start_of end_of new.items) (pairs_of j (new_pieces began (spans start_of end_of new.items)))
      → MatchOption r
      ((covers began p ≡ false) × (at : ℕ) × (w ≡ has_ended v j left (insert began at (p, p + 1)) ((j, p) ∷ [])))
      (λ kept. (kept ≡ y) × (covers began p ≡ true) × (w ≡ has_ended v j left began []))
  put_ended None old new y p j left v w began put starts ends is told =
      let free : covers began p ≡ false = ap (λ l. covers l p) is ∙ put.0 in
      let after : spans start_of end_of new.items ≡ insert began put.2 (p, p + 1) = ap (spans start_of end_of) put.3 ∙ (spans-part old.items put.2 p y starts ends ∙ ap (λ l. insert l put.2 (p, p + 1)) (sym is)) in
      (free, put.2, told ∙ (ap (λ l. has_ended v j left l (pairs_of j (new_pieces began l))) after ∙ ap (λ l. has_ended v j left (insert began put.2 (p, p + 1)) l) (pair-insert j began put.2 p free)))
  put_ended (Some k) old new y p j left v w began put starts ends is told =
      let after : spans start_of end_of new.items ≡ began = ap (λ (u : Vec P Global). spans start_of end_of u.items) put.2 ∙ sym is in
      (put.0, ap (λ l. covers l p) is ∙ put.1, told ∙ (ap (λ l. has_ended v j left l (pairs_of j (new_pieces began l))) after ∙ ap (λ l. has_ended v j left began (pairs_of j l)) (new-same began)))
