-- Each step on a deque keeps its rule, and what it tells is so.
use Rattle.std.proofs.Common.{◌≡◌, ℕ, zero, suc, ◌+◌, ◌<◌, ◌≤◌, ◌≢◌, Bool, true, false, cond, List, [], ◌∷◌, ◌++◌, length, set, refl, sym, ap, subst, ⊎_elim, nat_eq, arith, zero-add}
use mathlib.Core.Option.{some, some-injective}
use lib.ListN.{get_elem?}
use Rattle.std.proofs.lemmas.Bool.Decides.{eqb_tells}
use Rattle.crossbeam_deque.specs.Tasks.{Pushes, Takes, Forks, FindsFew}
use Rattle.atomic_table.proofs.Lists.{at_set, at_snoc}
use Rattle.steal_pool.specs.declared.hand.Hand.{Hand}
use Rattle.steal_pool.specs.Deals.{hand, times, total, Dealt, HasPut, HasTaken, FoundEmpty, kept, given, left_over}

pub times_append : (x : ℕ) (xs ys : List ℕ) → times x (xs ++ ys) ≡ times x xs + times x ys
times_append x [] ys = sym (zero-add _)
times_append x (y ∷ xs) ys = let h = times_append x xs ys in omega arith

pub times_here : (x : ℕ) → times x (x ∷ []) ≡ 1
times_here x = ⊎_elim
    (λ (q : (nat_eq x x ≡ true) × (x ≡ x)). let c : cond {A = ℕ} (nat_eq x x) 1 0 ≡ 1 = ap (λ (b : Bool). cond {A = ℕ} b 1 0) q.0 in omega arith)
    (λ (q : (nat_eq x x ≡ false) × (x ≢ x)). absurd (q.1 refl))
    (eqb_tells x x)

pub times_else : (x y : ℕ) → y ≢ x → times x (y ∷ []) ≡ 0
times_else x y apart = ⊎_elim
    (λ (q : (nat_eq y x ≡ true) × (y ≡ x)). absurd (apart q.1))
    (λ (q : (nat_eq y x ≡ false) × (y ≢ x)). let c : cond {A = ℕ} (nat_eq y x) 1 0 ≡ 0 = ap (λ (b : Bool). cond {A = ℕ} b 1 0) q.0 in omega arith)
    (eqb_tells y x)

total_set : (f : Hand → ℕ) (vs : List Hand) (k : ℕ) (v w : Hand) → get_elem? vs k ≡ some v → total f (set vs k w) + f v ≡ total f vs + f w
total_set f [] k v w e = absurd (cc)
total_set f (x ∷ xs) zero v w e = let s = ap f (some-injective x v e) in omega arith
total_set f (x ∷ xs) (suc k) v w e = let h = total_set f xs k v w e in omega arith

total_snoc : (f : Hand → ℕ) (vs : List Hand) (w : Hand) → total f (vs ++ w ∷ []) ≡ total f vs + f w
total_snoc f [] w = omega arith
total_snoc f (x ∷ xs) w = let h = total_snoc f xs w in omega arith

part_of : (f : Hand → ℕ) (vs : List Hand) (k : ℕ) (v : Hand) → get_elem? vs k ≡ some v → f v ≤ total f vs
part_of f [] k v e = absurd (cc)
part_of f (x ∷ xs) zero v e = let s = ap f (some-injective x v e) in omega arith
part_of f (x ∷ xs) (suc k) v e = let h = part_of f xs k v e in omega arith

two_of : (f : Hand → ℕ) (vs : List Hand) (a b : ℕ) (v w : Hand) → a ≢ b → get_elem? vs a ≡ some v → get_elem? vs b ≡ some w → f v + f w ≤ total f vs
two_of f [] a b v w apart e g = absurd (cc)
two_of f (x ∷ xs) zero zero v w apart e g = absurd (apart refl)
two_of f (x ∷ xs) zero (suc b) v w apart e g = let s = ap f (some-injective x v e) in let h = part_of f xs b w g in omega arith
two_of f (x ∷ xs) (suc a) zero v w apart e g = let s = ap f (some-injective x w g) in let h = part_of f xs a v e in omega arith
two_of f (x ∷ xs) (suc a) (suc b) v w apart e g = let h = two_of f xs a b v w (λ q. apart (ap suc q)) e g in omega arith

-- a fact of each view, after a change of one, and after one more
each_set : (F : Hand → Type 0) (vs : List Hand) (k : ℕ) (w : Hand) → F w → ((j : ℕ) (v : Hand) → j ≢ k → get_elem? vs j ≡ some v → F v) → (j : ℕ) (v : Hand) → get_elem? (set vs k w) j ≡ some v → F v
each_set F vs k w one all j v e = ⊎_elim (λ (t : (j ≡ k) × (w ≡ v)). subst F t.1 one) (λ (t : (j ≢ k) × (get_elem? vs j ≡ some v)). all j v t.0 t.1) (at_set vs k j w v e)

each_snoc : (F : Hand → Type 0) (vs : List Hand) (w : Hand) → F w → ((j : ℕ) (v : Hand) → get_elem? vs j ≡ some v → F v) → (j : ℕ) (v : Hand) → get_elem? (vs ++ w ∷ []) j ≡ some v → F v
each_snoc F vs w one all j v e = ⊎_elim (λ t. all j v t) (λ t. subst F t one) (at_snoc vs w v j e)

-- a new deque: nothing is in it, and its owner has all parts
pub opens : Dealt [] (hand 1024 [] [] ∷ [])
opens = record {
  home = [];
  same = same;
  idle = idle;
  parts = refl;
  counts = λ x. refl;
  once = λ x. omega arith;
}
  where
    same : (k : ℕ) (v : Hand) → get_elem? (hand 1024 [] [] ∷ []) k ≡ some v → 0 < v.parts → v.home ≡ []
    same zero v e p = sym (ap (λ (z : Hand). z.home) (some-injective _ v e))
    same (suc k) v e p = absurd (cc)

    idle : (k : ℕ) (v : Hand) → get_elem? (hand 1024 [] [] ∷ []) k ≡ some v → v.parts ≡ 0 → v.taken ≡ []
    idle zero v e p = sym (ap (λ (z : Hand). z.taken) (some-injective _ v e))
    idle (suc k) v e p = absurd (cc)

pub takes : (port : ℕ) (v : Hand) → 0 < v.parts → Takes Dealt port v 1 (HasTaken v)
takes port v some_part xs items views lo hi d at =
    let w = hand v.parts v.home (v.taken ++ xs) in (
      w,
      record {
        home = d.home;
        same = each_set (λ u. 0 < u.parts → u.home ≡ d.home) views port w (λ p. d.same port v at p) (λ j u ne e. d.same j u e);
        idle = each_set (λ u. u.parts ≡ 0 → u.taken ≡ []) views port w (λ none. absurd (omega arith)) (λ j u ne e. d.idle j u e);
        parts = let t = total_set (λ u. u.parts) views port v w at in let p = d.parts in omega arith;
        counts = λ x. let t = total_set (λ u. times x u.taken) views port v w at in let c = d.counts x in let a = times_append x v.taken xs in let b = times_append x xs items in omega arith;
        once = d.once;
      },
      (
        refl,
        (λ x. let t = part_of (λ u. times x u.taken) views port v at in let c = d.counts x in let b = times_append x xs items in let e = ap (times x) (d.same port v at some_part) in omega arith),
        (λ x. let o = d.once x in let e = ap (times x) (d.same port v at some_part) in omega arith),
      ),
    )

pub finds : (port : ℕ) (v : Hand) (n : ℕ) → n ≡ 0 → FindsFew Dealt n port v (FoundEmpty v)
finds port v n zero_is items views few d at = go items few d
  where
    go : (items : List ℕ) → length items ≤ n → Dealt items views → FoundEmpty v
    go [] few d = (views, port, d, at)
    go (x ∷ xs) few d = absurd (omega arith)

pub puts : (port : ℕ) (v : Hand) (x : ℕ) → v.parts ≡ 1024 → times x v.home ≡ 0 → Pushes Dealt port v (x ∷ []) (HasPut v (x ∷ []))
puts port v x every new items views d at =
    let w = hand v.parts (v.home ++ x ∷ []) v.taken in
    let home_is : v.home ≡ d.home = d.same port v at (omega arith) in (
      w,
      record {
        home = d.home ++ x ∷ [];
        same = each_set (λ u. 0 < u.parts → u.home ≡ d.home ++ x ∷ []) views port w (λ p. ap (λ (l : List ℕ). l ++ x ∷ []) home_is) (λ j u ne e p. absurd (alone j u ne e p));
        idle = each_set (λ u. u.parts ≡ 0 → u.taken ≡ []) views port w (λ none. absurd (omega arith)) (λ j u ne e. d.idle j u e);
        parts = let t = total_set (λ u. u.parts) views port v w at in let p = d.parts in omega arith;
        counts = λ y. let t = total_set (λ u. times y u.taken) views port v w at in let c = d.counts y in let a = times_append y items (x ∷ []) in let b = times_append y d.home (x ∷ []) in omega arith;
        once = λ y. let b = times_append y d.home (x ∷ []) in let o = d.once y in ⊎_elim
            (λ (q : (nat_eq x y ≡ true) × (x ≡ y)). let z : times y d.home ≡ 0 = subst (λ (l : List ℕ). times y l ≡ 0) home_is (subst (λ (n : ℕ). times n v.home ≡ 0) q.1 new) in let c : cond {A = ℕ} (nat_eq x y) 1 0 ≡ 1 = ap (λ (b : Bool). cond {A = ℕ} b 1 0) q.0 in omega arith)
            (λ (q : (nat_eq x y ≡ false) × (x ≢ y)). let c : cond {A = ℕ} (nat_eq x y) 1 0 ≡ 0 = ap (λ (b : Bool). cond {A = ℕ} b 1 0) q.0 in omega arith)
            (eqb_tells x y);
      },
      refl,
    )
  where
    alone : (j : ℕ) (u : Hand) → j ≢ port → get_elem? views j ≡ some u → 0 < u.parts → ⊥
    alone j u ne e p = let t = two_of (λ z. z.parts) views j port u v ne e at in let q = d.parts in absurd (omega arith)

pub shares : (port : ℕ) (v : Hand) → 1 < v.parts → Forks Dealt port v (kept v) (given v)
shares port v more items views d at =
    let mid = set views port (kept v) in
    record {
      home = d.home;
      same = each_snoc (λ u. 0 < u.parts → u.home ≡ d.home) mid (given v) (λ p. d.same port v at (omega arith)) (each_set (λ u. 0 < u.parts → u.home ≡ d.home) views port (kept v) (λ p. d.same port v at (omega arith)) (λ j u ne e. d.same j u e));
      idle = each_snoc (λ u. u.parts ≡ 0 → u.taken ≡ []) mid (given v) (λ none. refl) (each_set (λ u. u.parts ≡ 0 → u.taken ≡ []) views port (kept v) (λ none. absurd (omega arith)) (λ j u ne e. d.idle j u e));
      parts = let s = total_snoc (λ u. u.parts) mid (given v) in let t = total_set (λ u. u.parts) views port v (kept v) at in let p = d.parts in omega arith;
      counts = λ x. let s = total_snoc (λ u. times x u.taken) mid (given v) in let t = total_set (λ u. times x u.taken) views port v (kept v) at in let c = d.counts x in omega arith;
      once = d.once;
    }

pub rests : (port : ℕ) (v : Hand) → 0 < v.parts → Forks Dealt port v (left_over v) v
rests port v more items views d at =
    let mid = set views port (left_over v) in
    record {
      home = d.home;
      same = each_snoc (λ u. 0 < u.parts → u.home ≡ d.home) mid v (λ p. d.same port v at p) (each_set (λ u. 0 < u.parts → u.home ≡ d.home) views port (left_over v) (λ p. absurd (omega arith)) (λ j u ne e. d.same j u e));
      idle = each_snoc (λ u. u.parts ≡ 0 → u.taken ≡ []) mid v (d.idle port v at) (each_set (λ u. u.parts ≡ 0 → u.taken ≡ []) views port (left_over v) (λ none. refl) (λ j u ne e. d.idle j u e));
      parts = let s = total_snoc (λ u. u.parts) mid v in let t = total_set (λ u. u.parts) views port v (left_over v) at in let p = d.parts in omega arith;
      counts = λ x. let s = total_snoc (λ u. times x u.taken) mid v in let t = total_set (λ u. times x u.taken) views port v (left_over v) at in let c = d.counts x in omega arith;
      once = d.once;
    }

-- a view with every part has taken the whole home once the deque is empty
pub took_all : (v : Hand) → v.parts ≡ 1024 → FoundEmpty v → (x : ℕ) → times x v.taken ≡ times x v.home
took_all v every f x = let d = f.2 in let at = f.3 in go d at
  where
    go : Dealt [] f.0 → get_elem? f.0 f.1 ≡ some v → times x v.taken ≡ times x v.home
    go d at = let c = d.counts x in let e = ap (times x) (d.same f.1 v at (omega arith)) in let o = others f.0 f.1 at d.parts d.idle in omega arith
      where
        rest_idle : (vs : List Hand) → total (λ u. u.parts) vs ≡ 0 → ((k : ℕ) (u : Hand) → get_elem? vs k ≡ some u → u.parts ≡ 0 → u.taken ≡ []) → total (λ u. times x u.taken) vs ≡ 0
        rest_idle [] p i = refl
        rest_idle (u ∷ us) p i = let a = rest_idle us (omega arith) (λ k. i (suc k)) in let b = ap (times x) (i 0 u refl (omega arith)) in omega arith

        others : (vs : List Hand) (k : ℕ) → get_elem? vs k ≡ some v → total (λ u. u.parts) vs ≡ 1024 → ((k : ℕ) (u : Hand) → get_elem? vs k ≡ some u → u.parts ≡ 0 → u.taken ≡ []) → total (λ u. times x u.taken) vs ≡ times x v.taken
        others [] k e p i = absurd (cc)
        others (u ∷ us) zero e p i = let s : u ≡ v = some-injective u v e in let q = ap (λ (z : Hand). z.parts) s in let a = rest_idle us (omega arith) (λ k. i (suc k)) in let b = ap (λ (z : Hand). times x z.taken) s in omega arith
        others (u ∷ us) (suc k) e p i = let h = part_of (λ z. z.parts) us k v e in let b = ap (times x) (i 0 u refl (omega arith)) in let a = others us k e (omega arith) (λ k. i (suc k)) in omega arith
