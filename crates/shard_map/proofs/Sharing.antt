-- Opening, splitting, joining and closing: the rule at the start, and what becomes of shares and lists.
use Rattle.std.proofs.Common.{◌≡◌, ℕ, zero, suc, ◌<◌, ◌≤◌, ◌≢◌, Bool, false, List, [], ◌∷◌, ◌++◌, length, set, get_or, map, replicate, refl, sym, ap, ◌∙◌, subst, ⊎_elim, slice_index, Some, None, arith, Vec, vec_capacity}
use Rattle.std.specs.Prelude.{Contains, All}
use Rattle.std.specs.declared.alloc.Global.{Global}
use mathlib.Core.Option.{some, some-injective}
use mathlib.Core.Logic.{dite}
use native.Mathlib.Decide.{ℕ_discrete}
use lib.ListN.{get_elem?}
use Rattle.std.proofs.lemmas.Bool.{both_ways}
use Rattle.std.proofs.lemmas.List.{length-replicate, get_or-replicate, length-map}
use Rattle.std.proofs.lemmas.List.Elements.{Contains-append_left, Contains-append_right, Contains-append_cases}
use Rattle.atomic_table.specs.Table.{State, Splits, Joins, opening}
use Rattle.atomic_table.proofs.Lists.{at_set, at_snoc, set_else, at_longer}
use Rattle.shard_map.specs.declared.view.View.{View}
use Rattle.shard_map.specs.Views.{covers, Rises, spans, opened, rest_of, half_of, joined, spent, total, unseen}
use Rattle.shard_map.specs.Rule.{Slot, Stands, IsFresh, Holds}
use Rattle.shard_map.proofs.Spans.{nothing_in}
use Rattle.shard_map.proofs.Sums.{same_at, at_here, total-set, total-last, share_in, left-unseen, left-both}

module _ {J P : Type 0} (count shards : J → ℕ) (fails : J → ℕ → Bool) (part : J → ℕ → ℕ → P) (start_of end_of : P → ℕ) (both : P → P → P) (job : J) where
  abbrev Ok : State (Slot P) (View J) → Type 0
  Ok s = Holds count shards fails part start_of end_of both job s

  abbrev Fine : (ℕ → ℕ → Bool) → List ℕ → View J → Type 0
  Fine entered words v = Stands shards job entered words v

  -- Other views, where words, slots and entered pairs stay
  regroups : (s : State (Slot P) (View J)) (h : Ok s) (views : List (View J)) → total views ≡ total s.views
      → ((k : ℕ) (u : View J) → get_elem? views k ≡ some u → Fine h.entered s.words u)
      → ((k j : ℕ) (u : View J) → get_elem? views k ≡ some u → u.turn ≡ Some j → get_elem? s.views k ≡ some u)
      → ((k j : ℕ) (u : View J) → get_elem? s.views k ≡ some u → u.turn ≡ Some j → get_elem? views k ≡ some u)
      → ((k : ℕ) (u : View J) (q : ℕ × ℕ) → get_elem? s.views k ≡ some u → Contains u.pairs q → (l : ℕ) × (w : View J) × (get_elem? views l ≡ some w) × Contains w.pairs q)
      → Ok record { words = s.words; homes = s.homes; views = views }
  regroups s h views same each was still lists = record {
    entered = h.entered;
    inside = h.inside;
    words_len = h.words_len;
    homes_len = h.homes_len;
    shares = same ∙ h.shares;
    each = each;
    apart = λ a b j x y ea eb ta tb. h.apart a b j x y (was a j x ea ta) (was b j y eb tb) ta tb;
    even = h.even;
    odd = λ j low o. let q = h.odd j low o in (q.0, q.1, still q.0 j q.1 q.2 q.3, q.3);
    known = λ j p e. let q = h.known j p e in lists q.0 q.1 (j, p) q.2 q.3;
  }

  pub splits : (id : ℕ) (v : View J) → v.turn ≡ None → 2 ≤ v.share → Splits Ok id v (rest_of v) (half_of v)
  splits id v idle some_share s h at = regroups s h (mid ++ half_of v ∷ []) shares each was still lists
    where
      mid : List (View J)
      mid = set s.views id (rest_of v)

      shares : total (mid ++ half_of v ∷ []) ≡ total s.views
      shares = let a = total-last mid (half_of v) in let b = total-set s.views id v (rest_of v) at in omega arith

      kept : Fine h.entered s.words (rest_of v)
      kept = let old = h.each id v at in record {
        own = old.own;
        idle = λ z. absurd (omega arith);
        turning = λ j e. absurd (cc (idle, e));
        listed = old.listed;
        left = λ full. absurd (let b = share_in s.views id v at in let o = h.shares in omega arith);
      }

      given : Fine h.entered s.words (half_of v)
      given = let old = h.each id v at in record {
        own = old.own;
        idle = λ z. absurd (omega arith);
        turning = λ j e. absurd (cc (e));
        listed = λ q c. absurd (nothing_in q c);
        left = λ full j n e. absurd (left-unseen v.keeps j n e);
      }

      each : (k : ℕ) (u : View J) → get_elem? (mid ++ half_of v ∷ []) k ≡ some u → Fine h.entered s.words u
      each k u e = ⊎_elim
          (λ (q : get_elem? mid k ≡ some u). ⊎_elim (λ (p : (k ≡ id) × (rest_of v ≡ u)). subst (λ (z : View J). Fine h.entered s.words z) p.1 kept) (λ (p : (k ≢ id) × (get_elem? s.views k ≡ some u)). h.each k u p.1) (at_set s.views id k (rest_of v) u q))
          (λ (q : half_of v ≡ u). subst (λ (z : View J). Fine h.entered s.words z) q given)
          (at_snoc mid (half_of v) u k e)

      was : (k j : ℕ) (u : View J) → get_elem? (mid ++ half_of v ∷ []) k ≡ some u → u.turn ≡ Some j → get_elem? s.views k ≡ some u
      was k j u e t = ⊎_elim
          (λ (q : get_elem? mid k ≡ some u). ⊎_elim (λ (p : (k ≡ id) × (rest_of v ≡ u)). absurd (cc (ap (λ (z : View J). z.turn) p.1, t, idle))) (λ (p : (k ≢ id) × (get_elem? s.views k ≡ some u)). p.1) (at_set s.views id k (rest_of v) u q))
          (λ (q : half_of v ≡ u). absurd (cc (ap (λ (z : View J). z.turn) q, t)))
          (at_snoc mid (half_of v) u k e)

      mine : (k : ℕ) (u : View J) → k ≡ id → get_elem? s.views k ≡ some u → u ≡ v
      mine k u e there = same_at s.views id u v (subst (λ (z : ℕ). get_elem? s.views z ≡ some u) e there) at

      still : (k j : ℕ) (u : View J) → get_elem? s.views k ≡ some u → u.turn ≡ Some j → get_elem? (mid ++ half_of v ∷ []) k ≡ some u
      still k j u e t = at_longer mid (half_of v ∷ []) k u (set_else s.views id k (rest_of v) (λ q. absurd (cc (ap (λ (z : View J). z.turn) (mine k u q e), t, idle))) ∙ e)

      lists : (k : ℕ) (u : View J) (q : ℕ × ℕ) → get_elem? s.views k ≡ some u → Contains u.pairs q → (l : ℕ) × (w : View J) × (get_elem? (mid ++ half_of v ∷ []) l ≡ some w) × Contains w.pairs q
      lists k u q e c = dite (ℕ_discrete k id)
          (λ (is : k ≡ id). (id, rest_of v, at_longer mid (half_of v ∷ []) id (rest_of v) (at_here s.views id (rest_of v) v at), subst (λ (l : List (ℕ × ℕ)). Contains l q) (ap (λ (z : View J). z.pairs) (mine k u is e)) c))
          (λ ne. (k, u, at_longer mid (half_of v ∷ []) k u (set_else s.views id k (rest_of v) ne ∙ e), c))

  pub joins : (id : ℕ) (v : View J) (other : ℕ) (w : View J) → v.turn ≡ None → w.turn ≡ None → 0 < v.share → Joins Ok id v other w (joined v w) spent
  joins id v other w idle idle' some_share s h at apart there = regroups s h (set mid other spent) shares each was still lists
    where
      mid : List (View J)
      mid = set s.views id (joined v w)

      beside : get_elem? s.views other ≡ some w
      beside = ⊎_elim (λ (t : (other ≡ id) × (joined v w ≡ w)). absurd (apart t.0)) (λ (t : (other ≢ id) × (get_elem? s.views other ≡ some w)). t.1) (at_set s.views id other (joined v w) w there)

      shares : total (set mid other spent) ≡ total s.views
      shares = let a = total-set s.views id v (joined v w) at in let b = total-set mid other w spent there in omega arith

      one : Fine h.entered s.words (joined v w)
      one = let old = h.each id v at in let old' = h.each other w beside in record {
        own = old.own;
        idle = λ z. absurd (omega arith);
        turning = λ j e. absurd (cc (idle, e));
        listed = λ q c. ⊎_elim (λ (a : Contains v.pairs q). old.listed q a) (λ (b : Contains w.pairs q). old'.listed q b) (Contains-append_cases v.pairs w.pairs q c);
        left = λ full j n e. absurd (left-both v.keeps w.keeps j n e);
      }

      gone : Fine h.entered s.words spent
      gone = record {
        own = λ o e. absurd (cc (e));
        idle = λ z. (refl, refl);
        turning = λ j e. absurd (cc (e));
        listed = λ q c. absurd (nothing_in q c);
        left = λ full. absurd (omega arith);
      }

      each : (k : ℕ) (u : View J) → get_elem? (set mid other spent) k ≡ some u → Fine h.entered s.words u
      each k u e = ⊎_elim (λ (p : (k ≡ other) × (spent ≡ u)). subst (λ (z : View J). Fine h.entered s.words z) p.1 gone)
          (λ (p : (k ≢ other) × (get_elem? mid k ≡ some u)). ⊎_elim (λ (q : (k ≡ id) × (joined v w ≡ u)). subst (λ (z : View J). Fine h.entered s.words z) q.1 one) (λ (q : (k ≢ id) × (get_elem? s.views k ≡ some u)). h.each k u q.1) (at_set s.views id k (joined v w) u p.1))
          (at_set mid other k spent u e)

      was : (k j : ℕ) (u : View J) → get_elem? (set mid other spent) k ≡ some u → u.turn ≡ Some j → get_elem? s.views k ≡ some u
      was k j u e t = ⊎_elim
          (λ (p : (k ≡ other) × (spent ≡ u)). absurd (cc (ap (λ (z : View J). z.turn) p.1, t)))
          (λ (p : (k ≢ other) × (get_elem? mid k ≡ some u)). ⊎_elim (λ (q : (k ≡ id) × (joined v w ≡ u)). absurd (cc (ap (λ (z : View J). z.turn) q.1, t, idle))) (λ (q : (k ≢ id) × (get_elem? s.views k ≡ some u)). q.1) (at_set s.views id k (joined v w) u p.1))
          (at_set mid other k spent u e)

      first_is : (k : ℕ) (u : View J) → k ≡ id → get_elem? s.views k ≡ some u → u ≡ v
      first_is k u e there' = same_at s.views id u v (subst (λ (z : ℕ). get_elem? s.views z ≡ some u) e there') at

      second_is : (k : ℕ) (u : View J) → k ≡ other → get_elem? s.views k ≡ some u → u ≡ w
      second_is k u e there' = same_at s.views other u w (subst (λ (z : ℕ). get_elem? s.views z ≡ some u) e there') beside

      elsewhere : (k : ℕ) (u : View J) → k ≢ id → k ≢ other → get_elem? s.views k ≡ some u → get_elem? (set mid other spent) k ≡ some u
      elsewhere k u a b e = set_else mid other k spent b ∙ (set_else s.views id k (joined v w) a ∙ e)

      still : (k j : ℕ) (u : View J) → get_elem? s.views k ≡ some u → u.turn ≡ Some j → get_elem? (set mid other spent) k ≡ some u
      still k j u e t = elsewhere k u (λ q. absurd (cc (ap (λ (z : View J). z.turn) (first_is k u q e), t, idle))) (λ q. absurd (cc (ap (λ (z : View J). z.turn) (second_is k u q e), t, idle'))) e

      here : get_elem? (set mid other spent) id ≡ some (joined v w)
      here = set_else mid other id spent (λ e. apart (sym e)) ∙ at_here s.views id (joined v w) v at

      lists : (k : ℕ) (u : View J) (q : ℕ × ℕ) → get_elem? s.views k ≡ some u → Contains u.pairs q → (l : ℕ) × (x : View J) × (get_elem? (set mid other spent) l ≡ some x) × Contains x.pairs q
      lists k u q e c = dite (ℕ_discrete k id)
          (λ (is : k ≡ id). (id, joined v w, here, Contains-append_left v.pairs w.pairs q (subst (λ (l : List (ℕ × ℕ)). Contains l q) (ap (λ (z : View J). z.pairs) (first_is k u is e)) c)))
          (λ ne. dite (ℕ_discrete k other)
          (λ (is : k ≡ other). (id, joined v w, here, Contains-append_right v.pairs w.pairs q (subst (λ (l : List (ℕ × ℕ)). Contains l q) (ap (λ (z : View J). z.pairs) (second_is k u is e)) c)))
          (λ ne'. (k, u, elsewhere k u ne ne' e, c)))

  -- a map at its start
  pub opens : (words : List ℕ) (slots : List (Slot P)) (room : ℕ) → words ≡ replicate (shards job) 0 → length slots ≡ shards job → All (IsFresh room) slots → count job < room → Ok (opening words slots (opened job (shards job)))
  opens words slots room zeros len fresh more = record {
    entered = λ j p. false;
    inside = λ j p e. absurd (both_ways false refl e);
    words_len = ap length zeros ∙ length-replicate (shards job) 0;
    homes_len = length-map slots some ∙ len;
    shares = omega arith;
    each = λ id u e. subst (λ (z : View J). Fine (λ j p. false) words z) (only id u e) first;
    apart = λ a b j u w ea eb ta tb. absurd (cc (ap (λ (z : View J). z.turn) (only a u ea), ta));
    even = λ j low e. let y = fresh_at slots room j (omega arith) fresh in record {
      runs = y.0;
      at = y.1;
      good = record {
        rises = subst (λ l. Rises 0 (spans start_of end_of l)) (sym y.2) tt;
        own = λ x c. absurd (nothing_in x (subst (λ l. Contains l x) y.2 c));
        covered = λ p. ap (λ l. covers (spans start_of end_of l) p) y.2;
      };
      room = let r = y.3 in omega arith;
    };
    odd = λ j low o. absurd (let z : slice_index words j ≡ 0 = ap (λ (l : List ℕ). slice_index l j) zeros ∙ get_or-replicate (shards job) j 0 0 low in omega arith);
    known = λ j p e. absurd (both_ways false refl e);
  }
    where
      only : (id : ℕ) (u : View J) → get_elem? (opened job (shards job) ∷ []) id ≡ some u → opened job (shards job) ≡ u
      only zero u e = some-injective (opened job (shards job)) u e
      only (suc id) u e = absurd (cc)

      unseen_left : (n i m : ℕ) → (get_or (replicate n unseen) i unseen).left ≡ Some m → ⊥
      unseen_left zero i m e = absurd (cc)
      unseen_left (suc n) zero m e = absurd (cc)
      unseen_left (suc n) (suc i) m e = unseen_left n i m e

      first : Fine (λ j p. false) words (opened job (shards job))
      first = record {
        own = λ o e. let same : job ≡ o = cc (e) in sym same;
        idle = λ z. absurd (omega arith);
        turning = λ j e. absurd (cc (e));
        listed = λ q c. absurd (nothing_in q c);
        left = λ full j n e. absurd (unseen_left (shards job) j n e);
      }

      fresh_at : (xs : List (Slot P)) (n j : ℕ) → j < length xs → All (IsFresh n) xs → (y : Vec P Global) × (get_elem? (map some xs) j ≡ some (some (Some y))) × (y.items ≡ []) × (n ≤ vec_capacity y)
      fresh_at [] n j l all = absurd (omega arith)
      fresh_at (None ∷ xs) n zero l all = absurd (all 0 None (omega arith))
      fresh_at (Some y ∷ xs) n zero l all = let f = all 0 None (omega arith) in (y, refl, f.0, f.1)
      fresh_at (x ∷ xs) n (suc j) l all = fresh_at xs n j (omega arith) (λ k d a. all (suc k) d (omega arith))
