-- Each step on a word keeps the rule of the shards, and what it tells is so.
use Rattle.std.proofs.Common.{◌≡◌, ℕ, zero, suc, ◌+◌, ◌%◌, ◌<◌, ◌≢◌, ◌⊎◌, ◌^◌, Bool, true, false, List, [], ◌∷◌, ◌++◌, length, set, cond, refl, sym, ap, ◌∙◌, subst, inl, inr, ⊎_elim, slice_index, Some, None, arith, Vec, vec_capacity}
use Rattle.std.specs.Prelude.{Contains, MatchBool, ◌==◌}
use Rattle.std.specs.declared.alloc.Global.{Global}
use mathlib.Core.Option.{some, none}
use mathlib.Core.Logic.{dite}
use native.Mathlib.Decide.{ℕ_discrete}
use lib.ListN.{get_elem?}
use Rattle.std.proofs.lemmas.List.{set-get_or, get_or-set_same, get_or-set_other}
use Rattle.std.proofs.lemmas.Bool.{eq-eqb, ne_eqb}
use Rattle.std.proofs.lemmas.Bool.Decides.{eqb_tells}
use Rattle.std.proofs.Math.ListN.{length-set}
use Rattle.std.proofs.lemmas.List.Elements.{Contains-append_left, Contains-append_right, Contains-append_cases}
use prog.Atomic.{either}
use Rattle.atomic_table.specs.Table.{State, Act, step, stepped, carried_after, Valid, Allows}
use Rattle.atomic_table.specs.Table.Act.{keeps, takes, gives}
use Rattle.atomic_table.proofs.Lists.{at_set, set_here, set_else, set_again}
use Rattle.shard_map.specs.declared.view.Keep.{Keep}
use Rattle.shard_map.specs.declared.view.View.{View}
use Rattle.shard_map.specs.Views.{covers, Rises, spans, new_pieces, pairs_of, keep_of, after_read, after_take, after_end, has_read, has_taken, has_ended, whole, unseen}
use Rattle.shard_map.specs.Rule.{Slot, Stands, IsRun, Good, IsHome, Holds, Learns, HasRead, HasTried, HasEnded, HasWeighed}
use Rattle.shard_map.proofs.Spans.{nothing_in, new-shows, new-has, pairs-shows, pairs-has}
use Rattle.shard_map.proofs.Sums.{same_at, at_here, total-set, share_in, two_shares, left-set}

module _ {J P : Type 0} (count shards : J → ℕ) (fails : J → ℕ → Bool) (part : J → ℕ → ℕ → P) (start_of end_of : P → ℕ) (both : P → P → P) (job : J) where
  abbrev Ok : State (Slot P) (View J) → Type 0
  Ok s = Holds count shards fails part start_of end_of both job s

  abbrev Fine : (ℕ → ℕ → Bool) → List ℕ → View J → Type 0
  Fine entered words v = Stands shards job entered words v

  abbrev Home : (ℕ → ℕ → Bool) → List (mathlib.Core.Option.Option (Slot P)) → ℕ → Type 0
  Home entered homes j = IsHome count shards fails part start_of end_of both job entered homes j

  module _ (s : State (Slot P) (View J)) (id : ℕ) (v : View J) (h : Ok s) (at : get_elem? s.views id ≡ some v) where
    -- the view at the seat's own number is its view
    mine : (k : ℕ) (u : View J) → k ≡ id → get_elem? s.views k ≡ some u → u ≡ v
    mine k u e there = same_at s.views id u v (subst (λ (z : ℕ). get_elem? s.views z ≡ some u) e there) at

    -- beside a seat that has a share, no other is whole
    not_whole : 0 < v.share → (k : ℕ) (u : View J) → k ≢ id → get_elem? s.views k ≡ some u → u.share ≢ whole
    not_whole some_share k u ne e full = let two = two_shares s.views k id u v ne e at in let o = h.shares in omega arith

    -- beside a whole seat, every other has nothing
    alone : v.share ≡ whole → (k : ℕ) (u : View J) → k ≢ id → get_elem? s.views k ≡ some u → (u.turn ≡ None) × (u.pairs ≡ [])
    alone full k u ne e = let two = two_shares s.views k id u v ne e at in let o = h.shares in (h.each k u e).idle (omega arith)

    -- a whole seat with no turn finds each word even
    pub finds_even : v.share ≡ whole → v.turn ≡ None → (j : ℕ) → j < shards job → slice_index s.words j % 2 ≡ 0
    finds_even full idle j low = go (slice_index s.words j % 2) refl
      where
        go : (r : ℕ) → slice_index s.words j % 2 ≡ r → slice_index s.words j % 2 ≡ 0
        go zero e = e
        go (suc r) e = let q = h.odd j low (omega arith) in dite (ℕ_discrete q.0 id)
            (λ (same : q.0 ≡ id). let is = mine q.0 q.1 same q.2 in absurd (cc (q.3, ap (λ (z : View J). z.turn) is, idle)))
            (λ ne. absurd (cc (q.3, (alone full q.0 q.1 ne q.2).0)))

    -- a whole seat lists each entered pair
    pub lists_all : v.share ≡ whole → (j p : ℕ) → h.entered j p ≡ true → Contains v.pairs (j, p)
    lists_all full j p e = let q = h.known j p e in dite (ℕ_discrete q.0 id)
        (λ (same : q.0 ≡ id). subst (λ (l : List (ℕ × ℕ)). Contains l (j, p)) (ap (λ (z : View J). z.pairs) (mine q.0 q.1 same q.2)) q.3)
        (λ ne. absurd (nothing_in (j, p) (subst (λ (l : List (ℕ × ℕ)). Contains l (j, p)) (alone full q.0 q.1 ne q.2).1 q.3)))

    -- The seat has another view, and words, slots and entered pairs change with it
    pub reseats : (w : View J) (words : List ℕ) (homes : List (mathlib.Core.Option.Option (Slot P))) (entered : ℕ → ℕ → Bool)
        → length words ≡ length s.words → length homes ≡ length s.homes → w.share ≡ v.share
        → ((j p : ℕ) → entered j p ≡ true → j < shards job)
        → Fine entered words w
        → ((k : ℕ) (u : View J) → k ≢ id → get_elem? s.views k ≡ some u → Fine entered words u)
        → ((k j : ℕ) (u : View J) → k ≢ id → get_elem? s.views k ≡ some u → u.turn ≡ Some j → w.turn ≡ Some j → ⊥)
        → ((j : ℕ) → j < shards job → slice_index words j % 2 ≡ 0 → Home entered homes j)
        → ((j : ℕ) → j < shards job → slice_index words j % 2 ≡ 1 → (w.turn ≡ Some j) ⊎ ((slice_index s.words j % 2 ≡ 1) × (v.turn ≡ Some j → ⊥)))
        → ((q : ℕ × ℕ) → Contains v.pairs q → Contains w.pairs q)
        → ((j p : ℕ) → entered j p ≡ true → (h.entered j p ≡ true) ⊎ Contains w.pairs (j, p))
        → Ok record { words = words; homes = homes; views = set s.views id w }
    reseats w words homes entered words_same homes_same share inside own others clash even odd grows news = record {
      entered = entered;
      inside = inside;
      words_len = words_same ∙ h.words_len;
      homes_len = homes_same ∙ h.homes_len;
      shares = let t = total-set s.views id v w at in let o = h.shares in omega arith;
      each = λ k u e. ⊎_elim (λ (t : (k ≡ id) × (w ≡ u)). subst (λ (z : View J). Fine entered words z) t.1 own) (λ (t : (k ≢ id) × (get_elem? s.views k ≡ some u)). others k u t.0 t.1) (at_set s.views id k w u e);
      apart = λ a b j x y ea eb ta tb. ⊎_elim
          (λ (t : (a ≡ id) × (w ≡ x)). ⊎_elim
          (λ (u : (b ≡ id) × (w ≡ y)). t.0 ∙ sym u.0)
          (λ (u : (b ≢ id) × (get_elem? s.views b ≡ some y)). absurd (clash b j y u.0 u.1 tb (ap (λ (z : View J). z.turn) t.1 ∙ ta)))
          (at_set s.views id b w y eb))
          (λ (t : (a ≢ id) × (get_elem? s.views a ≡ some x)). ⊎_elim
          (λ (u : (b ≡ id) × (w ≡ y)). absurd (clash a j x t.0 t.1 ta (ap (λ (z : View J). z.turn) u.1 ∙ tb)))
          (λ (u : (b ≢ id) × (get_elem? s.views b ≡ some y)). h.apart a b j x y t.1 u.1 ta tb)
          (at_set s.views id b w y eb))
          (at_set s.views id a w x ea);
      even = even;
      odd = λ j low o. ⊎_elim
          (λ (t : w.turn ≡ Some j). (id, w, at_here s.views id w v at, t))
          (λ (t : (slice_index s.words j % 2 ≡ 1) × (v.turn ≡ Some j → ⊥)). let q = h.odd j low t.0 in
          (q.0, q.1, set_else s.views id q.0 w (λ e. t.1 (ap (λ (z : View J). z.turn) (sym (mine q.0 q.1 e q.2)) ∙ q.3)) ∙ q.2, q.3))
          (odd j low o);
      known = λ j p e. ⊎_elim
          (λ (t : h.entered j p ≡ true). let q = h.known j p t in dite (ℕ_discrete q.0 id)
          (λ (same : q.0 ≡ id). (id, w, at_here s.views id w v at, grows (j, p) (subst (λ (l : List (ℕ × ℕ)). Contains l (j, p)) (ap (λ (z : View J). z.pairs) (mine q.0 q.1 same q.2)) q.3)))
          (λ ne. (q.0, q.1, set_else s.views id q.0 w ne ∙ q.2, q.3)))
          (λ (t : Contains w.pairs (j, p)). (id, w, at_here s.views id w v at, t))
          (news j p e);
    }

  -- a look
  pub reads : (id : ℕ) (v : View J) (c : List (ℕ × Slot P)) (j slots : ℕ) → j < shards job → v.turn ≡ None
      → Allows Ok slots id (v, c) j (λ n. n) (HasRead (step slots j 0 0 none) (v, c))
  reads id v c j slots low idle s h homes at fits =
      let n = slice_index s.words j in
      let w = has_read v j n in
      let old = h.each id v at in
      let own : Fine h.entered s.words w = record {
        own = old.own;
        idle = old.idle;
        turning = λ i e. absurd (cc (idle, e));
        listed = old.listed;
        left = λ full i m e. ⊎_elim
            (λ (t : (j ≡ i) × (Some n ≡ Some m)). subst (λ (z : ℕ). slice_index s.words z ≡ m) t.0 (cc (t.1)))
            (λ (t : (j ≢ i) × ((keep_of v i).left ≡ Some m)). old.left full i m t.1)
            (left-set v.keeps j i m (after_read n n (keep_of v j)) e);
      } in (
        w,
        keeps,
        tt,
        subst (λ (ws : List ℕ). Ok record { words = ws; homes = s.homes; views = set s.views id w }) (sym (set-get_or s.words j 0))
            (reseats s id v h at w s.words s.homes h.entered refl refl refl h.inside own (λ k u ne e. h.each k u e)
            (λ k i u ne e turn mine'. absurd (cc (idle, mine'))) h.even (λ i l o. inr (o, λ e. absurd (cc (idle, e)))) (λ q c'. c') (λ i p e. inl e)),
        (refl, refl, λ full still. finds_even s id v h at full still j low),
      )

  -- a look that tells of the share
  pub weighs : (id : ℕ) (v : View J) (c : List (ℕ × Slot P)) (j slots : ℕ) → Allows Ok slots id (v, c) j (λ n. n) (HasWeighed (step slots j 0 0 none) (v, c))
  weighs id v c j slots s h homes at fits = (
    v,
    keeps,
    tt,
    subst (λ (ws : List ℕ). Ok record { words = ws; homes = s.homes; views = set s.views id v }) (sym (set-get_or s.words j 0))
        (subst (λ (vs : List (View J)). Ok record { words = s.words; homes = s.homes; views = vs }) (sym (set_again s.views id v at)) h),
    (refl, refl, let b = share_in s.views id v at in let o = h.shares in omega arith),
  )

  module _ (s : State (Slot P) (View J)) (id : ℕ) (v : View J) (h : Ok s) (at : get_elem? s.views id ≡ some v) (j new : ℕ) (low : j < shards job) where
    in_words : j < length s.words
    in_words = let w = h.words_len in omega arith

    in_homes : j < length s.homes
    in_homes = let w = h.homes_len in omega arith

    here : slice_index (set s.words j new) j ≡ new
    here = get_or-set_same s.words j new 0 in_words

    elsewhere : (i : ℕ) → i ≢ j → slice_index (set s.words j new) i ≡ slice_index s.words i
    elsewhere i ne = get_or-set_other s.words j i new 0 ne

    parity : (i : ℕ) → i ≢ j → slice_index (set s.words j new) i % 2 ≡ slice_index s.words i % 2
    parity i ne = ap (λ (n : ℕ). n % 2) (elsewhere i ne)

    -- what another seat knows stays so where it has not this shard's turn
    other : (entered : ℕ → ℕ → Bool) (k : ℕ) (u : View J) → 0 < v.share → k ≢ id → get_elem? s.views k ≡ some u → (u.turn ≡ Some j → ⊥)
        → ((i p : ℕ) → i ≢ j → entered i p ≡ h.entered i p) → ((i p : ℕ) → h.entered i p ≡ true → entered i p ≡ true) → Fine entered (set s.words j new) u
    other entered k u some_share ne e free same grows = let old = h.each k u e in record {
      own = old.own;
      idle = old.idle;
      turning = λ i t. let o = old.turning i t in let off : i ≢ j = λ q. free (t ∙ ap Some q) in (o.0, parity i off ∙ o.1, λ p. o.2 p ∙ sym (same i p off));
      listed = λ q c. grows q.0 q.1 (old.listed q c);
      left = λ full. absurd (not_whole s id v h at some_share k u ne e full);
    }

  -- a try to take a turn
  pub tries : (id : ℕ) (v : View J) (c : List (ℕ × Slot P)) (j slots old new : ℕ) → j < shards job → j < length v.keeps → v.turn ≡ None → 0 < v.share → old % 2 ≡ 0 → new ≡ old + 1
      → Allows Ok slots id (v, c) j (λ n. either (n == old) new n) (HasTried count shards fails part start_of end_of both (step slots j old new none) (v, c))
  tries id v c j slots old new low kept idle some_share is_even next s h homes at fits = ⊎_elim hit miss (eqb_tells (slice_index s.words j) old)
    where
      n : ℕ
      n = slice_index s.words j

      G : Bool → Type 0
      G b = (w : View J) × (a : Act (Slot P)) × Valid s.homes c a × Ok (stepped s j (either b new n) id c w a)
          × MatchBool b
          ((runs : Vec P Global) × (carried_after c a ≡ (j, Some runs) ∷ c) × (w ≡ has_taken v j n new (spans start_of end_of runs.items)) × ((job : J) → v.job ≡ Some job → Learns count shards fails part start_of end_of both job v j runs))
          ((carried_after c a ≡ c) × (w ≡ has_read v j n) × (v.share ≡ whole → (keep_of v j).left ≢ Some old))

      miss : ((n == old) ≡ false) × (n ≢ old) → G (n == old)
      miss t = let same = reads id v c j slots low idle s h homes at fits in
          subst G (sym t.0) (same.0, same.1, same.2, same.3, (same.4.0, same.4.1, λ full is. t.1 ((h.each id v at).left full j old is)))

      hit : ((n == old) ≡ true) × (n ≡ old) → G (n == old)
      hit t =
          let e = t.1 in
          let home = h.even j low (omega arith) in
          let began = spans start_of end_of home.runs.items in
          let w = has_taken v j n new began in
          let old_view = h.each id v at in
          let now : slice_index (set s.words j new) j ≡ new = here s id v h at j new low in
          let own : Fine h.entered (set s.words j new) w = record {
            own = old_view.own;
            idle = λ no_share. absurd (omega arith);
            turning = λ i q. let is : j ≡ i = cc (q) in
                subst (λ (z : ℕ). (z < shards job) × (slice_index (set s.words j new) z % 2 ≡ 1) × ((p : ℕ) → covers (keep_of w z).began p ≡ h.entered z p)) is
                (low, (omega arith), λ p. ap (λ (k : Keep). covers k.began p) (get_or-set_same v.keeps j (after_take n new began (keep_of v j)) unseen kept) ∙ home.good.covered p);
            listed = old_view.listed;
            left = λ full i m q. ⊎_elim
                (λ (u : (j ≡ i) × (Some new ≡ Some m)). subst (λ (z : ℕ). slice_index (set s.words j new) z ≡ m) u.0 (cc (u.1, now)))
                (λ (u : (j ≢ i) × ((keep_of v i).left ≡ Some m)). elsewhere s id v h at j new low i (λ r. u.0 (sym r)) ∙ old_view.left full i m u.1)
                (left-set v.keeps j i m (after_take n new began (keep_of v j)) q);
          } in
          let free : (k : ℕ) (u : View J) → get_elem? s.views k ≡ some u → u.turn ≡ Some j → ⊥ = λ k u there turn. let o = ((h.each k u there).turning j turn).1 in absurd (omega arith) in
          subst G (sym t.0) (
            w,
            takes j (Some home.runs),
            home.at,
            reseats s id v h at w (set s.words j new) (set s.homes j none) h.entered
                (length-set s.words j new) (length-set s.homes j none) refl h.inside own
                (λ k u ne there. other s id v h at j new low h.entered k u some_share ne there (free k u there) (λ i p off. refl) (λ i p q. q))
                (λ k i u ne there turn mine'. let is : j ≡ i = cc (mine') in free k u there (turn ∙ ap Some (sym is)))
                (λ i l o. let off : i ≢ j = λ q. let o' : slice_index (set s.words j new) j % 2 ≡ 0 = subst (λ (z : ℕ). slice_index (set s.words j new) z % 2 ≡ 0) q o in absurd (omega arith) in
                let was = h.even i l (sym (parity s id v h at j new low i off) ∙ o) in record { runs = was.runs; at = set_else s.homes j i none off ∙ was.at; good = was.good; room = was.room })
                (λ i l o. dite (ℕ_discrete i j)
                (λ (q : i ≡ j). inl (ap Some (sym q)))
                (λ off. inr (sym (parity s id v h at j new low i off) ∙ o, λ q. absurd (cc (idle, q)))))
                (λ q c'. c')
                (λ i p q. inl q),
            (
              home.runs,
              refl,
              refl,
              λ own' is. subst (λ (o : J). Learns count shards fails part start_of end_of both o v j home.runs) (sym (old_view.own own' is)) (record {
                rises = home.good.rises;
                own = home.good.own;
                room = home.room;
                all = λ full p q. lists_all s id v h at full j p (sym (home.good.covered p) ∙ q);
              }),
            ),
          )

  -- The end of a turn, with runs that are the job's own and cover all that the turn found
  pub ends : (id : ℕ) (v : View J) (c : List (ℕ × Slot P)) (j slots : ℕ) (runs : Vec P Global) → c ≡ (j, Some runs) ∷ [] → v.turn ≡ Some j → 0 < v.share
      → Rises 0 (spans start_of end_of runs.items) → ((x : P) → Contains runs.items x → IsRun count shards fails part start_of end_of both job j x) → count job < vec_capacity runs
      → ((p : ℕ) → covers (keep_of v j).began p ≡ true → covers (spans start_of end_of runs.items) p ≡ true)
      → Allows Ok slots id (v, c) j (λ n. (n + 1) % 2 ^ 64) (HasEnded count shards fails part start_of end_of both (step slots j 1 0 none) (v, c))
  ends id v c j slots runs c_is turn some_share rises own_runs room grows s h homes at fits =
      (w, gives, tt, subst (λ (l : List (ℕ × Slot P)). Ok (stepped s j next id l w gives)) (sym c_is) ok, told)
    where
      ended : List (ℕ × ℕ)
      ended = spans start_of end_of runs.items

      next : ℕ
      next = (slice_index s.words j + 1) % 2 ^ 64

      new : List ℕ
      new = new_pieces (keep_of v j).began ended

      w : View J
      w = has_ended v j next ended (pairs_of j new)

      was : (j < shards job) × (slice_index s.words j % 2 ≡ 1) × ((p : ℕ) → covers (keep_of v j).began p ≡ h.entered j p)
      was = (h.each id v at).turning j turn

      entered : ℕ → ℕ → Bool
      entered i p = cond (i == j) (covers ended p) (h.entered i p)

      same : (i p : ℕ) → i ≢ j → entered i p ≡ h.entered i p
      same i p off = ap (λ b. cond b (covers ended p) (h.entered i p)) (ne_eqb i j off)

      at_j : (i p : ℕ) → i ≡ j → entered i p ≡ covers ended p
      at_j i p is = ap (λ b. cond b (covers ended p) (h.entered i p)) (eq-eqb i j is)

      stays : (i p : ℕ) → h.entered i p ≡ true → entered i p ≡ true
      stays i p e = dite (ℕ_discrete i j)
          (λ (is : i ≡ j). at_j i p is ∙ grows p (was.2 p ∙ (ap (λ z. h.entered z p) (sym is) ∙ e)))
          (λ off. same i p off ∙ e)

      news : (i p : ℕ) → entered i p ≡ true → (h.entered i p ≡ true) ⊎ Contains (pairs_of j new ++ v.pairs) (i, p)
      news i p e = dite (ℕ_discrete i j)
          (λ (is : i ≡ j). ⊎_elim
          (λ (t : covers (keep_of v j).began p ≡ true). inl (ap (λ z. h.entered z p) is ∙ (sym (was.2 p) ∙ t)))
          (λ (t : Contains new p). inr (subst (λ z. Contains (pairs_of j new ++ v.pairs) (z, p)) (sym is) (Contains-append_left (pairs_of j new) v.pairs (j, p) (pairs-has j new p t))))
          (new-has (keep_of v j).began ended p (sym (at_j i p is) ∙ e)))
          (λ off. inl (sym (same i p off) ∙ e))

      now : slice_index (set s.words j next) j ≡ next
      now = here s id v h at j next was.0

      now_even : next % 2 ≡ 0
      now_even = let o = was.1 in omega arith

      good_off : (i : ℕ) (xs : List P) → i ≢ j → Good count shards fails part start_of end_of both job h.entered i xs → Good count shards fails part start_of end_of both job entered i xs
      good_off i xs off g = record { rises = g.rises; own = g.own; covered = λ p. g.covered p ∙ sym (same i p off) }

      own : Fine entered (set s.words j next) w
      own = let old = h.each id v at in record {
        own = old.own;
        idle = λ no_share. absurd (omega arith);
        turning = λ i q. absurd (cc (q));
        listed = λ q c'. ⊎_elim
            (λ (t : Contains (pairs_of j new) q). let m = pairs-shows j new q t in at_j q.0 q.1 (sym m.0) ∙ new-shows (keep_of v j).began ended q.1 m.1)
            (λ (t : Contains v.pairs q). stays q.0 q.1 (old.listed q t))
            (Contains-append_cases (pairs_of j new) v.pairs q c');
        left = λ full i m q. ⊎_elim
            (λ (u : (j ≡ i) × (Some next ≡ Some m)). subst (λ (z : ℕ). slice_index (set s.words j next) z ≡ m) u.0 (cc (u.1, now)))
            (λ (u : (j ≢ i) × ((keep_of v i).left ≡ Some m)). elsewhere s id v h at j next was.0 i (λ r. u.0 (sym r)) ∙ old.left full i m u.1)
            (left-set v.keeps j i m (after_end next ended (keep_of v j)) q);
      }

      ok : Ok record { words = set s.words j next; homes = set s.homes j (some (Some runs)); views = set s.views id w }
      ok = reseats s id v h at w (set s.words j next) (set s.homes j (some (Some runs))) entered
          (length-set s.words j next) (length-set s.homes j (some (Some runs))) refl
          (λ i p e. dite (ℕ_discrete i j) (λ (is : i ≡ j). subst (λ (z : ℕ). z < shards job) (sym is) was.0) (λ off. h.inside i p (sym (same i p off) ∙ e)))
          own
          (λ k u ne there. other s id v h at j next was.0 entered k u some_share ne there (λ t. ne (h.apart k id j u v there at t turn)) same stays)
          (λ k i u ne there t none'. absurd (cc (none')))
          (λ i l o. dite (ℕ_discrete i j)
          (λ (is : i ≡ j). subst (λ (z : ℕ). Home entered (set s.homes j (some (Some runs))) z) (sym is) (record {
            runs = runs;
            at = set_here s.homes j (some (Some runs)) (in_homes s id v h at j next was.0);
            good = record { rises = rises; own = own_runs; covered = λ p. sym (at_j j p refl) };
            room = room;
          }))
          (λ off. let old = h.even i l (sym (parity s id v h at j next was.0 i off) ∙ o) in record { runs = old.runs; at = set_else s.homes j i (some (Some runs)) off ∙ old.at; good = good_off i old.runs.items off old.good; room = old.room }))
          (λ i l o. let off : i ≢ j = λ q. let o' : slice_index (set s.words j next) j % 2 ≡ 1 = subst (λ (z : ℕ). slice_index (set s.words j next) z % 2 ≡ 1) q o in absurd (let e = now_even in let n = now in omega arith) in
          inr (sym (parity s id v h at j next was.0 i off) ∙ o, λ q. off (let e : Some i ≡ Some j = sym q ∙ turn in cc (e))))
          (λ q c'. Contains-append_right (pairs_of j new) v.pairs q c')
          news

      told : HasEnded count shards fails part start_of end_of both (step slots j 1 0 none) (v, c) (slice_index s.words j) (w, carried_after c gives)
      told other_runs is =
          let lists : (j, Some runs) ∷ [] ≡ (j, Some other_runs) ∷ [] = sym c_is ∙ is in
          let firsts : (j, Some runs) ≡ (j, Some other_runs) = cc (lists) in
          let slots' : Some runs ≡ Some other_runs = ap (λ (z : ℕ × Slot P). z.1) firsts in
          let e : runs ≡ other_runs = cc (slots') in
          (ap (λ l. carried_after l gives) c_is, ap (λ (r : Vec P Global). has_ended v j next (spans start_of end_of r.items) (pairs_of j (new_pieces (keep_of v j).began (spans start_of end_of r.items)))) e)
