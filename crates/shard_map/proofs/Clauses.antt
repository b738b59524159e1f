-- From the steps of a call to what its clauses say of the seat.
use Rattle.std.proofs.Common.{◌≡◌, ℕ, ◌+◌, ◌*◌, ◌%◌, ◌<◌, ◌≤◌, ◌≢◌, Bool, true, false, List, [], ◌∷◌, length, set, refl, sym, ap, ◌∙◌, subst, inl, inr, Some, None, arith}
use Rattle.std.specs.Prelude.{Contains, ◌||◌, ◌==◌, insert}
use Rattle.std.proofs.lemmas.List.{get_or-set_same, get_or-set_other}
use Rattle.std.proofs.Math.ListN.{length-set}
use Rattle.shard_map.specs.declared.view.Keep.{Keep}
use Rattle.shard_map.specs.declared.view.View.{View}
use Rattle.shard_map.specs.Views.{covers, unseen, after_read, after_take, after_end, keep_of, has_read, has_taken, has_ended, joined, whole}
use Rattle.shard_map.specs.Seats.{AreMarked, AreUnited, Fits, TookTurn, HasEntered, WasFilled, WasBusy}
use Rattle.shard_map.proofs.Spans.{covers-insert}
use Rattle.shard_map.proofs.Places.{Contains-insert}
use Rattle.shard_map.proofs.Listing.{one_marked, both_marked}
use Rattle.shard_map.proofs.Sums.{length-both}

module _ {J : Type 0} (v : View J) (j : ℕ) (kept : j < length v.keeps) where
  module _ (n : ℕ) where
    abbrev v1 : View J
    v1 = has_read v j n

    pub kept1 : j < length v1.keeps
    kept1 = let l = length-set v.keeps j (after_read n n (keep_of v j)) in omega arith

    pub keep1 : keep_of v1 j ≡ after_read n n (keep_of v j)
    keep1 = get_or-set_same v.keeps j (after_read n n (keep_of v j)) unseen kept

    others1 : (i : ℕ) → i ≢ j → keep_of v1 i ≡ keep_of v i
    others1 i ne = get_or-set_other v.keeps j i (after_read n n (keep_of v j)) unseen ne

    pub busy_odd : n % 2 ≡ 1 → (v.share ≡ whole → n % 2 ≡ 0) → WasBusy v v1 j n
    busy_odd odd even = record {
      rest = record { job = refl; share = refl; others = others1 };
      pairs = refl;
      turns = ap (λ (k : Keep). k.turns) keep1;
      spans = (ap (λ (k : Keep). k.began) keep1, ap (λ (k : Keep). k.ended) keep1);
      last = ap (λ (k : Keep). k.last) keep1;
      cause = inl (ap (λ (k : Keep). k.reads) keep1, odd);
      part = λ full. absurd (let e = even full in omega arith);
    }

    module _ (m : ℕ) where
      abbrev v2 : View J
      v2 = has_read v1 j m

      keep2 : keep_of v2 j ≡ after_read m m (after_read n n (keep_of v j))
      keep2 = get_or-set_same v1.keeps j (after_read m m (keep_of v1 j)) unseen kept1 ∙ ap (after_read m m) keep1

      pub busy_changed : n % 2 ≡ 0 → m ≢ n → (v.share ≡ whole → (keep_of v1 j).left ≢ Some n) → WasBusy v v2 j m
      busy_changed even changed stayed = record {
        rest = record { job = refl; share = refl; others = λ i ne. get_or-set_other v1.keeps j i (after_read m m (keep_of v1 j)) unseen ne ∙ others1 i ne };
        pairs = refl;
        turns = ap (λ (k : Keep). k.turns) keep2;
        spans = (ap (λ (k : Keep). k.began) keep2, ap (λ (k : Keep). k.ended) keep2);
        last = ap (λ (k : Keep). k.last) keep2;
        cause = inr (let r = ap (λ (k : Keep). k.reads) keep2 in omega arith, let b = ap (λ (k : Keep). k.before) keep2 in omega arith, λ e. changed (sym e ∙ ap (λ (k : Keep). k.before) keep2));
        part = λ full. stayed full (ap (λ (k : Keep). k.left) keep1);
      }

    module _ (next : ℕ) (began : List (ℕ × ℕ)) where
      abbrev taken : View J
      taken = has_taken v1 j n next began

      pub keep_taken : keep_of taken j ≡ after_take n next began (after_read n n (keep_of v j))
      keep_taken = get_or-set_same v1.keeps j (after_take n next began (keep_of v1 j)) unseen kept1 ∙ ap (after_take n next began) keep1

      kept_taken : j < length taken.keeps
      kept_taken = let l = length-set v1.keeps j (after_take n next began (keep_of v1 j)) in let k = kept1 in omega arith

      module _ (left : ℕ) (ended : List (ℕ × ℕ)) (new : List (ℕ × ℕ)) where
        abbrev w : View J
        w = has_ended taken j left ended new

        keep_ended : keep_of w j ≡ after_end left ended (after_take n next began (after_read n n (keep_of v j)))
        keep_ended = get_or-set_same taken.keeps j (after_end left ended (keep_of taken j)) unseen kept_taken ∙ ap (after_end left ended) keep_taken

        took : TookTurn v w j new
        took = record {
          rest = record { job = refl; share = refl; others = λ i ne. get_or-set_other taken.keeps j i (after_end left ended (keep_of taken j)) unseen ne ∙ (get_or-set_other v1.keeps j i (after_take n next began (keep_of v1 j)) unseen ne ∙ others1 i ne) };
          turns = ap (λ (k : Keep). k.turns) keep_ended;
          pairs = refl;
        }

        pub length_ended : length w.keeps ≡ length v.keeps
        length_ended = length-set taken.keeps j (after_end left ended (keep_of taken j)) ∙ (length-set v1.keeps j (after_take n next began (keep_of v1 j)) ∙ length-set v.keeps j (after_read n n (keep_of v j)))

      pub entered : (left p at : ℕ) → covers (keep_of taken j).began p ≡ false → HasEntered v (has_ended taken j left (insert (keep_of taken j).began at (p, p + 1)) ((j, p) ∷ [])) j p
      entered left p at free =
          let is : (keep_of taken j).began ≡ began = ap (λ (k : Keep). k.began) keep_taken in
          let ended = insert (keep_of taken j).began at (p, p + 1) in
          let e = keep_ended left ended ((j, p) ∷ []) in
          let began_is = ap (λ (k : Keep). k.began) e in
          let ended_is = ap (λ (k : Keep). k.ended) e in record {
            turn = took left ended ((j, p) ∷ []);
            free = ap (λ l. covers l p) (began_is ∙ sym is) ∙ free;
            stands = subst (λ l. Contains l (p, p + 1)) (sym ended_is) (Contains-insert (keep_of taken j).began at (p, p + 1));
            stay = λ q. ap (λ l. covers l q) ended_is ∙ (covers-insert (keep_of taken j).began at p q ∙ ap (λ l. (q == p) || covers l q) (is ∙ sym began_is));
          }

      pub filled : (left p : ℕ) → covers (keep_of taken j).began p ≡ true → (v.share ≡ whole → (q : ℕ) → covers began q ≡ true → Contains v.pairs (j, q)) → WasFilled v (has_ended taken j left (keep_of taken j).began []) j p
      filled left p is_filled all =
          let is : (keep_of taken j).began ≡ began = ap (λ (k : Keep). k.began) keep_taken in
          let e = keep_ended left (keep_of taken j).began [] in
          let began_is = ap (λ (k : Keep). k.began) e in
          let ended_is = ap (λ (k : Keep). k.ended) e in record {
            turn = took left (keep_of taken j).began [];
            filled = ap (λ l. covers l p) (began_is ∙ sym is) ∙ is_filled;
            stay = ended_is ∙ (is ∙ sym began_is);
            known = λ full. all full p (ap (λ l. covers l p) (sym is) ∙ is_filled);
          }

-- what holds of a seat between calls
module _ {J : Type 0} (count shards : J → ℕ) (v w : View J) (share pieces : ℕ) (marks : List Bool) (room : ℕ) where
  pub fits_as : w.turn ≡ None → w.job ≡ v.job → w.share ≡ v.share → w.pairs ≡ v.pairs → length w.keeps ≡ length v.keeps → Fits count shards v share pieces marks room → Fits count shards w share pieces marks room
  fits_as idle job same pairs keeps old = record {
    idle = idle;
    same = old.same ∙ sym same;
    some = old.some;
    most = old.most;
    marked = subst (AreMarked pieces marks) (sym pairs) old.marked;
    pieces_are = λ o e. old.pieces_are o (sym job ∙ e);
    marks_len = λ o e. old.marks_len o (sym job ∙ e);
    keeps_len = λ o e. keeps ∙ old.keeps_len o (sym job ∙ e);
    room_is = λ o e. old.room_is o (sym job ∙ e);
  }

  pub fits_entered : (job : J) (j p : ℕ) → v.job ≡ Some job → j < shards job → p < count job → w.turn ≡ None → w.job ≡ v.job → w.share ≡ v.share → w.pairs ≡ (j, p) ∷ v.pairs → length w.keeps ≡ length v.keeps
      → Fits count shards v share pieces marks room → Fits count shards w share pieces (set marks (j * pieces + p) true) room
  fits_entered job j p own row low idle job_is same pairs keeps old =
      let n = old.pieces_are job own in
      let len : length marks ≡ shards job * pieces = old.marks_len job own ∙ ap (λ z. shards job * z) (sym n) in record {
        idle = idle;
        same = old.same ∙ sym same;
        some = old.some;
        most = old.most;
        marked = subst (AreMarked pieces (set marks (j * pieces + p) true)) (sym pairs) (one_marked pieces (shards job) j p marks v.pairs row (omega arith) len old.marked);
        pieces_are = λ o e. old.pieces_are o (sym job_is ∙ e);
        marks_len = λ o e. length-set marks (j * pieces + p) true ∙ old.marks_len o (sym job_is ∙ e);
        keeps_len = λ o e. keeps ∙ old.keeps_len o (sym job_is ∙ e);
        room_is = λ o e. old.room_is o (sym job_is ∙ e);
      }

-- a call that entered a part, step by step
module _ {J : Type 0} (count shards : J → ℕ) (job : J) (v a b w : View J) (j p n next left at : ℕ) (began : List (ℕ × ℕ)) (own : v.job ≡ Some job) (row : j < shards job) (low : p < count job)
    (looked : a ≡ has_read v j n) (took : b ≡ has_taken a j n next began) (free : covers (keep_of b j).began p ≡ false) (ended : w ≡ has_ended b j left (insert (keep_of b j).began at (p, p + 1)) ((j, p) ∷ [])) where
  taken_is : b ≡ has_taken (has_read v j n) j n next began
  taken_is = took ∙ ap (λ (z : View J). has_taken z j n next began) looked

  ended_is : w ≡ has_ended (has_taken (has_read v j n) j n next began) j left (insert (keep_of (has_taken (has_read v j n) j n next began) j).began at (p, p + 1)) ((j, p) ∷ [])
  ended_is = ended ∙ ap (λ (z : View J). has_ended z j left (insert (keep_of z j).began at (p, p + 1)) ((j, p) ∷ [])) taken_is

  pub entered_by : j < length v.keeps → HasEntered v w j p
  entered_by kept = subst (λ (z : View J). HasEntered v z j p) (sym ended_is) (entered v j kept n next began left p at (subst (λ (z : View J). covers (keep_of z j).began p ≡ false) taken_is free))

  pub fits_by : j < length v.keeps → (share pieces room : ℕ) (marks : List Bool) → Fits count shards v share pieces marks room → Fits count shards w share pieces (set marks (j * pieces + p) true) room
  fits_by kept share pieces room marks old =
      let l = length_ended v j kept n next began left (insert (keep_of (has_taken (has_read v j n) j n next began) j).began at (p, p + 1)) ((j, p) ∷ []) in
      fits_entered count shards v w share pieces marks room job j p own row low (ap (λ (z : View J). z.turn) ended_is) (ap (λ (z : View J). z.job) ended_is) (ap (λ (z : View J). z.share) ended_is) (ap (λ (z : View J). z.pairs) ended_is) (ap (λ (z : View J). length z.keeps) ended_is ∙ l) old

-- a seat that took in another
pub fits_joined : {J : Type 0} (count shards : J → ℕ) (job : J) (v w u : View J) (share share' pieces pieces' room room' : ℕ) (marks marks' both : List Bool) → v.job ≡ Some job → w.job ≡ Some job
    → Fits count shards v share pieces marks room → Fits count shards w share' pieces' marks' room' → AreUnited marks marks' both → u ≡ joined v w → u.share ≤ whole → Fits count shards u (share + share') pieces both room
fits_joined {J} count shards job v w u share share' pieces pieces' room room' marks marks' both own own' a b union is most =
    let same : pieces' ≡ pieces = b.pieces_are job own' ∙ sym (a.pieces_are job own) in
    let sum : share + share' ≡ u.share = ap (λ n. n + share') a.same ∙ (ap (λ n. v.share + n) b.same ∙ ap (λ (z : View J). z.share) (sym is)) in
    let some = a.some in
    subst (λ (z : View J). Fits count shards z (share + share') pieces both room) (sym is) (record {
      idle = a.idle;
      same = sum ∙ ap (λ (z : View J). z.share) is;
      some = omega arith;
      most = omega arith;
      marked = both_marked pieces marks marks' both v.pairs w.pairs union a.marked (subst (λ n. AreMarked n marks' w.pairs) same b.marked);
      pieces_are = a.pieces_are;
      marks_len = λ o e. union.len ∙ a.marks_len o e;
      keeps_len = λ o e. length-both v.keeps w.keeps ∙ a.keeps_len o e;
      room_is = a.room_is;
    })
