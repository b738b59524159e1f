-- The parts that were kept, once all workers have ended.
use Rattle.std.proofs.Common.{◌≡◌, ℕ, zero, suc, ◌+◌, ◌<◌, ◌⊎◌, Bool, List, [], ◌∷◌, ◌++◌, length, refl, sym, ap, ◌∙◌, subst, inl, inr, ⊎_elim, slice_get, Some, All, arith}
use Rattle.std.specs.Prelude.{Contains}
use Rattle.std.proofs.lemmas.Bool.{cases_eq, both_ways}
use Rattle.std.proofs.lemmas.List.{length-append}
use Rattle.shard_map.specs.Seats.{Seen}
use Rattle.steal_pool.specs.declared.work.Ran.{Ran}
use Rattle.steal_pool.specs.Works.{NoneFails, HasRan, HasFailed}
use Rattle.phase_enter.specs.declared.enters.Answer.{Answer}
use Rattle.phase_enter.specs.Entries.{Has, HasAll, Grows, IsKept, IsCovered, AreEntered, AreAnswers, AreRests, Joined}
use Rattle.phase_enter.proofs.Elements.{some_is, Contains-cons, nothing_in, head_of, later_of, got_snoc}

module _ {J P : Type 0} (piece : ℕ) (kept : List (ℕ × P)) where
  -- what the loop over the parts that were kept has done
  abbrev pub Entering : Seen J → List (ℕ × P) → Type 0
  Entering s left = (shard : ℕ) (x : P) → Contains {X = ℕ × P} kept (shard, x) → Has s shard piece ⊎ Contains {X = ℕ × P} left (shard, x)

  pub enters_none : (s : Seen J) → Entering s kept
  enters_none s shard x c = inr c

  pub enters_one : (s t : Seen J) (n : ℕ) (y : P) (left rest : List (ℕ × P)) → left ≡ (n, y) ∷ rest → Grows s t → Has t n piece → Entering s left → Entering t rest
  enters_one s t n y left rest is grows here so_far shard x c = ⊎_elim
      (λ (h : Has s shard piece). inl (grows.pairs shard piece h))
      (λ (h : Contains {X = ℕ × P} left (shard, x)). ⊎_elim
      (λ (e : (n, y) ≡ (shard, x)). inl (subst (λ (z : ℕ × P). Has t z.0 piece) e here))
      (λ (h' : Contains {X = ℕ × P} rest (shard, x)). inr h')
      (Contains-cons (n, y) rest (shard, x) (subst (λ (l : List (ℕ × P)). Contains l (shard, x)) is h)))
      (so_far shard x c)

  pub enters_all : (s : Seen J) (left : List (ℕ × P)) → length left ≡ 0 → Entering s left → AreEntered s piece kept
  enters_all s (y ∷ rest) none so_far shard x c = absurd (omega arith)
  enters_all s [] none so_far shard x c = ⊎_elim (λ (h : Has s shard piece). h) (λ (h : Contains {X = ℕ × P} [] (shard, x)). absurd (nothing_in (shard, x) h)) (so_far shard x c)

module _ {J P R : Type 0} (shards pieces : ℕ) (part : ℕ → ℕ → P) (rest : ℕ → R) where
  -- an answer of piece k
  abbrev pub IsAnswer : Seen J → ℕ → (ℕ × Answer P R) → Type 0
  IsAnswer s k x = (x.0 ≡ k) × (x.1.rest ≡ rest k) × All (IsKept shards part k) x.1.kept.items × IsCovered shards s k x.1.kept.items

  still_covered : (n : ℕ) (s t : Seen J) (k : ℕ) (kept : List (ℕ × P)) → n ≡ shards → ((shard piece : ℕ) → Has s shard piece → Has t shard piece) → IsCovered n s k kept → IsCovered shards t k kept
  still_covered n s t k kept is more c shard low = ⊎_elim (λ (h : Has s shard k). inl (more shard k h)) (λ (h : (x : P) × Contains kept (shard, x)). inr h) (c shard (omega arith))

  -- what the loop over the answers has done
  pub record Finishing (s : Seen J) (left : List (ℕ × Answer P R)) (rests : List R) : Type 0 where
    pub count : length rests + length left ≡ pieces
    pub left_each : (k : ℕ) (x : ℕ × Answer P R) → slice_get left k ≡ Some x → IsAnswer s (length rests + k) x
    pub has : (shard piece : ℕ) → shard < shards → piece < length rests → Has s shard piece
    pub rests_each : (k : ℕ) (x : R) → slice_get rests k ≡ Some x → x ≡ rest k

  pub finishes_none : (s : Seen J) (answers left : List (ℕ × Answer P R)) (rests : List R) → left ≡ answers → rests ≡ [] → AreAnswers shards pieces part rest s answers → Finishing s left rests
  finishes_none s answers left [] is none a = record {
    count = let l = ap length is in omega (arith, a.count);
    left_each = λ k x got. subst (λ (n : ℕ). IsAnswer s n x) (omega arith) (a.each k x (ap (λ (l : List (ℕ × Answer P R)). slice_get l k) (sym is) ∙ got));
    has = λ shard piece l m. absurd (omega arith);
    rests_each = λ k x got. absurd (cc);
  }
  finishes_none s answers left (r ∷ rs) is none a = absurd (let l = ap length none in omega arith)

  -- the next answer is one of the next piece
  pub next_is : (s : Seen J) (left after : List (ℕ × Answer P R)) (rests : List R) (p : ℕ) (a : Answer P R) → left ≡ (p, a) ∷ after → Finishing s left rests → IsAnswer s (length rests) (p, a)
  next_is s left after rests p a is f = subst (λ (n : ℕ). IsAnswer s n (p, a)) (omega arith) (f.left_each 0 (p, a) (head_of left after (p, a) is))

  pub next_kept : (s : Seen J) (left after : List (ℕ × Answer P R)) (rests : List R) (p : ℕ) (a : Answer P R) → left ≡ (p, a) ∷ after → Finishing s left rests → All (IsKept shards part p) a.kept.items
  next_kept s left after rests p a is f = let n = next_is s left after rests p a is f in subst (λ (k : ℕ). All (IsKept shards part k) a.kept.items) (sym n.0) n.2

  pub next_low : (s : Seen J) (left after : List (ℕ × Answer P R)) (rests : List R) (p : ℕ) (a : Answer P R) → left ≡ (p, a) ∷ after → Finishing s left rests → p < pieces
  next_low s left after rests p a is f = let n = (next_is s left after rests p a is f).0 in let l = ap length is in let c = f.count in omega arith

  pub finishes_one : (s t : Seen J) (left after : List (ℕ × Answer P R)) (rests rests' : List R) (p : ℕ) (a : Answer P R)
      → left ≡ (p, a) ∷ after → rests' ≡ rests ++ a.rest ∷ [] → Grows s t → AreEntered t p a.kept.items → Finishing s left rests → Finishing t after rests'
  finishes_one s t left after rests rests' p a is more grows entered f = record {
    count = let l = ap length is in let c = f.count in let m = longer in omega arith;
    left_each = λ k x got.
        let old = f.left_each (suc k) x (later_of left after (p, a) x k is got) in
        let new : IsAnswer t (length rests + suc k) x = (old.0, old.1, old.2, still_covered shards s t (length rests + suc k) x.1.kept.items refl grows.pairs old.3) in
        subst (λ (n : ℕ). IsAnswer t n x) (let m = longer in omega arith) new;
    has = λ shard piece low below. ⊎_elim
        (λ (e : piece ≡ length rests). subst (λ (n : ℕ). Has t shard n) (sym e) (here shard low))
        (λ (e : piece ≡ length rests → ⊥). grows.pairs shard piece (f.has shard piece low (let m = longer in let apart = e in omega arith)))
        (cases_eq piece (length rests));
    rests_each = λ k x got. ⊎_elim
        (λ (e : slice_get rests k ≡ Some x). f.rests_each k x e)
        (λ (e : (k ≡ length rests) × (a.rest ≡ x)). sym e.1 ∙ (one.1 ∙ ap rest (sym e.0)))
        (got_snoc rests a.rest x k (ap (λ (l : List R). slice_get l k) (sym more) ∙ got));
  }
    where
      one : IsAnswer s (length rests) (p, a)
      one = next_is s left after rests p a is f

      longer : length rests' ≡ length rests + 1
      longer = let l = ap length more in let b = length-append rests (a.rest ∷ []) in omega arith

      here : (shard : ℕ) → shard < shards → Has t shard (length rests)
      here shard low = ⊎_elim
          (λ (h : Has s shard (length rests)). grows.pairs shard (length rests) h)
          (λ (h : (x : P) × Contains a.kept.items (shard, x)). subst (λ (n : ℕ). Has t shard n) one.0 (entered shard h.0 h.1))
          (one.3 shard low)

  pub finishes_all : (s : Seen J) (left : List (ℕ × Answer P R)) (rests : List R) → length left ≡ 0 → Finishing s left rests → HasAll shards pieces s × AreRests pieces rest rests
  finishes_all s left rests none f =
      let c = f.count in (
        (λ shard piece low below. f.has shard piece low (omega arith)),
        record { count = (omega arith); each = f.rests_each },
      )

  -- what came back from the workers, seen from the seat into which theirs were joined
  pub answers_of : (n : ℕ) (fails : ℕ → Bool) (fits : Seen J → Type 0) (same : Seen J → Seen J → Type 0) (old new : Seen J) (seats : List (Seen J)) (ran : Ran (Answer P R) (Seen J))
      → n ≡ shards → HasRan pieces fails fits (λ piece a. (a.rest ≡ rest piece) × All (IsKept shards part piece) a.kept.items) (λ s piece a. IsCovered n s piece a.kept.items) same seats ran → Joined old ran.seats.items new → AreAnswers shards pieces part rest new ran.answers.items
  answers_of n fails fits same old new seats ran is h j = record {
    count = h.answers.count;
    each = λ k x got.
        let one = h.answers.each k x got in
        let held = h.answers_held k x got in
        let there : Contains ran.seats.items held.1 = contained ran.seats.items held.0 held.1 held.2 in
        (one.0, one.1.0, one.1.1, still_covered n held.1 new k x.1.kept.items is (j.theirs held.1 there) held.3);
  }
    where
      contained : {X : Type 0} (xs : List X) (k : ℕ) (x : X) → slice_get xs k ≡ Some x → Contains xs x
      contained [] k x e = absurd (cc)
      contained (y ∷ xs) zero x e = (0, (omega arith), some_is y x e)
      contained (y ∷ xs) (suc k) x e = let c = contained xs k x e in let l = c.1 in (suc c.0, (omega arith), c.2)

-- the same for the job of the map
pub answers_at : {J P R : Type 0} (count shards : J → ℕ) (fails : J → ℕ → Bool) (part : J → ℕ → ℕ → P) (rest : J → ℕ → R) (fits : Seen J → Type 0) (same : Seen J → Seen J → Type 0) (a b : J) (old new : Seen J) (seats : List (Seen J)) (ran : Ran (Answer P R) (Seen J))
    → a ≡ b → HasRan (count b) (fails b) fits (λ piece x. (x.rest ≡ rest b piece) × All (IsKept (shards b) (part b) piece) x.kept.items) (λ s piece x. IsCovered (shards a) s piece x.kept.items) same seats ran → Joined old ran.seats.items new → AreAnswers (shards a) (count a) (part a) (rest a) new ran.answers.items
answers_at {J} count shards fails part rest fits same a b old new seats ran is h j = subst (λ (k : J). AreAnswers (shards k) (count k) (part k) (rest k) new ran.answers.items) (sym is) (answers_of (shards b) (count b) (part b) (rest b) (shards a) (fails b) fits same old new seats ran (ap shards is) h j)

-- no piece fails, so none failed first
pub none_failed : {A E : Type 0} (count : ℕ) (fails : ℕ → Bool) (good : ℕ → A → Type 0) (bad : ℕ → E → Type 0) (piece : ℕ) (error : E) (before : List (ℕ × A)) → NoneFails count fails → HasFailed count fails good bad piece error before → ⊥
none_failed count fails good bad piece error before none h = both_ways (fails piece) (none piece h.first.inside) h.first.fails_itself
