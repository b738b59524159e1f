-- What the caller has, as it goes over the slots.
use Rattle.std.proofs.Common.{◌≡◌, ℕ, suc, ◌+◌, ◌<◌, ◌≤◌, Bool, true, List, [], ◌∷◌, ◌++◌, length, take, refl, sym, ap, ◌∙◌, subst, slice_get, Some, None, Option, All, MatchOption, arith}
use Rattle.std.specs.Prelude.{IfSome}
use Rattle.std.proofs.lemmas.List.{length-append, length-take}
use Rattle.std.proofs.lemmas.Option.{slice_get_within}
use Rattle.steal_pool.specs.declared.work.Ran.{Ran}
use Rattle.steal_pool.specs.Pools.{Each}
use Rattle.steal_pool.specs.Works.{NoneFails, IsAnswered, IsHeldAnswer, AllAnswered, StillSeats, HasRan, HasFailed}
use Rattle.steal_pool.proofs.Lists.{some_is, got_below, got_taken, each_none, each_snoc}

pub end_below : {E : Type 0} (f : Option (ℕ × E)) (end pieces count : ℕ) (F G : ℕ × E → Type 0) → MatchOption f (end ≡ pieces) (λ x. end ≡ x.0) → pieces ≡ count → IfSome f (λ x. (x.0 < count) × F x × G x) → end ≤ count
end_below None end pieces count F G is same own = omega arith
end_below (Some x) end pieces count F G is same own = let o = own.0 in omega arith

module _ {A E S : Type 0} (count : ℕ) (fails : ℕ → Bool) (fits : S → Type 0) (good : ℕ → A → Type 0) (bad : ℕ → E → Type 0) (done : S → ℕ → A → Type 0) (same : S → S → Type 0) (old : List S) (end : ℕ) where
  abbrev Held' : List S → ℕ → A → Type 0
  Held' seats piece a = IsHeldAnswer fails good done seats piece a

  abbrev Row : List S → ℕ → ℕ × A → Type 0
  Row seats piece x = (x.0 ≡ piece) × Held' seats piece x.1

  pub record Finishing (answers : List (ℕ × A)) (left : List (Option A)) (seats : List S) : Type 0 where
    pub long : length answers + length left ≡ end
    pub held : (k : ℕ) (a : A) → slice_get left k ≡ Some (Some a) → Held' seats (length answers + k) a
    pub answered : Each (Row seats) answers
    pub still : StillSeats fits done same old seats

  itself : ((s : S) → same s s) → All fits old → StillSeats fits done same old old
  itself refl_same fit = record {
    seats_same = record { count = refl; each = λ k s t a b. subst (λ (z : S). same s z) (some_is s t (sym a ∙ b)) (refl_same s) };
    seats_fit = fit;
    held = λ piece answer h. h;
  }

  -- nothing is answered yet
  pub starts : (answers : List (ℕ × A)) (slots left : List (Option A)) → ((s : S) → same s s) → All fits old → answers ≡ [] → left ≡ slots → length slots ≡ end → Each (λ piece slot. IfSome slot (Held' old piece)) slots → Finishing answers left old
  starts answers slots left refl_same fit none is whole each = record {
    long = let a = ap length none in let l = ap length is in omega arith;
    held = λ k a got. subst (λ (n : ℕ). Held' old n a) (let z = ap length none in let e : k ≡ length answers + k = omega arith in e) (each k (Some a) (ap (λ (l : List (Option A)). slice_get l k) (sym is) ∙ got));
    answered = subst (Each (Row old)) (sym none) (each_none (Row old));
    still = itself refl_same fit;
  }

  -- the slots below the end
  pub cut : (slots left : List (Option A)) → left ≡ take end slots → end ≤ length slots → Each (λ piece slot. IfSome slot (Held' old piece)) slots → (length left ≡ end) × Each (λ piece slot. IfSome slot (Held' old piece)) left
  cut slots left is below each = (
    (let l = ap length is in let t = length-take end slots in omega arith),
    λ k slot got. each k slot (got_taken end slots k slot (ap (λ (l : List (Option A)). slice_get l k) (sym is) ∙ got)),
  )

  pub slot_held : (answers : List (ℕ × A)) (left rest : List (Option A)) (seats : List S) (slot : Option A) (n : ℕ) → left ≡ slot ∷ rest → n ≡ length answers → Finishing answers left seats → IfSome slot (Held' seats n)
  slot_held answers left rest seats None n is here f = tt
  slot_held answers left rest seats (Some a) n is here f = subst (λ (m : ℕ). Held' seats m a) (sym here) (subst (λ (m : ℕ). Held' seats m a) (let e : length answers + 0 ≡ length answers = omega arith in e) (f.held 0 a (ap (λ (l : List (Option A)). slice_get l 0) is)))

  pub inside : (answers : List (ℕ × A)) (left rest : List (Option A)) (seats : List S) (slot : Option A) (n : ℕ) → left ≡ slot ∷ rest → n ≡ length answers → Finishing answers left seats → n < end
  inside answers left rest seats slot n is here f = let l = ap length is in let w = f.long in omega arith

  then_still : ((a b c : S) → same a b → same b c → same a c) → (mid new : List S) → StillSeats fits done same old mid → StillSeats fits done same mid new → StillSeats fits done same old new
  then_still trans mid new x y = record {
    seats_same = record {
      count = y.seats_same.count ∙ x.seats_same.count;
      each = λ k s t a b. let m = got_below mid k (let w = slice_get_within old k s a in let c = x.seats_same.count in omega arith) in trans s m.0 t (x.seats_same.each k s m.0 a m.1) (y.seats_same.each k m.0 t m.1 b);
    };
    seats_fit = y.seats_fit;
    held = λ piece answer h. y.held piece answer (x.held piece answer h);
  }

  pub steps : ((a b c : S) → same a b → same b c → same a c) → (answers answers' : List (ℕ × A)) (left rest : List (Option A)) (seats seats' : List S) (slot : Option A) (n : ℕ) (a : A) → left ≡ slot ∷ rest → n ≡ length answers
      → StillSeats fits done same seats seats' → Held' seats' n a → answers' ≡ answers ++ (n, a) ∷ [] → Finishing answers left seats → Finishing answers' rest seats'
  steps trans answers answers' left rest seats seats' slot n a is here still one more f =
      let lift : (piece : ℕ) (b : A) → Held' seats piece b → Held' seats' piece b = λ piece b h. (h.0, h.1, still.held piece b h.2) in record {
        long = let l = ap length is in let m = ap length more in let p = length-append answers ((n, a) ∷ []) in let w = f.long in omega arith;
        held = λ k b got. subst (λ (m : ℕ). Held' seats' m b) (let m = ap length more in let p = length-append answers ((n, a) ∷ []) in let e : length answers + suc k ≡ length answers' + k = omega arith in e)
            (lift (length answers + suc k) b (f.held (suc k) b (ap (λ (l : List (Option A)). slice_get l (suc k)) is ∙ got)));
        answered = subst (Each (Row seats')) (sym more) (each_snoc (Row seats') answers (n, a) (λ k x got. let r = f.answered k x got in (r.0, lift k x.1 r.1)) (here, subst (λ (m : ℕ). Held' seats' m a) here one));
        still = then_still trans seats seats' f.still still;
      }

  none_fail : (answers : List (ℕ × A)) (left : List (Option A)) (seats : List S) (n : ℕ) → n ≡ length answers → Finishing answers left seats → NoneFails n fails
  none_fail answers left seats n here f piece below = let x = got_below answers piece (omega arith) in (f.answered piece x.0 x.1).1.0

  all_answered : (answers : List (ℕ × A)) (left : List (Option A)) (seats : List S) (n : ℕ) → n ≡ length answers → Finishing answers left seats → IsAnswered good n answers
  all_answered answers left seats n here f = record { count = sym here; each = λ k x got. let r = f.answered k x got in (r.0, r.1.1) }

  -- the caller came to a piece that fails
  pub fails_here : (answers : List (ℕ × A)) (left rest : List (Option A)) (seats : List S) (slot : Option A) (n : ℕ) (e : E) → left ≡ slot ∷ rest → n ≡ length answers → end ≤ count → (fails n ≡ true) × bad n e → Finishing answers left seats → HasFailed count fails good bad n e answers
  fails_here answers left rest seats slot n e is here below it f = record {
    first = record { inside = let i = inside answers left rest seats slot n is here f in omega arith; fails_itself = it.0; none_before = none_fail answers left seats n here f };
    its_own = it.1;
    answers = all_answered answers left seats n here f;
  }

  -- each was answered
  pub all_told : (answers : List (ℕ × A)) (left : List (Option A)) (seats : List S) → length left ≡ 0 → Finishing answers left seats → AllAnswered fails good done seats end answers
  all_told answers left seats none f = record { count = let l = f.long in omega arith; each = f.answered }

  told_all : (answers : List (ℕ × A)) (seats : List S) (n : ℕ) → n ≡ end → StillSeats fits done same old seats → AllAnswered fails good done seats n answers → Finishing answers [] seats
  told_all answers seats n here still t = record {
    long = let c = t.count in omega arith;
    held = λ k a got. absurd (cc);
    answered = t.each;
    still = still;
  }

  -- no failure came back
  pub all_ran : (ran : Ran A S) (n : ℕ) → n ≡ end → end ≡ count → StillSeats fits done same old ran.seats.items → AllAnswered fails good done ran.seats.items n ran.answers.items → HasRan count fails fits good done same old ran
  all_ran ran n is whole still t =
      let f = told_all ran.answers.items ran.seats.items n is still t in
      let here : count ≡ length ran.answers.items = let c = t.count in omega arith in record {
        none_fails = none_fail ran.answers.items [] ran.seats.items count here f;
        answers = all_answered ran.answers.items [] ran.seats.items count here f;
        answers_held = λ k x got. (t.each k x got).1.2;
        seats_same = still.seats_same;
        seats_fit = still.seats_fit;
      }

  -- the least failure that came back
  pub first_failed : (answers : List (ℕ × A)) (seats : List S) (n p : ℕ) (e : E) → n ≡ end → end ≡ p → (p < count) × (fails p ≡ true) × bad p e → StillSeats fits done same old seats → AllAnswered fails good done seats n answers → HasFailed count fails good bad p e answers
  first_failed answers seats n p e is here' it still t =
      let f = told_all answers seats n is still t in
      let here : p ≡ length answers = let c = t.count in omega arith in record {
        first = record { inside = it.0; fails_itself = it.1; none_before = none_fail answers [] seats p here f };
        its_own = it.2;
        answers = all_answered answers [] seats p here f;
      }
