-- What a seat knows, as it is made and as it takes.
use Rattle.std.proofs.Common.{◌≡◌, ℕ, ◌+◌, ◌<◌, ◌≤◌, ◌%◌, List, [], ◌∷◌, length, map, set, get_or, refl, sym, ap, ◌∙◌, subst, ⊎_elim, slice_get, Some, None, Option, All, MatchOption, true, false, arith}
use Rattle.std.specs.Option.{is_some}
use Rattle.std.proofs.lemmas.Bool.{cases_lt}
use Rattle.std.proofs.lemmas.List.{length-set}
use Rattle.std.proofs.lemmas.List.Elements.{All-get_or, All-set, All-map}
use Rattle.std.proofs.lemmas.Option.{slice_get_read, slice_get_within}
use Rattle.std.specs.declared.alloc.Global.{Global}
use Rattle.crossbeam_deque.specs.Handles.{Pass, IsPassOf, stealer_deque, stealer_flavor}
use Rattle.crossbeam_deque.specs.declared.handles.Stealer.{Stealer}
use Rattle.steal_pool.specs.declared.hand.Hand.{Hand}
use Rattle.steal_pool.specs.declared.hand.Deals.{Deals}
use Rattle.steal_pool.specs.Deals.{HasTaken, FoundEmpty}
use Rattle.steal_pool.specs.Pools.{DequeId, Deques, Hands, hands, Each, Knows, IsSeatOf, IsFresh, CarriesNothing, NothingTaken, AllEmpty, EmptyBetween, TookFrom, TookPiece, HasAll, Ready, token_deque, known}
use Rattle.steal_pool.proofs.Lists.{some_is, each_set, got_mapped, map_same, map_set, map_length, all_each, each_map}
use Rattle.steal_pool.proofs.Moves.{times_here, took_all}

abbrev Token : Type 0
Token = Pass ℕ Hand Global

abbrev Thief : Type 0
Thief = Stealer ℕ Global Hand Deals

-- a seat with fresh rights
pub made : (pool : Deques) (own : ℕ) (qs : List Token) → map token_deque qs ≡ pool.which → Each (IsFresh pool.which pool.pieces) qs → own < length pool.which
    → IsSeatOf pool (hands own (map token_deque qs) (map known qs)) × NothingTaken (map known qs)
made pool own qs which fresh below = (
  record {
    which = which;
    views = map_length known qs ∙ (sym (map_length token_deque qs) ∙ ap length which);
    own = below;
    each = each_map (Knows pool.pieces (length pool.which)) known qs (λ k q got. (fresh k q got).knows);
  },
  All-map (λ (v : Hand). v.taken ≡ []) known qs (all_each (λ (q : Token). (known q).taken ≡ []) qs (λ k q got. (fresh k q got).taken)),
)

pub carries : (which : List DequeId) (n : ℕ) (qs : List Token) → Each (IsFresh which n) qs → All CarriesNothing qs
carries which n qs fresh = all_each CarriesNothing qs (λ k q got. (fresh k q got).nothing)

-- a seat is ready to take
pub ready : (pool : Deques) (pieces own : ℕ) (ts : List Thief) (qs : List Token) → map stealer_deque ts ≡ pool.which → All (λ t. stealer_flavor t ≡ 0) ts → All CarriesNothing qs → IsSeatOf pool (hands own (map token_deque qs) (map known qs)) → Ready ts qs
ready pool pieces own ts qs which flavor nothing seat = record {
  which = seat.which ∙ sym which;
  flavor = flavor;
  nothing = nothing;
  parts = all_each (λ (q : Token). 0 < (known q).parts) qs (λ k q got. (seat.each k (known q) (got_mapped known qs k q got)).some_part);
}

-- at one deque
long : (ts : List Thief) (qs : List Token) → Ready ts qs → length qs ≡ length ts
long ts qs r = sym (map_length token_deque qs) ∙ (ap length r.which ∙ map_length stealer_deque ts)

pub pass_at : (ts : List Thief) (qs : List Token) (at : ℕ) (t : Thief) (q : Token) → Ready ts qs → at < length ts → t ≡ get_or ts at t → q ≡ get_or qs at q → IsPassOf (stealer_deque t) q
pass_at ts qs at t q r below t_is q_is =
    let here : at < length qs = let l = long ts qs r in omega arith in
    let a = got_mapped token_deque qs at q (slice_get_read qs (length qs) at q refl here q_is) in
    let b = got_mapped stealer_deque ts at t (slice_get_read ts (length ts) at t refl below t_is) in
    let same : token_deque q ≡ stealer_deque t = some_is _ _ (sym a ∙ (ap (λ (l : List DequeId). slice_get l at) r.which ∙ b)) in
    let none : CarriesNothing q = subst CarriesNothing (sym q_is) (All-get_or CarriesNothing qs at q here r.nothing) in
    (ap (λ (d : DequeId). d.0) same, ap (λ (d : DequeId). d.1) same, none.0, none.1)

parts_stay : (r : Option ℕ) (q q' : Token) → MatchOption r ((known q' ≡ known q) × FoundEmpty (known q)) (λ x. HasTaken (known q) (x ∷ []) (known q')) → (known q').parts ≡ (known q).parts
parts_stay None q q' took = ap (λ (v : Hand). v.parts) took.0
parts_stay (Some x) q q' took = ap (λ (v : Hand). v.parts) took.0

pub stays_ready : (ts : List Thief) (qs : List Token) (at : ℕ) (t : Thief) (q q' : Token) (r : Option ℕ) → Ready ts qs → at < length ts → t ≡ get_or ts at t → q ≡ get_or qs at q → IsPassOf (stealer_deque t) q'
    → MatchOption r ((known q' ≡ known q) × FoundEmpty (known q)) (λ x. HasTaken (known q) (x ∷ []) (known q'))
    → Ready ts (set qs at q') × (map token_deque (set qs at q') ≡ map token_deque qs)
stays_ready ts qs at t q q' r old below t_is q_is pass took =
    let here : at < length qs = let l = long ts qs old in omega arith in
    let before = pass_at ts qs at t q old below t_is q_is in
    let same : map token_deque (set qs at q') ≡ map token_deque qs = map_same token_deque qs at q q' (slice_get_read qs (length qs) at q refl here q_is) (λ i. ((pass.0 ∙ sym before.0) i, (pass.1 ∙ sym before.1) i)) in
    let some : 0 < (known q').parts = subst (λ (n : ℕ). 0 < n) (sym (parts_stay r q q' took)) (subst (λ (z : Token). 0 < (known z).parts) (sym q_is) (All-get_or (λ (z : Token). 0 < (known z).parts) qs at q here old.parts)) in (
      record {
        which = same ∙ old.which;
        flavor = old.flavor;
        nothing = All-set CarriesNothing qs at q' (pass.2, pass.3) old.nothing;
        parts = All-set (λ (z : Token). 0 < (known z).parts) qs at q' some old.parts;
      },
      same,
    )

pub took_at : (ts : List Thief) (qs : List Token) (at : ℕ) (q q' : Token) (r : Option ℕ) → Ready ts qs → at < length ts → q ≡ get_or qs at q
    → MatchOption r ((known q' ≡ known q) × FoundEmpty (known q)) (λ x. HasTaken (known q) (x ∷ []) (known q'))
    → MatchOption r ((map known (set qs at q') ≡ map known qs) × EmptyBetween (map known qs) at (at + 1)) (λ x. TookFrom at (map known qs) x (map known (set qs at q')))
took_at ts qs at q q' None old below q_is took =
    let here : at < length qs = let l = long ts qs old in omega arith in
    let got = slice_get_read qs (length qs) at q refl here q_is in (
      map_same known qs at q q' got took.0,
      (λ k v there from to. let e : k ≡ at = omega arith in subst FoundEmpty (some_is _ _ (sym (got_mapped known qs at q got) ∙ (ap (λ (n : ℕ). slice_get (map known qs) n) (sym e) ∙ there))) took.1),
    )
took_at ts qs at q q' (Some x) old below q_is took =
    let here : at < length qs = let l = long ts qs old in omega arith in
    let got = slice_get_read qs (length qs) at q refl here q_is in
    let one = times_here x in let fits = took.1 x in let once = took.2 x in record {
      before = known q;
      before_is = got_mapped known qs at q got;
      fresh = omega arith;
      of_home = omega arith;
      after = map_set known qs at q' ∙ ap (λ (v : Hand). set (map known qs) at v) took.0;
    }

-- one more deque was empty
pub empty_more : (vs : List Hand) (from at : ℕ) → EmptyBetween vs from at → EmptyBetween vs at (at + 1) → EmptyBetween vs from (at + 1)
empty_more vs from at low here k v got lo hi = ⊎_elim (λ (l : k < at). low k v got lo l) (λ (l : at ≤ k). here k v got l hi) (cases_lt k at)

pub empty_all : (vs : List Hand) (own n : ℕ) → length vs ≡ n → EmptyBetween vs own n → EmptyBetween vs 0 own → AllEmpty vs
empty_all vs own n long high low = all_each FoundEmpty vs (λ k v got. ⊎_elim (λ (l : k < own). low k v got (omega arith) l) (λ (l : own ≤ k). let w = slice_get_within vs k v got in high k v got l (omega arith)) (cases_lt k own))

-- the only seat has taken all
pub has_all : (pool : Deques) (seat : Hands) → IsSeatOf pool seat → AllEmpty seat.views → HasAll pool.pieces seat.views
has_all pool seat is empty v one x below =
    let got : slice_get seat.views 0 ≡ Some v = ap (λ (l : List Hand). slice_get l 0) one in
    let deques : length pool.which ≡ 1 = sym is.views ∙ ap length one in
    let knows = is.each 0 v got in
    let found : FoundEmpty v = subst FoundEmpty (here one) (All-get_or FoundEmpty seat.views 0 v (let l = ap length one in omega arith) empty) in
    let all = took_all v (knows.alone deques) found x in
    let once = knows.home.once x in
    let some = knows.home.all x below (subst (λ (d : ℕ). x % d ≡ 0) (sym deques) (omega arith)) in
    omega arith
  where
    here : seat.views ≡ v ∷ [] → get_or seat.views 0 v ≡ v
    here e = ap (λ (l : List Hand). get_or l 0 v) e

-- a piece was taken
pub took_piece : (pool : Deques) (own : ℕ) (qs qs' : List Token) (x : ℕ) → IsSeatOf pool (hands own (map token_deque qs) (map known qs)) → map token_deque qs' ≡ map token_deque qs
    → (at : ℕ) × TookFrom at (map known qs) x (map known qs')
    → IsSeatOf pool (hands own (map token_deque qs') (map known qs')) × TookPiece pool (hands own (map token_deque qs) (map known qs)) x (hands own (map token_deque qs') (map known qs'))
took_piece pool own qs qs' x seat same some =
    let at = some.0 in
    let took : TookFrom at (map known qs) x (map known qs') = some.1 in
    let old = seat.each at took.before took.before_is in
    let inside = old.home.inside x took.of_home in (
      record {
        which = same ∙ seat.which;
        views = ap length took.after ∙ (length-set (map known qs) at _ ∙ seat.views);
        own = seat.own;
        each = subst (Each (Knows pool.pieces (length pool.which))) (sym took.after) (each_set (Knows pool.pieces (length pool.which)) (map known qs) at _ record { some_part = old.some_part; alone = old.alone; home = old.home } (λ k v other got. seat.each k v got));
      },
      (
        inside.0,
        subst (λ (k : ℕ). TookFrom k (map known qs) x (map known qs')) (sym inside.1) took,
        ap (λ (w : List DequeId). hands own w (map known qs')) same,
      ),
    )

pub stays_seat : (pool : Deques) (own : ℕ) (qs qs' : List Token) → IsSeatOf pool (hands own (map token_deque qs) (map known qs)) → map token_deque qs' ≡ map token_deque qs → map known qs' ≡ map known qs
    → hands own (map token_deque qs') (map known qs') ≡ hands own (map token_deque qs) (map known qs)
stays_seat pool own qs qs' seat which views = λ i. hands own (which i) (views i)

-- what a seat is told of its next piece
abbrev pub Told : Deques → Option ℕ → Hands → Hands → Type 0
Told pool r old new = MatchOption r ((new ≡ old) × AllEmpty old.views × HasAll pool.pieces old.views) (λ x. TookPiece pool old x new)

-- what a search of some deques came to
abbrev pub Searched : List Token → List Token → Option ℕ → ℕ → ℕ → Type 0
Searched qs qs' r from to = MatchOption r ((map known qs' ≡ map known qs) × EmptyBetween (map known qs) from to) (λ x. (at : ℕ) × TookFrom at (map known qs) x (map known qs'))

abbrev pub seat_of : ℕ → List Token → Hands
seat_of own qs = hands own (map token_deque qs) (map known qs)

pub next_seat : (pool : Deques) (own : ℕ) (qs qs' : List Token) (r : Option ℕ) (from to : ℕ) → IsSeatOf pool (seat_of own qs) → map token_deque qs' ≡ map token_deque qs → Searched qs qs' r from to → IsSeatOf pool (seat_of own qs')
next_seat pool own qs qs' None from to seat same none = subst (IsSeatOf pool) (sym (stays_seat pool own qs qs' seat same none.0)) seat
next_seat pool own qs qs' (Some x) from to seat same some = (took_piece pool own qs qs' x seat same some).0

-- a piece was in the first deques
pub some_first : (pool : Deques) (own : ℕ) (qs qs' : List Token) (r : Option ℕ) (from to : ℕ) → is_some r ≡ true → IsSeatOf pool (seat_of own qs) → map token_deque qs' ≡ map token_deque qs → Searched qs qs' r from to
    → Told pool r (seat_of own qs) (seat_of own qs')
some_first pool own qs qs' None from to is seat same none = absurd (cc)
some_first pool own qs qs' (Some x) from to is seat same some = (took_piece pool own qs qs' x seat same some).1

-- none was there
pub none_first : (qs qs' : List Token) (r : Option ℕ) (from to : ℕ) → is_some r ≡ false → Searched qs qs' r from to → (map known qs' ≡ map known qs) × EmptyBetween (map known qs) from to
none_first qs qs' None from to is none = none
none_first qs qs' (Some x) from to is some = absurd (cc)

-- and the other deques were searched
none_then : (pool : Deques) (own to : ℕ) (qs qs' : List Token) (r : Option ℕ) → length (map known qs) ≡ to → IsSeatOf pool (seat_of own qs) → map token_deque qs' ≡ map token_deque qs → EmptyBetween (map known qs) own to → Searched qs qs' r 0 own
    → Told pool r (seat_of own qs) (seat_of own qs')
none_then pool own to qs qs' None long seat same high none =
    let empty = empty_all (map known qs) own to long high none.1 in
    (stays_seat pool own qs qs' seat same none.0, empty, has_all pool (seat_of own qs) seat empty)
none_then pool own to qs qs' (Some x) long seat same high some = (took_piece pool own qs qs' x seat same some).1

pub then_others : (pool : Deques) (own to : ℕ) (qs qs' qs'' : List Token) (first second : Option ℕ) → to ≡ length pool.which → IsSeatOf pool (seat_of own qs)
    → map token_deque qs' ≡ map token_deque qs → is_some first ≡ false → Searched qs qs' first own to
    → map token_deque qs'' ≡ map token_deque qs' → Searched qs' qs'' second 0 own
    → Told pool second (seat_of own qs) (seat_of own qs'')
then_others pool own to qs qs' qs'' first second to_is seat same is one same' two =
    let none = none_first qs qs' first own to is one in
    let between = next_seat pool own qs qs' first own to seat same one in
    let high : EmptyBetween (map known qs') own to = subst (λ (l : List Hand). EmptyBetween l own to) (sym none.0) none.1 in
    subst (λ (s : Hands). Told pool second s (seat_of own qs'')) (stays_seat pool own qs qs' seat same none.0) (none_then pool own to qs' qs'' second (between.views ∙ sym to_is) between same' high two)

-- the same where the deques and the pieces are those of their owners
pub made_at : (pool : Deques) (own n : ℕ) (which : List DequeId) (long : ℕ) (qs : List Token) → pool.which ≡ which → pool.pieces ≡ n → (map token_deque qs ≡ which) × Each (IsFresh which n) qs → length which ≡ long → own < long
    → IsSeatOf pool (seat_of own qs) × NothingTaken (map known qs)
made_at pool own n which long qs which_is n_is fresh long_is below = made pool own qs (fresh.0 ∙ sym which_is)
    (λ k q got. subst (λ (m : ℕ). IsFresh pool.which m k q) (sym n_is) (subst (λ (w : List DequeId). IsFresh w n k q) (sym which_is) (fresh.1 k q got)))
    (let e = ap length which_is in omega arith)
