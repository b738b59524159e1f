-- What the deques' owners have, as pieces are dealt and seats get their rights.
use Rattle.std.proofs.Common.{◌≡◌, ℕ, ◌+◌, ◌<◌, ◌≤◌, ◌%◌, ◌≢◌, nat_eq, Bool, true, false, List, [], ◌∷◌, length, map, set, get_or, refl, sym, ap, ◌∙◌, subst, Some, All, MatchBool, arith}
use Rattle.std.proofs.lemmas.Bool.{eqb-false, eqb-true}
use Rattle.std.proofs.lemmas.Nat.{mod_below}
use Rattle.std.proofs.lemmas.Option.{slice_get_read, slice_get_within}
use Rattle.std.specs.declared.alloc.Global.{Global}
use Rattle.crossbeam_deque.specs.Handles.{Pass, view, IsPassOf, worker_deque, worker_view, worker_flavor, SameWorker}
use Rattle.crossbeam_deque.specs.declared.handles.Worker.{Worker}
use Rattle.steal_pool.specs.declared.hand.Hand.{Hand}
use Rattle.steal_pool.specs.declared.hand.Deals.{Deals}
use Rattle.steal_pool.specs.Deals.{hand, HasPut, kept, given, left_over}
use Rattle.steal_pool.specs.Pools.{DequeId, Each, IsHome, Knows, Dealing, Serving, IsFresh, token_deque, known}
use Rattle.steal_pool.proofs.Homes.{home_here, home_else, home_empty}
use Rattle.steal_pool.proofs.Lists.{each_at, each_set, all_each, got_mapped, map_length}

abbrev Owner : Type 0
Owner = Worker ℕ Global Hand Deals

-- a new deque
pub opened : (deques at : ℕ) (w : Owner) → deques ≤ 16 → worker_flavor w ≡ 0 → worker_view w ≡ hand 1024 [] [] → Dealing deques 0 0 at w
opened deques at w few flavor is = record {
  flavor = flavor;
  taken = ap (λ (z : Hand). z.taken) is;
  home = subst (λ (l : List ℕ). IsHome 0 deques at l) (sym (ap (λ (z : Hand). z.home) is)) (home_empty deques at);
  enough = let p = ap (λ (z : Hand). z.parts) is in omega arith;
  whole = λ none. ap (λ (z : Hand). z.parts) is;
}

-- the next piece is dealt
pub dealt : (deques n : ℕ) (ws : List Owner) (w w' : Owner) → 0 < deques → Each (Dealing deques n 0) ws → n % deques < length ws → w ≡ get_or ws (n % deques) w
    → SameWorker w w' → HasPut (worker_view w) (n ∷ []) (worker_view w') → Each (Dealing deques (n + 1) 0) (set ws (n % deques) w')
dealt deques n ws w w' some all inside read same put =
    let old = each_at (Dealing deques n 0) ws (n % deques) w all inside read in
    each_set (Dealing deques (n + 1) 0) ws (n % deques) w'
    record {
      flavor = same.1 ∙ old.flavor;
      taken = ap (λ (z : Hand). z.taken) put ∙ old.taken;
      home = subst (λ (l : List ℕ). IsHome (n + 1) deques (n % deques) l) (sym (ap (λ (z : Hand). z.home) put)) (home_here n deques (worker_view w).home old.home);
      enough = let p = ap (λ (z : Hand). z.parts) put in let e = old.enough in omega arith;
      whole = λ none. ap (λ (z : Hand). z.parts) put ∙ old.whole none;
    }
    (λ k x other got. let o = all k x got in record { flavor = o.flavor; taken = o.taken; home = home_else n deques k (worker_view x).home other o.home; enough = o.enough; whole = o.whole })

pub within : (n len deques : ℕ) → len ≡ deques → 0 < deques → n % len < deques
within n len deques is some = subst (λ (k : ℕ). n % k < deques) (sym is) (mod_below n deques some)

-- the same where the number of deques was counted
pub dealt_at : (len deques n : ℕ) (ws : List Owner) (w w' : Owner) → len ≡ deques → 0 < deques → Each (Dealing deques n 0) ws → n % len < length ws → w ≡ get_or ws (n % len) w
    → SameWorker w w' → HasPut (worker_view w) (n ∷ []) (worker_view w') → Each (Dealing deques (n + 1) 0) (set ws (n % len) w')
dealt_at len deques n ws w w' is some all = subst (λ (k : ℕ). n % k < length ws → w ≡ get_or ws (n % k) w → SameWorker w w' → HasPut (worker_view w) (n ∷ []) (worker_view w') → Each (Dealing deques (n + 1) 0) (set ws (n % k) w')) (sym is) (dealt deques n ws w w' some all)

-- whether the seat is the last
pub is_last_true : (own len deques : ℕ) → len ≡ deques → nat_eq (own + 1) len ≡ true → own + 1 ≡ deques
is_last_true own len deques is e = eqb-true (own + 1) len e ∙ is

pub is_last_false : (own len deques : ℕ) → len ≡ deques → own < deques → nat_eq (own + 1) len ≡ false → own + 1 < deques
is_last_false own len deques is below e = let apart : own + 1 ≢ deques = λ q. eqb-false (own + 1) len e (q ∙ sym is) in omega (arith, apart)

-- no seat is served yet of this deque
pub unserved : (deques n served next : ℕ) (ws : List Owner) (w : Owner) → Each (Serving deques n served next) ws → next < length ws → w ≡ get_or ws next w → Dealing deques n served next w
unserved deques n served next ws w all inside read = (each_at (Serving deques n served next) ws next w all inside read).1 (omega arith)

pub begins : (deques n served : ℕ) (ws : List Owner) → Each (Dealing deques n served) ws → Each (Serving deques n served 0) ws
begins deques n served ws all k x got = ((λ below. absurd (omega arith)), λ from. all k x got)

pub ends : (deques n served next : ℕ) (ws : List Owner) → length ws ≤ next → Each (Serving deques n served next) ws → Each (Dealing deques n (served + 1)) ws
ends deques n served next ws whole all k x got = let w = slice_get_within ws k x got in (all k x got).0 (omega arith)

-- a right is cut off what an owner has: all of it, or one part
abbrev pub Cuts : Bool → Owner → Owner → Pass ℕ Hand Global → Type 0
Cuts is_last w w' q = MatchBool is_last ((worker_view w' ≡ left_over (worker_view w)) × (view q ≡ worker_view w)) ((worker_view w' ≡ kept (worker_view w)) × (view q ≡ given (worker_view w)))

-- what the owner keeps
serves_one : (deques n served next : ℕ) (w w' : Owner) (q : Pass ℕ Hand Global) (is_last : Bool) → (is_last ≡ true → served + 1 ≡ deques) → (is_last ≡ false → served + 1 < deques)
    → Dealing deques n served next w → SameWorker w w' → Cuts is_last w w' q → Dealing deques n (served + 1) next w'
serves_one deques n served next w w' q true last more old same cut = record {
  flavor = same.1 ∙ old.flavor;
  taken = ap (λ (z : Hand). z.taken) cut.0;
  home = subst (λ (l : List ℕ). IsHome n deques next l) (sym (ap (λ (z : Hand). z.home) cut.0)) old.home;
  enough = let l = last refl in omega arith;
  whole = λ none. absurd (omega arith);
}
serves_one deques n served next w w' q false last more old same cut = record {
  flavor = same.1 ∙ old.flavor;
  taken = ap (λ (z : Hand). z.taken) cut.0 ∙ old.taken;
  home = subst (λ (l : List ℕ). IsHome n deques next l) (sym (ap (λ (z : Hand). z.home) cut.0)) old.home;
  enough = let l = more refl in let e = old.enough in let p = ap (λ (z : Hand). z.parts) cut.0 in omega arith;
  whole = λ none. absurd (omega arith);
}

pub serves : (deques n served next : ℕ) (ws : List Owner) (w w' : Owner) (q : Pass ℕ Hand Global) (is_last : Bool) → (is_last ≡ true → served + 1 ≡ deques) → (is_last ≡ false → served + 1 < deques)
    → Each (Serving deques n served next) ws → next < length ws → w ≡ get_or ws next w → SameWorker w w' → Cuts is_last w w' q → Each (Serving deques n served (next + 1)) (set ws next w')
serves deques n served next ws w w' q is_last last more all inside read same cut =
    let new = serves_one deques n served next w w' q is_last last more (unserved deques n served next ws w all inside read) same cut in
    each_set (Serving deques n served (next + 1)) ws next w'
    ((λ below. new), λ from. absurd (omega arith))
    (λ k x other got. let o = all k x got in ((λ below. o.0 (omega (arith, other))), λ from. o.1 (omega arith)))

-- what the seat gets
knows_one : (deques n served next : ℕ) (w w' : Owner) (q : Pass ℕ Hand Global) (is_last : Bool) → (is_last ≡ true → served + 1 ≡ deques) → (is_last ≡ false → served + 1 < deques)
    → Dealing deques n served next w → Cuts is_last w w' q → Knows n deques next (known q) × ((known q).taken ≡ [])
knows_one deques n served next w w' q true last more old cut = (
  record {
    some_part = let l = last refl in let e = old.enough in let p = ap (λ (z : Hand). z.parts) cut.1 in omega arith;
    alone = λ one. ap (λ (z : Hand). z.parts) cut.1 ∙ old.whole (let l = last refl in omega arith);
    home = subst (λ (l : List ℕ). IsHome n deques next l) (sym (ap (λ (z : Hand). z.home) cut.1)) old.home;
  },
  ap (λ (z : Hand). z.taken) cut.1 ∙ old.taken,
)
knows_one deques n served next w w' q false last more old cut = (
  record {
    some_part = let p = ap (λ (z : Hand). z.parts) cut.1 in omega arith;
    alone = λ one. absurd (let l = more refl in omega arith);
    home = subst (λ (l : List ℕ). IsHome n deques next l) (sym (ap (λ (z : Hand). z.home) cut.1)) old.home;
  },
  ap (λ (z : Hand). z.taken) cut.1,
)

pub fresh : (n served next : ℕ) (ws : List Owner) (w w' : Owner) (q : Pass ℕ Hand Global) (is_last : Bool) → (is_last ≡ true → served + 1 ≡ length ws) → (is_last ≡ false → served + 1 < length ws)
    → Each (Serving (length ws) n served next) ws → next < length ws → w ≡ get_or ws next w → IsPassOf (worker_deque w) q → Cuts is_last w w' q → IsFresh (map worker_deque ws) n next q
fresh n served next ws w w' q is_last last more all inside read pass cut =
    let k = knows_one (length ws) n served next w w' q is_last last more (unserved (length ws) n served next ws w all inside read) cut in
    let deque : worker_deque w ≡ token_deque q = ap2 pass in record {
      deque = got_mapped worker_deque ws next w (slice_get_read ws (length ws) next w refl inside read) ∙ ap Some deque;
      nothing = (pass.2, pass.3);
      knows = subst (λ (d : ℕ). Knows n d next (known q)) (sym (map_length worker_deque ws)) k.0;
      taken = k.1;
    }
  where
    ap2 : IsPassOf (worker_deque w) q → worker_deque w ≡ token_deque q
    ap2 p = λ i. ((sym p.0) i, (sym p.1) i)

-- the number of deques stays
pub still_dealing : (n served : ℕ) (ws ws' : List Owner) → length ws' ≡ length ws → Each (Dealing (length ws) n served) ws' → Each (Dealing (length ws') n served) ws'
still_dealing n served ws ws' long all = subst (λ (d : ℕ). Each (Dealing d n served) ws') (sym long) all

pub still_serving : (n served next : ℕ) (ws ws' : List Owner) → length ws' ≡ length ws → Each (Serving (length ws) n served next) ws' → Each (Serving (length ws') n served next) ws'
still_serving n served next ws ws' long all = subst (λ (d : ℕ). Each (Serving d n served next) ws') (sym long) all

-- no deque is last in, first out
pub flavors : (deques n served : ℕ) (ws : List Owner) → Each (Dealing deques n served) ws → All (λ w. worker_flavor w ≡ 0) ws
flavors deques n served ws all = all_each (λ (w : Owner). worker_flavor w ≡ 0) ws (λ k w got. (all k w got).flavor)

pub fresh_as : (which which' : List DequeId) (n n' at at' : ℕ) (q : Pass ℕ Hand Global) → which ≡ which' → n ≡ n' → at ≡ at' → IsFresh which n at q → IsFresh which' n' at' q
fresh_as which which' n n' at at' q a b c f = subst (λ (w : List DequeId). IsFresh w n' at' q) a (subst (λ (m : ℕ). IsFresh which m at' q) b (subst (λ (k : ℕ). IsFresh which n k q) c f))
