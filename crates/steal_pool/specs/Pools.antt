-- A pool and its seats, as clauses see them.
use Rattle.std.specs.Prelude.{◌≡◌, ℕ, ◌+◌, ◌<◌, ◌≤◌, ◌%◌, All, List, [], ◌∷◌, ◌++◌, length, map, None, Some, slice_get, slice_set}
use Rattle.std.specs.declared.alloc.Global.{Global}
use Rattle.atomic_blocks.specs.Lent.{RowsId}
use Rattle.crossbeam_deque.specs.Handles.{Pass, worker_view, worker_flavor, stealer_deque, stealer_flavor}
use Rattle.crossbeam_deque.specs.declared.handles.Stealer.{Stealer}
use Rattle.crossbeam_deque.specs.declared.handles.Worker.{Worker}
use Rattle.steal_pool.specs.declared.hand.Hand.{Hand}
use Rattle.steal_pool.specs.declared.hand.Deals.{Deals}
use Rattle.steal_pool.specs.Deals.{hand, times, FoundEmpty}

-- which deque it is
abbrev pub DequeId : Type 0
DequeId = RowsId × Global

-- F of each element and its number
abbrev pub Each : {X : Type 0} → (ℕ → X → Type 0) → List X → Type 0
Each {X} F xs = (k : ℕ) (x : X) → slice_get xs k ≡ Some x → F k x

-- a pool as a clause sees it: how many pieces it was opened with, and which deques it has
pub record Deques : Type 0 where
  pub pieces : ℕ
  pub which : List DequeId

abbrev pub deques : ℕ → List DequeId → Deques
deques pieces which = record { pieces = pieces; which = which }

-- a seat as a clause sees it: which deque is its own, which deques it may take from, and what it knows of each
pub record Hands : Type 0 where
  pub own : ℕ
  pub which : List DequeId
  pub views : List Hand

abbrev pub hands : ℕ → List DequeId → List Hand → Hands
hands own which views = record { own = own; which = which; views = views }

-- The home of a deque is the pieces whose number leaves its number when it is divided by the number of deques, each once.
-- [Ours: dealt in turn, the pieces go out about in order, so that a failing piece is known early wherever it stands]
pub record IsHome (pieces deques at : ℕ) (home : List ℕ) : Type 0 where
  pub once : (x : ℕ) → times x home ≤ 1
  pub inside : (x : ℕ) → 0 < times x home → (x < pieces) × (x % deques ≡ at)
  pub all : (x : ℕ) → x < pieces → x % deques ≡ at → 0 < times x home

-- the seat knows the deque's home; where it is the only seat, it has all parts
pub record Knows (pieces deques at : ℕ) (v : Hand) : Type 0 where
  pub some_part : 0 < v.parts
  pub alone : deques ≡ 1 → v.parts ≡ 1024
  pub home : IsHome pieces deques at v.home

-- the seat was opened with this pool
pub record IsSeatOf (pool : Deques) (seat : Hands) : Type 0 where
  pub which : seat.which ≡ pool.which
  pub views : length seat.views ≡ length pool.which
  pub own : seat.own < length pool.which
  pub each : Each (Knows pool.pieces (length pool.which)) seat.views

-- each deque was empty, at a moment at which the seat knew what it knows
abbrev pub AllEmpty : List Hand → Type 0
AllEmpty views = All FoundEmpty views

abbrev pub EmptyBetween : List Hand → ℕ → ℕ → Type 0
EmptyBetween views from to = Each (λ k v. from ≤ k → k < to → FoundEmpty v) views

-- the seat has taken nothing
abbrev pub NothingTaken : List Hand → Type 0
NothingTaken views = All (λ v. v.taken ≡ []) views

-- the number joined the seat's list of what it took from the deque of that number, in which it wasn't
pub record TookFrom (at : ℕ) (old : List Hand) (x : ℕ) (new : List Hand) : Type 0 where
  pub before : Hand
  pub before_is : slice_get old at ≡ Some before
  pub fresh : times x before.taken ≡ 0
  pub of_home : 0 < times x before.home
  pub after : new ≡ slice_set old at (hand before.parts before.home (before.taken ++ x ∷ []))

-- a piece left its home deque and joined the list of what the seat took from there, in which it wasn't
abbrev pub TookPiece : Deques → Hands → ℕ → Hands → Type 0
TookPiece pool old x new = (x < pool.pieces) × TookFrom (x % length pool.which) old.views x new.views × (new ≡ hands old.own old.which new.views)

-- the only seat of a pool has taken every piece
abbrev pub HasAll : ℕ → List Hand → Type 0
HasAll pieces views = (v : Hand) → views ≡ v ∷ [] → (x : ℕ) → x < pieces → times x v.taken ≡ 1

-- which deque a seat's right to take is of
abbrev pub token_deque : Pass ℕ Hand Global → DequeId
token_deque q = (q.rows, q.heap)

-- what the seat knows of that deque
abbrev pub known : Pass ℕ Hand Global → Hand
known q = q.me.view.client

-- it carries nothing
abbrev pub CarriesNothing : Pass ℕ Hand Global → Type 0
CarriesNothing q = (q.me.hand ≡ None) × (q.me.spare ≡ None)

-- The owner of one of several deques, when the pieces below n are dealt and so many seats have their rights: it has a part for each
-- seat that is to come, and all parts before the first, and has taken nothing
pub record Dealing (deques n served at : ℕ) (w : Worker ℕ Global Hand Deals) : Type 0 where
  pub flavor : worker_flavor w ≡ 0
  pub taken : (worker_view w).taken ≡ []
  pub home : IsHome n deques at (worker_view w).home
  pub enough : deques ≤ (worker_view w).parts + served
  pub whole : served ≡ 0 → (worker_view w).parts ≡ 1024

-- the owners below a number have served one seat more than those from it on
abbrev pub Serving : ℕ → ℕ → ℕ → ℕ → ℕ → Worker ℕ Global Hand Deals → Type 0
Serving deques n served next at w = (at < next → Dealing deques n (served + 1) at w) × (next ≤ at → Dealing deques n served at w)

-- a right to take from the deque of that number, whose holder knows its home and has taken nothing
pub record IsFresh (which : List DequeId) (n at : ℕ) (q : Pass ℕ Hand Global) : Type 0 where
  pub deque : slice_get which at ≡ Some (token_deque q)
  pub nothing : CarriesNothing q
  pub knows : Knows n (length which) at (known q)
  pub taken : (known q).taken ≡ []

-- with these rights one may take from the deques of these handles
pub record Ready (thieves : List (Stealer ℕ Global Hand Deals)) (tokens : List (Pass ℕ Hand Global)) : Type 0 where
  pub which : map token_deque tokens ≡ map stealer_deque thieves
  pub flavor : All (λ t. stealer_flavor t ≡ 0) thieves
  pub nothing : All CarriesNothing tokens
  pub parts : All (λ q. 0 < (known q).parts) tokens
