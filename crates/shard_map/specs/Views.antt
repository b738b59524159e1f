-- What a seat of a map in shards knows, and how each step changes it.
use Rattle.std.specs.Prelude.{ℕ, zero, suc, ◌+◌, ◌-◌, ◌/◌, ◌<◌, ◌≤◌, Bool, false, not, ◌&&◌, ◌||◌, nat_lt, nat_le, List, [], ◌∷◌, ◌++◌, filter, map, replicate, Option, Some, None, slice_index_or, slice_set}
use Rattle.shard_map.specs.declared.view.Keep.{Keep}
use Rattle.shard_map.specs.declared.view.View.{View}

-- spans of pieces: each is the number of its first piece, and the number after that of its last
abbrev pub covers : List (ℕ × ℕ) → ℕ → Bool
covers [] p = false
covers (s ∷ ss) p = (nat_le s.0 p && nat_lt p s.1) || covers ss p

-- the spans begin at a or after, one behind the other, and none is empty
abbrev pub Rises : ℕ → List (ℕ × ℕ) → Type 0
Rises a [] = Unit {0}
Rises a (s ∷ ss) = (a ≤ s.0) × (s.0 < s.1) × Rises s.1 ss

-- n numbers from a on
abbrev pub counted : ℕ → ℕ → List ℕ
counted a zero = []
counted a (suc n) = a ∷ counted (suc a) n

-- the pieces of the spans, in order
abbrev pub pieces : List (ℕ × ℕ) → List ℕ
pieces [] = []
pieces (s ∷ ss) = counted s.0 (s.1 - s.0) ++ pieces ss

-- the pieces of the later spans that the earlier ones don't have
abbrev pub new_pieces : List (ℕ × ℕ) → List (ℕ × ℕ) → List ℕ
new_pieces began ended = filter (λ p. not (covers began p)) (pieces ended)

-- the spans of runs
abbrev pub spans : {P : Type 0} → (P → ℕ) → (P → ℕ) → List P → List (ℕ × ℕ)
spans start_of end_of xs = map (λ x. (start_of x, end_of x)) xs

abbrev pub pairs_of : ℕ → List ℕ → List (ℕ × ℕ)
pairs_of j ps = map (λ p. (j, p)) ps

abbrev pub keep : ℕ → ℕ → ℕ → Option ℕ → ℕ → List (ℕ × ℕ) → List (ℕ × ℕ) → Keep
keep reads last before left turns began ended = record { reads = reads; last = last; before = before; left = left; turns = turns; began = began; ended = ended }

-- of a shard that the seat has not seen
abbrev pub unseen : Keep
unseen = keep 0 0 0 None 0 [] []

-- one more read, which found n and left m
abbrev pub after_read : ℕ → ℕ → Keep → Keep
after_read n m k = keep (k.reads + 1) n k.last (Some m) k.turns k.began k.ended

-- one more read, which found n, left m and took the turn over these spans
abbrev pub after_take : ℕ → ℕ → List (ℕ × ℕ) → Keep → Keep
after_take n m began k = keep (k.reads + 1) n k.last (Some m) (k.turns + 1) began k.ended

-- the turn is over: m was left in the word, and these spans in the slot
abbrev pub after_end : ℕ → List (ℕ × ℕ) → Keep → Keep
after_end m ended k = keep k.reads k.last k.before (Some m) k.turns k.began ended

-- a seat that takes in another: turns are added, and what was left in the words is forgotten
abbrev pub both_keeps : List Keep → List Keep → List Keep
both_keeps [] ls = []
both_keeps (k ∷ ks) [] = keep k.reads k.last k.before None k.turns k.began k.ended ∷ both_keeps ks []
both_keeps (k ∷ ks) (l ∷ ls) = keep k.reads k.last k.before None (k.turns + l.turns) k.began k.ended ∷ both_keeps ks ls

-- the share of a seat beside which no other can make a step: 2 ^ 40
abbrev pub whole : ℕ
whole = 1099511627776

module _ {J : Type 0} where
  abbrev pub view : Option J → ℕ → List (ℕ × ℕ) → Option ℕ → List Keep → View J
  view job share pairs turn keeps = record { job = job; share = share; pairs = pairs; turn = turn; keeps = keeps }

  -- what the seat keeps of a shard
  abbrev pub keep_of : View J → ℕ → Keep
  keep_of v j = slice_index_or v.keeps j unseen

  abbrev pub with_keep : View J → ℕ → Keep → View J
  with_keep v j k = view v.job v.share v.pairs v.turn (slice_set v.keeps j k)

  -- the first seat
  abbrev pub opened : J → ℕ → View J
  opened job shards = view (Some job) whole [] None (replicate shards unseen)

  -- the seat read n in the word of shard j
  abbrev pub has_read : View J → ℕ → ℕ → View J
  has_read v j n = with_keep v j (after_read n n (keep_of v j))

  -- the seat found n there, made it m and has the turn of the shard, whose slot has these spans
  abbrev pub has_taken : View J → ℕ → ℕ → ℕ → List (ℕ × ℕ) → View J
  has_taken v j n m began = view v.job v.share v.pairs (Some j) (slice_set v.keeps j (after_take n m began (keep_of v j)))

  -- the turn is over: the word is m, the slot has these spans, and these pairs came in
  abbrev pub has_ended : View J → ℕ → ℕ → List (ℕ × ℕ) → List (ℕ × ℕ) → View J
  has_ended v j m ended new = view v.job v.share (new ++ v.pairs) None (slice_set v.keeps j (after_end m ended (keep_of v j)))

  -- what is left after a split
  abbrev pub rest_of : View J → View J
  rest_of v = view v.job (v.share - v.share / 2) v.pairs v.turn v.keeps

  -- what the new seat gets: half of the share, rounded down, and no pair
  abbrev pub half_of : View J → View J
  half_of v = view v.job (v.share / 2) [] None (map (λ k. unseen) v.keeps)

  abbrev pub joined : View J → View J → View J
  joined v w = view v.job (v.share + w.share) (v.pairs ++ w.pairs) v.turn (both_keeps v.keeps w.keeps)

  -- a seat that was taken in knows nothing
  abbrev pub spent : View J
  spent = view None 0 [] None []

  abbrev pub total : List (View J) → ℕ
  total [] = 0
  total (v ∷ vs) = v.share + total vs
