-- What seats have of the parts of pieces, and what workers bring back.
use Rattle.std.specs.Prelude.{◌≡◌, ℕ, zero, suc, ◌+◌, ◌*◌, ◌<◌, ◌⊎◌, List, [], ◌∷◌, ◌++◌, length, Some, All, Contains, slice_get, refl}
use Rattle.std.proofs.Common.{◌∙◌}
use Rattle.shard_map.specs.Seats.{Seen}
use Rattle.phase_enter.specs.declared.enters.Answer.{Answer}

module _ {J : Type 0} where
  -- the pair of shard and piece is in the seat's list
  abbrev pub Has : Seen J → ℕ → ℕ → Type 0
  Has s shard piece = Contains {X = ℕ × ℕ} s.view.pairs (shard, piece)

  -- each pair of a shard and a piece is in the seat's list
  abbrev pub HasAll : ℕ → ℕ → Seen J → Type 0
  HasAll shards pieces s = (shard piece : ℕ) → shard < shards → piece < pieces → Has s shard piece

  -- the seat is still of the same map and job, with the same share, and its list has lost nothing
  pub record Grows (old new : Seen J) : Type 0 where
    pub which : new.which ≡ old.which
    pub job : new.view.job ≡ old.view.job
    pub share : new.view.share ≡ old.view.share
    pub pairs : (shard piece : ℕ) → Has old shard piece → Has new shard piece

  pub grows_itself : (s : Seen J) → Grows s s
  grows_itself s = record { which = refl; job = refl; share = refl; pairs = λ shard piece has. has }

  pub grows_then : (a b c : Seen J) → Grows a b → Grows b c → Grows a c
  grows_then a b c p q = record {
    which = q.which ∙ p.which;
    job = q.job ∙ p.job;
    share = q.share ∙ p.share;
    pairs = λ shard piece has. q.pairs shard piece (p.pairs shard piece has);
  }

  -- the shares of some seats, added up
  abbrev pub shares : List (Seen J) → ℕ
  shares [] = 0
  shares (s ∷ ss) = s.view.share + shares ss

  -- the seat took in others: it has their shares and their pairs beside its own
  pub record Joined (old : Seen J) (others : List (Seen J)) (new : Seen J) : Type 0 where
    pub share : new.view.share ≡ old.view.share + shares others
    pub own : (shard piece : ℕ) → Has old shard piece → Has new shard piece
    pub theirs : (s : Seen J) → Contains others s → (shard piece : ℕ) → Has s shard piece → Has new shard piece

-- a share that can be halved so often
abbrev pub halved : ℕ → ℕ
halved zero = 1
halved (suc n) = 2 * halved n

-- the rests are those of the first n pieces, in order
pub record AreRests {R : Type 0} (n : ℕ) (rest : ℕ → R) (rests : List R) : Type 0 where
  pub count : length rests ≡ n
  pub each : (piece : ℕ) (x : R) → slice_get rests piece ≡ Some x → x ≡ rest piece

module _ {P : Type 0} (shards : ℕ) (part : ℕ → ℕ → P) where
  -- the parts that a piece gives, one for each shard, in order of shards
  pub record AreParts (piece : ℕ) (parts : List P) : Type 0 where
    pub count : length parts ≡ shards
    pub each : (shard : ℕ) (x : P) → slice_get parts shard ≡ Some x → x ≡ part shard piece

  -- a part that was kept, with its shard
  abbrev pub IsKept : ℕ → (ℕ × P) → Type 0
  IsKept piece x = (x.0 < shards) × (x.1 ≡ part x.0 piece)

-- the part is in the map, and what is kept is as it was, or the part is kept
abbrev pub TookCareOf : {J P : Type 0} → Seen J → ℕ → ℕ → P → List (ℕ × P) → List (ℕ × P) → Type 0
TookCareOf s shard piece x old new = (Has s shard piece × (new ≡ old)) ⊎ (new ≡ old ++ (shard, x) ∷ [])

-- of each shard below n the pair is in the seat's list or the part is kept
abbrev pub IsCovered : {J P : Type 0} → ℕ → Seen J → ℕ → List (ℕ × P) → Type 0
IsCovered {J} {P} n s piece kept = (shard : ℕ) → shard < n → Has s shard piece ⊎ ((x : P) × Contains {X = ℕ × P} kept (shard, x))

-- the pairs of these parts are in the seat's list
abbrev pub AreEntered : {J P : Type 0} → Seen J → ℕ → List (ℕ × P) → Type 0
AreEntered {J} {P} s piece kept = (shard : ℕ) (x : P) → Contains {X = ℕ × P} kept (shard, x) → Has s shard piece

-- there is an answer for each piece, in order: its own rest, its own parts where some were kept, and all others in the seat's list
pub record AreAnswers {J P R : Type 0} (shards pieces : ℕ) (part : ℕ → ℕ → P) (rest : ℕ → R) (s : Seen J) (answers : List (ℕ × Answer P R)) : Type 0 where
  pub count : length answers ≡ pieces
  pub each : (k : ℕ) (x : ℕ × Answer P R) → slice_get answers k ≡ Some x → (x.0 ≡ k) × (x.1.rest ≡ rest k) × All (IsKept shards part k) x.1.kept.items × IsCovered shards s k x.1.kept.items
