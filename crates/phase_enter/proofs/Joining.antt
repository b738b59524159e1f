-- Seats that are split off, and joined again.
use Rattle.std.proofs.Common.{◌≡◌, ℕ, zero, suc, ◌+◌, ◌-◌, ◌<◌, ◌≤◌, ◌⊎◌, List, [], ◌∷◌, ◌++◌, length, refl, sym, ap, ◌∙◌, subst, inl, inr, ⊎_elim, arith}
use Rattle.std.specs.Prelude.{Contains}
use Rattle.std.proofs.lemmas.List.Elements.{Contains-append_left, Contains-append_right}
use Rattle.shard_map.specs.declared.view.View.{View}
use Rattle.shard_map.specs.Seats.{Seen}
use Rattle.shard_map.specs.Views.{joined, rest_of, half_of}
use Rattle.steal_pool.specs.Works.{SameSeats}
use Rattle.phase_enter.specs.Entries.{Has, Grows, Joined, shares, halved}
use Rattle.phase_enter.proofs.Elements.{Contains-cons, nothing_in}

less : (w k : ℕ) → k < w → w - k ≡ suc (w - (k + 1))
less w k low = omega arith

module _ {J : Type 0} where
  pub shares-snoc : (ss : List (Seen J)) (s : Seen J) → shares (ss ++ s ∷ []) ≡ shares ss + s.view.share
  shares-snoc [] s = omega arith
  shares-snoc (x ∷ ss) s = let m = shares-snoc ss s in omega arith

  -- one more seat is split off
  pub still_shared : (all : ℕ) (s t made : Seen J) (ss ss' : List (Seen J)) → t.view ≡ rest_of s.view → made.view ≡ half_of s.view → ss' ≡ ss ++ made ∷ [] → s.view.share + shares ss ≡ all → t.view.share + shares ss' ≡ all
  still_shared all s t made ss ss' rest half more is =
      let r = ap (λ (v : View J). v.share) rest in
      let h = ap (λ (v : View J). v.share) half in
      let m = ap shares more ∙ shares-snoc ss made in omega arith

  -- a share that can be halved once more is at least 2
  pub can_split : (w k : ℕ) (s : Seen J) → k < w → halved (w - k) ≤ s.view.share → 2 ≤ s.view.share
  can_split w k s low l = let h = subst (λ (n : ℕ). halved n ≤ s.view.share) (less w k low) l in let p = some (w - (k + 1)) in omega arith
    where
      some : (m : ℕ) → 0 < halved m
      some zero = omega arith
      some (suc m) = let p = some m in omega arith

  -- and what is left can be halved once less
  pub still_halved : (w k : ℕ) (s t : Seen J) → k < w → t.view ≡ rest_of s.view → halved (w - k) ≤ s.view.share → halved (w - (k + 1)) ≤ t.view.share
  still_halved w k s t low rest l = let h = subst (λ (n : ℕ). halved n ≤ s.view.share) (less w k low) l in let r = ap (λ (v : View J). v.share) rest in omega arith

  -- the seat, while others are joined into it: what it and those that are left have is what it and all have
  pub record Joining (old : Seen J) (others : List (Seen J)) (now : Seen J) (left : List (Seen J)) : Type 0 where
    pub share : now.view.share + shares left ≡ old.view.share + shares others
    pub own : (shard piece : ℕ) → Has old shard piece → Has now shard piece
    pub theirs : (s : Seen J) → Contains others s → ((shard piece : ℕ) → Has s shard piece → Has now shard piece) ⊎ Contains left s

  pub joins_none : (old : Seen J) (others : List (Seen J)) → Joining old others old others
  joins_none old others = record { share = refl; own = λ shard piece has. has; theirs = λ s c. inr c }

  pub joins_one : (old : Seen J) (others : List (Seen J)) (now next other : Seen J) (left rest : List (Seen J)) → left ≡ other ∷ rest → next.view ≡ joined now.view other.view → Joining old others now left → Joining old others next rest
  joins_one old others now next other left rest is both j = record {
    share = let l = ap shares is in let b = ap (λ (v : View J). v.share) both in let h = j.share in omega arith;
    own = λ shard piece has. first shard piece (j.own shard piece has);
    theirs = λ s c. ⊎_elim
        (λ (h : (shard piece : ℕ) → Has s shard piece → Has now shard piece). inl (λ shard piece has. first shard piece (h shard piece has)))
        (λ (h : Contains left s). ⊎_elim
        (λ (e : other ≡ s). inl (λ shard piece has. second shard piece (subst (λ (z : Seen J). Has z shard piece) (sym e) has)))
        (λ (h' : Contains rest s). inr h')
        (Contains-cons other rest s (subst (λ (l : List (Seen J)). Contains l s) is h)))
        (j.theirs s c);
  }
    where
      pairs : next.view.pairs ≡ now.view.pairs ++ other.view.pairs
      pairs = ap (λ (v : View J). v.pairs) both

      first : (shard piece : ℕ) → Has now shard piece → Has next shard piece
      first shard piece has = subst (λ (l : List (ℕ × ℕ)). Contains l (shard, piece)) (sym pairs) (Contains-append_left now.view.pairs other.view.pairs (shard, piece) has)

      second : (shard piece : ℕ) → Has other shard piece → Has next shard piece
      second shard piece has = subst (λ (l : List (ℕ × ℕ)). Contains l (shard, piece)) (sym pairs) (Contains-append_right now.view.pairs other.view.pairs (shard, piece) has)

  pub joins_all : (old : Seen J) (others : List (Seen J)) (now : Seen J) (left : List (Seen J)) → length left ≡ 0 → Joining old others now left → Joined old others now
  joins_all old others now (s ∷ ss) none j = absurd (omega arith)
  joins_all old others now [] none j = record {
    share = let h = j.share in omega arith;
    own = j.own;
    theirs = λ s c. ⊎_elim (λ (h : (shard piece : ℕ) → Has s shard piece → Has now shard piece). h) (λ (h : Contains {X = Seen J} [] s). absurd (nothing_in s h)) (j.theirs s c);
  }

  -- seats that came back with their shares
  pub same_shares : (ss ts : List (Seen J)) → SameSeats Grows ss ts → shares ts ≡ shares ss
  same_shares [] [] same = refl
  same_shares [] (t ∷ ts) same = absurd (let c = same.count in omega arith)
  same_shares (s ∷ ss) [] same = absurd (let c = same.count in omega arith)
  same_shares (s ∷ ss) (t ∷ ts) same =
      let first = (same.each 0 s t refl refl).share in
      let more = same_shares ss ts record { count = (let c = same.count in omega arith); each = λ k x y a b. same.each (suc k) x y a b } in omega arith
