-- From the first seat to the whole one at the end.
use Rattle.std.proofs.Common.{◌≡◌, ℕ, zero, suc, ◌+◌, ◌≤◌, List, All, arith}
use Rattle.std.proofs.lemmas.List.Elements.{All-weaker}
use Rattle.shard_map.specs.Seats.{Seen, Shared, IsSeatOf}
use Rattle.shard_map.specs.Views.{whole}
use Rattle.steal_pool.specs.Works.{SameSeats}
use Rattle.phase_enter.specs.Entries.{Grows, Joined, shares, halved}
use Rattle.phase_enter.proofs.Joining.{same_shares}

halved_more : (w n : ℕ) → w ≤ n → halved w ≤ halved n
halved_more zero zero l = omega arith
halved_more zero (suc n) l = let m = halved_more zero n (omega arith) in omega arith
halved_more (suc w) zero l = absurd (omega arith)
halved_more (suc w) (suc n) l = let m = halved_more w n (omega arith) in omega arith

-- the whole share can be halved for each worker
pub whole_enough : (w share : ℕ) → w ≤ 16 → share ≡ whole → halved w ≤ share
whole_enough w share most all = let m = halved_more w 16 most in omega arith

module _ {J : Type 0} (m : Shared J) where
  pub all_fit : (A B : Type 0) (ss : List (Seen J)) → A → B → All (IsSeatOf m) ss → All (λ s. A × B × IsSeatOf m s) ss
  all_fit A B ss a b all = All-weaker (IsSeatOf m) (λ s. A × B × IsSeatOf m s) (λ s at. (a, b, at)) ss all

  pub all_seats : (A B : Type 0) (ss : List (Seen J)) → All (λ s. A × B × IsSeatOf m s) ss → All (IsSeatOf m) ss
  all_seats A B ss all = All-weaker (λ s. A × B × IsSeatOf m s) (IsSeatOf m) (λ s h. h.2) ss all

-- all shares are back
pub whole_again : {J : Type 0} (before after joined : Seen J) (ss ts : List (Seen J)) → before.view.share ≡ whole → after.view.share + shares ss ≡ before.view.share → SameSeats Grows ss ts → Joined after ts joined → joined.view.share ≡ whole
whole_again before after joined ss ts all split same j = let e = same_shares ss ts same in let h = j.share in omega arith
