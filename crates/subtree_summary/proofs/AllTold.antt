-- Operations told one after another, and what each field is then.
use Rattle.std.proofs.Common.{◌≡◌, ℕ, ◌+◌, List, [], ◌∷◌, refl, sym, ◌∙◌}
use Rattle.op_model.specs.Ops.{Op}
use Rattle.op_model.specs.Running.{used, uses, uses_of_all}
use Rattle.sum_model.specs.Shards.{in_shard, ops_in}
use Rattle.sum_model.specs.Sums.{join, placed_from, sum}
use Rattle.sum_laws.proofs.Sums as laws
use Rattle.subtree_summary.specs.OnTheWay.{SoFar, tell}
use Rattle.subtree_summary.proofs.Joining.{next_said}
use Rattle.subtree_summary.proofs.Used.{used-append}

abbrev pub all_told : List Op → SoFar → SoFar
all_told [] s = s
all_told (o ∷ os) s = all_told os (tell o s)

pub shards_told : (os : List Op) (s : SoFar) → (all_told os s).shards ≡ s.shards
shards_told [] s = refl
shards_told (o ∷ os) s = shards_told os (tell o s)

pub names_told : (os : List Op) (s : SoFar) → (all_told os s).names ≡ used s.names (uses_of_all os)
names_told [] s = refl
names_told (o ∷ os) s = names_told os (tell o s) ∙ sym (used-append s.names (uses o) (uses_of_all os))

pub said_told : (os : List Op) (s : SoFar) (k : ℕ) → (all_told os s).said k ≡ join (s.said k) (sum (ops_in (in_shard s.shards k) (placed_from s.chunk s.count os)))
said_told [] s k = sym (laws.join_is_a_monoid.right (s.said k))
said_told (o ∷ os) s k =
    said_told os (tell o s) k
    ∙ next_said s.shards k (record { chunk = s.chunk; number = s.count }) o (placed_from s.chunk (s.count + 1) os) (s.said k) ((tell o s).said k)
    (join (s.said k) (sum (ops_in (in_shard s.shards k) (placed_from s.chunk s.count (o ∷ os))))) refl refl
