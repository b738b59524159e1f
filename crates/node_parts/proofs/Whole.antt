-- What all chunks say together.
use Rattle.std.proofs.Common.{◌≡◌, ◌+◌, ◌<◌, ◌≤◌, ◌^◌, ℕ, List, [], ◌∷◌, ◌++◌, length, Bool, Result, refl, sym, ap, ◌∙◌, subst, arith}
use Rattle.std.specs.Prelude.{flat_map, map as each, slice_get, IfSome}
use Rattle.std.specs.List.{AllByRecursion}
use Rattle.std.proofs.lemmas.List.{append_assoc}
use Rattle.std.proofs.lemmas.List.Elements.{filter-append}
use Rattle.ld_model.specs.Tree.{Tree}
use Rattle.ld_model.specs.Tree.{Pairs}
use Rattle.node_model.specs.NodeMap.{Conflict}
use Rattle.node_model.specs.Generating.{generate}
use Rattle.node_types.specs.Views.{Stops}
use Rattle.node_types.specs.declared.generated.MapStop.{MapStop}
use Rattle.node_types.specs.declared.generated.MapStop.TheVariants as stop
use Rattle.label_repair.specs.Shards.{StopsJoined}
use Rattle.label_repair.specs.Finished.{FinishedShard, finished, finished_joined}
use Rattle.label_repair.proofs.Finished.{finished_is_joined}
use Rattle.op_model.specs.Names.{Name}
use Rattle.op_model.specs.Noting.{Chunk, spine, range, ops_of, ops_of_chunks}
use Rattle.op_model.specs.Ops.{Op}
use Rattle.op_model.specs.Running.{used, uses, uses_of_all}
use Rattle.op_laws.specs.Sound.{IsSound}
use Rattle.sum_model.specs.Sums.{Placed, placed, placed_chunks, sum, Sum, empty_sum, join}
use Rattle.sum_model.specs.Shards.{in_shard, falls_in, ops_in}
use Rattle.sum_laws.proofs.Sums.{join_is_a_monoid, the_sum_of_both_is_the_join}
use Rattle.shard_model.specs.Renamed.{shard_renamed}
use Rattle.shard_model.specs.Joined.{joined, with_count}
use Rattle.shard_model.specs.Own.{SumHasOwn}
use Rattle.shard_laws.specs.Laws.{ops, labels_by, ops_by_chunk}
use Rattle.shard_laws.proofs.Owned.{sums_have_own}
use Rattle.shard_laws.proofs.Chunks.{divisions_are_sound}
use Rattle.division_model.specs.Dividing.{IsDivision}
use Rattle.division_model.specs.ByWeight.{cut_expanded}
use Rattle.division_laws.specs.Laws.{HasForm}
use Rattle.division_laws.proofs.Divides.{divisions_divide, cuts_are_divisions, shards_of_divisions}
use Rattle.division_laws.proofs.Form.{divisions_have_form}
use Rattle.subtree_summary.specs.declared.part.Part.{Part}
use Rattle.subtree_summary.specs.Parts.{part_view}
use Rattle.subtree_summary.specs.OnTheWay.{SoFar, nothing_said}
use Rattle.subtree_summary.proofs.Used.{used-append}
use Rattle.chunk_sums.specs.Summing.{then_said}
use Rattle.node_parts.specs.Chunked.{ArePlaced, IsWholeOf, chunks_said}

-- What a document is cut into by weight.
have_places : (chunks : List Chunk) → AllByRecursion HasForm chunks → ArePlaced chunks
have_places [] are = tt
have_places (spine os ∷ chunks) are = (are.0.0, have_places chunks are.1)
have_places (range items graph subject property reversed ∷ chunks) are = (are.0.0, have_places chunks are.1)

pub cuts_are_placed : (chunks : List Chunk) (items : List Tree) (weight : ℕ) → chunks ≡ cut_expanded items weight → ArePlaced chunks
cuts_are_placed chunks items weight same =
    have_places chunks (divisions_have_form chunks items (subst (λ cs. IsDivision cs items) (sym same) (cuts_are_divisions items weight)))

pub cuts_are_whole : (chunks : List Chunk) (items : List Tree) (weight : ℕ) {s : SoFar} → chunks ≡ cut_expanded items weight → s ≡ chunks_said 0 chunks (nothing_said 0 1) → IsWholeOf items s
cuts_are_whole chunks items weight {s} same said = record {
  chunks = chunks;
  divided = subst (λ cs. IsDivision cs items) (sym same) (cuts_are_divisions items weight);
  said = said;
}

-- There is one shard, and all falls in it.
abbrev here : Name → Bool
here = in_shard 1 0

abbrev all_ops : ℕ → List Chunk → List Placed
all_ops n chunks = placed_chunks n (ops_by_chunk n chunks)

sum_of_both : (among : Name → Bool) (a b : List Placed) → sum (ops_in among (a ++ b)) ≡ join (sum (ops_in among a)) (sum (ops_in among b))
sum_of_both among a b = ap sum (filter-append (λ o. falls_in among o.1) a b) ∙ the_sum_of_both_is_the_join (ops_in among a) (ops_in among b)

-- What all chunks said in a shard, behind what was said before.
said_in : (n : ℕ) (chunks : List Chunk) (s : SoFar) (k : ℕ) → (chunks_said n chunks s).said k ≡ join (s.said k) (sum (ops_in (in_shard s.shards k) (all_ops n chunks)))
said_in n [] s k = sym (join_is_a_monoid.right (s.said k))
said_in n (chunk ∷ chunks) s k =
    let among = in_shard s.shards k in
    let first = placed n (ops_of n chunk) in
    said_in (n + 1) chunks (then_said n s (ops_of n chunk)) k
    ∙ join_is_a_monoid.assoc (s.said k) (sum (ops_in among first)) (sum (ops_in among (all_ops (n + 1) chunks)))
    ∙ ap (join (s.said k)) (sym (sum_of_both among first (all_ops (n + 1) chunks)))

shards_stay : (n : ℕ) (chunks : List Chunk) (s : SoFar) → (chunks_said n chunks s).shards ≡ s.shards
shards_stay n [] s = refl
shards_stay n (chunk ∷ chunks) s = shards_stay (n + 1) chunks (then_said n s (ops_of n chunk))

-- The names that have labels.
uses-append : (os bs : List Op) → uses_of_all (os ++ bs) ≡ uses_of_all os ++ uses_of_all bs
uses-append [] bs = refl
uses-append (o ∷ os) bs = ap (λ l. uses o ++ l) (uses-append os bs) ∙ sym (append_assoc (uses o) (uses_of_all os) (uses_of_all bs))

names_in : (n : ℕ) (chunks : List Chunk) (s : SoFar) → (chunks_said n chunks s).names ≡ used s.names (uses_of_all (ops_of_chunks n chunks))
names_in n [] s = refl
names_in n (chunk ∷ chunks) s =
    let first = ops_of n chunk in
    let others = ops_of_chunks (n + 1) chunks in
    names_in (n + 1) chunks (then_said n s first)
    ∙ sym (ap (used s.names) (uses-append first others) ∙ used-append s.names (uses_of_all first) (uses_of_all others))

abbrev pub labels_of_chunks : List Chunk → List Name
labels_of_chunks chunks = labels_by (ops_of_chunks 0 chunks)

abbrev pub sum_of_chunks : List Chunk → Sum
sum_of_chunks chunks = sum (ops_in here (all_ops 0 chunks))

-- What is said once all chunks were told.
pub sum_is : (items : List Tree) (s : SoFar) (is : IsWholeOf items s) → s.said 0 ≡ sum_of_chunks is.chunks
sum_is items s is = ap (λ (r : SoFar). r.said 0) is.said ∙ said_in 0 is.chunks (nothing_said 0 1) 0 ∙ join_is_a_monoid.left (sum_of_chunks is.chunks)

pub names_are : (items : List Tree) (s : SoFar) (is : IsWholeOf items s) → s.names ≡ labels_of_chunks is.chunks
names_are items s is = ap (λ (r : SoFar). r.names) is.said ∙ names_in 0 is.chunks (nothing_said 0 1)

pub one_shard : (items : List Tree) (s : SoFar) → IsWholeOf items s → s.shards ≡ 1
one_shard items s is = ap (λ (r : SoFar). r.shards) is.said ∙ shards_stay 0 is.chunks (nothing_said 0 1)

-- The sum of all has its own names.
pub all_own : (items : List Tree) (chunks : List Chunk) → IsDivision chunks items → SumHasOwn (labels_of_chunks chunks) (sum_of_chunks chunks)
all_own items chunks divided =
    let sound = divisions_are_sound chunks items (divisions_divide chunks items divided) in
    let own : SumHasOwn (labels_by (ops (all_ops 0 chunks))) (sum_of_chunks chunks) =
    sums_have_own (all_ops 0 chunks) here (subst (AllByRecursion IsSound) (sym sound.1) sound.0) in
    subst (λ os. SumHasOwn (labels_by os) (sum_of_chunks chunks)) sound.1 own

-- The one shard, under the labels, is the node map.
is_generated : (items : List Tree) (chunks : List Chunk) → IsDivision chunks items → length (labels_of_chunks chunks) ≤ 2 ^ 64
    → with_count (length (labels_of_chunks chunks)) (joined (shard_renamed (labels_of_chunks chunks) (sum_of_chunks chunks) ∷ [])) ≡ generate items
is_generated items chunks divided few =
    let some : 0 < 1 = omega arith in
    shards_of_divisions 1 some chunks items divided few

-- The only part is the one that is first.
pub only_part : (parts : List Part) (one : Part) (s : Sum) → length parts ≡ 1 → IfSome (slice_get parts 0) (λ p. part_view p ≡ s) → IfSome (slice_get parts 0) (λ p. part_view one ≡ part_view p) → part_view one ≡ s
only_part [] one s count first same = absurd (cc)
only_part (p ∷ parts) one s count first same = same ∙ first

pub last_is_first : (parts : List Part) (p : Part) → length (parts ++ p ∷ []) ≡ 1 → IfSome (slice_get (parts ++ p ∷ []) 0) (λ q. part_view p ≡ part_view q)
last_is_first [] p count = refl
last_is_first (q ∷ []) p count = absurd (cc)
last_is_first (q ∷ r ∷ parts) p count = absurd (cc)

-- Whatever the calls gave, once it is what it should be.
pub whole : (chunks : List Chunk) (items : List Tree) (labels : List Name) (s : Sum) (shards : List FinishedShard)
    → IsDivision chunks items → labels ≡ labels_of_chunks chunks → s ≡ sum_of_chunks chunks → shards ≡ finished (shard_renamed labels s) ∷ [] → length labels ≤ 2 ^ 64
    → with_count (length labels) (finished_joined shards) ≡ generate items
whole chunks items labels s shards divided labels-are sum-is shards-are few =
    ap (λ ss. with_count (length labels) (finished_joined ss)) shards-are
    ∙ ap (with_count (length labels)) (finished_is_joined (shard_renamed labels s ∷ []))
    ∙ ap (λ r. with_count (length labels) (joined (shard_renamed labels r ∷ []))) sum-is
    ∙ ap (λ l. with_count (length l) (joined (shard_renamed l (sum_of_chunks chunks) ∷ []))) labels-are
    ∙ is_generated items chunks divided (subst (λ (l : List Name). length l ≤ 2 ^ 64) labels-are few)

pub stops : (n : ℕ) (due : Result Pairs Conflict) (stop : MapStop) → StopsJoined due stop → Stops (with_count n due) stop
stops n due (stop.Conflict c) is = ap (with_count n) is
stops n due stop.OutOfMemory is = tt
