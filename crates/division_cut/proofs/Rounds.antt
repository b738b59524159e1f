-- The limit is doubled until there are few chunks.
use Rattle.std.proofs.Common.{◌≡◌, ℕ, zero, suc, ◌+◌, ◌-◌, ◌*◌, ◌^◌, ◌≤◌, ◌<◌, arith, List, length, min, true, false, Option, Some, None, refl, sym, ap, ◌∙◌, subst}
use Rattle.std.specs.Prelude.{if◌then◌else◌, MatchOption}
use Rattle.std.proofs.lemmas.Bool.Decides.{nat_tests}
use Rattle.std.proofs.lemmas.List.{length-map}
use Rattle.ld_model.specs.Tree.{Tree, array, trees_of}
use Rattle.ld_model.specs.Keys.{default_graph}
use Rattle.node_model.specs.Walk.{nowhere}
use Rattle.op_model.specs.Names.{Name, iri}
use Rattle.op_model.specs.Noting as noting
use Rattle.chunk_ops.specs.Views.{chunk_view}
use Rattle.chunk_ops.specs.declared.chunk.Chunk.{Chunk}
use Rattle.division_model.specs.Dividing.{Division, divide, divided_by, spine_ended, undivided}
use Rattle.division_model.specs.ByWeight.{capped, by_weight, chunks_at, most_chunks, are_few, chunks_from, cut_expanded}
use Rattle.division_laws.proofs.Few.{cuts_are_few}
use Rattle.division_cut.specs.Standing.{StandsFor, Makes}
use Rattle.division_cut.specs.Views.{chunks_view}
use Rattle.division_cut.proofs.Many.{spine_has_many}
use Rattle.division_cut.proofs.Standing.{stands_here, stood}

pub divided_is : (limit : ℕ) (g : Name) (items : List Tree) (u v w : Division) → g ≡ iri default_graph → u ≡ undivided
    → Makes u v (divide (by_weight limit) g nowhere (array (trees_of items))) → w ≡ spine_ended v → StandsFor w (divided_by (by_weight limit) items)
divided_is limit g items u v w is_graph is made is_ended =
    let begun = subst (λ (x : Division). StandsFor u x) is (stands_here u) in
    let all = subst (λ n. StandsFor v (divide (by_weight limit) n nowhere (array (trees_of items)) undivided)) is_graph (made undivided begun) in
    stood v w spine_ended is_ended (λ x many. spine_has_many x.notes.ops x many) (divide (by_weight limit) (iri default_graph) nowhere (array (trees_of items)) undivided) all

pub none_found : {X : Type 0} (found : Option X) (P : Type 0) (Q : X → Type 0) → MatchOption found P Q → found ≡ None → P
none_found found P Q is none = subst (λ f. MatchOption f P Q) none is

doubled : (items : List Tree) (limit times : ℕ) → 0 < times → are_few (chunks_at limit items) ≡ false → chunks_from (times - 1) (capped (2 * limit)) items ≡ chunks_from times limit items
doubled items limit zero some many = absurd (omega (arith, some))
doubled items limit (suc times) some many =
    ap (λ n. chunks_from n (capped (2 * limit)) items) (omega arith)
    ∙ sym (ap (λ b. if b then chunks_at limit items else chunks_from times (capped (2 * limit)) items) many)

pub still_few : (items : List Tree) (limit next times : ℕ) → 0 < times → are_few (chunks_at limit items) ≡ false → next ≡ min (limit * 2) (2 ^ 64 - 1)
    → are_few (chunks_from times limit items) ≡ true → are_few (chunks_from (times - 1) next items) ≡ true
still_few items limit next times some many is few =
    let same : next ≡ capped (2 * limit) = omega (arith, is) in
    ap (λ l. are_few (chunks_from (times - 1) l items)) same ∙ ap are_few (doubled items limit times some many) ∙ few

pub capped_is : (n : ℕ) → n < 2 ^ 64 → capped n ≡ n
capped_is n small = omega (arith, small)

pub starts_few : (items : List Tree) (weight : ℕ) → 1 ≤ weight → weight < 2 ^ 64 → are_few (chunks_from 64 weight items) ≡ true
starts_few items weight some small =
    let few : length (chunks_from 64 (capped weight) items) ≤ most_chunks = cuts_are_few items weight some in
    let test : are_few (chunks_from 64 (capped weight) items) ≡ true = few_test (chunks_from 64 (capped weight) items) few in
    ap (λ n. are_few (chunks_from 64 n items)) (sym (capped_is weight small)) ∙ test
  where
    few_test : (cs : List noting.Chunk) → length cs ≤ most_chunks → are_few cs ≡ true
    few_test cs few = grind (arith, nat_tests, few)

pub cut_is : (items : List Tree) (weight : ℕ) (cs : List Chunk) → weight < 2 ^ 64 → chunks_view cs ≡ chunks_from 64 weight items → chunks_view cs ≡ cut_expanded items weight
cut_is items weight cs small is = is ∙ ap (λ n. chunks_from 64 n items) (sym (capped_is weight small))

pub cut_is_few : (items : List Tree) (weight : ℕ) (cs : List Chunk) → 1 ≤ weight → weight < 2 ^ 64 → chunks_view cs ≡ chunks_from 64 weight items → length cs ≤ 4096
cut_is_few items weight cs some small is =
    subst (λ n. n ≤ most_chunks) (ap length (sym (cut_is items weight cs small is)) ∙ length-map cs chunk_view) (cuts_are_few items weight some)
