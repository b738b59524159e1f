-- The chunks of every plan divide the document: at the end one exchange is given, which is one to one on all names.
use Rattle.std.proofs.Common.{◌≡◌, ℕ, zero, suc, ◌+◌, ◌*◌, ◌≤◌, ◌<◌, arith, List, [], ◌++◌, Bool, true, false, if◌then◌else◌, Option, Some, None, refl, sym, ap, ap₂, ◌∙◌, subst}
use Rattle.std.specs.List.{slice_get}
use Rattle.std.proofs.lemmas.List.{append-nil}
use Rattle.ld_model.specs.Tree.{Tree, array, trees_of}
use Rattle.ld_model.specs.Keys.{default_graph}
use Rattle.node_model.specs.Walk.{nowhere, walk}
use Rattle.node_laws.proofs.Likeness.{lasts_here}
use Rattle.op_model.specs.Names.{Name, iri, source, fresh}
use Rattle.op_model.specs.Noting.{Notes, noting, no_notes, Chunk, ops_of_chunks}
use Rattle.op_laws.specs.Exchanged.{Exchange, IsOneToOne, Divides}
use Rattle.op_laws.proofs.Exchanged.{divisions_are_generation as exchanged_generation}
use Rattle.shard_laws.proofs.Chunks.{shards_are_generation}
use Rattle.division_model.specs.Dividing.{Plan, Division, divide, undivided, divided_by, chunks_by, IsDivision}
use Rattle.division_model.specs.ByWeight.{capped, by_weight, chunks_at, are_few, chunks_from, cut_expanded}
use Rattle.division_laws.specs.Laws.{DivisionsDivide, CutsAreDivisions, CutsDivide, DivisionsAreGeneration, ShardsOfDivisions}
use Rattle.division_laws.proofs.Unnamed.{LeadsTo}
use Rattle.division_laws.proofs.Stands.{unnamed, Stands, standing}
use Rattle.division_laws.proofs.Ranges.{none_noted, ended_beside}
use Rattle.division_laws.proofs.Divided.{divide_beside}

-- The names of the division for the nodes that the whole document numbers, as one chunk. Any other name is exchanged for one of a chunk
-- beyond all of these.
abbrev chosen : ℕ → ℕ → Option (ℕ × ℕ) → ℕ × ℕ
chosen beyond k (Some name) = name
chosen beyond k None = (beyond, k)

abbrev exchange : List (ℕ × ℕ) → ℕ → Exchange
exchange names beyond zero k = chosen beyond k (slice_get names k)
exchange names beyond (suc c) k = (beyond + suc c, k)

module _ (names : List (ℕ × ℕ)) (beyond : ℕ) (below : (k : ℕ) (p : ℕ × ℕ) → slice_get names k ≡ Some p → p.0 < beyond)
    (apart : (j k : ℕ) (p : ℕ × ℕ) → slice_get names j ≡ Some p → slice_get names k ≡ Some p → j ≡ k) where
  leads : LeadsTo (exchange names beyond) names
  leads k p at = ap (chosen beyond k) at

  at_most : (k : ℕ) (o : Option (ℕ × ℕ)) → slice_get names k ≡ o → (chosen beyond k o).0 ≤ beyond
  at_most k (Some p) at = let less = below k p at in omega arith
  at_most k None at = omega arith

  same_number : (j k : ℕ) (o r : Option (ℕ × ℕ)) → slice_get names j ≡ o → slice_get names k ≡ r → chosen beyond j o ≡ chosen beyond k r → j ≡ k
  same_number j k (Some p) (Some q) first second same = apart j k q (first ∙ ap Some same) second
  same_number j k (Some p) None first second same = absurd (let less = below j p first in let is = ap (λ p. p.0) same in omega arith)
  same_number j k None (Some q) first second same = absurd (let less = below k q second in let is = ap (λ p. p.0) same in omega arith)
  same_number j k None None first second same = ap (λ p. p.1) same

  same_names : (c k d m : ℕ) → exchange names beyond c k ≡ exchange names beyond d m → fresh c k ≡ fresh d m
  same_names zero k zero m same = ap (fresh 0) (same_number k m (slice_get names k) (slice_get names m) refl refl same)
  same_names zero k (suc d) m same = absurd (let most = at_most k (slice_get names k) refl in let is = ap (λ p. p.0) same in omega arith)
  same_names (suc c) k zero m same = absurd (let most = at_most m (slice_get names m) refl in let is = ap (λ p. p.0) same in omega arith)
  same_names (suc c) k (suc d) m same = let is = ap (λ p. p.0) same in let number : suc c ≡ suc d = omega arith in ap₂ fresh number (ap (λ p. p.1) same)

  one_to_one : (all : List Name) → IsOneToOne (exchange names beyond) all
  one_to_one all (iri s) (iri r) first second same = same
  one_to_one all (source s) (source r) first second same = same
  one_to_one all (iri s) (source r) first second same = absurd (cc)
  one_to_one all (iri s) (fresh d m) first second same = absurd (cc)
  one_to_one all (source s) (iri r) first second same = absurd (cc)
  one_to_one all (source s) (fresh d m) first second same = absurd (cc)
  one_to_one all (fresh c k) (iri r) first second same = absurd (cc)
  one_to_one all (fresh c k) (source r) first second same = absurd (cc)
  one_to_one all (fresh c k) (fresh d m) first second same =
      let chunk : (exchange names beyond c k).0 ≡ (exchange names beyond d m).0 = cc in
      let number : (exchange names beyond c k).1 ≡ (exchange names beyond d m).1 = cc in
      same_names c k d m (λ i. (chunk i, number i))

-- Before the first step.
at_start : Stands undivided (no_notes 0)
at_start = record {
  whole = refl;
  count = refl;
  same = λ other leads. refl;
  number = refl;
  empty = λ e. refl;
  earlier = λ k name at. absurd (cc);
  apart = λ j k name first second. absurd (cc);
}

module _ (plan : Plan) (items : List Tree) where
  abbrev all_divided : Division
  all_divided = divided_by plan items

  abbrev all_noted : Notes
  all_noted = (walk noting (iri default_graph) nowhere (array (trees_of items)) (record { state = no_notes 0; items = [] })).state

  stand : Stands all_divided all_noted
  stand = (ended_beside undivided (divide plan (iri default_graph) nowhere (array (trees_of items)) undivided) _
      (divide_beside plan (iri default_graph) (iri default_graph) nowhere nowhere (array (trees_of items)) undivided undivided (record { state = no_notes 0; items = [] }) (λ other leads. refl) tt refl
      (record { states = at_start; gathered = tt; lasts = lasts_here standing undivided }))).states

  plans_divide : Divides (chunks_by plan items) items
  plans_divide = record {
    other = other;
    one_to_one = one_to_one (unnamed all_divided) beyond below stand.apart _;
    same = sym (ap (λ (n : Notes). ops_of_chunks 0 all_divided.chunks ++ n.ops) (none_noted (divide plan (iri default_graph) nowhere (array (trees_of items)) undivided)) ∙ append-nil (ops_of_chunks 0 all_divided.chunks))
        ∙ stand.same other (leads (unnamed all_divided) beyond below stand.apart);
  }
    where
      beyond : ℕ
      beyond = all_divided.notes.chunk + 1

      below : (k : ℕ) (p : ℕ × ℕ) → slice_get (unnamed all_divided) k ≡ Some p → p.0 < beyond
      below k p at = let most = (stand.earlier k p at).0 in omega arith

      other : Exchange
      other = exchange (unnamed all_divided) beyond

pub divisions_divide : DivisionsDivide
divisions_divide chunks items is = subst (λ cs. Divides cs items) (sym is.same) (plans_divide is.plan items)

-- Cutting by weight is dividing by a plan, at whatever limit it ends.
by_limit : (few : Bool) (limit : ℕ) (items : List Tree) (more : List Chunk) → IsDivision more items → IsDivision (if few then chunks_at limit items else more) items
by_limit true limit items more is = record { plan = by_weight limit; same = refl }
by_limit false limit items more is = is

from_limit : (times limit : ℕ) (items : List Tree) → IsDivision (chunks_from times limit items) items
from_limit zero limit items = record { plan = by_weight limit; same = refl }
from_limit (suc times) limit items =
    by_limit (are_few (chunks_at limit items)) limit items (chunks_from times (capped (2 * limit)) items) (from_limit times (capped (2 * limit)) items)

pub cuts_are_divisions : CutsAreDivisions
cuts_are_divisions items weight = from_limit 64 (capped weight) items

pub cuts_divide : CutsDivide
cuts_divide items weight = divisions_divide (cut_expanded items weight) items (cuts_are_divisions items weight)

pub divisions_are_generation : DivisionsAreGeneration
divisions_are_generation chunks items is = exchanged_generation chunks items (divisions_divide chunks items is)

pub shards_of_divisions : ShardsOfDivisions
shards_of_divisions shards some chunks items is = shards_are_generation shards some chunks items (divisions_divide chunks items is)
