-- A document that is divided inside a property's array: its head, and each of the two items of the array.
use Rattle.std.proofs.Common.{◌≡◌, ℕ, ◌+◌, ◌==◌, arith, List, [], ◌∷◌, Bool, true, false, ◌&&◌, ◌||◌, Some, refl, sym, ap₂, ◌∙◌}
use Rattle.std.specs.Prelude.{codes}
use Rattle.std.specs.List.{list_any}
use borrow.Author.Tests.{eqb-true}
use Rattle.ld_model.specs.Tree.{Tree, Pairs, text, array, object, trees_of, members_of}
use Rattle.op_model.specs.Names.{Name, iri, source, fresh, same_name}
use Rattle.op_model.specs.Ops.{ensure_node, ensure_property}
use Rattle.op_model.specs.Noting.{Chunk, spine, range}
use Rattle.op_laws.specs.Exchanged.{Exchange, IsOneToOne, Divides}

abbrev map : Pairs → Tree
map ms = object (members_of ms)

abbrev a : List ℕ
a = codes "http://e/a"

abbrev p : List ℕ
p = codes "http://e/p"

abbrev default : Name
default = iri (codes "@default")

abbrev items : List Tree
items = map ((codes "@id", text a) ∷ (p, array (trees_of (map [] ∷ map [] ∷ []))) ∷ []) ∷ []

abbrev chunks : List Chunk
chunks = spine (ensure_node default (iri a) ∷ ensure_property default (iri a) (iri p) ∷ [])
    ∷ range (map [] ∷ []) default (Some (iri a)) (Some (iri p)) false ∷ range (map [] ∷ []) default (Some (iri a)) (Some (iri p)) false ∷ []

-- The first node without an id is the only one of chunk 1, the second one that of chunk 2.
abbrev other : Exchange
other c k = (k + 1, 0)

-- Each of the names that need labels stands twice: where its node is made, and where it is referred to.
abbrev used_names : List Name
used_names = fresh 0 0 ∷ fresh 0 0 ∷ fresh 0 1 ∷ fresh 0 1 ∷ []

of_first_chunk : (c k : ℕ) → list_any (same_name (fresh c k)) used_names ≡ true → c ≡ 0
of_first_chunk c k there = by_test (c == 0) refl there
  where
    by_test : (b : Bool) → (c == 0) ≡ b → ((b && (k == 0)) || ((b && (k == 0)) || ((b && (k == 1)) || ((b && (k == 1)) || false)))) ≡ true → c ≡ 0
    by_test true same there = eqb-true c 0 same
    by_test false apart there = absurd (cc)

one_to_one : IsOneToOne other used_names
one_to_one (iri s) b first second same = absurd (cc)
one_to_one (source s) b first second same = absurd (cc)
one_to_one (fresh c k) (iri s) first second same = absurd (cc)
one_to_one (fresh c k) (source s) first second same = absurd (cc)
one_to_one (fresh c k) (fresh d m) first second same =
    let numbers : k + 1 ≡ m + 1 = cc in
    let number : k ≡ m = omega arith in
    ap₂ fresh (of_first_chunk c k first ∙ sym (of_first_chunk d m second)) number

inner_items_divide : Divides chunks items
inner_items_divide = record { other = other; one_to_one = one_to_one; same = refl }
