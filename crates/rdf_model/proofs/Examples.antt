-- Quads of small node maps, computed from the definitions.
use Rattle.std.proofs.Common.{◌≡◌, ℕ, List, [], ◌∷◌, refl, true, Some, None}
use Rattle.std.specs.Prelude.{codes, pos, negsuc}
use Rattle.std.specs.Fmt.{digits}
use Rattle.ld_model.specs.Tree.{Tree, Pairs, null, truth, whole, one_one, text, array, object, trees_of, members_of}
use Rattle.rdf_terms.specs.declared.term.Term.{Term}
use Rattle.rdf_terms.specs.declared.term.Term.TheVariants.{Iri, Blank, Literal}
use Rattle.rdf_terms.specs.declared.term.Quad.{Quad}
use Rattle.rdf_model.specs.Literal.{literal}
use Rattle.rdf_model.specs.Vocabulary.{rdf_type, rdf_first, rdf_rest, rdf_nil}
use Rattle.rdf_model.specs.ToRdf.{quad}
use Rattle.rdf_model.specs.Subjects.{to_rdf, labels_of, subjects}

abbrev map : Pairs → Tree
map ms = object (members_of ms)

abbrev items : List Tree → Tree
items ts = array (trees_of ts)

abbrev value : Tree → Tree
value t = map ((codes "@value", t) ∷ [])

abbrev list : List Tree → Tree
list ts = map ((codes "@list", items ts) ∷ [])

abbrev ref : List ℕ → Tree
ref id = map ((codes "@id", text id) ∷ [])

abbrev a : List ℕ
a = codes "http://e/a"

abbrev p : List ℕ
p = codes "http://e/p"

-- A node of a graph, with this in it besides its id.
abbrev node : List ℕ → Pairs → List ℕ × Tree
node id ms = (id, map ((codes "@id", text id) ∷ ms))

-- A node map whose default graph has one node.
abbrev alone : Pairs → Pairs
alone ms = (codes "@default", map (node a ms ∷ [])) ∷ []

-- A node map whose one node has a property with these values.
abbrev with_values : List Tree → Pairs
with_values ts = alone ((p, items ts) ∷ [])

abbrev said : Term → Term → Term → Quad
said = quad None

abbrev b0 : Term
b0 = Blank (codes "_:b0")

abbrev b1 : Term
b1 = Blank (codes "_:b1")

abbrev plain : List ℕ → Term
plain s = Literal s (codes "http://www.w3.org/2001/XMLSchema#string") None

abbrev boolean : List ℕ
boolean = codes "http://www.w3.org/2001/XMLSchema#boolean"

abbrev double : List ℕ
double = codes "http://www.w3.org/2001/XMLSchema#double"

abbrev integer : List ℕ
integer = codes "http://www.w3.org/2001/XMLSchema#integer"

abbrev typed : List ℕ → Tree → Pairs
typed of_type t = (codes "@type", text of_type) ∷ (codes "@value", t) ∷ []

abbrev tagged : List ℕ → Tree → Pairs
tagged tag t = (codes "@language", text tag) ∷ (codes "@value", t) ∷ []

-- ---- literals

a_double : literal (typed double (whole (pos 100))) ≡ Some (Literal (codes "1.0E2") double None)
unfolding digits
a_double = refl

a_negative_double : literal (typed double (whole (negsuc 11))) ≡ Some (Literal (codes "-1.2E1") double None)
unfolding digits
a_negative_double = refl

an_integer : literal ((codes "@value", whole (negsuc 11)) ∷ []) ≡ Some (Literal (codes "-12") integer None)
unfolding digits
an_integer = refl

a_truth_value : literal ((codes "@value", truth true) ∷ []) ≡ Some (Literal (codes "true") boolean None)
a_truth_value = refl

the_mark_is_a_double : literal ((codes "@value", one_one) ∷ []) ≡ Some (Literal (codes "1.1E0") double None)
the_mark_is_a_double = refl

a_tagged_text : literal (tagged (codes "en") (text (codes "x"))) ≡ Some (Literal (codes "x") (codes "http://www.w3.org/1999/02/22-rdf-syntax-ns#langString") (Some (codes "en")))
a_tagged_text = refl

no_literal_has_a_tag_that_is_none : literal (tagged (codes "no tag") (text (codes "x"))) ≡ None
no_literal_has_a_tag_that_is_none = refl

no_literal_has_a_relative_type : literal (typed (codes "T") (text (codes "x"))) ≡ None
no_literal_has_a_relative_type = refl

no_literal_has_no_value : literal ((codes "@value", null) ∷ []) ≡ None
no_literal_has_no_value = refl

null_as_json : literal (typed (codes "@json") null) ≡ Some (Literal (codes "null") (codes "http://www.w3.org/1999/02/22-rdf-syntax-ns#JSON") None)
null_as_json = refl

-- ---- lists

a_list_has_a_cell_for_each_item :
    to_rdf (with_values (list (value (text (codes "x")) ∷ value (whole (pos 3)) ∷ []) ∷ [])) 0
    ≡ said (Iri a) (Iri p) b0
    ∷ said b0 rdf_first (plain (codes "x")) ∷ said b0 rdf_rest b1
    ∷ said b1 rdf_first (Literal (codes "3") integer None) ∷ said b1 rdf_rest rdf_nil ∷ []
unfolding digits
a_list_has_a_cell_for_each_item = refl

-- The cells of a list are labelled before those of the lists in it, and an empty list has none.
a_list_in_a_list :
    to_rdf (with_values (list (list [] ∷ value (text (codes "x")) ∷ []) ∷ [])) 0
    ≡ said (Iri a) (Iri p) b0
    ∷ said b0 rdf_first rdf_nil ∷ said b0 rdf_rest b1
    ∷ said b1 rdf_first (plain (codes "x")) ∷ said b1 rdf_rest rdf_nil ∷ []
unfolding digits
a_list_in_a_list = refl

-- A cell whose item gives no object has no first.
an_item_without_an_object :
    to_rdf (with_values (list (ref (codes "b c") ∷ []) ∷ [])) 0
    ≡ said (Iri a) (Iri p) b0 ∷ said b0 rdf_rest rdf_nil ∷ []
unfolding digits
an_item_without_an_object = refl

-- ---- nodes and graphs

types_and_repeats :
    to_rdf (alone ((codes "@index", text (codes "i")) ∷ (codes "@type", items (text p ∷ text (codes "T") ∷ text (codes "_:b0") ∷ [])) ∷ (p, items (value (text (codes "x")) ∷ map ((codes "@index", text (codes "i")) ∷ (codes "@value", text (codes "x")) ∷ []) ∷ [])) ∷ [])) 1
    ≡ said (Iri a) rdf_type (Iri p) ∷ said (Iri a) rdf_type b0 ∷ said (Iri a) (Iri p) (plain (codes "x")) ∷ []
types_and_repeats = refl

what_has_no_name_is_left_out :
    to_rdf ((codes "@default", map (node (codes "a b") ((p, items (value (text (codes "x")) ∷ [])) ∷ []) ∷ node a ((codes "_:b0", items (ref a ∷ [])) ∷ []) ∷ [])) ∷ (codes "a b", map (node a ((p, items (ref a ∷ [])) ∷ []) ∷ [])) ∷ []) 0
    ≡ []
what_has_no_name_is_left_out = refl

a_named_graph :
    to_rdf ((codes "@default", map []) ∷ (a, map (node (codes "_:b0") ((p, items (ref a ∷ [])) ∷ []) ∷ [])) ∷ []) 1
    ≡ quad (Some (Iri a)) b0 (Iri p) (Iri a) ∷ []
a_named_graph = refl

-- Labels go on from subject to subject.
labels_go_on :
    let graphs : Pairs = (codes "@default", map (node a ((p, items (list (ref a ∷ []) ∷ [])) ∷ []) ∷ node p ((p, items (list (ref a ∷ []) ∷ [])) ∷ []) ∷ [])) ∷ [] in
    to_rdf graphs 0
    ≡ said (Iri a) (Iri p) b0 ∷ said b0 rdf_first (Iri a) ∷ said b0 rdf_rest rdf_nil
    ∷ said (Iri p) (Iri p) b1 ∷ said b1 rdf_first (Iri a) ∷ said b1 rdf_rest rdf_nil ∷ []
unfolding digits
labels_go_on = refl

two_lists_need_two_labels : labels_of (subjects ((codes "@default", map (node a ((p, items (list (ref a ∷ []) ∷ list (ref p ∷ []) ∷ [])) ∷ []) ∷ [])) ∷ [])) ≡ 2
two_lists_need_two_labels = refl
