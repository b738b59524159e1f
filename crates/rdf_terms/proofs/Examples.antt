-- Labels, languages and quads that are valid, and some that aren't.
use Rattle.std.proofs.Common.{◌≡◌, true, false, refl, Some, None}
use Rattle.std.specs.Prelude.{codes, List, ℕ}
use Rattle.std.specs.Str.{chars}
use Rattle.rdf_terms.specs.declared.term.Term.{Term}
use Rattle.rdf_terms.specs.declared.term.Term.TheVariants.{Iri, Blank, Literal}
use Rattle.rdf_terms.specs.Quad.{is_label, is_valid_term, HasKinds, IsValidQuad}

a_label : is_label (codes "_:b0") ≡ true
unfolding chars
a_label = refl

a_label_with_a_dot_inside : is_label (codes "_:a.b") ≡ true
unfolding chars
a_label_with_a_dot_inside = refl

no_label_ends_in_a_dot : is_label (codes "_:a.") ≡ false
unfolding chars
no_label_ends_in_a_dot = refl

no_label_begins_with_a_hyphen : is_label (codes "_:-a") ≡ false
unfolding chars
no_label_begins_with_a_hyphen = refl

no_label_is_empty : is_label (codes "_:") ≡ false
unfolding chars
no_label_is_empty = refl

abbrev lang_string : List ℕ
lang_string = codes "http://www.w3.org/1999/02/22-rdf-syntax-ns#langString"

abbrev plain_string : List ℕ
plain_string = codes "http://www.w3.org/2001/XMLSchema#string"

a_language : is_valid_term (Literal (codes "a") lang_string (Some (codes "en-US"))) ≡ true
a_language = refl

no_language_beside_another_datatype : is_valid_term (Literal (codes "a") plain_string (Some (codes "en"))) ≡ false
no_language_beside_another_datatype = refl

a_datatype_of_languages_alone : is_valid_term (Literal (codes "a") lang_string None) ≡ true
a_datatype_of_languages_alone = refl

no_space_in_an_iri : is_valid_term (Iri (codes "http://a/b c")) ≡ false
no_space_in_an_iri = refl

no_relative_iri : is_valid_term (Iri (codes "b")) ≡ false
no_relative_iri = refl

abbrev spoken : Term
spoken = Literal (codes "a") lang_string (Some (codes "en"))

a_quad : IsValidQuad (record { subject = Blank (codes "_:b0"); predicate = Iri (codes "http://e/p"); object = spoken; graph = Some (Iri (codes "http://e/g")) })
unfolding chars
a_quad = (refl, refl)

no_literal_as_subject : HasKinds (record { subject = spoken; predicate = Iri (codes "http://e/p"); object = spoken; graph = None }) → ⊥
no_literal_as_subject kinds = cc

no_blank_node_as_predicate : HasKinds (record { subject = Iri (codes "http://e/s"); predicate = Blank (codes "_:b0"); object = spoken; graph = None }) → ⊥
no_blank_node_as_predicate kinds = cc
