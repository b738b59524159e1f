-- Small documents with what they expand to, computed from the definition, for the limits of the laws. There is no base and no store.
use Rattle.std.proofs.Common.{◌≡◌, List, [], ◌∷◌, refl, None, Ok}
use Rattle.std.specs.Prelude.{codes}
use Rattle.ld_model.specs.Tree.{Tree, null, text, array, object, trees_of, members_of, Pairs, put}
use Rattle.ctx_types.specs.Context.{Text}
use Rattle.ctx_model.specs.LocalExpansion.{created, prefix_created, expand_iri}
use Rattle.ctx_model.specs.Definition.{without_colon, completed, finished}
use Rattle.ctx_model.specs.Creation.{started, agreeing, id_mapping, term_mapping, mapping_of, directed, defined_by, create_new}
use Rattle.ctx_model.specs.Process.{settings_taken, terms_taken, map_taken, item_taken, processed, process}
use Rattle.expand_model.specs.Scope.{Options}
use Rattle.expand_model.specs.Values.{value_object, expand_value, add_all}
use Rattle.expand_model.specs.Contexts as contexts
use Rattle.expand_model.specs.Contexts.{in_property, is_left, in_map, type_terms, typed_by, typed_by_entry, entered}
use Rattle.expand_model.specs.Entries.{name_of, task_of, under}
use Rattle.expand_model.specs.Keywords.{begun, keyword_entry, keyword_put, keyword_told, keyword_added}
use Rattle.expand_model.specs.Properties.{property_added, property_told}
use Rattle.expand_model.specs.Indexes.{index_context, indexed, index_added}
use Rattle.expand_model.specs.Finish.{finish_map}
use Rattle.expand_model.specs.Rules.{scalar, spliced}
use Rattle.expand_model.specs.Expand.{entry, document}

-- Maps, given their entries in ascending order.
abbrev map : Pairs → Tree
map es = object (members_of es)

abbrev entry_of : Text → Tree → Tree
entry_of k t = map ((k, t) ∷ [])

abbrev list : List Tree → Tree
list ts = array (trees_of ts)

abbrev options : Options
options = record { base = None; contexts = [] }

abbrev of_node : Tree
of_node = entry_of (codes "@id") (text (codes "http://e/x"))

-- A plain item whose keys don't ascend has them in order afterwards.
keys_are_put_in_order : document options (list (map ((codes "http://e/p", list []) ∷ (codes "@id", text (codes "http://e/x")) ∷ []) ∷ [])) ≡ Ok (map ((codes "@id", text (codes "http://e/x")) ∷ (codes "http://e/p", list []) ∷ []) ∷ [])
unfolding document entry name_of task_of under entered in_map in_property is_left typed_by_entry begun keyword_entry keyword_put keyword_told property_added add_all finish_map spliced put
keys_are_put_in_order = refl

-- A map of ids puts an id into a value object.
a_value_gets_an_id : document options (map ((codes "@context", entry_of (codes "m") (map ((codes "@container", text (codes "@id")) ∷ (codes "@id", text (codes "http://e/m")) ∷ []))) ∷ (codes "m", entry_of (codes "http://e/i") (text (codes "x"))) ∷ [])) ≡ Ok (entry_of (codes "http://e/m") (list (map ((codes "@id", text (codes "http://e/i")) ∷ (codes "@value", text (codes "x")) ∷ []) ∷ [])) ∷ [])
unfolding document entry name_of task_of under entered in_map in_property contexts.processed is_left typed_by_entry begun keyword_entry keyword_put keyword_told keyword_added property_told property_added index_context indexed index_added scalar spliced expand_value value_object add_all finish_map put process processed item_taken map_taken terms_taken settings_taken create_new defined_by directed mapping_of id_mapping agreeing started completed finished expand_iri created prefix_created
a_value_gets_an_id = refl

abbrev indexed_by : Text → Pairs
indexed_by p = (codes "m", map ((codes "@container", text (codes "@index")) ∷ (codes "@id", text (codes "http://e/m")) ∷ (codes "@index", text p) ∷ [])) ∷ []

abbrev inner : Tree → Tree
inner context = map ((codes "@context", context) ∷ (codes "m", entry_of (codes "i") of_node) ∷ [])

abbrev value : Text → Tree
value s = entry_of (codes "@value") (text s)

-- Where the term of an index is another name for a keyword, the keyword gets an array.
an_index_may_be_a_keyword : document options (map ((codes "@context", map ((codes "a", text (codes "http://e/p")) ∷ indexed_by (codes "a"))) ∷ (codes "http://e/q", inner (entry_of (codes "a") (text (codes "@value")))) ∷ [])) ≡ Ok (entry_of (codes "http://e/q") (list (entry_of (codes "http://e/m") (list (map ((codes "@id", text (codes "http://e/x")) ∷ (codes "@value", list (value (codes "i") ∷ [])) ∷ []) ∷ [])) ∷ [])) ∷ [])
unfolding document entry name_of task_of under entered in_map in_property contexts.processed is_left typed_by_entry begun keyword_entry keyword_put keyword_told keyword_added property_told property_added index_context indexed index_added scalar spliced expand_value value_object add_all finish_map put process processed item_taken map_taken terms_taken settings_taken create_new defined_by directed mapping_of id_mapping agreeing started completed finished expand_iri created prefix_created term_mapping without_colon
an_index_may_be_a_keyword = refl

-- Where the vocabulary is taken away, the key of an index may have no colon.
an_index_may_have_no_colon : document options (map ((codes "@context", map ((codes "@vocab", text (codes "http://v/")) ∷ indexed_by (codes "p"))) ∷ (codes "http://e/q", inner (entry_of (codes "@vocab") null)) ∷ [])) ≡ Ok (entry_of (codes "http://e/q") (list (entry_of (codes "http://e/m") (list (map ((codes "@id", text (codes "http://e/x")) ∷ (codes "p", list (value (codes "i") ∷ [])) ∷ []) ∷ [])) ∷ [])) ∷ [])
unfolding document entry name_of task_of under entered in_map in_property contexts.processed is_left typed_by_entry begun keyword_entry keyword_put keyword_told keyword_added property_told property_added index_context indexed index_added scalar spliced expand_value value_object add_all finish_map put process processed item_taken map_taken terms_taken settings_taken create_new defined_by directed mapping_of id_mapping agreeing started completed finished expand_iri created prefix_created term_mapping without_colon
an_index_may_have_no_colon = refl
