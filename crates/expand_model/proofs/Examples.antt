-- Small documents with what they expand to, computed from the definition. There is no base and no store.
use Rattle.std.proofs.Common.{◌≡◌, List, [], ◌∷◌, refl, true, false, Option, Some, None, Result, Ok, Err}
use Rattle.std.specs.Prelude.{codes, pos}
use Rattle.ld_json.specs.declared.location.Step.{Step}
use Rattle.ld_json.specs.declared.location.Step.TheVariants.{Key, Item}
use Rattle.ld_model.specs.Tree.{Tree, null, truth, whole, text, array, object, trees_of, members_of, Pairs, put}
use Rattle.case_tables.specs.declared.code.Code.TheVariants.{InvalidIdValue, InvalidValueObject, InvalidNestValue, CollidingKeywords}
use Rattle.ctx_types.specs.Context.{Text}
use Rattle.ctx_model.specs.LocalExpansion.{created, prefix_created, expand_iri}
use Rattle.ctx_model.specs.Definition.{without_colon, completed, finished}
use Rattle.ctx_model.specs.Creation.{started, agreeing, id_mapping, term_mapping, mapping_of, directed, defined_by, create_new}
use Rattle.ctx_model.specs.Process.{settings_taken, remote_taken, terms_taken, map_taken, item_taken, processed, process}
use Rattle.expand_model.specs.Scope.{Options, Fault}
use Rattle.expand_model.specs.Values.{value_object, expand_value, add_all, add_value}
use Rattle.expand_model.specs.Contexts as contexts
use Rattle.expand_model.specs.Contexts.{in_property, is_left, in_map, type_terms, typed_by, typed_by_entry, entered}
use Rattle.expand_model.specs.Entries.{name_of, task_of, under}
use Rattle.expand_model.specs.Keywords.{begun, keyword_entry, keyword_put, keyword_told, reverse_map_added, keyword_added}
use Rattle.expand_model.specs.Properties.{language_map, reverse_added, property_added, property_told}
use Rattle.expand_model.specs.Indexes.{index_context, indexed, index_added}
use Rattle.expand_model.specs.Finish.{finish_map}
use Rattle.expand_model.specs.Rules.{scalar, spliced}
use Rattle.expand_model.specs.Expand.{entry, document}

-- Maps, given their entries in ascending order.
abbrev map : Pairs → Tree
map es = object (members_of es)

abbrev entry_of : Text → Tree → Tree
entry_of k t = map ((k, t) ∷ [])

abbrev list : List Tree → Tree
list ts = array (trees_of ts)

abbrev options : Options
options = record { base = None; contexts = [] }

-- A value object at the top says nothing.
a_value_at_the_top_is_dropped : document options (entry_of (codes "@value") (text (codes "x"))) ≡ Ok []
unfolding document entry name_of task_of entered in_map in_property is_left typed_by_entry begun keyword_entry keyword_put keyword_told finish_map put
a_value_at_the_top_is_dropped = refl

-- An id that is no text is refused at its entry.
an_id_is_a_text : document options (list (entry_of (codes "@id") (whole (pos 5)) ∷ [])) ≡ Err (record { code = InvalidIdValue; place = Item 0 ∷ Key (codes "@id") ∷ [] })
unfolding document entry name_of task_of entered in_map in_property is_left typed_by_entry begun keyword_entry keyword_put keyword_told finish_map put
an_id_is_a_text = refl

-- A value and a list don't stand in one object, which is refused at its own place.
a_value_has_no_list : document options (entry_of (codes "http://e/p") (map ((codes "@list", list []) ∷ (codes "@value", text (codes "x")) ∷ []))) ≡ Err (record { code = InvalidValueObject; place = Key (codes "http://e/p") ∷ [] })
unfolding document entry name_of task_of under entered in_map in_property is_left typed_by_entry begun keyword_entry keyword_put keyword_told keyword_added property_added add_all finish_map put
a_value_has_no_list = refl

-- A language map gives its strings in the order of the languages, and passes over null.
a_language_map_gives_strings : document options (map ((codes "@context", entry_of (codes "n") (map ((codes "@container", text (codes "@language")) ∷ (codes "@id", text (codes "http://e/n")) ∷ []))) ∷ (codes "n", map ((codes "de", text (codes "x")) ∷ (codes "en", list (text (codes "y") ∷ null ∷ [])) ∷ [])) ∷ [])) ≡ Ok (entry_of (codes "http://e/n") (list (map ((codes "@language", text (codes "de")) ∷ (codes "@value", text (codes "x")) ∷ []) ∷ map ((codes "@language", text (codes "en")) ∷ (codes "@value", text (codes "y")) ∷ []) ∷ [])) ∷ [])
unfolding document entry name_of task_of under entered in_map in_property contexts.processed is_left typed_by_entry begun keyword_entry keyword_put keyword_told keyword_added property_told property_added language_map add_all finish_map put process processed item_taken map_taken terms_taken settings_taken create_new defined_by directed mapping_of id_mapping agreeing started completed finished expand_iri created prefix_created
a_language_map_gives_strings = refl

-- An array in an array gives its items, too.
items_of_items_are_added : add_value (codes "k") (list (list (text (codes "a") ∷ list [] ∷ []) ∷ text (codes "b") ∷ [])) true [] ≡ (codes "k", list (text (codes "a") ∷ text (codes "b") ∷ [])) ∷ []
unfolding add_value add_all put
items_of_items_are_added = refl
