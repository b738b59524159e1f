-- Small documents with their plans, and what is reached of these, computed from the definitions. There is no base and no store.
use Rattle.std.proofs.Common.{◌≡◌, ℕ, List, [], ◌∷◌, map, refl, Option, None, Some, Err, true, false}
use Rattle.std.specs.Prelude.{codes, pos, is_ok}
use Rattle.ld_json.specs.declared.location.Step.{Step}
use Rattle.ld_json.specs.declared.location.Step.TheVariants.{Key, Item}
use Rattle.ld_model.specs.Tree.{Tree, whole, text, array, object, trees_of, members_of, Pairs, put}
use Rattle.case_tables.specs.declared.code.Code.TheVariants.{InvalidIdValue}
use Rattle.ctx_types.specs.Context.{Text}
use Rattle.ctx_model.specs.LocalExpansion.{created, prefix_created, expand_iri}
use Rattle.ctx_model.specs.Definition.{without_colon, completed, finished}
use Rattle.ctx_model.specs.Creation.{reverse_created, started, agreeing, id_mapping, term_mapping, mapping_of, directed, defined_by, create_new}
use Rattle.ctx_model.specs.Process.{settings_taken, terms_taken, map_taken, item_taken, processed, process}
use Rattle.expand_model.specs.Scope.{Options}
use Rattle.expand_model.specs.Values.{value_object, expand_value, add_all}
use Rattle.expand_model.specs.Contexts as contexts
use Rattle.expand_model.specs.Contexts.{in_property, is_left, in_map, type_terms, typed_by, typed_by_entry, entered}
use Rattle.expand_model.specs.Entries.{name_of, task_of, under}
use Rattle.expand_model.specs.Keywords.{begun, keyword_entry, keyword_put, keyword_told, keyword_added}
use Rattle.expand_model.specs.Properties.{reverse_added, property_added, property_told}
use Rattle.expand_model.specs.Indexes.{index_context, indexed, index_added}
use Rattle.expand_model.specs.Finish.{finish_map}
use Rattle.expand_model.specs.Rules.{start, scalar, spliced}
use Rattle.expand_model.specs.Expand.{entry, document}
use Rattle.expand_model.specs.Over.{entry_over, node, document_over}
use Rattle.cut_model.specs.Pieces.{Piece, count}
use Rattle.cut_model.specs.LegalTest.{is_legal}
use Rattle.cut_model.specs.Reached.{reached}
use Rattle.cut_model.specs.Grafting.{grafted}
use Rattle.cut_model.specs.Planning.{planned}
use Rattle.cut_model.specs.Cutting.{cut_within, cut}

-- Maps, given their entries in ascending order.
abbrev entries : Pairs → Tree
entries es = object (members_of es)

abbrev entry_of : Text → Tree → Tree
entry_of k t = entries ((k, t) ∷ [])

abbrev list : List Tree → Tree
list ts = array (trees_of ts)

abbrev options : Options
options = record { base = None; contexts = [] }

-- The place of the array, the number of the first item, how many there are, and the active property.
abbrev Shown : Type 0
Shown = List Step × ℕ × ℕ × Option Text

abbrev shown : Piece → Shown
shown x = (x.at.place, x.from, count x.items, x.at.scope.property)

abbrev plan : ℕ → Tree → List Shown
plan limit t = map shown (planned options limit t)

abbrev reached_under : ℕ → Tree → List Shown
reached_under limit t = map shown (reached options t (planned options limit t))

abbrev node_of : Text → Tree
node_of v = entries ((codes "@id", text (codes "http://e/a")) ∷ (codes "http://e/p", text v) ∷ [])

-- Two items of weight 3, in an array of weight 7.
abbrev two : Tree
two = list (node_of (codes "v") ∷ node_of (codes "v") ∷ [])

a_light_array_is_not_cut : plan 7 two ≡ []
unfolding document_over
a_light_array_is_not_cut = refl

neighbours_are_one_range : plan 6 two ≡ ([], 0, 2, None) ∷ []
unfolding document_over
neighbours_are_one_range = refl

a_range_ends_at_the_limit : plan 5 two ≡ ([], 0, 1, None) ∷ ([], 1, 1, None) ∷ []
unfolding document_over
a_range_ends_at_the_limit = refl

-- A run of neighbours is divided from the left: the second range begins where the first one has no more room.
runs_are_divided_from_the_left : plan 4 (list (text (codes "a") ∷ node_of (codes "v") ∷ text (codes "b") ∷ text (codes "c") ∷ [])) ≡ ([], 0, 2, None) ∷ ([], 2, 2, None) ∷ []
unfolding document_over
runs_are_divided_from_the_left = refl

-- Heavy items that hold no array to be cut are ranges of their own.
heavy_items_are_ranges : plan 1 two ≡ ([], 0, 1, None) ∷ ([], 1, 1, None) ∷ []
unfolding document_over entry_over node name_of task_of under entered in_map in_property is_left typed_by_entry begun keyword_entry keyword_put keyword_told property_told property_added scalar spliced expand_value value_object add_all finish_map put
heavy_items_are_ranges = refl

-- An array of one item isn't cut, whatever it weighs; the arrays in its item are.
a_lone_item_is_walked : plan 1 (list (entry_of (codes "http://e/p") (list (text (codes "x") ∷ text (codes "y") ∷ [])) ∷ [])) ≡ (Item 0 ∷ Key (codes "http://e/p") ∷ [], 0, 1, Some (codes "http://e/p")) ∷ (Item 0 ∷ Key (codes "http://e/p") ∷ [], 1, 1, Some (codes "http://e/p")) ∷ []
unfolding document_over entry_over node name_of task_of under entered in_map in_property is_left typed_by_entry begun property_told property_added scalar spliced expand_value value_object add_all finish_map put
a_lone_item_is_walked = refl

-- The array of a list object is cut, since its value is expanded. The property is the one that the list object stands under.
a_list_is_cut : plan 1 (entry_of (codes "http://e/p") (entry_of (codes "@list") (list (text (codes "x") ∷ text (codes "y") ∷ [])))) ≡ (Key (codes "http://e/p") ∷ Key (codes "@list") ∷ [], 0, 1, Some (codes "http://e/p")) ∷ (Key (codes "http://e/p") ∷ Key (codes "@list") ∷ [], 1, 1, Some (codes "http://e/p")) ∷ []
unfolding document_over entry_over node name_of task_of under entered in_map in_property is_left typed_by_entry begun keyword_entry keyword_put keyword_told keyword_added property_told property_added scalar spliced expand_value value_object add_all finish_map put
a_list_is_cut = refl

-- What is in a JSON literal isn't expanded, so no array there is cut.
a_literal_is_not_cut : plan 1 (entry_of (codes "http://e/p") (entries ((codes "@type", text (codes "@json")) ∷ (codes "@value", list (text (codes "x") ∷ text (codes "y") ∷ [])) ∷ []))) ≡ []
unfolding document_over entry_over node name_of task_of under entered in_map in_property is_left typed_by_entry begun keyword_entry keyword_put keyword_told keyword_added property_told property_added scalar spliced expand_value value_object add_all finish_map put type_terms typed_by
a_literal_is_not_cut = refl

-- Planning meets the error of the first item before it comes to the array in it, so the item is a range by itself.
an_early_error_is_its_range : plan 1 (list (entries ((codes "@id", whole (pos 5)) ∷ (codes "http://e/p", list (text (codes "x") ∷ text (codes "y") ∷ [])) ∷ []) ∷ text (codes "z") ∷ [])) ≡ ([], 0, 1, None) ∷ ([], 1, 1, None) ∷ []
unfolding document_over entry_over node name_of task_of under entered in_map in_property is_left typed_by_entry begun keyword_entry keyword_put keyword_told property_told property_added scalar spliced expand_value value_object add_all finish_map put
an_early_error_is_its_range = refl

-- The first item is opened, since it holds an array to be cut. The error inside a range is none of planning; expansion ends there, and that
-- range is the last that it reaches.
abbrev with_errors : Tree
with_errors = list (entries ((codes "@id", text (codes "http://e/a")) ∷ (codes "http://e/p", list (entry_of (codes "@id") (whole (pos 5)) ∷ text (codes "x") ∷ [])) ∷ []) ∷ entry_of (codes "@id") (whole (pos 6)) ∷ [])

abbrev at_p : List Step
at_p = Item 0 ∷ Key (codes "http://e/p") ∷ []

an_item_is_opened : map shown (cut options with_errors 1) ≡ (at_p, 0, 1, Some (codes "http://e/p")) ∷ (at_p, 1, 1, Some (codes "http://e/p")) ∷ ([], 1, 1, None) ∷ []
unfolding cut_within document_over entry_over node name_of task_of under entered in_map in_property is_left typed_by_entry begun keyword_entry keyword_put keyword_told property_told property_added scalar spliced expand_value value_object add_all finish_map put
an_item_is_opened = refl

an_error_ends_what_is_reached : reached_under 1 with_errors ≡ (at_p, 0, 1, Some (codes "http://e/p")) ∷ []
unfolding document_over entry_over entry node name_of task_of under entered in_map in_property is_left typed_by_entry begun keyword_entry keyword_put keyword_told property_told property_added scalar spliced expand_value value_object add_all finish_map put
an_error_ends_what_is_reached = refl

-- So the result of that range is enough to graft.
the_first_result_is_enough : grafted options with_errors (cut options with_errors 1) (Err (record { code = InvalidIdValue; place = Item 0 ∷ Key (codes "http://e/p") ∷ Item 0 ∷ Key (codes "@id") ∷ [] }) ∷ []) ≡ document options with_errors
unfolding cut_within document document_over entry_over entry node name_of task_of under entered in_map in_property is_left typed_by_entry begun keyword_entry keyword_put keyword_told property_told property_added scalar spliced expand_value value_object add_all finish_map put
the_first_result_is_enough = refl

-- An error of planning that expansion doesn't have: the reverse property is taken to have no items, so the map has an id alone, and is no
-- node. Planning ends there; the second item is in no range, and expansion expands it itself.
abbrev with_reverse : Tree
with_reverse = list (entries ((codes "@context", entries ((codes "inc", text (codes "@included")) ∷ (codes "rev", entry_of (codes "@reverse") (text (codes "http://e/r"))) ∷ [])) ∷ (codes "inc", entries ((codes "@id", text (codes "http://e/x")) ∷ (codes "rev", list (node_of (codes "v") ∷ node_of (codes "v") ∷ [])) ∷ [])) ∷ []) ∷ node_of (codes "v") ∷ [])

abbrev at_rev : List Step
at_rev = Item 0 ∷ Key (codes "inc") ∷ Key (codes "rev") ∷ []

planning_may_end_alone : plan 3 with_reverse ≡ (at_rev, 0, 1, Some (codes "rev")) ∷ (at_rev, 1, 1, Some (codes "rev")) ∷ []
unfolding document_over entry_over node name_of task_of under entered in_map in_property contexts.processed is_left typed_by_entry begun keyword_entry keyword_put keyword_told keyword_added property_told property_added index_context indexed index_added scalar spliced expand_value value_object add_all finish_map put process processed item_taken map_taken terms_taken settings_taken create_new defined_by directed mapping_of id_mapping agreeing started completed finished expand_iri created prefix_created term_mapping without_colon reverse_created reverse_added
planning_may_end_alone = refl

and_expansion_goes_on : reached_under 3 with_reverse ≡ (at_rev, 0, 1, Some (codes "rev")) ∷ (at_rev, 1, 1, Some (codes "rev")) ∷ []
unfolding document_over entry_over entry node name_of task_of under entered in_map in_property contexts.processed is_left typed_by_entry begun keyword_entry keyword_put keyword_told keyword_added property_told property_added index_context indexed index_added scalar spliced expand_value value_object add_all finish_map put process processed item_taken map_taken terms_taken settings_taken create_new defined_by directed mapping_of id_mapping agreeing started completed finished expand_iri created prefix_created term_mapping without_colon reverse_created reverse_added
and_expansion_goes_on = refl

and_has_no_error : is_ok (document options with_reverse) ≡ true
unfolding document entry name_of task_of under entered in_map in_property contexts.processed is_left typed_by_entry begun keyword_entry keyword_put keyword_told keyword_added property_told property_added index_context indexed index_added scalar spliced expand_value value_object add_all finish_map put process processed item_taken map_taken terms_taken settings_taken create_new defined_by directed mapping_of id_mapping agreeing started completed finished expand_iri created prefix_created term_mapping without_colon reverse_created reverse_added
and_has_no_error = refl

-- Two items of the array at this place, from this number on.
abbrev range_at : List Step → ℕ → Piece
range_at p n = record { at = record { scope = (start options).scope; place = p }; from = n; items = trees_of (text (codes "x") ∷ text (codes "y") ∷ []) }

neighbours_are_legal : is_legal (range_at [] 0 ∷ range_at [] 2 ∷ []) ≡ true
neighbours_are_legal = refl

ranges_that_overlap_are_not : is_legal (range_at [] 0 ∷ range_at [] 1 ∷ []) ≡ false
ranges_that_overlap_are_not = refl

a_range_inside_an_item_is_not : is_legal (range_at at_p 0 ∷ range_at [] 0 ∷ []) ≡ false
a_range_inside_an_item_is_not = refl

one_beside_the_items_is : is_legal (range_at at_p 0 ∷ range_at [] 1 ∷ []) ≡ true
one_beside_the_items_is = refl
