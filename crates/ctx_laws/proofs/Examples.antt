-- Small local contexts that show where the laws end. The active context is a newly initialized one without a base URL.
use Rattle.std.proofs.Common.{◌≡◌, [], ◌∷◌, refl, Bool, true, false, Option, Some, None, Result, Ok, Err}
use Rattle.std.specs.Prelude.{codes}
use Rattle.ld_model.specs.Tree.{Tree, truth, text, array, object, trees_of, members_of, Pairs}
use Rattle.case_tables.specs.declared.code.Code.{Code}
use Rattle.case_tables.specs.declared.code.Code.TheVariants.{InvalidLocalContext}
use Rattle.ctx_types.specs.Context.{Text, Definition, Context, definition_at, initial}
use Rattle.ctx_model.specs.LocalExpansion.{created, prefix_created, expand_iri}
use Rattle.ctx_model.specs.Definition.{completed, finished}
use Rattle.ctx_model.specs.Creation.{started, reverse_created, agreeing, id_mapping, mapping_of, directed, defined_by, create_new}
use Rattle.ctx_model.specs.Process.{Ask, settings_taken, terms_taken, map_taken, item_taken, processed, process}

-- Maps, given their entries in ascending order.
abbrev map : Pairs → Tree
map es = object (members_of es)

abbrev entry : Text → Tree → Tree
entry k t = map ((k, t) ∷ [])

-- Processing over this active context.
abbrev over : Context → Ask
over c = record { active = c; base = None; remotes = []; overrides = false; propagates = true; validates = true }

abbrev start : Context
start = initial None

-- A local context processed over what came of another.
abbrev next : Tree → Result Context Code → Result Context Code
next t (Ok c) = process [] (over c) t
next t (Err e) = Err e

abbrev defined : Text → Result Context Code → Option Definition
defined t (Ok c) = definition_at t c.current.terms
defined t (Err e) = None

abbrev is_reversed : Option Definition → Bool
is_reversed None = false
is_reversed (Some d) = d.reverse

abbrev is_reverse : Text → Result Context Code → Bool
is_reverse t r = is_reversed (defined t r)

-- A context with a protected term.
abbrev guarded : Tree
guarded = map ((codes "@protected", truth true) ∷ (codes "p", text (codes "http://e/p")) ∷ [])

-- A text in the form of a keyword leaves a protected term without a definition.
a_reserved_text_takes_a_protected_term : defined (codes "p") (next (entry (codes "p") (text (codes "@form"))) (process [] (over start) guarded)) ≡ None
unfolding process processed item_taken map_taken terms_taken settings_taken create_new defined_by directed mapping_of id_mapping agreeing started completed finished created prefix_created expand_iri
a_reserved_text_takes_a_protected_term = refl

-- A reverse property takes the place of a protected term.
a_reverse_property_takes_a_protected_term : is_reverse (codes "p") (next (entry (codes "p") (entry (codes "@reverse") (text (codes "http://e/q")))) (process [] (over start) guarded)) ≡ true
unfolding process processed item_taken map_taken terms_taken settings_taken create_new defined_by directed reverse_created mapping_of id_mapping agreeing started completed finished created prefix_created expand_iri
a_reverse_property_takes_a_protected_term = refl

-- An array in an array is refused.
no_array_in_an_array : process [] (over start) (array (trees_of (array (trees_of []) ∷ []))) ≡ Err InvalidLocalContext
unfolding process processed item_taken
no_array_in_an_array = refl

-- A flag of propagation is looked at in a local context, and not in an item of an array.
a_flag_by_itself : process [] (over start) (entry (codes "@propagate") (truth false)) ≡ Ok (record start { earlier = start.current ∷ [] })
unfolding process processed item_taken map_taken terms_taken settings_taken
a_flag_by_itself = refl

a_flag_in_an_array : process [] (over start) (array (trees_of (entry (codes "@propagate") (truth false) ∷ []))) ≡ Ok start
unfolding process processed item_taken map_taken terms_taken settings_taken
a_flag_in_an_array = refl
