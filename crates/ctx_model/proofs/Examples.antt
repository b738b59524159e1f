-- Small local contexts with what they come to, computed from the definition of context processing. The active context is a
-- newly initialized one without a base URL, there is no base URL beside it, and no flag is set that a caller has to set.
use Rattle.std.proofs.Common.{◌≡◌, [], ◌∷◌, refl, true, false, Option, Some, None, Result, Ok, Err}
use Rattle.std.specs.Prelude.{codes, pos}
use Rattle.ld_model.specs.Tree.{Tree, null, truth, whole, text, array, object, trees_of, members_of, Pairs}
use Rattle.case_tables.specs.declared.code.Code.{Code}
use Rattle.case_tables.specs.declared.code.Code.TheVariants.{ContextOverflow, CyclicIriMapping, InvalidContextNullification, InvalidLocalContext, InvalidScopedContext, KeywordRedefinition, ProtectedTermRedefinition}
use Rattle.case_tables.specs.declared.shape.Shape.{Shape}
use Rattle.case_tables.specs.Shape.{no_words}
use Rattle.ctx_types.specs.Context.{Text, Definition, Context, definition_at, initial}
use Rattle.ctx_store.specs.Stored.{Contexts}
use Rattle.ctx_model.specs.LocalExpansion.{created, prefix_created, expand_iri}
use Rattle.ctx_model.specs.Definition.{without_colon, completed, finished}
use Rattle.ctx_model.specs.Creation.{started, agreeing, id_mapping, term_mapping, mapping_of, directed, defined_by, create_new}
use Rattle.ctx_model.specs.Process.{Ask, settings_taken, remote_taken, terms_taken, map_taken, item_taken, processed, process}

-- Maps, given their entries in ascending order.
abbrev map : Pairs → Tree
map es = object (members_of es)

abbrev entry : Text → Tree → Tree
entry k t = map ((k, t) ∷ [])

-- Processing over this active context.
abbrev over : Context → Ask
over c = record { active = c; base = None; remotes = []; overrides = false; propagates = true; validates = true }

abbrev ask : Ask
ask = over (initial None)

-- A local context processed over what came of another.
abbrev next : Tree → Result Context Code → Result Context Code
next t (Ok c) = process [] (over c) t
next t (Err e) = Err e

-- What a term means in the outcome: its IRI mapping and its type mapping; and its container.
abbrev defined : Text → Result Context Code → Option Definition
defined t (Ok c) = definition_at t c.current.terms
defined t (Err e) = None

abbrev mappings : Option Definition → Option (Option Text × Option Text)
mappings None = None
mappings (Some d) = Some (d.mapping, d.kind)

abbrev meaning : Text → Result Context Code → Option (Option Text × Option Text)
meaning t r = mappings (defined t r)

abbrev container_in : Option Definition → Option Shape
container_in None = None
container_in (Some d) = Some d.container

abbrev container : Text → Result Context Code → Option Shape
container t r = container_in (defined t r)

-- A term without an `@id` is appended to the vocabulary mapping, and its type mapping is the keyword that it names.
a_term_follows_the_vocabulary : meaning (codes "x") (process [] ask (map ((codes "@vocab", text (codes "http://e/")) ∷ (codes "x", entry (codes "@type") (text (codes "@id"))) ∷ []))) ≡ Some (Some (codes "http://e/x"), Some (codes "@id"))
unfolding process processed item_taken map_taken terms_taken settings_taken create_new defined_by directed mapping_of term_mapping started completed finished without_colon expand_iri
a_term_follows_the_vocabulary = refl

-- Two terms that are each other's prefix are refused.
a_cycle_is_refused : process [] ask (map ((codes "a", text (codes "b:c")) ∷ (codes "b", text (codes "a:c")) ∷ [])) ≡ Err CyclicIriMapping
unfolding process processed item_taken map_taken terms_taken settings_taken create_new defined_by directed mapping_of id_mapping started created prefix_created expand_iri
a_cycle_is_refused = refl

-- A prefix is created before the term that needs it, and stands for its IRI there.
a_prefix_is_put_in : meaning (codes "q") (process [] ask (map ((codes "p", text (codes "http://e/p#")) ∷ (codes "q", text (codes "p:x")) ∷ []))) ≡ Some (Some (codes "http://e/p#x"), None)
unfolding process processed item_taken map_taken terms_taken settings_taken create_new defined_by directed mapping_of id_mapping agreeing started completed finished created prefix_created expand_iri
a_prefix_is_put_in = refl

-- It is created first even where it comes later in the order of the keys.
a_later_prefix_is_put_in : meaning (codes "o") (process [] ask (map ((codes "o", text (codes "p:x")) ∷ (codes "p", text (codes "http://e/p#")) ∷ []))) ≡ Some (Some (codes "http://e/p#x"), None)
unfolding process processed item_taken map_taken terms_taken settings_taken create_new defined_by directed mapping_of id_mapping agreeing started completed finished created prefix_created expand_iri
a_later_prefix_is_put_in = refl

-- A container of two words has both, and no other.
a_container_has_its_words : container (codes "a") (process [] ask (entry (codes "a") (map ((codes "@container", array (trees_of (text (codes "@set") ∷ text (codes "@index") ∷ []))) ∷ (codes "@id", text (codes "http://e/a")) ∷ [])))) ≡ Some (record no_words { set = true; index = true })
unfolding process processed item_taken map_taken terms_taken settings_taken create_new defined_by directed mapping_of id_mapping agreeing started completed finished created prefix_created expand_iri
a_container_has_its_words = refl

-- A keyword is no term: a local context is given without the `@context` around it.
a_keyword_is_no_term : process [] ask (entry (codes "@context") (whole (pos 5))) ≡ Err KeywordRedefinition
unfolding process processed item_taken map_taken terms_taken settings_taken create_new started
a_keyword_is_no_term = refl

-- A number is no local context.
a_number_is_no_context : process [] ask (whole (pos 5)) ≡ Err InvalidLocalContext
unfolding process processed item_taken
a_number_is_no_context = refl

-- A file whose context is its own IRI.
abbrev itself : Contexts
itself = (codes "http://e/c", Some (entry (codes "@context") (text (codes "http://e/c")))) ∷ []

-- Remote contexts that go round in a circle are too many at last.
a_circle_overflows : process itself ask (text (codes "http://e/c")) ≡ Err ContextOverflow
unfolding process processed item_taken remote_taken
a_circle_overflows = refl

-- A file that defines a term with a scoped context, which imports the file.
abbrev importing : Contexts
importing =
    (codes "http://e/c", Some (entry (codes "@context") (entry (codes "x") (map ((codes "@context", entry (codes "@import") (text (codes "http://e/c"))) ∷ (codes "@id", text (codes "http://e/x")) ∷ []))))) ∷ []

-- A scoped context that imports the file which defines it is refused.
scoped_in_itself : process importing ask (text (codes "http://e/c")) ≡ Err InvalidScopedContext
unfolding process processed item_taken remote_taken map_taken terms_taken settings_taken create_new defined_by directed mapping_of id_mapping agreeing started completed finished created prefix_created expand_iri
scoped_in_itself = refl

-- A file with two terms.
abbrev theirs : Contexts
theirs = (codes "http://e/i", Some (entry (codes "@context") (map ((codes "x", text (codes "http://their/x")) ∷ (codes "y", text (codes "http://their/y")) ∷ [])))) ∷ []

-- A context that imports the file, and defines the first term itself.
abbrev own : Result Context Code
own = process theirs ask (map ((codes "@import", text (codes "http://e/i")) ∷ (codes "x", text (codes "http://own/x")) ∷ []))

-- Beside an import, a context's own entry stays.
an_own_entry_stays : meaning (codes "x") own ≡ Some (Some (codes "http://own/x"), None)
unfolding process processed item_taken map_taken terms_taken settings_taken create_new defined_by directed mapping_of id_mapping agreeing started completed finished created prefix_created expand_iri
an_own_entry_stays = refl

-- What it has not itself comes from the import.
an_import_adds_the_rest : meaning (codes "y") own ≡ Some (Some (codes "http://their/y"), None)
unfolding process processed item_taken map_taken terms_taken settings_taken create_new defined_by directed mapping_of id_mapping agreeing started completed finished created prefix_created expand_iri
an_import_adds_the_rest = refl

-- A context with a protected term.
abbrev guarded : Tree
guarded = map ((codes "@protected", truth true) ∷ (codes "p", text (codes "http://e/p")) ∷ [])

-- Null takes protected terms away where they are from the same array: they are looked for in the context that was handed in.
null_after_protected_terms : process [] ask (array (trees_of (guarded ∷ null ∷ []))) ≡ Ok (initial None)
unfolding process processed item_taken map_taken terms_taken settings_taken create_new defined_by directed mapping_of id_mapping agreeing started completed finished created prefix_created expand_iri
null_after_protected_terms = refl

-- Where the context that was handed in has one, null is refused.
null_over_a_protected_term : next null (process [] ask guarded) ≡ Err InvalidContextNullification
unfolding process processed item_taken map_taken terms_taken settings_taken create_new defined_by directed mapping_of id_mapping agreeing started completed finished created prefix_created expand_iri
null_over_a_protected_term = refl

-- A protected term cannot be given another meaning.
a_protected_term_stays : next (entry (codes "p") (text (codes "http://e/q"))) (process [] ask guarded) ≡ Err ProtectedTermRedefinition
unfolding process processed item_taken map_taken terms_taken settings_taken create_new defined_by directed mapping_of id_mapping agreeing started completed finished created prefix_created expand_iri
a_protected_term_stays = refl

-- It can be given the meaning that it has.
a_protected_term_is_repeated : meaning (codes "p") (next (entry (codes "p") (text (codes "http://e/p"))) (process [] ask guarded)) ≡ Some (Some (codes "http://e/p"), None)
unfolding process processed item_taken map_taken terms_taken settings_taken create_new defined_by directed mapping_of id_mapping agreeing started completed finished created prefix_created expand_iri
a_protected_term_is_repeated = refl
