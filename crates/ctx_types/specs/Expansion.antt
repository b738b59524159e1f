-- IRI expansion (JSON-LD 1.1 API, section 5.2.2), where there is no local context. The numbers are those of its steps; 3 and
-- 6.3 speak of a local context alone. A step that returns nothing gives None.
use Rattle.std.specs.Prelude.{◌==◌, ◌||◌, ◌&&◌, not, if◌then◌else◌, Bool, false, List, [], ◌∷◌, ◌++◌, Option, Some, None, codes, drop, nat_eq}
use Rattle.std.specs.Option.{option_map, option_map_or, option_and_then, option_or, unwrap_or}
use Rattle.std.specs.List.{list_all, list_any, before_first, after_first, starts_with}
use Rattle.std.specs.Str.{bytes_eq}
use Rattle.std.specs.Char.{is_ascii_alphabetic}
use Rattle.ld_model.specs.Iri.{has_scheme}
use Rattle.case_tables.specs.Keyword.{keyword_name}
use Rattle.case_tables.specs.declared.keyword.Keyword.{Keyword}
use Rattle.case_tables.specs.declared.keyword.Keyword.TheVariants.{Base, Container, Context, Direction, Graph, Id, Import, Included, Index, Json, Language, List as ListWord, Nest, NoneWord, Prefix, Propagate, Protected, Reverse, Set, TypeWord, Value, Version, Vocab}
use Rattle.iri_ref.specs.Parts.{colon}
use Rattle.iri_ref.specs.Resolve.{resolved}
use Rattle.ctx_types.specs.Context.{Text, Definition, Settings, definition_at}

-- The keywords (JSON-LD 1.1, section 1.7).
abbrev pub keywords : List Keyword
keywords =
    Base ∷ Container ∷ Context ∷ Direction ∷ Graph ∷ Id ∷ Import ∷ Included ∷ Index ∷ Json ∷ Language ∷ ListWord ∷ Nest ∷ NoneWord ∷ Prefix ∷ Propagate ∷ Protected ∷ Reverse ∷ Set ∷
    TypeWord ∷ Value ∷ Version ∷ Vocab ∷ []

-- The text is a keyword.
abbrev pub is_keyword : Text → Bool
is_keyword t = list_any (λ k. bytes_eq t (keyword_name k)) keywords

-- The text has the form of a keyword: `@`, and one or more ASCII letters.
abbrev pub has_keyword_form : Text → Bool
has_keyword_form [] = false
has_keyword_form (c ∷ cs) = (c == 64) && not (bytes_eq cs []) && list_all is_ascii_alphabetic cs

-- Steps 4 and 5, for a term with this definition: a mapping that is a keyword, or by the vocabulary any mapping, which may
-- be null.
abbrev pub by_definition : Bool → Option Definition → Option (Option Text)
by_definition vocab None = None
by_definition vocab (Some d) = if vocab || option_map_or is_keyword d.mapping false then Some d.mapping else None

-- Step 6, its condition, and 6.1: where a colon stands after the first character, what stands before the first colon and what
-- stands behind it. (The first colon may itself be the first character.)
abbrev pub colon_parts : Text → Option (Text × Text)
colon_parts t = if list_any colon (drop 1 t) then Some (before_first colon t, after_first colon t) else None

-- Step 6.2: the parts are those of a blank node identifier, or of an IRI with an authority.
abbrev pub is_whole : Text × Text → Bool
is_whole p = bytes_eq p.0 (codes "_") || starts_with nat_eq p.1 (codes "//")

-- Step 6.4: the mapping of the prefix and the suffix, where the prefix has a definition with a mapping and the prefix flag.
abbrev pub by_prefix : Text → Option Definition → Option Text
by_prefix suffix None = None
by_prefix suffix (Some d) = if d.prefix then option_map (λ iri. iri ++ suffix) d.mapping else None

-- Step 6.5: the text, where it has the form of an IRI.
abbrev pub by_form : Text → Option Text
by_form t = if has_scheme t then Some t else None

-- Steps 6.2 to 6.5, for these parts of the text.
abbrev pub by_parts : Settings → Text → Text × Text → Option Text
by_parts c t p = if is_whole p then Some t else option_or (by_prefix p.1 (definition_at p.0 c.terms)) (by_form t)

-- Step 7: the vocabulary mapping and the text.
abbrev pub by_vocab : Settings → Bool → Text → Option Text
by_vocab c vocab t = if vocab then option_map (λ v. v ++ t) c.vocab else None

-- Steps 8 and 9: the text resolved against the base IRI, where that is asked for and there is a base, and else as it is.
abbrev pub by_base : Option Text → Bool → Text → Text
by_base base relative t = if relative then option_map_or (λ b. resolved b t) base t else t

-- Steps 6 to 9, for a text for which no term stands.
abbrev pub as_iri : Settings → Bool → Bool → Text → Text
as_iri c relative vocab t = unwrap_or (option_or (option_and_then (by_parts c t) (colon_parts t)) (by_vocab c vocab t)) (by_base c.base relative t)

-- Steps 1 to 9. Step 1 returns a keyword as it is, and step 2 gives null for any other text that has a keyword's form.
abbrev pub expand_iri : Settings → Bool → Bool → Text → Option Text
expand_iri c relative vocab t =
    if is_keyword t then Some t
    else if has_keyword_form t then None
    else unwrap_or (by_definition vocab (definition_at t c.terms)) (Some (as_iri c relative vocab t))
