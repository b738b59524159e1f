-- The types of a map, from its first type on.
use Rattle.std.specs.Prelude.{Bool, false, [], ◌∷◌, Option, None, Some, Result, Ok, codes, is_some, if◌then◌else◌}
use Rattle.std.specs.Option.{option_map_or}
use Rattle.ld_model.specs.Tree.{Tree, text, Pairs}
use Rattle.case_tables.specs.declared.code.Code.{Code}
use Rattle.ctx_types.specs.Context.{Text, Settings, Context, definition_at}
use Rattle.ctx_model.specs.Outcome.{◌>>=◌}
use Rattle.expand_model.specs.Scope.{Options, expands_to}
use Rattle.expand_model.specs.Contexts.{typed, is_json, scoped_of, text_in}

-- The value of the first entry whose key expands to `@type`, and the entries behind it.
abbrev pub first_type : Settings → Pairs → Option (Tree × Pairs)
first_type c [] = None
first_type c (e ∷ es) = if expands_to c (codes "@type") e.0 then Some (e.1, es) else first_type c es

-- What type-scoped contexts make of the type-scoped context, and whether the input type is `@json`.
abbrev pub typing : Options → Context → Pairs → Result (Context × Bool) Code
typing o types es = do
  c ← typed o types es types
  Ok (c, is_json c.current es)

-- The value is a text whose definition has a scoped context.
abbrev pub has_scoped : Settings → Text → Bool
has_scoped c t = is_some (scoped_of (definition_at t c.terms))

abbrev pub is_scoped : Settings → Tree → Bool
is_scoped c t = option_map_or (has_scoped c) (text_in t) false

-- The value is a text that expands to `@json`.
abbrev pub is_json_text : Settings → Tree → Bool
is_json_text c (text s) = expands_to c (codes "@json") s
is_json_text c t = false
