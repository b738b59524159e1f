-- The array of the strings of a language map (JSON-LD 1.1 API, section 5.1.2, step 13.7).
use Rattle.std.specs.Prelude.{Option, Result, Ok}
use Rattle.ld_model.specs.Tree.{Tree, Pairs, array, trees_of}
use Rattle.case_tables.specs.declared.code.Code.{Code}
use Rattle.ctx_types.specs.Context.{Definition, Settings}
use Rattle.ctx_model.specs.Outcome.{◌>>=◌}
use Rattle.expand_model.specs.Properties.{language_map}

-- It is that of the map with these entries.
abbrev pub strings_array : Settings → Option Definition → Pairs → Result Tree Code
strings_array c d es = do
  ts ← language_map c d es
  Ok (array (trees_of ts))
