-- One entry of the outcome of a map at `@reverse` (JSON-LD 1.1 API, section 5.1.2, step 13.4.13.4).
use Rattle.std.specs.Prelude.{Result, Ok, codes, if◌then◌else◌}
use Rattle.std.specs.Str.{bytes_eq}
use Rattle.ld_model.specs.Tree.{Tree, Pairs}
use Rattle.case_tables.specs.declared.code.Code.{Code}
use Rattle.ctx_types.specs.Context.{Text}
use Rattle.expand_model.specs.Scope.{values_of}
use Rattle.expand_model.specs.Properties.{reverse_added}

-- It is reversed, unless it was reversed there: then it was treated before.
abbrev pub reversed_member : Text × Tree → Pairs → Result Pairs Code
reversed_member m r = if bytes_eq m.0 (codes "@reverse") then Ok r else reverse_added m.0 (values_of m.1) r
