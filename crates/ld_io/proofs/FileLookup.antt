-- The search for a file by its name, from a place on.
use Rattle.std.proofs.Common.{◌≡◌, ℕ, ◌+◌, ◌<◌, Bool, cond, List, length, get_or, drop, Option, Some, Ok, Err, Result, IfOk, ap, sym, ◌∙◌}
use Rattle.std.specs.Prelude.{Vec, String, string_bytes}
use Rattle.std.specs.declared.alloc.Global.{Global}
use Rattle.std.specs.Str.{bytes_eq}
use Rattle.std.specs.FinMap.{find, from_entries, get-from_entries}
use Rattle.std.specs.Option.{option_map}
use Rattle.std.specs.Ordering.{nat_cmp, eq_by_cmp}
use Rattle.std.specs.Cmp.Lexicographic.{slice_cmp, texts_ties, nat_list_cmp_total}
use Rattle.std.proofs.lemmas.List.{at_drop_more}
use Rattle.ld_io.specs.Files.{IsFileAt}
use Rattle.ld_io.specs.Named.{named_files}

-- the file of a name among those from a place on
abbrev pub found_from : List (String Global × Vec ℕ Global) → ℕ → List ℕ → Option (List ℕ)
found_from files at name = find (slice_cmp nat_cmp) name (named_files (drop at files))

pub found_from-step : (files : List (String Global × Vec ℕ Global)) (at : ℕ) (file : String Global × Vec ℕ Global) (name : List ℕ) (same : Bool) → at < length files → file ≡ get_or files at file → same ≡ bytes_eq name (string_bytes file.0)
    → found_from files at name ≡ cond same (Some file.1.items) (found_from files (at + 1) name)
found_from-step files at file name same before is tested =
    let rest = found_from files (at + 1) name in
    at_drop_more (λ fs. find (slice_cmp nat_cmp) name (named_files fs)) files at file before
    ∙ ap (λ (f : String Global × Vec ℕ Global). cond (eq_by_cmp (slice_cmp nat_cmp) name (string_bytes f.0)) (Some f.1.items) rest) (sym is)
    ∙ ap (λ b. cond b (Some file.1.items) rest) (sym (texts_ties name (string_bytes file.0)) ∙ sym tested)

-- the first file of a name is that of the finite map
pub IsFileAt-first : {E : Type 0} (files : List (List ℕ × List ℕ)) (name : List ℕ) (result : Result (Option (Vec ℕ Global)) E) → IfOk result (λ found. option_map (λ v. v.items) found ≡ find (slice_cmp nat_cmp) name files)
    → IsFileAt (Some (from_entries files)) name result
IsFileAt-first files name (Ok found) first = first ∙ sym (get-from_entries nat_list_cmp_total files name)
IsFileAt-first files name (Err stop) first = tt
