-- The files of a folder: a finite map from names to bytes.
use Rattle.std.specs.Prelude.{ℕ, ◌≡◌, List, Option, Result, IfOk, IfSome, Vec}
use Rattle.std.specs.Option.{option_map}
use Rattle.std.specs.declared.alloc.Global.{Global}
use Rattle.std.specs.Ordering.{nat_cmp}
use Rattle.std.specs.Cmp.Lexicographic.{slice_cmp}
use Rattle.std.specs.FinMap as map
use Rattle.std.specs.FinMap.{FinMap}

-- where the files are told, the answer is the bytes of the file of that name, or none where there is none
abbrev pub IsFileAt : {E : Type 0} → Option (FinMap (slice_cmp nat_cmp) (List ℕ)) → List ℕ → Result (Option (Vec ℕ Global)) E → Type 0
IsFileAt told name result =
    IfOk result (λ found. IfSome told (λ files. option_map (λ v. v.items) found ≡ map.get files name))
