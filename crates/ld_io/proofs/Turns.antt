-- What the turns of a loop over a source or a sink did together.
use Rattle.std.proofs.Common.{◌≡◌, ℕ, ◌+◌, ◌-◌, ◌<◌, ◌≤◌, List, length, take, drop, Option, Result, Ok, Err, OnErr, ◌++◌, ap, arith, length-drop}
use Rattle.std.proofs.Math.Seq.{take-add}
use Rattle.std.proofs.lemmas.List.{take_all}
use Rattle.std.specs.Io.KnownBytes.{Appends, Consumes}
use Rattle.std.proofs.KnownBytes.{Appends-trans, Consumes-trans}
use Rattle.ld_io.specs.Sources.{TakesFront}

-- the whole of what is left from a place on, and then a further piece of it
pub Appends-more : (a b c : Option (List ℕ)) (bytes : List ℕ) (at n : ℕ) → at ≤ length bytes → n ≤ length (take (length bytes - at) (drop at bytes)) → Appends a b (take at bytes) → Appends b c (take n (take (length bytes - at) (drop at bytes))) → Appends a c (take (at + n) bytes)
Appends-more a b c bytes at n within small first second =
    let rest : take (length bytes - at) (drop at bytes) ≡ drop at bytes = take_all (length bytes - at) (drop at bytes) (omega (arith, length-drop at bytes)) in
    rw take-add (Appends-trans a b c (take at bytes) (take n (drop at bytes)) first (rw rest at second))

-- that rest has a byte where the place is before the end
pub rest_has_some : (bytes : List ℕ) (at : ℕ) → at < length bytes → 0 < length (take (length bytes - at) (drop at bytes))
rest_has_some bytes at before =
    let rest : take (length bytes - at) (drop at bytes) ≡ drop at bytes = take_all (length bytes - at) (drop at bytes) (omega (arith, length-drop at bytes)) in
    omega (arith, ap length rest, length-drop at bytes)

-- what was gathered, and then some more, where the call ends by an error
pub TakesFront-more : {T E : Type 0} (result : Result T E) (a b c : Option (List ℕ)) (bytes : List ℕ) → Consumes a b bytes → TakesFront b c → OnErr result (TakesFront a c)
TakesFront-more (Ok x) a b c bytes first second = tt
TakesFront-more (Err e) a b c bytes first second = (bytes ++ second.0, Consumes-trans a b c bytes second.0 first second.1)
