-- One byte many times.
use Rattle.std.proofs.Common.{◌≡◌, ℕ, ◌-◌, ◌≤◌, length, take, drop}
use Rattle.std.specs.Prelude.{replicate}
use Rattle.std.proofs.lemmas.List.{length-replicate, take-replicate, drop-replicate}
use Rattle.ld_io.specs.Stock.{repeated}

pub length-repeated : (count byte : ℕ) → length (repeated count byte) ≡ count
unfolding repeated
length-repeated count byte = length-replicate count byte

pub take-repeated : (n count byte : ℕ) → n ≤ count → take n (repeated count byte) ≡ replicate n byte
unfolding repeated
take-repeated n count byte small = take-replicate n count byte small

pub drop-repeated : (n count byte : ℕ) → drop n (repeated count byte) ≡ repeated (count - n) byte
unfolding repeated
drop-repeated n count byte = drop-replicate n count byte
