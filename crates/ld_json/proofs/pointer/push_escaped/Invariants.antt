use Rattle.std.proofs.Common.{◌≡◌, ◌++◌, string_bytes}
use Rattle.std.specs.List.{flat_map}
use Rattle.ld_json.specs.Pointer.{escaped_char}
use Rattle.ld_json.proofs.pointer.push_escaped.Given as goal

abbrev pub invariant-loop-character : goal.invariant-loop-character
invariant-loop-character l = string_bytes l.out ≡ string_bytes l.fn.out ++ flat_map escaped_char l.yielded
