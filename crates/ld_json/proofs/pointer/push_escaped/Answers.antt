use Rattle.std.proofs.Common.{◌≡◌, List, ℕ, [], ◌∷◌, ◌++◌, map, refl, sym, ap, ◌∙◌, string_bytes}
use Rattle.std.specs.List.{flat_map}
use Rattle.std.proofs.lemmas.Iterator.{YieldsList-from_chars}
use Rattle.std.proofs.lemmas.Iterator.Consumers.{YieldsList-end}
use Rattle.ld_json.specs.Pointer.{escaped_char}
use Rattle.ld_json.proofs.pointer.push_escaped.Goals as goal

map-same : (xs : List ℕ) → map (λ x. x) xs ≡ xs
map-same [] = refl
map-same (x ∷ xs) = ap (λ l. x ∷ l) (map-same xs)

pub returns : goal.returns
returns c =
    let t = YieldsList-end (YieldsList-from_chars c.args.key.now c.utf8.key cc) c.loop-character.yielded _ c.loop-character.yielded_by _ _ c.in-None.is c.next.ensures.steps in
    c.loop-character.invariant ∙ ap (λ (l : List ℕ). string_bytes c.args.out.now ++ flat_map escaped_char l) (sym (map-same c.loop-character.yielded) ∙ t.0)
