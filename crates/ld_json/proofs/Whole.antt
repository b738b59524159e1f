-- What a text reads as, by the tree that it is.
use Rattle.std.proofs.Common.{◌≡◌, ℕ, List, Option, Some, None, option_map, refl, sym, ap, ◌∙◌, IsUtf8}
use Rattle.std.specs.Option.{is_none}
use Rattle.serde_json.specs.Data.{Data}
use Rattle.serde_json.specs.Read.{read}
use Rattle.ld_model.specs.Tree.{Tree}
use Rattle.ld_json.specs.declared.location.Step.{Step}
use Rattle.ld_json.specs.Numbers.{refused_number, are_accepted}
use Rattle.ld_json.specs.Marks.{misplaced}
use Rattle.ld_json.specs.Read.{tree_of, reading, gated, marked, no_json}
use Rattle.ld_json.proofs.ReadValues.{reading-utf8, reading-no_json}
use Rattle.ld_json.proofs.Accepted.{accepted}
use Rattle.ld_json.specs.Tokens.{text_read}

abbrev or : Tree → Option Tree → Tree
or t None = t
or t (Some u) = u

some : (o : Option Data) (t : Tree) → option_map tree_of o ≡ Some t → (d : Data) × (o ≡ Some d) × (tree_of d ≡ t)
some None t e = absurd (cc)
some (Some d) t e = (d, refl, ap (or t) e)

none : (o : Option Data) → option_map tree_of o ≡ None → o ≡ None
none None e = refl
none (Some d) e = absurd (cc)

pub reading-gated : (bytes : List ℕ) (t : Tree) (refused : Option ℕ) → IsUtf8 bytes → text_read bytes ≡ Some t → refused ≡ refused_number bytes → reading bytes ≡ gated refused t
reading-gated bytes t refused utf8 is number =
    let d = some (read bytes) t is in
    reading-utf8 bytes (Some d.0) refused utf8 (sym number) d.1 ∙ ap (gated refused) d.2

pub reading-marked : (bytes : List ℕ) (t : Tree) (place : Option (List Step)) → IsUtf8 bytes → text_read bytes ≡ Some t → None ≡ refused_number bytes → place ≡ misplaced t → reading bytes ≡ marked place t
reading-marked bytes t place utf8 is number mark = reading-gated bytes t None utf8 is number ∙ ap (λ p. marked p t) (sym mark)

pub reading-none : (bytes : List ℕ) → (IsUtf8 bytes → text_read bytes ≡ None) → reading bytes ≡ no_json
reading-none bytes h = reading-no_json bytes (λ utf8. none (read bytes) (h utf8))

pub numbers : (bytes : List ℕ) (t : Tree) (refused : Option ℕ) → text_read bytes ≡ Some t → refused ≡ refused_number bytes → are_accepted bytes ≡ is_none refused
numbers bytes t refused is number = let d = some (read bytes) t is in accepted bytes d.0 refused d.1 number
