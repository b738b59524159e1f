-- Where the number 1.1 stands, which only a key `@version` may have as its value (JSON-LD 1.1, section 9.15).
use Rattle.std.specs.Prelude.{ℕ, ◌+◌, ◌&&◌, List, [], ◌∷◌, Bool, true, false, if◌then◌else◌, Option, Some, None, option_map, codes}
use Rattle.std.specs.Str.{bytes_eq}
use Rattle.ld_model.specs.Tree.{Tree, null, truth, whole, one_one, text, array, object, Trees, no_trees, tree, Members, no_members, member}
use Rattle.ld_json.specs.declared.location.Step.{Step}
use Rattle.ld_json.specs.declared.location.Step.TheVariants.{Key, Item}

-- The place that a place inside a value has from outside.
abbrev pub under : Step → Option (List Step) → Option (List Step)
under s p = option_map (λ steps. s ∷ steps) p

-- The first of two places; the second where there is no first.
abbrev pub or_else : Option (List Step) → Option (List Step) → Option (List Step)
or_else None q = q
or_else (Some p) q = Some p

-- The value is the number 1.1, the mark.
abbrev pub is_mark : Tree → Bool
is_mark one_one = true
is_mark _ = false

-- The member is `@version` with the mark.
abbrev pub is_version : List ℕ → Tree → Bool
is_version k t = bytes_eq k (codes "@version") && is_mark t

-- The first place in a value, in the order of keys and items, where the mark stands elsewhere than as the value of a key
-- `@version`.
abbrev mutual
  pub misplaced : Tree → Option (List Step)
  misplaced null = None
  misplaced (truth b) = None
  misplaced (whole n) = None
  misplaced one_one = Some []
  misplaced (text s) = None
  misplaced (array ts) = misplaced_items 0 ts
  misplaced (object ms) = misplaced_members ms

  pub misplaced_items : ℕ → Trees → Option (List Step)
  misplaced_items number no_trees = None
  misplaced_items number (tree t ts) = or_else (under (Item number) (misplaced t)) (misplaced_items (number + 1) ts)

  pub misplaced_members : Members → Option (List Step)
  misplaced_members no_members = None
  misplaced_members (member k t ms) = or_else (if is_version k t then None else under (Key k) (misplaced t)) (misplaced_members ms)

-- The same in one member.
abbrev pub misplaced_member : List ℕ → Tree → Option (List Step)
misplaced_member k t = if is_version k t then None else under (Key k) (misplaced t)
