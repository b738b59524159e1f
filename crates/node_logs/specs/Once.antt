-- Which entries of a property stay: a list in any case, another entry where no earlier one equals it.
use Rattle.std.specs.Prelude.{ℕ, List, [], ◌∷◌, ◌++◌, Bool, true, false, ◌||◌, not, if◌then◌else◌, Option, Some, None}
use Rattle.std.specs.List.{list_any}
use Rattle.std.specs.Str.{bytes_eq}
use Rattle.ld_model.specs.Tree.{Tree, Pairs, array, same_tree}
use Rattle.node_model.specs.Keys.{list_key}
use Rattle.node_model.specs.NodeMap.{is_list_object}

-- There is an entry, and it equals one of these.
abbrev pub is_held : Option Tree → List Tree → Bool
is_held (Some t) held = list_any (same_tree t) held
is_held None held = false

-- An entry equals one of these, or one ahead of it.
abbrev pub repeats : List Tree → List Tree → Bool
repeats held [] = false
repeats held (t ∷ ts) = list_any (same_tree t) held || repeats (held ++ t ∷ []) ts

-- An object with nothing but this member is a list object.
abbrev pub is_list_member : List ℕ × Tree → Bool
is_list_member (k, array ts) = bytes_eq k list_key
is_list_member _ = false

abbrev pub is_only_list : Pairs → Bool
is_only_list (m ∷ []) = is_list_member m
is_only_list _ = false

-- For each entry whether it stays, where this says which trees are ahead of it.
abbrev pub stays : (Tree → Bool) → List Tree → List Bool
stays has [] = []
stays has (t ∷ ts) = if is_list_object t then true ∷ stays has ts else not (has t) ∷ stays (λ u. same_tree t u || has u) ts

-- No tree is ahead.
abbrev pub none_ahead : Tree → Bool
none_ahead t = false

-- The entries that stay.
abbrev pub kept_if : Bool → Tree → List Tree → List Tree
kept_if b t ts = if b then t ∷ ts else ts

abbrev pub kept : List Bool → List Tree → List Tree
kept [] ts = []
kept (b ∷ bs) [] = []
kept (b ∷ bs) (t ∷ ts) = kept_if b t (kept bs ts)
