-- What node objects state: which entries stand under a property of a node.
use Rattle.std.specs.Prelude.{ℕ, List, [], ◌∷◌, Bool, false, not, ◌&&◌, if◌then◌else◌, Option, Some, None, is_some, filter}
use Rattle.std.specs.Str.{bytes_eq}
use Rattle.std.specs.List.{list_any, flat_map}
use Rattle.ld_model.specs.Tree.{Tree, text, array, object, Pairs, member_list, member_at, tree_list, same_tree}
use Rattle.ld_model.specs.Keys.{id_key}

-- The text that stands at a key, if one does.
abbrev pub text_of : Option Tree → Option (List ℕ)
text_of (Some (text s)) = Some s
text_of _ = None

-- The members of an object.
abbrev pub members_in : Tree → Pairs
members_in (object ms) = member_list ms
members_in _ = []

-- The values of an array.
abbrev pub entries_in : Tree → List Tree
entries_in (array ts) = tree_list ts
entries_in _ = []

-- The id of a node object: the text at its `@id` (JSON-LD 1.1, section 9.2).
abbrev pub id_of : Tree → Option (List ℕ)
id_of t = text_of (member_at id_key (members_in t))

-- There is an id, and it is this one.
abbrev pub is_same : List ℕ → Option (List ℕ) → Bool
is_same id (Some s) = bytes_eq s id
is_same id None = false

-- The node object has this id.
abbrev pub has_id : List ℕ → Tree → Bool
has_id id t = is_same id (id_of t)

-- What a member states under a property: the entries of its array, if its key is that property.
abbrev pub member_states : List ℕ → List ℕ × Tree → List Tree
member_states property m = if bytes_eq m.0 property then entries_in m.1 else []

-- What a node object states under a property of the node with this id: nothing, if that is not its own id.
abbrev pub object_states : List ℕ → List ℕ → Tree → List Tree
object_states id property t = if has_id id t then flat_map (member_states property) (members_in t) else []

-- What node objects state there, one after another.
abbrev pub statements : List ℕ → List ℕ → List Tree → List Tree
statements id property ts = flat_map (object_states id property) ts

-- One of the node objects states this entry there.
abbrev pub states : List ℕ → List ℕ → Tree → List Tree → Bool
states id property entry ts = list_any (same_tree entry) (statements id property ts)

-- The object has a member with this key.
abbrev pub has_member : List ℕ → Tree → Bool
has_member key t = is_some (member_at key (members_in t))

-- One of the node objects gives the node with this id this property, if only with an empty array.
abbrev pub gives : List ℕ → List ℕ → List Tree → Bool
gives id property ts = list_any (λ t. has_id id t && has_member property t) ts

-- The entries without those that equal an earlier one.
abbrev pub once : List Tree → List Tree
once [] = []
once (t ∷ ts) = t ∷ filter (λ u. not (same_tree t u)) (once ts)
