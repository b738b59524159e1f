-- A plain document: an array of node objects with an id, whose properties have arrays of texts and of references. It is
-- already expanded (JSON-LD 1.1, section 9.2 to 9.5): no context, type, language, list, index or graph stands in it.
use Rattle.std.specs.Prelude.{ℕ, ◌||◌, ◌&&◌, List, [], ◌∷◌, Bool, true, false, if◌then◌else◌, is_some}
use Rattle.std.specs.Str.{bytes_eq}
use Rattle.ld_model.specs.Tree.{Tree, text, array, object, Pairs, no_members, member, tree_list, member_list, member_at}
use Rattle.ld_model.specs.Iri.{has_scheme}
use Rattle.ld_model.specs.Keys.{id_key, value_key}

-- A text in the form of an IRI.
abbrev pub is_iri_text : Tree → Bool
is_iri_text (text s) = has_scheme s
is_iri_text _ = false

-- A value object with just a text, or a reference to a node.
abbrev pub is_plain_entry : Tree → Bool
is_plain_entry (object (member k (text s) no_members)) = bytes_eq k value_key || (bytes_eq k id_key && has_scheme s)
is_plain_entry _ = false

abbrev pub are_plain_entries : List Tree → Bool
are_plain_entries [] = true
are_plain_entries (t ∷ ts) = is_plain_entry t && are_plain_entries ts

abbrev pub is_plain_array : Tree → Bool
is_plain_array (array ts) = are_plain_entries (tree_list ts)
is_plain_array _ = false

-- An id, or a property with its array of entries.
abbrev pub is_plain_member : List ℕ × Tree → Bool
is_plain_member m = if bytes_eq m.0 id_key then is_iri_text m.1 else (has_scheme m.0 && is_plain_array m.1)

abbrev pub are_plain_members : Pairs → Bool
are_plain_members [] = true
are_plain_members (m ∷ ms) = is_plain_member m && are_plain_members ms

-- A node object with an id.
abbrev pub is_plain_item : Tree → Bool
is_plain_item (object ms) = is_some (member_at id_key (member_list ms)) && are_plain_members (member_list ms)
is_plain_item _ = false

abbrev pub are_plain_items : List Tree → Bool
are_plain_items [] = true
are_plain_items (t ∷ ts) = is_plain_item t && are_plain_items ts

-- The document is plain.
abbrev pub is_plain : Tree → Bool
is_plain (array ts) = are_plain_items (tree_list ts)
is_plain _ = false
