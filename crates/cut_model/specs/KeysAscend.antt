-- Values whose maps have their keys in ascending order, each once, at any depth. What is read from a JSON text is such a value.
use Rattle.ld_model.specs.Tree.{Tree, null, truth, whole, one_one, text, array, object, Trees, no_trees, tree, Members, no_members, member, member_list, AreAscending}

-- Of a value, of the items of an array, and of the values of a map.
abbrev mutual
  pub KeysAscend : Tree → Type 0
  KeysAscend null = Unit {0}
  KeysAscend (truth b) = Unit {0}
  KeysAscend (whole n) = Unit {0}
  KeysAscend one_one = Unit {0}
  KeysAscend (text s) = Unit {0}
  KeysAscend (array ts) = KeysAscendInItems ts
  KeysAscend (object ms) = AreAscending (member_list ms) × KeysAscendInValues ms

  pub KeysAscendInItems : Trees → Type 0
  KeysAscendInItems no_trees = Unit {0}
  KeysAscendInItems (tree t ts) = KeysAscend t × KeysAscendInItems ts

  pub KeysAscendInValues : Members → Type 0
  KeysAscendInValues no_members = Unit {0}
  KeysAscendInValues (member k t ms) = KeysAscend t × KeysAscendInValues ms
