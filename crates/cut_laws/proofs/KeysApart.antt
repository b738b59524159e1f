-- Where keys ascend, each stands once.
use Rattle.std.proofs.Common.{ℕ, ◌≡◌, List, sym, ap, ◌∙◌, subst}
use Rattle.std.specs.List.{AllByRecursion}
use Rattle.std.specs.List.Sorted.{IsStrictlySortedBy}
use Rattle.std.specs.Map.{keys_of}
use Rattle.std.specs.declared.cmp.Ordering.{Ordering}
use Rattle.std.specs.declared.cmp.Ordering.TheVariants.{Less, Equal, Greater}
use Rattle.ld_model.specs.Tree.{Tree, null, truth, whole, one_one, text, array, object, Trees, no_trees, tree, Members, no_members, member, member_list, byte_order, AreAscending}
use Rattle.ld_model.proofs.Puts.{order-refl}
use Rattle.cut_model.specs.KeysAscend.{KeysAscend, KeysAscendInItems, KeysAscendInValues}
use Rattle.cut_laws.proofs.Regions.{NotIn}
use Rattle.cut_laws.proofs.PiecesInRegions.{KeysApart, AllApart, EachApart}

abbrev is_less : Ordering → Type 0
is_less Less = Unit {0}
is_less Equal = ⊥
is_less Greater = ⊥

not_in : (k : List ℕ) (ms : Members) → AllByRecursion (λ x. byte_order k x ≡ Less) (keys_of (member_list ms)) → NotIn k ms
not_in k no_members h = tt
not_in k (member l t ms) h = ((λ e. subst is_less (sym h.0 ∙ ap (λ x. byte_order k x) (sym e) ∙ order-refl k) tt), not_in k ms h.1)

tail_ascends : (k : List ℕ) (t : Tree) (ms : Members) → AreAscending (member_list (member k t ms)) → NotIn k ms × AreAscending (member_list ms)
unfolding IsStrictlySortedBy
tail_ascends k t ms h = (not_in k ms h.0, h.1)

mutual
  pub ascends_apart : (t : Tree) → KeysAscend t → KeysApart t
  ascends_apart null h = tt
  ascends_apart (truth b) h = tt
  ascends_apart (whole n) h = tt
  ascends_apart one_one h = tt
  ascends_apart (text s) h = tt
  ascends_apart (array ts) h = all_apart ts h
  ascends_apart (object ms) h = each_apart ms h.0 h.1

  all_apart : (ts : Trees) → KeysAscendInItems ts → AllApart ts
  all_apart no_trees h = tt
  all_apart (tree t ts) h = (ascends_apart t h.0, all_apart ts h.1)

  each_apart : (ms : Members) → AreAscending (member_list ms) → KeysAscendInValues ms → EachApart ms
  each_apart no_members a h = tt
  each_apart (member k t ms) a h = let r = tail_ascends k t ms a in (r.0, ascends_apart t h.0, each_apart ms r.1 h.1)
