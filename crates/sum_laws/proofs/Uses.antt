-- Names in the order of first use are joined; and each name has a shard.
use Rattle.std.proofs.Common.{◌≡◌, List, [], ◌∷◌, ◌++◌, Bool, true, false, cond, not, refl, sym, ap, ◌∙◌, append-nil}
use Rattle.std.specs.List.{list_any}
use Rattle.std.proofs.lemmas.Nat.{mod_below}
use Rattle.op_model.specs.Names.{Name, same_name}
use Rattle.op_model.specs.Running.{with_name, used}
use Rattle.sum_model.specs.Joins.{lists_joined}
use Rattle.sum_model.specs.Shards.{folded, numbers_of}
use Rattle.sum_laws.specs.Laws.{TheUsesOfBothAreJoined, EachNameHasAShard}
use Rattle.sum_laws.proofs.Sums.{names}

-- One more name.
with_one : (held : List Name) (n : Name) (t : Bool) → cond t held (held ++ n ∷ []) ≡ held ++ cond (not t) (n ∷ []) []
with_one held n true = sym (append-nil held)
with_one held n false = refl

one_joined : (held : List Name) (n : Name) → with_name held n ≡ lists_joined same_name held (n ∷ [])
unfolding with_name
one_joined held n = with_one held n (list_any (same_name n) held)

-- Names that are used after some: those joined with what is used.
used_after : (held ns : List Name) → used held ns ≡ lists_joined same_name held (used [] ns)
used_after held [] = sym (names.right held)
used_after held (n ∷ ns) =
    ap (λ l. used l ns) (one_joined held n)
    ∙ used_after (lists_joined same_name held (n ∷ [])) ns
    ∙ names.assoc held (n ∷ []) (used [] ns)
    ∙ ap (lists_joined same_name held) (sym (used_after (n ∷ []) ns) ∙ sym (ap (λ l. used l ns) (one_joined [] n)))

used-append : (held a b : List Name) → used held (a ++ b) ≡ used (used held a) b
used-append held [] b = refl
used-append held (n ∷ ns) b = used-append (with_name held n) ns b

pub the_uses_of_both_are_joined : TheUsesOfBothAreJoined
the_uses_of_both_are_joined a b = used-append [] a b ∙ used_after (used [] a) b

pub each_name_has_a_shard : EachNameHasAShard
each_name_has_a_shard shards some name = mod_below (folded 0 (numbers_of name)) shards some
