-- The merge of an item's own entries with imported ones.
use Rattle.std.proofs.Common.{◌≡◌, [], ◌∷◌, Bool, true, false, cond, Option, Some, None, Ordering, Less, Equal, Greater, refl, sym, ap, ◌∙◌, subst}
use Rattle.std.specs.Option.{option_or}
use Rattle.std.specs.Ordering.{ordering_reverse}
use Rattle.std.specs.List.{AllByRecursion}
use Rattle.std.specs.Map.{keys_of}
use Rattle.std.specs.BTreeMap.{is_at}
use Rattle.std.proofs.lemmas.Cmp.{nat_list_cmp_total}
use Rattle.std.proofs.lemmas.Map.Lookups.{exact_bytes}
use Rattle.ld_model.specs.Tree.{Tree, Pairs, byte_order, member_at, AreAscending, IsBefore}
use Rattle.ld_model.proofs.Puts.{all_after, ascending_cons, ascending_head, ascending_tail}
use Rattle.ctx_types.specs.Context.{Text}
use Rattle.ctx_model.specs.Process.{merged}
use Rattle.ctx_laws.specs.Laws.{ImportsGiveWay}
use Rattle.ctx_laws.proofs.Lookups.{at-exact}

abbrev merged_by : Text × Tree → Pairs → Text × Tree → Pairs → Ordering → Pairs
merged_by e es i is o = elim o [ Less ↦ e ∷ merged es (i ∷ is) | Equal ↦ e ∷ merged es is | Greater ↦ i ∷ merged (e ∷ es) is ]

-- one step of it
merged_step : (e : Text × Tree) (es : Pairs) (i : Text × Tree) (is : Pairs) (o : Ordering) → byte_order e.0 i.0 ≡ o → merged (e ∷ es) (i ∷ is) ≡ merged_by e es i is o
merged_step e es i is o h = ap (merged_by e es i is) h

-- no later key is one before the first
none_before : (k x : Text) (es : Pairs) → byte_order k x ≡ Less → AllByRecursion (IsBefore x) (keys_of es) → member_at k es ≡ None
none_before k x [] less all = refl
none_before k x (e ∷ es) less all = rw (nat_list_cmp_total.trans k x e.0 less all.0) (none_before k x es less all.1)

same_key : (k a b : Text) → byte_order a b ≡ Equal → is_at (byte_order k) a ≡ is_at (byte_order k) b
same_key k a b same = ap (is_at (byte_order k)) (exact_bytes a b same)

-- what is true of all keys of both is true of those of the merge
all_merged : (P : Text → Type 0) (own imports : Pairs) → AllByRecursion P (keys_of own) → AllByRecursion P (keys_of imports) → AllByRecursion P (keys_of (merged own imports))
all_merged P [] imports a b = b
all_merged P (e ∷ es) imports a b = inner (λ is b. all_merged P es is a.1 b) imports b
  where
    inner : ((is : Pairs) → AllByRecursion P (keys_of is) → AllByRecursion P (keys_of (merged es is))) → (is : Pairs) → AllByRecursion P (keys_of is) → AllByRecursion P (keys_of (merged (e ∷ es) is))
    inner rest [] b = (a.0, rest [] b)
    inner rest (i ∷ is) b = step (byte_order e.0 i.0) refl (inner rest is b.1)
      where
        step : (o : Ordering) → byte_order e.0 i.0 ≡ o → AllByRecursion P (keys_of (merged (e ∷ es) is)) → AllByRecursion P (keys_of (merged (e ∷ es) (i ∷ is)))
        step Less h next = subst (λ ms. AllByRecursion P (keys_of ms)) (sym (merged_step e es i is Less h)) (a.0, rest (i ∷ is) b)
        step Equal h next = subst (λ ms. AllByRecursion P (keys_of ms)) (sym (merged_step e es i is Equal h)) (a.0, rest is b.1)
        step Greater h next = subst (λ ms. AllByRecursion P (keys_of ms)) (sym (merged_step e es i is Greater h)) (b.0, next)

pub entries_merged : (P : Text × Tree → Type 0) (own imports : Pairs) → AllByRecursion P own → AllByRecursion P imports → AllByRecursion P (merged own imports)
entries_merged P [] imports a b = b
entries_merged P (e ∷ es) imports a b = inner (λ is b. entries_merged P es is a.1 b) imports b
  where
    inner : ((is : Pairs) → AllByRecursion P is → AllByRecursion P (merged es is)) → (is : Pairs) → AllByRecursion P is → AllByRecursion P (merged (e ∷ es) is)
    inner rest [] b = (a.0, rest [] b)
    inner rest (i ∷ is) b = step (byte_order e.0 i.0) refl (inner rest is b.1)
      where
        step : (o : Ordering) → byte_order e.0 i.0 ≡ o → AllByRecursion P (merged (e ∷ es) is) → AllByRecursion P (merged (e ∷ es) (i ∷ is))
        step Less h next = subst (AllByRecursion P) (sym (merged_step e es i is Less h)) (a.0, rest (i ∷ is) b)
        step Equal h next = subst (AllByRecursion P) (sym (merged_step e es i is Equal h)) (a.0, rest is b.1)
        step Greater h next = subst (AllByRecursion P) (sym (merged_step e es i is Greater h)) (b.0, next)

merge_ascends : (own imports : Pairs) → AreAscending own → AreAscending imports → AreAscending (merged own imports)
merge_ascends [] imports a b = b
merge_ascends (e ∷ es) imports a b = inner (λ is b. merge_ascends es is (ascending_tail e es a) b) imports b
  where
    inner : ((is : Pairs) → AreAscending is → AreAscending (merged es is)) → (is : Pairs) → AreAscending is → AreAscending (merged (e ∷ es) is)
    inner rest [] b = ascending_cons e (merged es []) (all_merged (IsBefore e.0) es [] (ascending_head e es a) tt) (rest [] b)
    inner rest (i ∷ is) b = step (byte_order e.0 i.0) refl (inner rest is (ascending_tail i is b))
      where
        step : (o : Ordering) → byte_order e.0 i.0 ≡ o → AreAscending (merged (e ∷ es) is) → AreAscending (merged (e ∷ es) (i ∷ is))
        step Less h next =
            let behind : AllByRecursion (IsBefore e.0) (keys_of (i ∷ is)) = (h, all_after e.0 i.0 is h (ascending_head i is b)) in
            subst AreAscending (sym (merged_step e es i is Less h)) (ascending_cons e (merged es (i ∷ is)) (all_merged (IsBefore e.0) es (i ∷ is) (ascending_head e es a) behind) (rest (i ∷ is) b))
        step Equal h next =
            let behind : AllByRecursion (IsBefore e.0) (keys_of is) = subst (λ x. AllByRecursion (IsBefore x) (keys_of is)) (sym (exact_bytes e.0 i.0 h)) (ascending_head i is b) in
            subst AreAscending (sym (merged_step e es i is Equal h)) (ascending_cons e (merged es is) (all_merged (IsBefore e.0) es is (ascending_head e es a) behind) (rest is (ascending_tail i is b)))
        step Greater h next =
            let before : byte_order i.0 e.0 ≡ Less = nat_list_cmp_total.antisymm i.0 e.0 ∙ ap ordering_reverse h in
            let behind : AllByRecursion (IsBefore i.0) (keys_of (e ∷ es)) = (before, all_after i.0 e.0 es before (ascending_head e es a)) in
            subst AreAscending (sym (merged_step e es i is Greater h)) (ascending_cons i (merged (e ∷ es) is) (all_merged (IsBefore i.0) (e ∷ es) is behind (ascending_head i is b)) next)

-- what stands at a key
merge_at : (k : Text) (own imports : Pairs) → AreAscending own → member_at k (merged own imports) ≡ option_or (member_at k own) (member_at k imports)
merge_at k [] imports a = refl
merge_at k (e ∷ es) imports a = inner (λ is. merge_at k es is (ascending_tail e es a)) imports
  where
    taken : (b : Bool) (m n : Option Tree) (o : Option Tree) → m ≡ option_or n o → cond b (Some e.1) m ≡ option_or (cond b (Some e.1) n) o
    taken true m n o h = refl
    taken false m n o h = h

    shared : (b c : Bool) (t : Tree) (m n : Option Tree) (o : Option Tree) → b ≡ c → m ≡ option_or n o → cond b (Some e.1) m ≡ option_or (cond b (Some e.1) n) (cond c (Some t) o)
    shared true c t m n o same h = refl
    shared false true t m n o same h = absurd (cc)
    shared false false t m n o same h = h

    given : (b : Bool) (t : Tree) (m n : Option Tree) (o : Option Tree) → (b ≡ true → n ≡ None) → m ≡ option_or n o → cond b (Some t) m ≡ option_or n (cond b (Some t) o)
    given true t m n o none h = rw (none refl) refl
    given false t m n o none h = h

    inner : ((is : Pairs) → member_at k (merged es is) ≡ option_or (member_at k es) (member_at k is)) → (is : Pairs) → member_at k (merged (e ∷ es) is) ≡ option_or (member_at k (e ∷ es)) (member_at k is)
    inner rest [] = taken (is_at (byte_order k) e.0) (member_at k (merged es [])) (member_at k es) None (rest [])
    inner rest (i ∷ is) = step (byte_order e.0 i.0) refl (inner rest is)
      where
        step : (o : Ordering) → byte_order e.0 i.0 ≡ o → member_at k (merged (e ∷ es) is) ≡ option_or (member_at k (e ∷ es)) (member_at k is) → member_at k (merged (e ∷ es) (i ∷ is)) ≡ option_or (member_at k (e ∷ es)) (member_at k (i ∷ is))
        step Less h next = ap (member_at k) (merged_step e es i is Less h) ∙ taken (is_at (byte_order k) e.0) (member_at k (merged es (i ∷ is))) (member_at k es) (member_at k (i ∷ is)) (rest (i ∷ is))
        step Equal h next =
            ap (member_at k) (merged_step e es i is Equal h)
            ∙ shared (is_at (byte_order k) e.0) (is_at (byte_order k) i.0) i.1 (member_at k (merged es is)) (member_at k es) (member_at k is) (same_key k e.0 i.0 h) (rest is)
        step Greater h next =
            let before : byte_order i.0 e.0 ≡ Less = nat_list_cmp_total.antisymm i.0 e.0 ∙ ap ordering_reverse h in
            let none : is_at (byte_order k) i.0 ≡ true → member_at k (e ∷ es) ≡ None =
            λ same. let less : byte_order k e.0 ≡ Less = subst (λ x. byte_order x e.0 ≡ Less) (sym (at-exact k i.0 same)) before in rw less (none_before k e.0 es less (ascending_head e es a)) in
            ap (member_at k) (merged_step e es i is Greater h) ∙ given (is_at (byte_order k) i.0) i.1 (member_at k (merged (e ∷ es) is)) (member_at k (e ∷ es)) (member_at k is) none next

pub imports_give_way : ImportsGiveWay
imports_give_way own imports a b = record { values = λ k. merge_at k own imports a; ascending = merge_ascends own imports a b }
