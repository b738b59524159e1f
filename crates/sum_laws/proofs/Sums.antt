-- Sums are joined as their operations are put one behind another.
use Rattle.std.proofs.Common.{◌≡◌, ℕ, List, [], ◌∷◌, Bool, true, false, Option, Some, None, refl, sym, ap, ◌∙◌}
use Rattle.std.specs.Str.{bytes_eq}
use Rattle.ld_model.proofs.Puts.{bytes_eq-exact}
use Rattle.op_model.specs.Names.{same_name}
use Rattle.sum_model.specs.Joins.{lists_joined, maps_joined}
use Rattle.sum_model.specs.Sums.{Place, same_key, same_entry, Index, conflict_with, indexes_joined, bare, properties_joined, part_entries_joined, join, sum_of_one, sum}
use Rattle.sum_laws.specs.Laws.{IsMonoid, JoinIsAMonoid, TheSumOfBothIsTheJoin}
use Rattle.sum_laws.proofs.Lists.{lists-monoid}
use Rattle.sum_laws.proofs.Maps.{maps-monoid}
use Rattle.sum_laws.proofs.Same.{same_name-exact, same_key-exact, same_entry-exact}

-- The first conflict with two later indexes.
conflict_with_both : (text : List ℕ) (o : Option (Place × List ℕ)) (b c : Index) → conflict_with text (conflict_with text o b) c ≡ conflict_with text o (record { place = b.place; text = b.text; conflict = conflict_with b.text b.conflict c })
conflict_with_both text (Some first) b c = refl
conflict_with_both text None b c = by_test (bytes_eq text b.text) refl
  where
    by_test : (t : Bool) → bytes_eq text b.text ≡ t → conflict_with text (conflict_with text None b) c ≡ conflict_with text None (record { place = b.place; text = b.text; conflict = conflict_with b.text b.conflict c })
    by_test true is = rw is (ap (λ s. conflict_with s b.conflict c) (bytes_eq-exact text b.text is))
    by_test false is = rw is refl

pub indexes : IsMonoid None indexes_joined
indexes = record {
  assoc = assoc;
  left = λ a. refl;
  right = right;
}
  where
    assoc : (a b c : Option Index) → indexes_joined (indexes_joined a b) c ≡ indexes_joined a (indexes_joined b c)
    assoc None b c = refl
    assoc (Some a) None c = refl
    assoc (Some a) (Some b) None = refl
    assoc (Some a) (Some b) (Some c) = ap (λ o. Some (record { place = a.place; text = a.text; conflict = o })) (conflict_with_both a.text a.conflict b c)

    right : (a : Option Index) → indexes_joined a None ≡ a
    right None = refl
    right (Some a) = refl

pub names : IsMonoid [] (lists_joined same_name)
names = lists-monoid same_name same_name-exact

pub entries : IsMonoid [] (lists_joined same_entry)
entries = lists-monoid same_entry same_entry-exact

pub properties : IsMonoid [] properties_joined
properties = maps-monoid same_name same_name-exact [] (lists_joined same_entry) entries

pub part_entries : IsMonoid bare part_entries_joined
part_entries = record {
  assoc = λ a b c i. record { types = names.assoc a.types b.types c.types i; index = indexes.assoc a.index b.index c.index i; properties = properties.assoc a.properties b.properties c.properties i };
  left = λ a i. record { types = names.left a.types i; index = indexes.left a.index i; properties = properties.left a.properties i };
  right = λ a i. record { types = names.right a.types i; index = indexes.right a.index i; properties = properties.right a.properties i };
}

pub nodes : IsMonoid [] (maps_joined same_key bare part_entries_joined)
nodes = maps-monoid same_key same_key-exact bare part_entries_joined part_entries

pub join_is_a_monoid : JoinIsAMonoid
join_is_a_monoid = record {
  assoc = λ a b c i. record { graphs = names.assoc a.graphs b.graphs c.graphs i; nodes = nodes.assoc a.nodes b.nodes c.nodes i };
  left = λ a i. record { graphs = names.left a.graphs i; nodes = nodes.left a.nodes i };
  right = λ a i. record { graphs = names.right a.graphs i; nodes = nodes.right a.nodes i };
}

pub the_sum_of_both_is_the_join : TheSumOfBothIsTheJoin
the_sum_of_both_is_the_join [] b = sym (join_is_a_monoid.left (sum b))
the_sum_of_both_is_the_join (o ∷ os) b =
    ap (join (sum_of_one o.0 o.1)) (the_sum_of_both_is_the_join os b)
    ∙ sym (join_is_a_monoid.assoc (sum_of_one o.0 o.1) (sum os) (sum b))
