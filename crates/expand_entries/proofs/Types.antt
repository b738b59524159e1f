-- A type that isn't an array is made one.
use Rattle.std.proofs.Common.{◌≡◌, [], true, Option, None, Some, refl}
use Rattle.std.specs.Prelude.{codes}
use Rattle.ld_model.specs.Tree.{Tree, Pairs, null, truth, whole, one_one, text, array, object, member_at}
use Rattle.expand_model.specs.Values.{add_all}
use Rattle.expand_model.specs.Finish.{types_array}
use Rattle.expand_entries.specs.Finish.{is_lone_type}

by_type : (r : Pairs) (o : Option Tree) → member_at (codes "@type") r ≡ o → is_lone_type o ≡ true → add_all (codes "@type") [] r ≡ types_array o r
unfolding add_all
by_type r None is lone = absurd (cc)
by_type r (Some null) is lone = rw is refl
by_type r (Some (truth b)) is lone = rw is refl
by_type r (Some (whole n)) is lone = rw is refl
by_type r (Some one_one) is lone = rw is refl
by_type r (Some (text s)) is lone = rw is refl
by_type r (Some (array ts)) is lone = absurd (cc)
by_type r (Some (object ms)) is lone = rw is refl

pub lone_type : (r : Pairs) → is_lone_type (member_at (codes "@type") r) ≡ true → add_all (codes "@type") [] r ≡ types_array (member_at (codes "@type") r) r
lone_type r lone = by_type r (member_at (codes "@type") r) refl lone
