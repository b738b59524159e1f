use Rattle.std.proofs.Common.{◌≡◌, refl}
use Rattle.std.specs.Ordering.{nat_cmp}
use Rattle.std.proofs.lemmas.Iterator.Search.{cmp_from_yields_List}
use Rattle.json_canon.proofs.Units.{YieldsList-from_encode_utf16}
use Rattle.json_canon.proofs.order.compare_utf16.Goals as goal

pub returns : goal.returns
returns c =
    cmp_from_yields_List (λ x y. y ≡ x) _ nat_cmp _ c.cmp.ensures.ran (YieldsList-from_encode_utf16 c.args.a.now c.utf8.a c.encode_utf16.ensures.text c.encode_utf16.ensures.pending) (λ it e. YieldsList-from_encode_utf16 c.args.b.now c.utf8.b (cc) (cc)) (λ x y. refl)
