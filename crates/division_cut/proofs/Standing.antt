-- What is made of a division stands for what is made of the one that it stands for.
use Rattle.std.proofs.Common.{◌≡◌, ℕ, List, Bool, true, false, if◌then◌else◌, Option, refl, sym, ap, ◌∙◌, subst}
use Rattle.ld_model.specs.Tree.{Tree}
use Rattle.ctx_types.specs.Expansion.{is_keyword}
use Rattle.node_model.specs.Walk.{To, nowhere, under, reverse}
use Rattle.op_model.specs.Names.{Name}
use Rattle.division_model.specs.Dividing.{Division, Mark, opened, begins, continues, spine_noting, divide, range_ended}
use Rattle.division_model.specs.ByWeight.{by_weight, are_few}
use Rattle.division_cut.specs.Standing.{StandsFor, Makes, is_outside}
use Rattle.division_cut.specs.Found.{property_divided, reverse_property_divided}
use Rattle.division_cut.specs.Turns.{turned}
use Rattle.division_cut.proofs.Many.{HasMany, same_are_many, range_has_many, divided_has_many}

pub stands_here : (v : Division) → StandsFor v v
stands_here v = record { same = λ few. refl; many = λ many. many }

-- A step that was made as the definitions have it.
pub stood : (v w : Division) (step : Division → Division) → w ≡ step v → ((x : Division) → HasMany x → HasMany (step x)) → Makes v w step
stood v w step is more d stands = by_few (are_few v.chunks) refl
  where
    by_few : (few : Bool) → are_few v.chunks ≡ few → StandsFor w (step d)
    by_few true here =
        let same : w ≡ step d = is ∙ ap step (stands.same here) in
        record { same = λ few. same; many = λ many. same_are_many w (step d) (ap (λ (x : Division). x.chunks) (sym same)) many }
    by_few false here =
        let many = same_are_many (step v) w (ap (λ (x : Division). x.chunks) is) (more v here) in
        record { same = λ few. absurd (let both = sym many ∙ few in cc); many = λ m. more d (stands.many here) }

-- Where there are many, nothing need be made.
pub stayed : (v : Division) (step : Division → Division) → HasMany v → ((x : Division) → HasMany x → HasMany (step x)) → Makes v v step
stayed v step here more d stands = record { same = λ few. absurd (let both = sym here ∙ few in cc); many = λ m. more d (stands.many here) }

pub over_is_made : (limit : ℕ) (g : Name) (to : To Name) (t : Tree) (v : Division) → is_outside to ≡ true → HasMany v → Makes v v (divide (by_weight limit) g to t)
over_is_made limit g to t v out here = stayed v (divide (by_weight limit) g to t) here (λ x many. divided_has_many limit g to t x out many)

pub range_is_made : (g : Name) (to : To Name) (ts : List Tree) (v w : Division) → w ≡ range_ended g to ts v → Makes v w (range_ended g to ts)
range_is_made g to ts v w is = stood v w (range_ended g to ts) is (λ x many. range_has_many g to ts x many)

pub keyword_is_made : (limit : ℕ) (g id : Name) (k : List ℕ) (t : Tree) (v : Division) → is_keyword k ≡ true → Makes v v (property_divided limit g id k t)
keyword_is_made limit g id k t v word d stands = subst (λ b. StandsFor v (if b then d else divide (by_weight limit) g (under id (spine_noting.property g id k d).0) t (spine_noting.property g id k d).1)) (sym word) stands

pub reverse_keyword_is_made : (limit : ℕ) (g id : Name) (k : List ℕ) (t : Tree) (v : Division) → is_keyword k ≡ true → Makes v v (reverse_property_divided limit g id k t)
reverse_keyword_is_made limit g id k t v word d stands = subst (λ b. StandsFor v (if b then d else divide (by_weight limit) g (reverse id (spine_noting.named k d).0) t (spine_noting.named k d).1)) (sym word) stands

pub property_is_made : (limit : ℕ) (g id n : Name) (k : List ℕ) (t : Tree) (u v w : Division) → is_keyword k ≡ false
    → (n, v) ≡ spine_noting.property g id k u → Makes v w (divide (by_weight limit) g (under id n) t) → Makes u w (property_divided limit g id k t)
property_is_made limit g id n k t u v w word is made d stands =
    let q = spine_noting.property g id k d in
    let begun = stood u v (λ (x : Division). (spine_noting.property g id k x).1) (ap (λ (x : Name × Division). x.1) is) (λ x many. many) d stands in
    let named : n ≡ q.0 = ap (λ (x : Name × Division). x.0) is in
    subst (λ b. StandsFor w (if b then d else divide (by_weight limit) g (under id q.0) t q.1)) (sym word)
    (subst (λ x. StandsFor w (divide (by_weight limit) g (under id x) t q.1)) named (made q.1 begun))

pub reverse_property_is_made : (limit : ℕ) (g id n : Name) (k : List ℕ) (t : Tree) (u v w : Division) → is_keyword k ≡ false
    → (n, v) ≡ spine_noting.named k u → Makes v w (divide (by_weight limit) g (reverse id n) t) → Makes u w (reverse_property_divided limit g id k t)
reverse_property_is_made limit g id n k t u v w word is made d stands =
    let q = spine_noting.named k d in
    let begun = stood u v (λ (x : Division). (spine_noting.named k x).1) (ap (λ (x : Name × Division). x.1) is) (λ x many. many) d stands in
    let named : n ≡ q.0 = ap (λ (x : Name × Division). x.0) is in
    subst (λ b. StandsFor w (if b then d else divide (by_weight limit) g (reverse id q.0) t q.1)) (sym word)
    (subst (λ x. StandsFor w (divide (by_weight limit) g (reverse id x) t q.1)) named (made q.1 begun))
