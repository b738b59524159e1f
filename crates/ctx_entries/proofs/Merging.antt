-- A step of merging, by what stands first in both maps.
use Rattle.std.proofs.Common.{arith, ◌≡◌, ◌<◌, ℕ, List, [], ◌∷◌, length, Ordering, Less, Equal, Greater, Option, Some, None, refl, ap, ◌∙◌, subst}
use Rattle.std.specs.Prelude.{slice_get}
use Rattle.std.specs.Borrow.{Bor}
use Rattle.std.specs.Iterator.{YieldsFirstBy}
use Rattle.ld_model.specs.Tree.{Tree, Pairs, byte_order}
use Rattle.ld_json.specs.declared.value.Tree.{Tree as Value}
use Rattle.ctx_types.specs.Context.{Text}
use Rattle.ctx_model.specs.Process.{merged}
use Rattle.ctx_entries.specs.View.{pair_view}
use Rattle.ctx_entries.specs.Merge.{IsNextOf}

-- An entry is taken off some, or there is none.
abbrev pub Takes : Pairs → Option (Bor Text × Bor Value) → Pairs → Type 0
Takes es r left = YieldsFirstBy pair_view (λ l. l) es r left

pub merged-none : (own : Pairs) → merged own [] ≡ own
merged-none [] = refl
merged-none (e ∷ es) = ap (λ l. e ∷ l) (merged-none es)

none_first : (es : Pairs) → None ≡ slice_get es 0 → es ≡ []
none_first [] at = refl
none_first (e ∷ es) at = absurd (cc)

same_first : (x e : List ℕ × Tree) (es : Pairs) → Some x ≡ slice_get (e ∷ es) 0 → x ≡ e
same_first x e es at = cc

shorter : (e : List ℕ × Tree) (es left : Pairs) → es ≡ e ∷ left → length left < length es
shorter e es left is = rw is (grind arith)

-- Where no own entry is left.
pub of_imports : (own imports left : Pairs) (r : Option (Bor Text × Bor Value)) → None ≡ slice_get own 0 → Takes imports r left → IsNextOf own imports r own left
of_imports own imports left None at takes = ap (λ l. merged l imports) (none_first own at) ∙ takes.0
of_imports own imports left (Some p) at takes =
    let none = none_first own at in
    let less = shorter (pair_view p) imports left takes in
    (rw none takes, rw none (grind arith))

-- Where no import is left.
pub of_own : (own imports left : Pairs) (r : Option (Bor Text × Bor Value)) → None ≡ slice_get imports 0 → Takes own r left → IsNextOf own imports r left imports
of_own own imports left None at takes = ap (merged own) (none_first imports at) ∙ merged-none own ∙ takes.0
of_own own imports left (Some p) at takes =
    let none = none_first imports at in
    let less = shorter (pair_view p) own left takes in
    (rw (none, merged-none own, merged-none left) takes, rw none (grind arith))

-- What merging does at two first entries.
abbrev first_of : Ordering → (e i : List ℕ × Tree) (es is : Pairs) → Pairs
first_of o e i es is = elim o [ Less ↦ e ∷ merged es (i ∷ is) | Equal ↦ e ∷ merged es is | Greater ↦ i ∷ merged (e ∷ es) is ]

at_firsts : (e i : List ℕ × Tree) (es is : Pairs) (o : Ordering) → byte_order e.0 i.0 ≡ o → merged (e ∷ es) (i ∷ is) ≡ first_of o e i es is
at_firsts e i es is o at = ap (λ o. first_of o e i es is) at

-- Where the own entry comes first.
pub own_before : (own imports left : Pairs) (r : Option (Bor Text × Bor Value)) (e i : List ℕ × Tree) → Some e ≡ slice_get own 0 → Some i ≡ slice_get imports 0 → byte_order e.0 i.0 ≡ Less → Takes own r left → IsNextOf own imports r left imports
own_before [] imports left r e i own_at at less takes = absurd (cc)
own_before (f ∷ es) [] left r e i own_at at less takes = absurd (cc)
own_before (f ∷ es) (j ∷ is) left None e i own_at at less takes = absurd (cc)
own_before (f ∷ es) (j ∷ is) left (Some p) e i own_at at less takes =
    let first : f ≡ pair_view p = cc in
    let rest : es ≡ left = cc in
    let before : byte_order f.0 j.0 ≡ Less = subst (λ x. byte_order x.0 j.0 ≡ Less) (same_first e f es own_at) (subst (λ x. byte_order e.0 x.0 ≡ Less) (same_first i j is at) less) in
    (at_firsts f j es is Less before ∙ (λ k. first k ∷ merged (rest k) (j ∷ is)), rw rest (grind arith))

-- Where the import comes first.
pub import_before : (own imports left : Pairs) (r : Option (Bor Text × Bor Value)) (e i : List ℕ × Tree) → Some e ≡ slice_get own 0 → Some i ≡ slice_get imports 0 → byte_order e.0 i.0 ≡ Greater → Takes imports r left → IsNextOf own imports r own left
import_before [] imports left r e i own_at at greater takes = absurd (cc)
import_before (f ∷ es) [] left r e i own_at at greater takes = absurd (cc)
import_before (f ∷ es) (j ∷ is) left None e i own_at at greater takes = absurd (cc)
import_before (f ∷ es) (j ∷ is) left (Some p) e i own_at at greater takes =
    let first : j ≡ pair_view p = cc in
    let rest : is ≡ left = cc in
    let before : byte_order f.0 j.0 ≡ Greater = subst (λ x. byte_order x.0 j.0 ≡ Greater) (same_first e f es own_at) (subst (λ x. byte_order e.0 x.0 ≡ Greater) (same_first i j is at) greater) in
    (at_firsts f j es is Greater before ∙ (λ k. first k ∷ merged (f ∷ es) (rest k)), rw rest (grind arith))
