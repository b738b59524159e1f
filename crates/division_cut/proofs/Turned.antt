-- One item of an array after another.
use Rattle.std.proofs.Common.{◌≡◌, ℕ, ◌+◌, ◌-◌, ◌^◌, ◌≤◌, ◌<◌, arith, List, [], ◌∷◌, ◌++◌, length, take, drop, get_or, min, nat_le, nat_lt, Bool, true, false, ◌&&◌, Option, Some, None, refl, sym, ap, ap₂, ◌∙◌, subst}
use Rattle.std.specs.Prelude.{if◌then◌else◌, not}
use Rattle.std.proofs.lemmas.Bool.Decides.{nat_tests}
use Rattle.std.proofs.lemmas.List.{append-nil, drop_all, drop_more, take_more, take-append-drop, get_or-drop, length-drop}
use Rattle.ld_model.specs.Tree as model
use Rattle.ld_model.specs.Tree.{Trees, no_trees, tree, array, trees_of, trees_weight, weight}
use Rattle.ld_tree.specs.View.{view, trees_view}
use Rattle.ld_tree.specs.declared.value.Tree.{Tree}
use Rattle.node_model.specs.Walk.{To}
use Rattle.op_model.specs.Names.{Name}
use Rattle.division_model.specs.Dividing.{Mark, opened, begins, continues, Division, divide, divide_items, range_ended}
use Rattle.division_model.specs.ByWeight.{highest, capped, is_above, holds_cut, with_item, mark_in_range, mark_of, marks, is_cut, by_weight}
use Rattle.division_cut.specs.Standing.{StandsFor, Makes, is_outside}
use Rattle.division_cut.specs.Turns.{turned, taken_after, first_after, marks_where, rest_divided, IsLeft}
use Rattle.division_cut.specs.Weighed.{light_weight, kept, mark_by, mark_where}
use Rattle.division_cut.proofs.Many.{HasMany, same_are_many, items_have_many}
use Rattle.division_cut.proofs.Standing.{range_is_made}

-- What weighs more than the limit stands in no range beside others, and nothing more is kept of its weight.
too_heavy : (limit w : ℕ) (sum : Option ℕ) → is_above limit w ≡ true → with_item limit sum (capped w) ≡ None
too_heavy limit w None above = refl
too_heavy limit w (Some s) above =
    let over : nat_le (capped (s + capped w)) limit ≡ false = grind (arith, nat_tests, above) in
    ap (λ b. if b then Some (capped (s + capped w)) else None) over

no_room : (limit s own : ℕ) → is_above limit s ≡ true → with_item limit (Some s) own ≡ None
no_room limit s own above =
    let over : nat_le (capped (s + own)) limit ≡ false = grind (arith, nat_tests, above) in
    ap (λ b. if b then Some (capped (s + own)) else None) over

heavy_is_left : (limit w : ℕ) → is_above limit w ≡ true → light_weight limit (capped w) ≡ None
heavy_is_left limit w above =
    let still : is_above limit (capped w) ≡ true = grind (arith, nat_tests, above) in
    ap (λ b. if b then None else Some (capped (capped w))) still

light_is_kept : (limit w : ℕ) → is_above limit w ≡ false → light_weight limit (capped w) ≡ Some (capped w)
light_is_kept limit w above =
    let still : is_above limit (capped w) ≡ false = grind (arith, nat_tests, above) in
    let same : capped (capped w) ≡ capped w = omega arith in
    ap (λ b. if b then None else Some (capped (capped w))) still ∙ ap Some same

abbrev with_kept : ℕ → Mark × Option ℕ → Mark × Option ℕ
with_kept limit m = (m.0, kept limit m.1)

-- An item that weighs at most the limit.
beside_is : (limit w s : ℕ) (fits : Bool) → is_above limit w ≡ false → nat_le (capped (s + capped w)) limit ≡ fits
    → mark_in_range (if fits then Some (capped (s + capped w)) else None) (capped w) ≡ with_kept limit (mark_in_range (if fits then Some (capped (s + capped w)) else None) (capped w))
beside_is limit w s true light fits =
    let small : is_above limit (s + capped w) ≡ false = grind (arith, nat_tests, fits) in
    λ i. (continues, sym (light_is_kept limit (s + capped w) small) i)
beside_is limit w s false light fits = λ i. (begins, sym (light_is_kept limit w light) i)

light_is : (limit w : ℕ) (sum : Option ℕ) → is_above limit w ≡ false
    → mark_in_range (with_item limit (kept limit sum) (capped w)) (capped w) ≡ with_kept limit (mark_in_range (with_item limit sum (capped w)) (capped w))
light_is limit w None light = λ i. (begins, sym (light_is_kept limit w light) i)
light_is limit w (Some s) light = by_test (is_above limit s) refl
  where
    by_test : (b : Bool) → is_above limit s ≡ b
        → mark_in_range (with_item limit (kept limit (Some s)) (capped w)) (capped w) ≡ with_kept limit (mark_in_range (with_item limit (Some s) (capped w)) (capped w))
    by_test true above =
        ap (λ b. mark_in_range (with_item limit (if b then None else Some (capped s)) (capped w)) (capped w)) above
        ∙ (λ i. (begins, sym (light_is_kept limit w light) i))
        ∙ ap (λ o. with_kept limit (mark_in_range o (capped w))) (sym (no_room limit s (capped w) above))
    by_test false below =
        let same : capped (capped s + capped w) ≡ capped (s + capped w) = omega arith in
        ap (λ b. mark_in_range (with_item limit (if b then None else Some (capped s)) (capped w)) (capped w)) below
        ∙ ap (λ n. mark_in_range (if nat_le n limit then Some n else None) (capped w)) same
        ∙ beside_is limit w s (nat_le (capped (s + capped w)) limit) light refl

-- The mark of an item, by what is kept of weights.
abbrev MarkIs : ℕ → Option ℕ → ℕ → Bool → Bool → Type 0
MarkIs limit sum w above holds =
    (if above then (if holds then (opened, None) else (begins, None)) else mark_in_range (with_item limit (kept limit sum) (capped w)) (capped w))
    ≡ with_kept limit (if above && holds then (opened, None) else mark_in_range (with_item limit sum (capped w)) (capped w))

mark_by_tests : (limit w : ℕ) (sum : Option ℕ) (above holds : Bool) → is_above limit w ≡ above → MarkIs limit sum w above holds
mark_by_tests limit w sum true true is = refl
mark_by_tests limit w sum true false is =
    (λ i. (begins, sym (heavy_is_left limit w is) i)) ∙ ap (λ o. with_kept limit (mark_in_range o (capped w))) (sym (too_heavy limit w sum is))
mark_by_tests limit w sum false holds is = light_is limit w sum is

mark_is : (limit : ℕ) (sum : Option ℕ) (t : model.Tree) → mark_by limit (kept limit sum) t ≡ with_kept limit (mark_of limit sum t)
mark_is limit sum t = mark_by_tests limit (weight t) sum (is_above limit (weight t)) (holds_cut limit t) refl

abbrev due_mark : Bool → ℕ → Option ℕ → model.Tree → Mark × Option ℕ
due_mark cut limit sum t = if cut then mark_of limit sum t else (opened, None)

mark_where_is : (cut : Bool) (limit : ℕ) (sum : Option ℕ) (t : model.Tree) → mark_where cut limit (kept limit sum) t ≡ with_kept limit (due_mark cut limit sum t)
mark_where_is true limit sum t = mark_is limit sum t
mark_where_is false limit sum t = refl

-- The first item of those that are left.
by_mark : (limit : ℕ) (g : Name) (to : To Name) (m : Mark) (rest : List Mark) (number : ℕ) (taken : List model.Tree) (t : model.Tree) (ts : Trees) (d : Division)
    → divide_items (by_weight limit) g to (m ∷ rest) number taken (tree t ts) d
    ≡ divide_items (by_weight limit) g to rest (number + 1) (taken_after m taken t) ts (turned limit g to m taken t d)
by_mark limit g to opened rest number taken t ts d = refl
by_mark limit g to begins rest number taken t ts d = refl
by_mark limit g to continues rest number taken t ts d = refl

first_is : (cut : Bool) (limit : ℕ) (sum : Option ℕ) (g : Name) (to : To Name) (number : ℕ) (taken : List model.Tree) (t : model.Tree) (ts : Trees) (d : Division)
    → rest_divided cut limit sum g to number taken (tree t ts) d
    ≡ (let m = due_mark cut limit sum t in rest_divided cut limit m.1 g to (number + 1) (taken_after m.0 taken t) ts (turned limit g to m.0 taken t d))
first_is true limit sum g to number taken t ts d =
    let m = mark_of limit sum t in
    by_mark limit g to m.0 (marks limit m.1 ts) number taken t ts d
first_is false limit sum g to number taken t ts d = refl

-- The next item was taken.
pub next_is_left : (cut : Bool) (limit : ℕ) (weighed : Option ℕ) (g : Name) (to : To Name) (number : ℕ) (taken : List model.Tree) (t : model.Tree) (ts : Trees) (v w whole : Division) (m : Mark × Option ℕ)
    → m ≡ mark_where cut limit weighed t → Makes v w (turned limit g to m.0 taken t)
    → IsLeft cut limit weighed g to number taken (tree t ts) v whole
    → IsLeft cut limit m.1 g to (number + 1) (taken_after m.0 taken t) ts w whole
next_is_left cut limit weighed g to number taken t ts v w whole m is made left =
    let due = due_mark cut limit left.sum t in
    let same : m ≡ with_kept limit due = is ∙ ap (λ o. mark_where cut limit o t) left.weighs ∙ mark_where_is cut limit left.sum t in
    let mark : m.0 ≡ due.0 = ap (λ (x : Mark × Option ℕ). x.0) same in
    record {
      now = turned limit g to m.0 taken t left.now;
      sum = due.1;
      stands = made left.now left.stands;
      weighs = ap (λ (x : Mark × Option ℕ). x.1) same;
      same = ap (λ k. rest_divided cut limit due.1 g to (number + 1) (taken_after k taken t) ts (turned limit g to k taken t left.now)) mark
          ∙ sym (first_is cut limit left.sum g to number taken t ts left.now) ∙ left.same;
    }

-- The items in the range under way.
next_taken : (items : List Tree) (first number : ℕ) (t : Tree) → first ≤ number → number < length items → t ≡ get_or items number t
    → take (number + 1 - first) (drop first items) ≡ take (number - first) (drop first items) ++ t ∷ []
next_taken items first number t before within at =
    let count = number - first in
    let more : number + 1 - first ≡ count + 1 = omega arith in
    let left = length-drop first items in
    let short : count < length (drop first items) = omega (arith, left) in
    let there : first + count ≡ number = omega arith in
    ap (λ n. take n (drop first items)) more
    ∙ take_more (drop first items) count t short
    ∙ ap (λ x. take count (drop first items) ++ x ∷ []) (get_or-drop first items count t ∙ ap (λ n. get_or items n t) there ∙ sym at)

view_append : (ts : List Tree) (t : Tree) → trees_view (ts ++ t ∷ []) ≡ trees_view ts ++ view t ∷ []
view_append [] t = refl
view_append (u ∷ us) t = ap (λ l. view u ∷ l) (view_append us t)

pub taken_is : (items : List Tree) (first number : ℕ) (t : Tree) (m : Mark) → first ≤ number → number < length items → t ≡ get_or items number t
    → trees_view (take (number + 1 - first_after m first number) (drop (first_after m first number) items)) ≡ taken_after m (trees_view (take (number - first) (drop first items))) (view t)
taken_is items first number t opened before within at =
    let none : number + 1 - (number + 1) ≡ 0 = omega arith in
    ap (λ n. trees_view (take n (drop (number + 1) items))) none
taken_is items first number t begins before within at =
    let one : number + 1 - number ≡ 1 = omega arith in
    ap (λ n. trees_view (take n (drop number items))) one
    ∙ ap (λ l. trees_view (take 1 l)) (drop_more items number t within ∙ ap (λ x. x ∷ drop (number + 1) items) (sym at))
taken_is items first number t continues before within at =
    ap trees_view (next_taken items first number t before within at) ∙ view_append (take (number - first) (drop first items)) t

pub next_item : (ts : List Tree) (i : ℕ) (t : Tree) → i < length ts → t ≡ get_or ts i t → drop i ts ≡ t ∷ drop (i + 1) ts
next_item ts i t within at = drop_more ts i t within ∙ ap (λ x. x ∷ drop (i + 1) ts) (sym at)

-- The items of an array, before the first.
pub whole_array : (cut : Bool) (limit : ℕ) (g : Name) (to : To Name) (ts : Trees) (d : Division) → cut ≡ is_cut limit ts
    → rest_divided cut limit None g to 0 [] ts d ≡ divide (by_weight limit) g to (array ts) d
whole_array cut limit g to ts d is = ap (λ b. rest_divided b limit None g to 0 [] ts d) is

pub first_is_before : (m : Mark) (first number : ℕ) → first ≤ number → first_after m first number ≤ number + 1
first_is_before opened first number before = omega arith
first_is_before begins first number before = omega arith
first_is_before continues first number before = omega arith

pub lighter_behind : (items : List Tree) (number : ℕ) (t : Tree) → number < length items → t ≡ get_or items number t → trees_weight (trees_of (trees_view (drop number items))) ≤ trees_weight (trees_of (trees_view items))
    → trees_weight (trees_of (trees_view (drop (number + 1) items))) ≤ trees_weight (trees_of (trees_view items))
lighter_behind items number t within at light =
    let parts = ap (λ l. trees_weight (trees_of (trees_view l))) (next_item items number t within at) in
    omega (arith, parts, light)

-- The next item of a list was taken.
pub goes_on : (cut : Bool) (limit : ℕ) (weighed : Option ℕ) (g : Name) (to : To Name) (items : List Tree) (first next number : ℕ) (t : Tree) (v w whole : Division) (m : Mark × Option ℕ)
    → first ≤ number → number < length items → t ≡ get_or items number t
    → m ≡ mark_where cut limit weighed (view t) → next ≡ first_after m.0 first number
    → Makes v w (turned limit g to m.0 (trees_view (take (number - first) (drop first items))) (view t))
    → IsLeft cut limit weighed g to number (trees_view (take (number - first) (drop first items))) (trees_of (trees_view (drop number items))) v whole
    → IsLeft cut limit m.1 g to (number + 1) (trees_view (take (number + 1 - next) (drop next items))) (trees_of (trees_view (drop (number + 1) items))) w whole
goes_on cut limit weighed g to items first next number t v w whole m before within at is is_next made left =
    let taken = trees_view (take (number - first) (drop first items)) in
    let rest = trees_of (trees_view (drop (number + 1) items)) in
    let begun = subst (λ l. IsLeft cut limit weighed g to number taken (trees_of (trees_view l)) v whole) (next_item items number t within at) left in
    let taken_on = taken_is items first number t m.0 before within at in
    subst (λ n. IsLeft cut limit m.1 g to (number + 1) (trees_view (take (number + 1 - n) (drop n items))) rest w whole) (sym is_next)
    (subst (λ l. IsLeft cut limit m.1 g to (number + 1) l rest w whole) (sym taken_on)
    (next_is_left cut limit weighed g to number taken (view t) rest v w whole m is made begun))

take_over : (n : ℕ) (ts : List Tree) → length ts ≤ n → take n ts ≡ ts
take_over n ts over = sym (append-nil (take n ts)) ∙ ap (λ l. take n ts ++ l) (sym (drop_all n ts over)) ∙ take-append-drop n ts

-- No item is left.
pub ended : (cut : Bool) (limit : ℕ) (weighed : Option ℕ) (g : Name) (to : To Name) (items : List Tree) (first number : ℕ) (v w whole : Division)
    → first ≤ number → length items ≤ number
    → w ≡ range_ended g to (trees_view (drop first items)) v
    → IsLeft cut limit weighed g to number (trees_view (take (number - first) (drop first items))) (trees_of (trees_view (drop number items))) v whole
    → StandsFor w whole
ended cut limit weighed g to items first number v w whole before over is left =
    let taken = trees_view (drop first items) in
    let none : drop number items ≡ [] = drop_all number items over in
    let sizes = length-drop first items in
    let all : take (number - first) (drop first items) ≡ drop first items = take_over (number - first) (drop first items) (omega (arith, sizes)) in
    let at_end = subst (λ l. IsLeft cut limit weighed g to number (trees_view (take (number - first) (drop first items))) (trees_of (trees_view l)) v whole) none left in
    let at_last = subst (λ l. IsLeft cut limit weighed g to number (trees_view l) no_trees v whole) all at_end in
    subst (StandsFor w) at_last.same (range_is_made g to taken v w is at_last.now at_last.stands)

-- Enough was divided.
pub enough : (cut : Bool) (limit : ℕ) (weighed : Option ℕ) (g : Name) (to : To Name) (number : ℕ) (taken : List model.Tree) (rest : Trees) (v whole : Division) → is_outside to ≡ true → HasMany v
    → IsLeft cut limit weighed g to number taken rest v whole → StandsFor v whole
enough cut limit weighed g to number taken rest v whole outside here left = record {
  same = λ few. absurd (let both = sym here ∙ few in cc);
  many = λ m. same_are_many (rest_divided cut limit left.sum g to number taken rest left.now) whole (ap (λ (x : Division). x.chunks) (sym left.same))
      (items_have_many limit g to (marks_where cut limit left.sum rest) number taken rest left.now outside (left.stands.many here));
}

-- An item was opened.
pub opened_is_made : (limit : ℕ) (g : Name) (to : To Name) (m : Mark) (taken : List model.Tree) (t : model.Tree) (u v w : Division) → m ≡ opened → v ≡ range_ended g to taken u
    → Makes v w (divide (by_weight limit) g to t) → Makes u w (turned limit g to m taken t)
opened_is_made limit g to m taken t u v w is ended made d stands =
    subst (λ k. StandsFor w (turned limit g to k taken t d)) (sym is) (made (range_ended g to taken d) (range_is_made g to taken u v ended d stands))

pub not_few : (few over : Bool) → over ≡ not few → over ≡ true → few ≡ false
not_few true over is here = absurd (let both = sym is ∙ here in cc)
not_few false over is here = refl

pub still_few : (few over : Bool) → over ≡ not few → over ≡ false → few ≡ true
still_few true over is here = refl
still_few false over is here = absurd (let both = sym is ∙ here in cc)

pub subst_before : (next number : ℕ) (m : Mark) (first : ℕ) → next ≡ first_after m first number → first ≤ number → next ≤ number + 1
subst_before next number m first is before = subst (λ n. n ≤ number + 1) (sym is) (first_is_before m first number before)

-- Both of these for the whole array.
pub enough_of : (cut : Bool) (limit : ℕ) (weighed : Option ℕ) (g : Name) (to : To Name) (number : ℕ) (taken : List model.Tree) (rest all : Trees) (v d : Division)
    → cut ≡ is_cut limit all → is_outside to ≡ true → HasMany v
    → IsLeft cut limit weighed g to number taken rest v (rest_divided cut limit None g to 0 [] all d) → StandsFor v (divide (by_weight limit) g to (array all) d)
enough_of cut limit weighed g to number taken rest all v d is outside here left =
    subst (StandsFor v) (whole_array cut limit g to all d is) (enough cut limit weighed g to number taken rest v (rest_divided cut limit None g to 0 [] all d) outside here left)

pub ended_of : (cut : Bool) (limit : ℕ) (weighed : Option ℕ) (g : Name) (to : To Name) (items : List Tree) (first number : ℕ) (v w d : Division)
    → cut ≡ is_cut limit (trees_of (trees_view items)) → first ≤ number → length items ≤ number
    → w ≡ range_ended g to (trees_view (take (length items - first) (drop first items))) v
    → IsLeft cut limit weighed g to number (trees_view (take (number - first) (drop first items))) (trees_of (trees_view (drop number items))) v (rest_divided cut limit None g to 0 [] (trees_of (trees_view items)) d)
    → StandsFor w (divide (by_weight limit) g to (array (trees_of (trees_view items))) d)
ended_of cut limit weighed g to items first number v w d is before over range left =
    let sizes = length-drop first items in
    let all : take (length items - first) (drop first items) ≡ drop first items = take_over (length items - first) (drop first items) (omega (arith, sizes)) in
    subst (StandsFor w) (whole_array cut limit g to (trees_of (trees_view items)) d is)
    (ended cut limit weighed g to items first number v w (rest_divided cut limit None g to 0 [] (trees_of (trees_view items)) d) before over (range ∙ ap (λ l. range_ended g to (trees_view l) v) all) left)
