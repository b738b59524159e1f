-- Facts of the elements of a list and their numbers.
use Rattle.std.proofs.Common.{◌≡◌, ℕ, zero, suc, ◌+◌, ◌<◌, ◌≢◌, ◌⊎◌, List, [], ◌∷◌, ◌++◌, length, map, set, get_or, take, refl, sym, ap, ◌∙◌, subst, inl, inr, ⊎_elim, slice_get, Some, None, Option, All, arith}
use Rattle.std.proofs.lemmas.Option.{slice_get_read}
use Rattle.std.proofs.lemmas.List.Elements.{All-nil, All-cons, All-head, All-tail, All-pop}
use Rattle.std.proofs.lemmas.List.{length-append}
use Rattle.std.specs.Option.{option_to_list}
use Rattle.steal_pool.specs.Pools.{Each}

pub some_is : {X : Type 0} (a b : X) → Some a ≡ Some b → a ≡ b
some_is a b e = cc

pub got_set : {X : Type 0} (xs : List X) (i k : ℕ) (y z : X) → slice_get (set xs i y) k ≡ Some z → ((k ≡ i) × (y ≡ z)) ⊎ ((k ≢ i) × (slice_get xs k ≡ Some z))
got_set [] i k y z e = absurd (cc)
got_set (x ∷ xs) zero zero y z e = inl (refl, cc)
got_set (x ∷ xs) zero (suc k) y z e = inr ((λ h. omega arith), e)
got_set (x ∷ xs) (suc i) zero y z e = inr ((λ h. omega arith), e)
got_set (x ∷ xs) (suc i) (suc k) y z e = ⊎_elim (λ t. inl (ap suc t.0, t.1)) (λ t. let n = t.0 in inr ((λ h. n (omega arith)), t.1)) (got_set xs i k y z e)

got_snoc : {X : Type 0} (xs : List X) (y z : X) (k : ℕ) → slice_get (xs ++ y ∷ []) k ≡ Some z → (slice_get xs k ≡ Some z) ⊎ ((k ≡ length xs) × (y ≡ z))
got_snoc [] y z zero e = inr (refl, cc)
got_snoc [] y z (suc k) e = absurd (cc)
got_snoc (x ∷ xs) y z zero e = inl e
got_snoc (x ∷ xs) y z (suc k) e = ⊎_elim (λ t. inl t) (λ t. inr (ap suc t.0, t.1)) (got_snoc xs y z k e)

-- at one place
pub each_at : {X : Type 0} (F : ℕ → X → Type 0) (xs : List X) (i : ℕ) (x : X) → Each F xs → i < length xs → x ≡ get_or xs i x → F i x
each_at F xs i x all inside read = all i x (slice_get_read xs (length xs) i x refl inside read)

-- after a change of one
pub each_set : {X : Type 0} (F : ℕ → X → Type 0) (xs : List X) (i : ℕ) (y : X) → F i y → ((k : ℕ) (x : X) → k ≢ i → slice_get xs k ≡ Some x → F k x) → Each F (set xs i y)
each_set F xs i y one all k x e = ⊎_elim (λ (t : (k ≡ i) × (y ≡ x)). subst (λ (n : ℕ). F n x) (sym t.0) (subst (F i) t.1 one)) (λ (t : (k ≢ i) × (slice_get xs k ≡ Some x)). all k x t.0 t.1) (got_set xs i k y x e)

-- after one more
pub each_snoc : {X : Type 0} (F : ℕ → X → Type 0) (xs : List X) (y : X) → Each F xs → F (length xs) y → Each F (xs ++ y ∷ [])
each_snoc F xs y all one k x e = ⊎_elim (λ (t : slice_get xs k ≡ Some x). all k x t) (λ (t : (k ≡ length xs) × (y ≡ x)). subst (λ (n : ℕ). F n x) (sym t.0) (subst (F (length xs)) t.1 one)) (got_snoc xs y x k e)

pub each_none : {X : Type 0} (F : ℕ → X → Type 0) → Each F []
each_none F k x e = absurd (cc)

-- where the number doesn't matter
pub all_each : {X : Type 0} (P : X → Type 0) (xs : List X) → Each (λ k x. P x) xs → All P xs
all_each P [] each = All-nil P
all_each P (x ∷ xs) each = All-cons P x xs (each 0 x refl) (all_each P xs (λ k. each (suc k)))

-- a mapped list
pub map_same : {X Y : Type 0} (f : X → Y) (xs : List X) (i : ℕ) (x y : X) → slice_get xs i ≡ Some x → f y ≡ f x → map f (set xs i y) ≡ map f xs
map_same f [] i x y e s = refl
map_same f (z ∷ zs) zero x y e s = let q : z ≡ x = some_is z x e in ap (λ w. w ∷ map f zs) (s ∙ ap f (sym q))
map_same f (z ∷ zs) (suc i) x y e s = ap (λ (ws : List _). f z ∷ ws) (map_same f zs i x y e s)

pub map_set : {X Y : Type 0} (f : X → Y) (xs : List X) (i : ℕ) (y : X) → map f (set xs i y) ≡ set (map f xs) i (f y)
map_set f [] i y = refl
map_set f (z ∷ zs) zero y = refl
map_set f (z ∷ zs) (suc i) y = ap (λ (ws : List _). f z ∷ ws) (map_set f zs i y)

pub map_length : {X Y : Type 0} (f : X → Y) (xs : List X) → length (map f xs) ≡ length xs
map_length f [] = refl
map_length f (x ∷ xs) = ap suc (map_length f xs)

pub got_mapped : {X Y : Type 0} (f : X → Y) (xs : List X) (k : ℕ) (x : X) → slice_get xs k ≡ Some x → slice_get (map f xs) k ≡ Some (f x)
got_mapped f [] k x e = absurd (cc)
got_mapped f (z ∷ zs) zero x e = ap (λ w. Some (f w)) (some_is z x e)
got_mapped f (z ∷ zs) (suc k) x e = got_mapped f zs k x e

pub got_map : {X Y : Type 0} (f : X → Y) (xs : List X) (k : ℕ) (y : Y) → slice_get (map f xs) k ≡ Some y → (x : X) × (slice_get xs k ≡ Some x) × (f x ≡ y)
got_map f [] k y e = absurd (cc)
got_map f (x ∷ xs) zero y e = (x, refl, some_is (f x) y e)
got_map f (x ∷ xs) (suc k) y e = got_map f xs k y e

pub each_map : {X Y : Type 0} (F : ℕ → Y → Type 0) (f : X → Y) (xs : List X) → Each (λ k x. F k (f x)) xs → Each F (map f xs)
each_map F f xs each k y e = let m = got_map f xs k y e in subst (F k) m.2 (each k m.0 m.1)

-- a list whose mapped elements stand in another list, each at its place, and that is as long
pub mapped_is : {X Y : Type 0} (f : X → Y) (xs : List X) (ys : List Y) → length xs ≡ length ys → Each (λ k x. slice_get ys k ≡ Some (f x)) xs → map f xs ≡ ys
mapped_is f [] [] same each = refl
mapped_is f [] (y ∷ ys) same each = absurd (omega arith)
mapped_is f (x ∷ xs) [] same each = absurd (omega arith)
mapped_is f (x ∷ xs) (y ∷ ys) same each = let here : y ≡ f x = some_is y (f x) (each 0 x refl) in let rest = mapped_is f xs ys (omega arith) (λ k. each (suc k)) in cc

pub got_here : {X : Type 0} (xs : List X) (i : ℕ) (y : X) → i < length xs → slice_get (set xs i y) i ≡ Some y
got_here [] i y inside = absurd (omega arith)
got_here (x ∷ xs) zero y inside = refl
got_here (x ∷ xs) (suc i) y inside = got_here xs i y (omega arith)

pub got_below : {X : Type 0} (xs : List X) (k : ℕ) → k < length xs → (x : X) × (slice_get xs k ≡ Some x)
got_below [] k inside = absurd (omega arith)
got_below (x ∷ xs) zero inside = (x, refl)
got_below (x ∷ xs) (suc k) inside = got_below xs k (omega arith)

pub got_taken : {X : Type 0} (n : ℕ) (xs : List X) (k : ℕ) (x : X) → slice_get (take n xs) k ≡ Some x → slice_get xs k ≡ Some x
got_taken zero xs k x e = absurd (cc)
got_taken (suc n) [] k x e = absurd (cc)
got_taken (suc n) (y ∷ ys) zero x e = e
got_taken (suc n) (y ∷ ys) (suc k) x e = got_taken n ys k x e

pub all_mapped : {X Y : Type 0} (F : Y → Type 0) (f : X → Y) (xs : List X) → All F (map f xs) → All (λ x. F (f x)) xs
all_mapped F f [] all = All-nil (λ x. F (f x))
all_mapped F f (x ∷ xs) all = All-cons (λ z. F (f z)) x xs (All-head F (f x) (map f xs) all) (all_mapped F f xs (All-tail F (f x) (map f xs) all))

pub got_all : {X : Type 0} (F : X → Type 0) (xs : List X) (k : ℕ) (x : X) → All F xs → slice_get xs k ≡ Some x → F x
got_all F [] k x all e = absurd (cc)
got_all F (y ∷ ys) zero x all e = subst F (some_is y x e) (All-head F y ys all)
got_all F (y ∷ ys) (suc k) x all e = got_all F ys k x (All-tail F y ys all) e

-- one was taken off the end
pub popped : {X : Type 0} (F : X → Type 0) (xs ys : List X) (r : Option X) (x : X) → xs ≡ ys ++ option_to_list r → r ≡ Some x → All F xs → All F ys × F x × (length xs ≡ length ys + 1)
popped F xs ys None x is some all = absurd (cc)
popped F xs ys (Some y) x is some all =
    let p = All-pop F xs ys (Some y) is all in
    (p.0, subst F (some_is y x some) p.1, ap length is ∙ length-append ys (y ∷ []))
