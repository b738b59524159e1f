-- Entries told one after another are those that stay.
use Rattle.std.proofs.Common.{◌≡◌, ◌≢◌, ℕ, ◌+◌, List, [], ◌∷◌, ◌++◌, length, append_assoc, append-nil, cond, ◌||◌, not, zero, suc, take, drop, add-one, ◌-◌, arith, Bool, true, false, Some, None, refl, sym, ap, ◌∙◌, subst}
use Rattle.std.specs.Prelude.{slice_get}
use Rattle.std.specs.List.{list_any}
use Rattle.std.proofs.lemmas.Grind.{common_steps}
use Rattle.std.proofs.lemmas.List.Folds.{list_any-append}
use Rattle.std.specs.BTreeMap.{insert_entry}
use Rattle.ld_model.specs.Tree.{Tree, Pairs, null, truth, whole, one_one, text, array, object, members_of, same_tree, byte_order, AreAscending}
use Rattle.ld_model.specs.NodeMap.{added}
use Rattle.ld_model.proofs.SameTree.{same_tree-exact, same_tree-refl}
use Rattle.ld_tree.proofs.ViewLemmas.{insert_entry-behind}
use Rattle.node_model.specs.NodeMap.{told, is_list_object}
use Rattle.node_logs.specs.Log.{all_told}
use Rattle.node_logs.specs.Once.{repeats, is_held, stays, kept, kept_if, is_list_member, is_only_list}

-- Where nothing repeats, all stay.
told-new : (t : Tree) (held : List Tree) → list_any (same_tree t) held ≡ false → told t held ≡ held ++ t ∷ []
unfolding added
told-new t held new = rw new (by_kind (is_list_object t))
  where
    by_kind : (b : Bool) → cond b (held ++ t ∷ []) (held ++ t ∷ []) ≡ held ++ t ∷ []
    by_kind true = refl
    by_kind false = refl

all_told-new : (ts held : List Tree) → repeats held ts ≡ false → all_told ts held ≡ held ++ ts
all_told-new [] held new = sym (append-nil held)
all_told-new (t ∷ ts) held new = by_found (list_any (same_tree t) held) refl new (all_told-new ts (held ++ t ∷ []))
  where
    by_found : (b : Bool) → list_any (same_tree t) held ≡ b → (b || repeats (held ++ t ∷ []) ts) ≡ false → (repeats (held ++ t ∷ []) ts ≡ false → all_told ts (held ++ t ∷ []) ≡ (held ++ t ∷ []) ++ ts) → all_told (t ∷ ts) held ≡ held ++ t ∷ ts
    by_found true is new more = absurd (cc)
    by_found false is new more = ap (all_told ts) (told-new t held is) ∙ more new ∙ append_assoc held (t ∷ []) ts

pub none_repeats : (ts : List Tree) → repeats [] ts ≡ false → ts ≡ all_told ts []
none_repeats ts new = sym (all_told-new ts [] new)

-- This says which trees but lists are among the entries.
abbrev pub Tells : (Tree → Bool) → List Tree → Type 0
Tells has es = (u : Tree) → is_list_object u ≡ false → has u ≡ list_any (same_tree u) es

any_more : (u t : Tree) (es : List Tree) → list_any (same_tree u) (es ++ t ∷ []) ≡ (same_tree u t || list_any (same_tree u) es)
any_more u t es = list_any-append (same_tree u) es (t ∷ []) ∙ swap (list_any (same_tree u) es) (same_tree u t)
  where
    swap : (a b : Bool) → (a || (b || false)) ≡ (b || a)
    swap true true = refl
    swap true false = refl
    swap false true = refl
    swap false false = refl

same_tree-sym : (a b : Tree) → same_tree a b ≡ same_tree b a
same_tree-sym a b = by (same_tree a b) (same_tree b a) refl refl
  where
    by : (p q : Bool) → same_tree a b ≡ p → same_tree b a ≡ q → p ≡ q
    by true true x y = refl
    by false false x y = refl
    by true false x y = let is : a ≡ b = same_tree-exact a b x in absurd (let same : same_tree b a ≡ true = subst (λ c. same_tree b c ≡ true) (sym is) (same_tree-refl b) in cc)
    by false true x y = let is : b ≡ a = same_tree-exact b a y in absurd (let same : same_tree a b ≡ true = subst (λ c. same_tree a c ≡ true) (sym is) (same_tree-refl a) in cc)

-- A list equals nothing but a list.
no_list : (u t : Tree) → is_list_object t ≡ true → is_list_object u ≡ false → same_tree u t ≡ false
no_list u t list other = by (same_tree u t) refl
  where
    by : (b : Bool) → same_tree u t ≡ b → b ≡ false
    by true same = absurd (let is : u ≡ t = same_tree-exact u t same in let lists : is_list_object u ≡ true = subst (λ c. is_list_object c ≡ true) (sym is) list in cc)
    by false same = refl

tells_list : (has : Tree → Bool) (t : Tree) (es : List Tree) → is_list_object t ≡ true → Tells has es → Tells has (es ++ t ∷ [])
tells_list has t es list tells u other =
    tells u other ∙ ap (λ b. b || list_any (same_tree u) es) (sym (no_list u t list other)) ∙ sym (any_more u t es)

tells_new : (has : Tree → Bool) (t : Tree) (es : List Tree) → Tells has es → Tells (λ u. same_tree t u || has u) (es ++ t ∷ [])
tells_new has t es tells u other =
    ap (λ b. same_tree t u || b) (tells u other) ∙ ap (λ b. b || list_any (same_tree u) es) (same_tree-sym t u) ∙ sym (any_more u t es)

tells_there : (has : Tree → Bool) (t : Tree) (es : List Tree) → list_any (same_tree t) es ≡ true → Tells has es → Tells (λ u. same_tree t u || has u) es
tells_there has t es there tells u other = by (same_tree t u) refl
  where
    by : (b : Bool) → same_tree t u ≡ b → (b || has u) ≡ list_any (same_tree u) es
    by true same = sym (subst (λ c. list_any (same_tree c) es ≡ true) (same_tree-exact t u same) there)
    by false same = tells u other

-- What is told further of entries of which this tells.
abbrev pub Stays : List Tree → Type 0
Stays ts = (has : Tree → Bool) (es : List Tree) → Tells has es → all_told ts es ≡ es ++ kept (stays has ts) ts

stays-new : (has : Tree → Bool) (t : Tree) (ts es : List Tree) → Stays ts → Tells has es → (b : Bool) → list_any (same_tree t) es ≡ b → all_told ts (cond b es (es ++ t ∷ [])) ≡ es ++ kept_if (not b) t (kept (stays (λ u. same_tree t u || has u) ts) ts)
stays-new has t ts es rest tells true there = rest (λ u. same_tree t u || has u) es (tells_there has t es there tells)
stays-new has t ts es rest tells false there =
    rest (λ u. same_tree t u || has u) (es ++ t ∷ []) (tells_new has t es tells) ∙ append_assoc es (t ∷ []) (kept (stays (λ u. same_tree t u || has u) ts) ts)

stays-step : (has : Tree → Bool) (t : Tree) (ts es : List Tree) → Stays ts → Tells has es → (b : Bool) → is_list_object t ≡ b → all_told ts (cond b (es ++ t ∷ []) (added t es)) ≡ es ++ kept (cond b (true ∷ stays has ts) (not (has t) ∷ stays (λ u. same_tree t u || has u) ts)) (t ∷ ts)
unfolding added
stays-step has t ts es rest tells true list = rest has (es ++ t ∷ []) (tells_list has t es list tells) ∙ append_assoc es (t ∷ []) (kept (stays has ts) ts)
stays-step has t ts es rest tells false list = rw (tells t list) (stays-new has t ts es rest tells (list_any (same_tree t) es) refl)

pub told-stays : (ts : List Tree) → Stays ts
told-stays [] has es tells = sym (append-nil es)
told-stays (t ∷ ts) has es tells = stays-step has t ts es (told-stays ts) tells (is_list_object t) refl

-- One entry after another, with those ahead of it.
repeats-step : (held ts : List Tree) (n : ℕ) → repeats (held ++ take n ts) (drop n ts) ≡ (is_held (slice_get ts n) (held ++ take n ts) || repeats (held ++ take (suc n) ts) (drop (suc n) ts))
repeats-step held [] zero = refl
repeats-step held [] (suc n) = refl
repeats-step held (t ∷ ts) zero = rw (append-nil held) refl
repeats-step held (t ∷ ts) (suc n) =
    ap (λ l. repeats l (drop n ts)) (sym (append_assoc held (t ∷ []) (take n ts))) ∙ repeats-step (held ++ t ∷ []) ts n
    ∙ ap (λ l. is_held (slice_get ts n) l || repeats ((held ++ t ∷ []) ++ take (suc n) ts) (drop (suc n) ts)) (append_assoc held (t ∷ []) (take n ts))
    ∙ ap (λ l. is_held (slice_get ts n) (held ++ t ∷ take n ts) || repeats l (drop (suc n) ts)) (append_assoc held (t ∷ []) (take (suc n) ts))

pub repeats-next : (ts : List Tree) (n : ℕ) → repeats (take n ts) (drop n ts) ≡ (is_held (slice_get ts n) (take n ts) || repeats (take (n + 1) ts) (drop (n + 1) ts))
repeats-next ts n = rw add-one (repeats-step [] ts n)

pub repeats-all : (ts : List Tree) (n : ℕ) → n ≡ length ts → repeats (take n ts) (drop n ts) ≡ false
repeats-all ts n is = let none : drop n ts ≡ [] = drop-all ts n is in ap (repeats (take n ts)) none
  where
    drop-all : (ts : List Tree) (n : ℕ) → n ≡ length ts → drop n ts ≡ []
    drop-all ts n is = grind (arith, common_steps)

-- The first ones of a list that begins with another entry.
pub any_take : (p : Tree → Bool) (n : ℕ) (t : Tree) (ts : List Tree) → (n ≡ 0 → ⊥) → p t ≡ false → list_any p (take (n - 1) ts) ≡ list_any p (take n (t ∷ ts))
any_take p zero t ts some other = absurd (some refl)
any_take p (suc n) t ts some other = let one : suc n - 1 ≡ n = omega arith in rw (one, other) refl

-- The members so far, with the next one put behind them.
pub put_behind : (done new : Pairs) (m : List ℕ × Tree) (more all : Pairs) → AreAscending all → done ++ m ∷ more ≡ all → new ≡ insert_entry byte_order done m.0 m.1 → new ++ more ≡ all
put_behind done new m more all sorted left is =
    let whole : AreAscending (done ++ m ∷ more) = subst AreAscending (sym left) sorted in
    ap (λ l. l ++ more) (is ∙ insert_entry-behind done m more whole) ∙ append_assoc done (m ∷ []) more ∙ left

-- An object is a list object by its only member.
pub only_list-is : (ms : Pairs) → is_only_list ms ≡ is_list_object (object (members_of ms))
only_list-is [] = refl
only_list-is ((k, array ts) ∷ []) = refl
only_list-is ((k, null) ∷ []) = refl
only_list-is ((k, truth b) ∷ []) = refl
only_list-is ((k, whole n) ∷ []) = refl
only_list-is ((k, one_one) ∷ []) = refl
only_list-is ((k, text s) ∷ []) = refl
only_list-is ((k, object xs) ∷ []) = refl
only_list-is ((k, null) ∷ m ∷ ms) = refl
only_list-is ((k, truth b) ∷ m ∷ ms) = refl
only_list-is ((k, whole n) ∷ m ∷ ms) = refl
only_list-is ((k, one_one) ∷ m ∷ ms) = refl
only_list-is ((k, text s) ∷ m ∷ ms) = refl
only_list-is ((k, array ts) ∷ m ∷ ms) = refl
only_list-is ((k, object xs) ∷ m ∷ ms) = refl

pub only_one : (m : List ℕ × Tree) (ms : Pairs) → length ms ≡ 1 → slice_get ms 0 ≡ Some m → is_list_member m ≡ is_only_list ms
only_one m [] one first = absurd (omega arith)
only_one m (n ∷ []) one first = ap is_list_member (let is : n ≡ m = cc in sym is)
only_one m (n ∷ o ∷ ms) one first = absurd (omega arith)

pub none_first : (ms : Pairs) → length ms ≡ 1 → slice_get ms 0 ≡ None → false ≡ is_only_list ms
none_first [] one first = refl
none_first (n ∷ ms) one first = absurd (cc)

pub not_one : (ms : Pairs) → length ms ≢ 1 → false ≡ is_only_list ms
not_one [] other = refl
not_one (m ∷ []) other = absurd (other refl)
not_one (m ∷ n ∷ ms) other = refl

pub kept-nil : (bs : List Bool) → kept bs [] ≡ []
kept-nil [] = refl
kept-nil (b ∷ bs) = refl
