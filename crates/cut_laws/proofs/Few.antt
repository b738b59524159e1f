-- A document that weighs no more than the limit isn't cut; so the plan of a cut has at most 4,096 pieces.
use Rattle.std.proofs.Common.{ℕ, zero, suc, ◌≡◌, ◌≤◌, ◌+◌, ◌-◌, ◌*◌, ◌^◌, List, [], length, Bool, true, false, Result, Ok, Err, refl, sym, ap, ◌∙◌, subst, arith}
use Rattle.std.specs.Prelude.{if◌then◌else◌, nat_le}
use Rattle.ld_json.specs.declared.location.Step.{Step}
use Rattle.ld_model.specs.Tree.{Tree, Trees, Members, array, object, no_trees, tree, trees_of, weight, trees_weight, members_weight}
use Rattle.expand_model.specs.Scope.{Options, Fault}
use Rattle.expand_model.specs.Rules.{At, ◌>>=◌, item_at, lists_at}
use Rattle.expand_model.specs.Over.{Outcome, state_of, here, given, element_over, items_over}
use Rattle.cut_model.specs.Pieces.{count}
use Rattle.cut_model.specs.Planning.{capped, is_light, passes_array, heavy_choice, Plan, chosen, empty_plan, chooses, opens_or_takes, planned}
use Rattle.cut_model.specs.Cutting.{cut_within, cut}
use Rattle.cut_laws.proofs.Regions.{Region}
use Rattle.cut_laws.proofs.TwoRuns.{Rules, document_both}
use Rattle.cut_laws.proofs.RightAnswers.{AnyRegions}
use Rattle.cut_laws.proofs.LastReached.{AnyValues}

-- The highest limit.
abbrev cap : ℕ
cap = 2 ^ 64 - 1

all_fit : (limit n : ℕ) → cap ≤ limit → is_light limit n ≡ true
all_fit limit n h = grind (arith, h)

less_light : (limit a b : ℕ) → a ≤ b → is_light limit b ≡ true → is_light limit a ≡ true
less_light limit a b h k = grind (arith, h, k)

at_most_light : (limit n : ℕ) → n ≤ limit → is_light limit n ≡ true
at_most_light limit n h = grind (arith, h)

module _ (o : Options) (limit : ℕ) where
  -- What weighs no more than the limit.
  abbrev IsLight : List Step → Tree → Type 0
  IsLight p t = is_light limit (weight t) ≡ true

  abbrev AreLight : List Step → ℕ → Trees → Type 0
  AreLight p n ts = is_light limit (trees_weight ts) ≡ true

  abbrev HasLightValues : List Step → Members → Type 0
  HasLightValues p ms = is_light limit (members_weight ms) ≡ true

  -- In it nothing is noted.
  pub record Still (X : Type 0) (Q : Region) (s l : Plan) (m m′ : Outcome Plan X) : Type 0 where
    pub by : s.limit ≡ limit → state_of m ≡ s

  still_here : (X : Type 0) (Q : Region) (s l : Plan) (d d′ : Result X Fault) → Still X Q s l (here s d) (here l d′)
  still_here X Q s l (Ok x) d = record { by = λ h. refl }
  still_here X Q s l (Err f) d = record { by = λ h. refl }

  still_both : (X Y : Type 0) (Q : Region) (s l : Plan) (d : Result X Fault) (g g′ : X × Plan → Outcome Plan Y) → ((x : X) → d ≡ Ok x → Still Y Q s l (g (x, s)) (g′ (x, l))) → Still Y Q s l (here s d >>= g) (here l d >>= g′)
  still_both X Y Q s l (Ok x) g g′ p = record { by = (p x refl).by }
  still_both X Y Q s l (Err f) g g′ p = record { by = λ h. refl }

  still_bind : (X Y : Type 0) (Q R S : Region) (s l : Plan) (m m′ : Outcome Plan X) (g g′ : X × Plan → Outcome Plan Y) → Still X Q s l m m′ → ((x x′ : X) (s l : Plan) → Still Y R s l (g (x, s)) (g′ (x′, l))) → Still Y S s l (m >>= g) (m′ >>= g′)
  still_bind X Y Q R S s l (Ok v) m′ g g′ p q = record { by = λ h. (q v.0 v.0 v.1 l).by (ap (λ z. z.limit) (p.by h) ∙ h) ∙ p.by h }
  still_bind X Y Q R S s l (Err e) m′ g g′ p q = record { by = λ h. p.by h }

  skip_all : (ts : Trees) (k n : ℕ) (a : At) (out : List Tree) (s : Plan) → k ≡ count ts → items_over o chooses opens_or_takes ts k n a out s ≡ Ok (out, s)
  skip_all no_trees k n a out s e = refl
  skip_all (tree t ts) zero n a out s e = absurd (omega (arith, e))
  skip_all (tree t ts) (suc k) n a out s e = skip_all ts k (suc n) a out s (omega (arith, e))

  abbrev rest_plan : Trees → At → (List Tree × ℕ) × Plan → Outcome Plan (List Tree)
  rest_plan ts a v = items_over o chooses opens_or_takes ts v.0.1 1 a v.0.0 v.1

  abbrev plan_array : List Tree × Plan → Outcome Plan Tree
  plan_array v = Ok (array (trees_of v.0), v.1)

  still_array : (ts : Trees) (a : At) (s : Plan) → IsLight a.place (array ts) → s.limit ≡ limit → state_of (element_over o chooses opens_or_takes (array ts) a s) ≡ s
  still_array no_trees a s known h = refl
  still_array (tree t ts) a s known h =
      ap (λ b. state_of (given (element_over o chooses opens_or_takes t (item_at 0 a)) (opens_or_takes (tree t ts) 0 a) (lists_at a) [] (chosen (if b then passes_array (count ts) else heavy_choice s.limit t ts) (tree t ts) 0 a s).answer (chosen (if b then passes_array (count ts) else heavy_choice s.limit t ts) (tree t ts) 0 a s).state >>= rest_plan ts a >>= plan_array)) (ap (λ m. is_light m (weight (array (tree t ts)))) h ∙ known)
      ∙ ap (λ m. state_of (m >>= plan_array)) (skip_all ts (count ts) 1 a [] s refl)

  still_rules : Rules o chooses opens_or_takes chooses opens_or_takes AnyValues AnyRegions Still (λ ts n a. Unit {0}) IsLight AreLight HasLightValues
  still_rules = record {
    same = λ X x. tt;
    weaken = λ X Q Q′ s l m m′ h p. record { by = p.by };
    tells = λ X Y Z Q s l g x x′ y y′ e h. still_here Z Q s l (g x y) (g x′ y′);
    both = still_both;
    bind = λ X Y x₀ Q R s l m m′ g g′ d p q. record { by = (still_bind X Y Q R (λ _. Unit {0}) s l m m′ g g′ p (λ x x′ s l. q x x′ tt s l)).by };
    no_items = λ n a. tt;
    next_item = λ t ts n a known p q. tt;
    arrays = λ ts a s l known p. record { by = still_array ts a s known };
    of_array = λ p ts h. less_light limit (trees_weight ts) (weight (array ts)) (omega arith) h;
    of_object = λ p ms h. less_light limit (members_weight ms) (weight (object ms)) (omega arith) h;
    of_trees = λ p n t ts h. (less_light limit (weight t) (weight t + trees_weight ts) (omega arith) h, less_light limit (trees_weight ts) (weight t + trees_weight ts) (omega arith) h);
    of_members = λ p k t ms h. (less_light limit (weight t) (weight t + members_weight ms) (omega arith) h, less_light limit (members_weight ms) (weight t + members_weight ms) (omega arith) h);
    nothing_first = λ Q. tt;
    nothing_last = λ Q. tt;
    items_apart = λ p n. tt;
    entry_apart = λ b e k t ms h. tt;
    key_apart = λ p k t ms h. tt;
    nests_apart = λ e ms. tt;
  }

  planned_none : (t : Tree) → IsLight [] t → planned o limit t ≡ []
  planned_none t light = ap (λ z. z.pieces) ((document_both o chooses opens_or_takes chooses opens_or_takes AnyValues AnyRegions Still (λ ts n a. Unit {0}) IsLight AreLight HasLightValues still_rules t light (empty_plan limit) (empty_plan limit)).by refl)

  within_none : (n : ℕ) (t : Tree) → IsLight [] t → cut_within n o t limit ≡ []
  unfolding cut_within
  within_none zero t light = planned_none t light
  within_none (suc n) t light = ap (λ l. if nat_le (length l) 4096 then l else cut_within n o t (capped (limit * 2))) (planned_none t light)

  pub light_is_whole : (t : Tree) → weight t ≤ limit → cut o t limit ≡ []
  light_is_whole t h = within_none 64 t (at_most_light limit (weight t) h)

module _ (o : Options) where
  -- the limit after so many doublings
  abbrev doubled : ℕ → ℕ → ℕ
  doubled zero limit = limit
  doubled (suc n) limit = doubled n (capped (limit * 2))

  doubled_more : (n a b : ℕ) → a ≤ b → doubled n a ≤ doubled n b
  doubled_more zero a b h = h
  doubled_more (suc n) a b h = doubled_more n (capped (a * 2)) (capped (b * 2)) (grind (arith, h))

  within_few : (n limit : ℕ) (t : Tree) → cap ≤ doubled n limit → length (cut_within n o t limit) ≤ 4096
  unfolding cut_within
  within_few zero limit t h = subst (λ l. length l ≤ 4096) (sym (planned_none o limit t (all_fit limit (weight t) h))) (omega arith)
  within_few (suc n) limit t h = by (nat_le (length (planned o limit t)) 4096) refl (within_few n (capped (limit * 2)) t h)
    where
      by : (b : Bool) → nat_le (length (planned o limit t)) 4096 ≡ b → length (cut_within n o t (capped (limit * 2))) ≤ 4096 → length (if b then planned o limit t else cut_within n o t (capped (limit * 2))) ≤ 4096
      by true is rest = grind (arith, is)
      by false is rest = rest

  from_one : cap ≤ doubled 64 1
  from_one = omega arith

  pub cut_is_few : (t : Tree) (limit : ℕ) → 1 ≤ limit → length (cut o t limit) ≤ 4096
  cut_is_few t limit h = let a = from_one in let b = doubled_more 64 1 limit h in within_few 64 limit t (omega (arith, a, b))
