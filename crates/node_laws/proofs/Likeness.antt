-- What it is for two records of steps to answer alike.
use Rattle.std.proofs.Common.{◌≡◌, ℕ, List, [], ◌∷◌, ◌++◌, Bool, true, false, Option, if◌then◌else◌}
use Rattle.std.specs.Prelude.{⊤}
use Rattle.ld_model.specs.Tree.{Members, object}
use Rattle.ld_model.specs.Keys.{value_key}
use Rattle.ctx_types.specs.Expansion.{is_keyword}
use Rattle.node_model.specs.Walk.{Steps, To, nowhere, under, in_list, reverse, At, has_key, takes_values}

-- Which states, names, names of properties and entries stand for each other. A name or an entry does so from a state on.
pub record Likeness (S N E T M F : Type 0) : Type 1 where
  pub states : S → T → Type 0
  pub names : S → N → M → Type 0
  pub properties : S → N → M → Type 0
  pub entries : S → E → F → Type 0

-- Two lists, member by member.
abbrev pub Pairwise : {X Y : Type 0} → (X → Y → Type 0) → List X → List Y → Type 0
Pairwise P [] [] = ⊤
Pairwise P (x ∷ xs) (y ∷ ys) = P x y × Pairwise P xs ys
Pairwise P _ _ = ⊥

pub pairwise_to : {X Y : Type 0} (P Q : X → Y → Type 0) → ((x : X) (y : Y) → P x y → Q x y) → (xs : List X) (ys : List Y) → Pairwise P xs ys → Pairwise Q xs ys
pairwise_to P Q leads [] [] is = tt
pairwise_to P Q leads (x ∷ xs) (y ∷ ys) is = (leads x y is.0, pairwise_to P Q leads xs ys is.1)
pairwise_to P Q leads [] (y ∷ ys) is = absurd is
pairwise_to P Q leads (x ∷ xs) [] is = absurd is

pub pairwise_last : {X Y : Type 0} (P : X → Y → Type 0) (xs : List X) (ys : List Y) (x : X) (y : Y) → Pairwise P xs ys → P x y → Pairwise P (xs ++ x ∷ []) (ys ++ y ∷ [])
pairwise_last P [] [] x y is last = (last, tt)
pairwise_last P (a ∷ xs) (b ∷ ys) x y is last = (is.0, pairwise_last P xs ys x y is.1 last)
pairwise_last P [] (b ∷ ys) x y is last = absurd is
pairwise_last P (a ∷ xs) [] x y is last = absurd is

module _ {S N E T M F : Type 0} (R : Likeness S N E T M F) where
  -- Whatever stood for each other at the first state does so at the second.
  pub record Lasts (s r : S) : Type 0 where
    pub names : (n : N) (m : M) → R.names s n m → R.names r n m
    pub properties : (n : N) (m : M) → R.properties s n m → R.properties r n m
    pub entries : (e : E) (f : F) → R.entries s e f → R.entries r e f

  -- From the first state both came to states that stand for each other, and nothing ceased to.
  pub record Reach (s r : S) (t : T) : Type 0 where
    pub states : R.states r t
    pub lasts : Lasts s r

  -- The same of two walks, with the lists that they gather.
  pub record Beside (s : S) (w : At S E) (v : At T F) : Type 0 where
    pub states : R.states w.state v.state
    pub gathered : Pairwise (R.entries w.state) w.items v.items
    pub lasts : Lasts s w.state

  -- Both elements go to the same place.
  abbrev pub Toward : S → To N → To M → Type 0
  Toward s nowhere nowhere = ⊤
  Toward s (under n p) (under m q) = R.names s n m × R.properties s p q
  Toward s in_list in_list = ⊤
  Toward s (reverse n p) (reverse m q) = R.names s n m × R.properties s p q
  Toward s _ _ = ⊥

  -- Each step, taken on what stands for each other, comes to what does. A name is that of a property where its text is no keyword.
  pub record AnswerAlike (a : Steps S N E) (b : Steps T M F) : Type 0 where
    pub named : (x : List ℕ) (s : S) (t : T) → R.states s t
        → Reach s (a.named x s).1 (b.named x t).1 × R.names (a.named x s).1 (a.named x s).0 (b.named x t).0 × (is_keyword x ≡ false → R.properties (a.named x s).1 (a.named x s).0 (b.named x t).0)
    pub node : (g : N) (h : M) (id : Option (List ℕ)) (s : S) (t : T) → R.names s g h → R.states s t
        → Reach s (a.node g id s).1 (b.node h id t).1 × R.names (a.node g id s).1 (a.node g id s).0 (b.node h id t).0
    pub property : (g : N) (h : M) (n : N) (m : M) (x : List ℕ) (s : S) (t : T) → is_keyword x ≡ false → R.names s g h → R.names s n m → R.states s t
        → Reach s (a.property g n x s).1 (b.property h m x t).1 × R.properties (a.property g n x s).1 (a.property g n x s).0 (b.property h m x t).0
    pub graph : (g : N) (h : M) (s : S) (t : T) → R.names s g h → R.states s t → Reach s (a.graph g s) (b.graph h t)
    pub value : (ms : Members) (s : S) → has_key value_key ms ≡ true → R.entries s (a.value (object ms)) (b.value (object ms))
    pub reference : (n : N) (m : M) (s : S) → R.names s n m → R.entries s (a.reference n) (b.reference m)
    pub list : (es : List E) (fs : List F) (s : S) → Pairwise (R.entries s) es fs → R.entries s (a.list es) (b.list fs)
    pub add : (g : N) (h : M) (n : N) (m : M) (p : N) (q : M) (e : E) (f : F) (s : S) (t : T) → R.names s g h → R.names s n m → R.properties s p q → R.entries s e f → R.states s t
        → Reach s (a.add g n p e s) (b.add h m q f t)
    pub append : (g : N) (h : M) (n : N) (m : M) (p : N) (q : M) (es : List E) (fs : List F) (s : S) (t : T) → R.names s g h → R.names s n m → R.properties s p q → Pairwise (R.entries s) es fs → R.states s t
        → Reach s (a.append g n p es s) (b.append h m q fs t)
    pub type_ : (g : N) (h : M) (n : N) (m : M) (x : N) (y : M) (s : S) (t : T) → R.names s g h → R.names s n m → R.names s x y → R.states s t → Reach s (a.type_ g n x s) (b.type_ h m y t)
    pub index : (g : N) (h : M) (n : N) (m : M) (x : List ℕ) (s : S) (t : T) → R.names s g h → R.names s n m → R.states s t → Reach s (a.index g n x s) (b.index h m x t)

  pub lasts_here : (s : S) → Lasts s s
  lasts_here s = record { names = λ n m is. is; properties = λ n m is. is; entries = λ e f is. is }

  pub lasts_on : (s r u : S) → Lasts s r → Lasts r u → Lasts s u
  lasts_on s r u first next = record {
    names = λ n m is. next.names n m (first.names n m is);
    properties = λ n m is. next.properties n m (first.properties n m is);
    entries = λ e f is. next.entries e f (first.entries e f is);
  }

  pub reach_on : (s r u : S) (t v : T) → Reach s r t → Reach r u v → Reach s u v
  reach_on s r u t v first next = record { states = next.states; lasts = lasts_on s r u first.lasts next.lasts }

  pub toward_on : (s r : S) (i : To N) (j : To M) → Lasts s r → Toward s i j → Toward r i j
  toward_on s r nowhere nowhere lasts to = tt
  toward_on s r (under n p) (under m q) lasts to = (lasts.names n m to.0, lasts.properties p q to.1)
  toward_on s r in_list in_list lasts to = tt
  toward_on s r (reverse n p) (reverse m q) lasts to = (lasts.names n m to.0, lasts.properties p q to.1)
  toward_on s r _ _ lasts to = absurd to

  -- Seen from an earlier state, and from the present one.
  pub beside_from : (s r : S) (w : At S E) (v : At T F) → Lasts s r → Beside r w v → Beside s w v
  beside_from s r w v lasts is = record { states = is.states; gathered = is.gathered; lasts = lasts_on s r w.state lasts is.lasts }

  pub beside_now : (s : S) (w : At S E) (v : At T F) → Beside s w v → Beside w.state w v
  beside_now s w v is = record { states = is.states; gathered = is.gathered; lasts = lasts_here w.state }

  -- After a step that gathers nothing, and after an entry was gathered.
  pub beside_step : (s : S) (w : At S E) (v : At T F) (r : S) (t : T) → Beside s w v → Reach w.state r t → Beside s (record { state = r; items = w.items }) (record { state = t; items = v.items })
  beside_step s w v r t is reach = record {
    states = reach.states;
    gathered = pairwise_to (R.entries w.state) (R.entries r) reach.lasts.entries w.items v.items is.gathered;
    lasts = lasts_on s w.state r is.lasts reach.lasts;
  }

  pub beside_entry : (s : S) (w : At S E) (v : At T F) (e : E) (f : F) → Beside s w v → R.entries w.state e f → Beside s (record { state = w.state; items = w.items ++ e ∷ [] }) (record { state = v.state; items = v.items ++ f ∷ [] })
  beside_entry s w v e f is last = record { states = is.states; gathered = pairwise_last (R.entries w.state) w.items v.items e f is.gathered last; lasts = is.lasts }

  -- Before the first item of a list.
  pub beside_empty : (s : S) (w : At S E) (v : At T F) → Beside s w v → Beside w.state (record { state = w.state; items = [] }) (record { state = v.state; items = [] })
  beside_empty s w v is = record { states = is.states; gathered = tt; lasts = lasts_here w.state }

  -- One and the same test on both sides, whose answer each way may use.
  pub beside_by : (test c : Bool) → test ≡ c → (s : S) (w x : At S E) (v y : At T F) → (test ≡ true → Beside s w v) → (test ≡ false → Beside s x y) → Beside s (if c then w else x) (if c then v else y)
  beside_by test true same s w x v y first second = first same
  beside_by test false same s w x v y first second = second same

  pub beside_taken : (s : S) (i : To N) (j : To M) (w x : At S E) (v y : At T F) → Toward s i j → Beside s w v → Beside s x y → Beside s (if takes_values i then w else x) (if takes_values j then v else y)
  beside_taken s nowhere nowhere w x v y to first second = second
  beside_taken s (under n p) (under m q) w x v y to first second = first
  beside_taken s in_list in_list w x v y to first second = first
  beside_taken s (reverse n p) (reverse m q) w x v y to first second = second
  beside_taken s _ _ w x v y to first second = absurd to
