-- The test of two definitions is true exactly of those that are the same but for whether they are protected.
use Rattle.std.proofs.Common.{◌≡◌, Bool, true, false, ◌&&◌, Option, Some, None, refl, ap, subst}
use Rattle.std.specs.Bool.{Decides}
use Rattle.std.specs.Str.{bytes_eq}
use Rattle.std.proofs.Math.Bool.{beq}
use Rattle.std.proofs.lemmas.Slice.Eq.{bytes_eq-Decides}
use Rattle.ld_model.specs.Tree.{Tree, same_tree}
use Rattle.ld_model.proofs.SameTree.{same_tree-exact, same_tree-from}
use Rattle.case_tables.specs.declared.shape.Shape.{Shape}
use Rattle.ctx_types.specs.declared.definition.Slot.{Slot}
use Rattle.ctx_types.specs.declared.definition.Slot.TheVariants.{Absent, Null, Is}
use Rattle.ctx_types.specs.declared.definition.Side.{Side}
use Rattle.ctx_types.specs.declared.definition.Side.TheVariants.{Ltr, Rtl}
use Rattle.ctx_types.specs.Context.{Definition}
use Rattle.ctx_types.specs.Same.{unprotected, AreSameButProtected, same_option, same_slot, same_side, same_shape, same_but_protected}

beq-Decides : (a b : Bool) → Decides (beq a b) (a ≡ b)
beq-Decides true true = (λ _. refl, λ _. refl)
beq-Decides true false = (λ h. absurd (cc), λ h. absurd (cc))
beq-Decides false true = (λ h. absurd (cc), λ h. absurd (cc))
beq-Decides false false = (λ _. refl, λ _. refl)

some_of : {X : Type 0} → X → Option X → X
some_of d None = d
some_of d (Some x) = x

is_of : {X : Type 0} → X → Slot X → X
is_of d (Is x) = x
is_of d _ = d

option-Decides : {X : Type 0} (same : X → X → Bool) (decides : (x y : X) → Decides (same x y) (x ≡ y)) (a b : Option X) → Decides (same_option same a b) (a ≡ b)
unfolding some_of
option-Decides same decides None None = (λ _. refl, λ _. refl)
option-Decides same decides (Some x) (Some y) = (λ h. ap Some ((decides x y).0 h), λ e. (decides x y).1 (ap (some_of x) e))
option-Decides same decides None (Some y) = (λ h. absurd (cc), λ h. absurd (cc))
option-Decides same decides (Some x) None = (λ h. absurd (cc), λ h. absurd (cc))

slot-Decides : {X : Type 0} (same : X → X → Bool) (decides : (x y : X) → Decides (same x y) (x ≡ y)) (a b : Slot X) → Decides (same_slot same a b) (a ≡ b)
unfolding is_of
slot-Decides same decides Absent Absent = (λ _. refl, λ _. refl)
slot-Decides same decides Null Null = (λ _. refl, λ _. refl)
slot-Decides same decides (Is x) (Is y) = (λ h. ap Is ((decides x y).0 h), λ e. (decides x y).1 (ap (is_of x) e))
slot-Decides same decides Absent Null = (λ h. absurd (cc), λ h. absurd (cc))
slot-Decides same decides Absent (Is y) = (λ h. absurd (cc), λ h. absurd (cc))
slot-Decides same decides Null Absent = (λ h. absurd (cc), λ h. absurd (cc))
slot-Decides same decides Null (Is y) = (λ h. absurd (cc), λ h. absurd (cc))
slot-Decides same decides (Is x) Absent = (λ h. absurd (cc), λ h. absurd (cc))
slot-Decides same decides (Is x) Null = (λ h. absurd (cc), λ h. absurd (cc))

side-Decides : (a b : Side) → Decides (same_side a b) (a ≡ b)
side-Decides Ltr Ltr = (λ _. refl, λ _. refl)
side-Decides Rtl Rtl = (λ _. refl, λ _. refl)
side-Decides Ltr Rtl = (λ h. absurd (cc), λ h. absurd (cc))
side-Decides Rtl Ltr = (λ h. absurd (cc), λ h. absurd (cc))

tree-Decides : (a b : Tree) → Decides (same_tree a b) (a ≡ b)
tree-Decides a b = (same_tree-exact a b, same_tree-from a b)

both : (a b : Bool) → (a && b) ≡ true → (a ≡ true) × (b ≡ true)
both true true h = (refl, refl)
both true false h = absurd (cc)
both false b h = absurd (cc)

shape-exact : (a b : Shape) → same_shape a b ≡ true → a ≡ b
shape-exact a b h =
    let types = both _ (beq a.types b.types) h in
    let sets = both _ (beq a.set b.set) types.0 in
    let lists = both _ (beq a.list b.list) sets.0 in
    let languages = both _ (beq a.language b.language) lists.0 in
    let indexes = both _ (beq a.index b.index) languages.0 in
    let ids = both (beq a.graph b.graph) (beq a.id b.id) indexes.0 in
    λ i. record {
      graph = (beq-Decides a.graph b.graph).0 ids.0 i;
      id = (beq-Decides a.id b.id).0 ids.1 i;
      index = (beq-Decides a.index b.index).0 indexes.1 i;
      language = (beq-Decides a.language b.language).0 languages.1 i;
      list = (beq-Decides a.list b.list).0 lists.1 i;
      set = (beq-Decides a.set b.set).0 sets.1 i;
      types = (beq-Decides a.types b.types).0 types.1 i;
    }

beq-refl : (a : Bool) → beq a a ≡ true
beq-refl true = refl
beq-refl false = refl

shape-refl : (a : Shape) → same_shape a a ≡ true
shape-refl a = rw (beq-refl a.graph, beq-refl a.id, beq-refl a.index, beq-refl a.language, beq-refl a.list, beq-refl a.set, beq-refl a.types) refl

same-exact : (a b : Definition) → same_but_protected a b ≡ true → AreSameButProtected a b
same-exact a b h =
    let kinds = both _ (same_option bytes_eq a.kind b.kind) h in
    let nests = both _ (same_option bytes_eq a.nest b.nest) kinds.0 in
    let languages = both _ (same_slot bytes_eq a.language b.language) nests.0 in
    let indexes = both _ (same_option bytes_eq a.index b.index) languages.0 in
    let sides = both _ (same_slot same_side a.side b.side) indexes.0 in
    let containers = both _ (same_shape a.container b.container) sides.0 in
    let locals = both _ (same_option same_tree a.local b.local) containers.0 in
    let bases = both _ (same_option bytes_eq a.base b.base) locals.0 in
    let reverses = both _ (beq a.reverse b.reverse) bases.0 in
    let prefixes = both (same_option bytes_eq a.mapping b.mapping) (beq a.prefix b.prefix) reverses.0 in
    λ i. record {
      mapping = (option-Decides bytes_eq bytes_eq-Decides a.mapping b.mapping).0 prefixes.0 i;
      prefix = (beq-Decides a.prefix b.prefix).0 prefixes.1 i;
      protected = false;
      reverse = (beq-Decides a.reverse b.reverse).0 reverses.1 i;
      base = (option-Decides bytes_eq bytes_eq-Decides a.base b.base).0 bases.1 i;
      local = (option-Decides same_tree tree-Decides a.local b.local).0 locals.1 i;
      container = shape-exact a.container b.container containers.1 i;
      side = (slot-Decides same_side side-Decides a.side b.side).0 sides.1 i;
      index = (option-Decides bytes_eq bytes_eq-Decides a.index b.index).0 indexes.1 i;
      language = (slot-Decides bytes_eq bytes_eq-Decides a.language b.language).0 languages.1 i;
      nest = (option-Decides bytes_eq bytes_eq-Decides a.nest b.nest).0 nests.1 i;
      kind = (option-Decides bytes_eq bytes_eq-Decides a.kind b.kind).0 kinds.1 i;
    }

same-refl : (a : Definition) → same_but_protected a a ≡ true
same-refl a =
    rw (
      (option-Decides bytes_eq bytes_eq-Decides a.mapping a.mapping).1 refl,
      beq-refl a.prefix,
      beq-refl a.reverse,
      (option-Decides bytes_eq bytes_eq-Decides a.base a.base).1 refl,
      (option-Decides same_tree tree-Decides a.local a.local).1 refl,
      shape-refl a.container,
      (slot-Decides same_side side-Decides a.side a.side).1 refl,
      (option-Decides bytes_eq bytes_eq-Decides a.index a.index).1 refl,
      (slot-Decides bytes_eq bytes_eq-Decides a.language a.language).1 refl,
      (option-Decides bytes_eq bytes_eq-Decides a.nest a.nest).1 refl,
      (option-Decides bytes_eq bytes_eq-Decides a.kind a.kind).1 refl,
    ) refl

pub same-Decides : (a b : Definition) → Decides (same_but_protected a b) (AreSameButProtected a b)
same-Decides a b = (same-exact a b, λ e. subst (λ (d : Definition). same_but_protected (unprotected a) d ≡ true) e (same-refl (unprotected a)))
