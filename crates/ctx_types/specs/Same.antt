-- When two term definitions are the same but for whether they are protected (JSON-LD 1.1 API, section 4.2.2, step 27).
use Rattle.std.specs.Prelude.{◌≡◌, Bool, true, false, ◌&&◌, Option, None, Some}
use Rattle.std.specs.Str.{bytes_eq}
use Rattle.std.proofs.Math.Bool.{beq}
use Rattle.ld_model.specs.Tree.{same_tree}
use Rattle.case_tables.specs.declared.shape.Shape.{Shape}
use Rattle.ctx_types.specs.declared.definition.Slot.{Slot}
use Rattle.ctx_types.specs.declared.definition.Slot.TheVariants.{Absent, Null, Is}
use Rattle.ctx_types.specs.declared.definition.Side.{Side}
use Rattle.ctx_types.specs.declared.definition.Side.TheVariants.{Ltr, Rtl}
use Rattle.ctx_types.specs.Context.{Definition}

-- The definition, taken as not protected.
abbrev pub unprotected : Definition → Definition
unprotected d = record d { protected = false }

-- The two definitions are equal but for whether they are protected.
abbrev pub AreSameButProtected : Definition → Definition → Type 0
AreSameButProtected a b = unprotected a ≡ unprotected b

module _ {X : Type 0} (same : X → X → Bool) where
  -- Both are absent, or both are there and the same.
  abbrev pub same_option : Option X → Option X → Bool
  same_option None None = true
  same_option (Some a) (Some b) = same a b
  same_option _ _ = false

  -- Both are absent, both null, or both there and the same.
  abbrev pub same_slot : Slot X → Slot X → Bool
  same_slot Absent Absent = true
  same_slot Null Null = true
  same_slot (Is a) (Is b) = same a b
  same_slot _ _ = false

abbrev pub same_side : Side → Side → Bool
same_side Ltr Ltr = true
same_side Rtl Rtl = true
same_side _ _ = false

-- The containers have the same words.
abbrev pub same_shape : Shape → Shape → Bool
same_shape a b =
    beq a.graph b.graph && beq a.id b.id && beq a.index b.index && beq a.language b.language && beq a.list b.list && beq a.set b.set && beq a.types b.types

-- A test of it: `protected` is the one field that is not compared.
abbrev pub same_but_protected : Definition → Definition → Bool
same_but_protected a b =
    same_option bytes_eq a.mapping b.mapping && beq a.prefix b.prefix && beq a.reverse b.reverse && same_option bytes_eq a.base b.base && same_option same_tree a.local b.local
    && same_shape a.container b.container && same_slot same_side a.side b.side && same_option bytes_eq a.index b.index && same_slot bytes_eq a.language b.language
    && same_option bytes_eq a.nest b.nest && same_option bytes_eq a.kind b.kind
