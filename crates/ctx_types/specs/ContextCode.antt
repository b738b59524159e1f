-- Contexts as codes, by which proofs tell them apart.
use Rattle.std.specs.Prelude.{◌≡◌, Bool, true, false, Option, None, Some, refl}
use Rattle.std.specs.Coded.{Coded, code_by, coded×, coded_ℕ, coded_bool, coded_list, coded_option}
use Rattle.ld_model.specs.Tree.{Tree}
use Rattle.ld_model.specs.TreeCode.{tree_code}
use Rattle.case_tables.specs.declared.shape.Shape.{Shape}
use Rattle.ctx_types.specs.declared.definition.Slot.{Slot}
use Rattle.ctx_types.specs.declared.definition.Slot.TheVariants.{Absent, Null, Is}
use Rattle.ctx_types.specs.declared.definition.Side.{Side}
use Rattle.ctx_types.specs.declared.definition.Side.TheVariants.{Ltr, Rtl}
use Rattle.ctx_types.specs.Context.{Text, Definition, Settings, Terms}

abbrev text_code : Coded Text
text_code = coded_list coded_ℕ

abbrev texts : Coded (Option Text)
texts = coded_option text_code

module _ {X : Type 0} where
  abbrev split : Slot X → Option (Option X)
  split Absent = None
  split Null = Some None
  split (Is x) = Some (Some x)

  abbrev join : Option (Option X) → Slot X
  join None = Absent
  join (Some None) = Null
  join (Some (Some x)) = Is x

  abbrev join-split : (s : Slot X) → join (split s) ≡ s
  join-split Absent = refl
  join-split Null = refl
  join-split (Is x) = refl

  -- A slot, as two options.
  abbrev slot_code : Coded X → Coded (Slot X)
  slot_code x = code_by (Option (Option X)) (coded_option (coded_option x)) split join join-split

abbrev is_rtl : Side → Bool
is_rtl Ltr = false
is_rtl Rtl = true

abbrev side_of : Bool → Side
side_of false = Ltr
side_of true = Rtl

abbrev side_of-is_rtl : (s : Side) → side_of (is_rtl s) ≡ s
side_of-is_rtl Ltr = refl
side_of-is_rtl Rtl = refl

abbrev side_code : Coded Side
side_code = code_by Bool coded_bool is_rtl side_of side_of-is_rtl

abbrev shape_code : Coded Shape
shape_code =
    code_by (Bool × (Bool × (Bool × (Bool × (Bool × (Bool × Bool))))))
    (coded× coded_bool (coded× coded_bool (coded× coded_bool (coded× coded_bool (coded× coded_bool (coded× coded_bool coded_bool))))))
    (λ s. (s.graph, (s.id, (s.index, (s.language, (s.list, (s.set, s.types)))))))
    (λ p. record { graph = p.0; id = p.1.0; index = p.1.1.0; language = p.1.1.1.0; list = p.1.1.1.1.0; set = p.1.1.1.1.1.0; types = p.1.1.1.1.1.1 })
    (λ _. refl)

-- The flags and the mapping, the scoped context, the kinds of value, and the rest.
abbrev definition_code : Coded Definition
definition_code =
    code_by ((Option Text × (Bool × (Bool × Bool))) × ((Option Text × Option Tree) × ((Shape × (Slot Side × Slot Text)) × (Option Text × (Option Text × Option Text)))))
    (coded× (coded× texts (coded× coded_bool (coded× coded_bool coded_bool))) (coded× (coded× texts (coded_option tree_code)) (coded× (coded× shape_code (coded× (slot_code side_code) (slot_code text_code))) (coded× texts (coded× texts texts)))))
    (λ d. ((d.mapping, (d.prefix, (d.protected, d.reverse))), ((d.base, d.local), ((d.container, (d.side, d.language)), (d.index, (d.nest, d.kind))))))
    (λ p. record {
      mapping = p.0.0;
      prefix = p.0.1.0;
      protected = p.0.1.1.0;
      reverse = p.0.1.1.1;
      base = p.1.0.0;
      local = p.1.0.1;
      container = p.1.1.0.0;
      side = p.1.1.0.1.0;
      index = p.1.1.1.0;
      language = p.1.1.0.1.1;
      nest = p.1.1.1.1.0;
      kind = p.1.1.1.1.1;
    })
    (λ _. refl)

-- Terms, as a list of pairs.
abbrev pub terms_code : Coded Terms
terms_code = coded_list (coded× text_code definition_code)

-- The settings of a context, as nested pairs.
abbrev pub settings_code : Coded Settings
settings_code =
    code_by (Option Text × (Option Text × (Option Text × (Option Text × (Option Side × Terms)))))
    (coded× texts (coded× texts (coded× texts (coded× texts (coded× (coded_option side_code) terms_code)))))
    (λ s. (s.base, (s.original, (s.vocab, (s.language, (s.side, s.terms))))))
    (λ p. record { base = p.0; original = p.1.0; vocab = p.1.1.0; language = p.1.1.1.0; side = p.1.1.1.1.0; terms = p.1.1.1.1.1 })
    (λ _. refl)
