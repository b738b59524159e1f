-- The form of operations that are noted on the way through a document: what whoever puts labels in place of their names relies on.
use Rattle.std.specs.Prelude.{◌≡◌, true, false, ⊤}
use Rattle.ld_model.specs.Label.{is_blank}
use Rattle.ctx_types.specs.Expansion.{is_keyword}
use Rattle.node_model.specs.Walk.{To, under, reverse}
use Rattle.op_model.specs.Names.{Name, iri}
use Rattle.op_model.specs.Ops.{Entry, value, reference, list, Entries, no_entries, entry, Op, use_label, ensure_graph, ensure_node, ensure_property, add_entry, append_list, add_type, set_index}
use Rattle.op_laws.specs.Own.{is_value}

-- What counts as an IRI isn't the label of a blank node.
abbrev pub IsSoundName : Name → Type 0
IsSoundName (iri s) = is_blank s ≡ false
IsSoundName _ = ⊤

-- The name of a property is no keyword either.
abbrev pub IsSoundProperty : Name → Type 0
IsSoundProperty (iri s) = (is_blank s ≡ false) × (is_keyword s ≡ false)
IsSoundProperty _ = ⊤

-- Each value is a value object.
abbrev mutual
  pub IsSoundEntry : Entry → Type 0
  IsSoundEntry (value t) = is_value t ≡ true
  IsSoundEntry (reference n) = IsSoundName n
  IsSoundEntry (list es) = AreSoundEntries es

  pub AreSoundEntries : Entries → Type 0
  AreSoundEntries no_entries = ⊤
  AreSoundEntries (entry e es) = IsSoundEntry e × AreSoundEntries es

abbrev pub IsSound : Op → Type 0
IsSound (use_label n) = IsSoundName n
IsSound (ensure_graph g) = IsSoundName g
IsSound (ensure_node g n) = IsSoundName g × IsSoundName n
IsSound (ensure_property g n p) = IsSoundName g × IsSoundName n × IsSoundProperty p
IsSound (add_entry g n p e) = IsSoundName g × IsSoundName n × IsSoundProperty p × IsSoundEntry e
IsSound (append_list g n p es) = IsSoundName g × IsSoundName n × IsSoundProperty p × AreSoundEntries es
IsSound (add_type g n t) = IsSoundName g × IsSoundName n × IsSoundName t
IsSound (set_index g n i) = IsSoundName g × IsSoundName n

abbrev pub IsSoundPlace : To Name → Type 0
IsSoundPlace (under n p) = IsSoundName n × IsSoundProperty p
IsSoundPlace (reverse n p) = IsSoundName n × IsSoundProperty p
IsSoundPlace _ = ⊤
