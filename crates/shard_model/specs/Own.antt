-- Sums in which names and entries are told apart by labels.
use Rattle.std.specs.Prelude.{List}
use Rattle.std.specs.List.{AllByRecursion}
use Rattle.op_model.specs.Names.{Name}
use Rattle.op_model.specs.Ops.{Entry}
use Rattle.op_laws.specs.Own.{HasOwn, EntryHasOwn}
use Rattle.op_laws.specs.Sound.{IsSoundProperty}
use Rattle.sum_model.specs.Sums.{Key, PartEntry, Sum}

-- A property is no keyword; and its name and those in its entries have labels or are IRIs that don't look like labels, and each value is a
-- value object.
pub record PropertyHasOwn (names : List Name) (p : Name × List Entry) : Type 0 where
  pub name : HasOwn names p.0
  pub property : IsSoundProperty p.0
  pub entries : AllByRecursion (EntryHasOwn names) p.1

pub record PartHasOwn (names : List Name) (e : PartEntry) : Type 0 where
  pub types : AllByRecursion (HasOwn names) e.types
  pub properties : AllByRecursion (PropertyHasOwn names) e.properties

pub record NodeHasOwn (names : List Name) (e : Key × PartEntry) : Type 0 where
  pub graph : HasOwn names e.0.0
  pub node : HasOwn names e.0.1
  pub part : PartHasOwn names e.1

pub record SumHasOwn (names : List Name) (s : Sum) : Type 0 where
  pub graphs : AllByRecursion (HasOwn names) s.graphs
  pub nodes : AllByRecursion (NodeHasOwn names) s.nodes
