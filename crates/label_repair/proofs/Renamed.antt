-- A log under labels is the node that it stands for under them.
use Rattle.std.proofs.Common.{◌≡◌, ◌≤◌, ◌^◌, List, [], ◌∷◌, ◌++◌, length, append_assoc, append-nil, sym, ap, ◌∙◌, subst}
use Rattle.std.specs.Prelude.{map as each, option_map}
use Rattle.std.specs.List.{AllByRecursion}
use Rattle.ld_model.specs.Tree.{Tree}
use Rattle.node_model.specs.Maps.{MapOf}
use Rattle.node_model.specs.NodeMap.{Node, told, with_entries}
use Rattle.op_model.specs.Names.{Name, same_name}
use Rattle.op_model.specs.Ops.{Entry}
use Rattle.op_model.specs.Running.{label_in, entry_in}
use Rattle.op_laws.specs.Own.{HasOwn, EntryHasOwn}
use Rattle.op_laws.proofs.Added.{adding_is_alike}
use Rattle.sum_model.specs.Joins.{lists_joined}
use Rattle.sum_model.specs.Sums.{same_entry, properties_joined}
use Rattle.sum_laws.specs.Said.{once}
use Rattle.sum_laws.proofs.Once.{once-append}
use Rattle.sum_laws.proofs.Same.{same_name-exact, same_name-sym, same_entry-exact, same_entry-sym}
use Rattle.sum_laws.proofs.Sums.{names as names_monoid, entries as entries_monoid}
use Rattle.shard_model.specs.Renamed.{properties_put, node_renamed}
use Rattle.shard_model.specs.Own.{PropertyHasOwn, PartHasOwn}
use Rattle.shard_laws.proofs.Step.{one_name, entry_added, property_step}
use Rattle.op_types.specs.View.{name_view, names_view, entries_view}
use Rattle.node_logs.specs.Log.{all_told, types_told, properties_told, node_view}
use Rattle.node_logs.specs.declared.node.Node as log
use Rattle.subtree_summary.specs.declared.entry.Told.{Told}
use Rattle.subtree_summary.specs.declared.entry.PartEntry.{PartEntry}
use Rattle.subtree_summary.specs.Log.{properties_view, part_entry_view}
use Rattle.subtree_summary.proofs.Logs.{properties-append, last}
use Rattle.label_repair.specs.Renaming.{told_renamed, IsOwn}
use Rattle.label_repair.proofs.Kept.{all-joined, once_back, properties_front, property_back}

module _ (names : List Name) (few : length names ≤ 2 ^ 64) where
  types_renamed : (ts held : List Name) → AllByRecursion (HasOwn names) held → AllByRecursion (HasOwn names) ts
      → types_told (each (label_in names) ts) (each (label_in names) held) ≡ each (label_in names) (lists_joined same_name held (once same_name ts))
  types_renamed [] held own all = ap (each (label_in names)) (sym (names_monoid.right held))
  types_renamed (t ∷ ts) held own all =
      let more : List Name = lists_joined same_name held (t ∷ []) in
      ap (types_told (each (label_in names) ts)) ((adding_is_alike names few).0 t held all.0 own ∙ ap (each (label_in names)) (one_name held t))
      ∙ types_renamed ts more (all-joined (HasOwn names) same_name held (t ∷ []) own (all.0, tt)) all.1
      ∙ ap (each (label_in names)) (names_monoid.assoc held (t ∷ []) (once same_name ts) ∙ ap (lists_joined same_name held) (sym (once-append same_name same_name-exact same_name-sym (t ∷ []) ts)))

  entries_renamed : (es held : List Entry) → AllByRecursion (EntryHasOwn names) held → AllByRecursion (EntryHasOwn names) es
      → all_told (each (entry_in names) es) (each (entry_in names) held) ≡ each (entry_in names) (lists_joined same_entry held (once same_entry es))
  entries_renamed [] held own all = ap (each (entry_in names)) (sym (entries_monoid.right held))
  entries_renamed (e ∷ es) held own all =
      let more : List Entry = lists_joined same_entry held (e ∷ []) in
      ap (all_told (each (entry_in names) es)) (entry_added names few e all.0 held own)
      ∙ entries_renamed es more (all-joined (EntryHasOwn names) same_entry held (e ∷ []) own (all.0, tt)) all.1
      ∙ ap (each (entry_in names)) (entries_monoid.assoc held (e ∷ []) (once same_entry es) ∙ ap (lists_joined same_entry held) (sym (once-append same_entry same_entry-exact same_entry-sym (e ∷ []) es)))

  abbrev AreOwn : List Told → Type 0
  AreOwn ts = AllByRecursion (PropertyHasOwn names) (properties_view ts)

  abbrev put : List Told → MapOf (List Tree)
  put ts = properties_put names (properties_view ts) []

  property_renamed : (ts : List Told) (t : Told) → AreOwn (ts ++ t ∷ [])
      → with_entries (label_in names (name_view t.property)) (all_told (each (entry_in names) (entries_view t.entries.items))) (put ts) ≡ put (ts ++ t ∷ [])
  property_renamed ts t own =
      let p : Name = name_view t.property in
      let es : List Entry = entries_view t.entries.items in
      let both : AllByRecursion (PropertyHasOwn names) (properties_joined (properties_view ts) ((p, once same_entry es) ∷ [])) = subst (AllByRecursion (PropertyHasOwn names)) (last ts t) own in
      let at_p = property_back names p (once same_entry es) (properties_view ts) both in
      property_step names few p (once same_entry es) (all_told (each (entry_in names) es)) at_p.0
      (λ old all. entries_renamed es old all (once_back (EntryHasOwn names) same_entry same_entry-exact es at_p.1))
      (properties_view ts) (properties_front names (properties_view ts) ((p, once same_entry es) ∷ []) both)
      ∙ ap (λ ps. properties_put names ps []) (sym (last ts t))

  properties_renamed : (ts before : List Told) → AreOwn (before ++ ts) → properties_told (each (told_renamed names) ts) (put before) ≡ put (before ++ ts)
  properties_renamed [] before own = ap put (sym (append-nil before))
  properties_renamed (t ∷ ts) before own =
      let whole : AreOwn ((before ++ t ∷ []) ++ ts) = subst AreOwn (sym (append_assoc before (t ∷ []) ts)) own in
      let front : AreOwn (before ++ t ∷ []) =
      properties_front names (properties_view (before ++ t ∷ [])) (properties_view ts) (subst (AllByRecursion (PropertyHasOwn names)) (properties-append (before ++ t ∷ []) ts) whole) in
      ap (properties_told (each (told_renamed names) ts)) (property_renamed before t front)
      ∙ properties_renamed ts (before ++ t ∷ []) whole
      ∙ ap put (append_assoc before (t ∷ []) ts)

  pub node_is_renamed : (e : PartEntry) (n : log.Node) → PartHasOwn names (part_entry_view e)
      → n.types.items ≡ each (label_in names) (names_view e.types.items)
      → n.index ≡ option_map (λ i. i.text) (part_entry_view e).index
      → n.told.items ≡ each (told_renamed names) e.told.items
      → node_view n ≡ node_renamed names (part_entry_view e)
  node_is_renamed e n own types-are index-is told-is = λ i. record {
    types =
        (ap (λ ts. types_told ts []) types-are
        ∙ types_renamed (names_view e.types.items) [] tt (once_back (HasOwn names) same_name same_name-exact (names_view e.types.items) own.types)
        ∙ ap (each (label_in names)) (names_monoid.left (once same_name (names_view e.types.items)))) i;
    index = index-is i;
    properties = (ap (λ ts. properties_told ts []) told-is ∙ properties_renamed e.told.items [] own.properties) i;
  }

  -- What a part has its own of, each property of its log has.
  said_own : (ts before : List Told) → AreOwn (before ++ ts) → AllByRecursion (IsOwn names) ts
  said_own [] before own = tt
  said_own (t ∷ ts) before own =
      let whole : AreOwn ((before ++ t ∷ []) ++ ts) = subst AreOwn (sym (append_assoc before (t ∷ []) ts)) own in
      let front : AreOwn (before ++ t ∷ []) =
      properties_front names (properties_view (before ++ t ∷ [])) (properties_view ts) (subst (AllByRecursion (PropertyHasOwn names)) (properties-append (before ++ t ∷ []) ts) whole) in
      let at_t = property_back names (name_view t.property) (once same_entry (entries_view t.entries.items)) (properties_view before) (subst (AllByRecursion (PropertyHasOwn names)) (last before t) front) in
      ((at_t.0, once_back (EntryHasOwn names) same_entry same_entry-exact (entries_view t.entries.items) at_t.1), said_own ts (before ++ t ∷ []) whole)

  pub types_own : (e : PartEntry) → PartHasOwn names (part_entry_view e) → AllByRecursion (HasOwn names) (names_view e.types.items)
  types_own e own = once_back (HasOwn names) same_name same_name-exact (names_view e.types.items) own.types

  pub told_own : (e : PartEntry) → PartHasOwn names (part_entry_view e) → AllByRecursion (IsOwn names) e.told.items
  told_own e own = said_own e.told.items [] own.properties
