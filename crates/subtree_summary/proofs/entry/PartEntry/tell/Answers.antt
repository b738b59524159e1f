use Rattle.std.proofs.Common.{Some, [], ◌∷◌, sym, ap, ◌∙◌}
use Rattle.op_model.specs.Names.{same_name}
use Rattle.sum_model.specs.Sums.{indexes_joined, part_entries_joined}
use Rattle.sum_laws.specs.Said.{once}
use Rattle.sum_laws.proofs.Sums as laws
use Rattle.op_types.specs.View.{names_view}
use Rattle.subtree_summary.specs.Log.{index_view, index_at_view, properties_view, part_entry_view, said}
use Rattle.subtree_summary.proofs.Logs.{types-append}
use Rattle.subtree_summary.proofs.entry.PartEntry.tell.Goals as goal

pub returns-in_ok-push-in-TypeName : goal.returns-in_ok-push-in-TypeName
returns-in_ok-push-in-TypeName c =
    let e = c.args.self.now in
    (λ i. record {
      types = (ap (λ ns. once same_name (names_view ns)) c.in_ok-push-in-TypeName.ensures.items ∙ types-append e.types.items (c.in-TypeName.name ∷ [])) i;
      index = sym (laws.indexes.right (index_view e.index)) i;
      properties = sym (laws.properties.right (properties_view e.told.items)) i;
    })
    ∙ ap (λ t. part_entries_joined (part_entry_view e) (said t)) (sym c.in-TypeName.is)

pub returns-in_ok-index-in-Index : goal.returns-in_ok-index-in-Index
returns-in_ok-index-in-Index c =
    let e = c.args.self.now in
    (λ i. record {
      types = sym (laws.names.right (once same_name (names_view e.types.items))) i;
      index =
          (c.joined.ensures
          ∙ ap (λ o. indexes_joined (index_view o) (Some (index_at_view c.in_ok-index-in-Index.index.value))) c.take.ensures.value
          ∙ ap (λ v. indexes_joined (index_view e.index) (Some (index_at_view v))) c.in_ok-index-in-Index.ensures.ok) i;
      properties = sym (laws.properties.right (properties_view e.told.items)) i;
    })
    ∙ ap (λ t. part_entries_joined (part_entry_view e) (said t)) (sym c.in-Index.is)
