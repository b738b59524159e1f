use Rattle.std.proofs.Common.{ap, ◌∙◌}
use Rattle.std.specs.BTreeMap.{insert_entry}
use Rattle.ld_model.specs.Tree.{byte_order}
use Rattle.ctx_store.specs.View.{loaded_view, contexts_view}
use Rattle.ctx_store.proofs.Held.{insert-view}
use Rattle.ctx_store.proofs.store.Store.put.Goals as goal

pub returns-in-Ok : goal.returns-in-Ok
returns-in-Ok c =
    ap contexts_view c.in-Ok.ensures.entries ∙ insert-view c.in_ok-from_str.field-0 c.args.file c.self.inside.files.entries
    ∙ ap (λ k. insert_entry byte_order (contexts_view c.self.inside.files.entries) k (loaded_view c.args.file)) c.in_ok-from_str.ensures.ok
    ∙ ap (λ es. insert_entry byte_order es c.args.iri.now (loaded_view c.args.file)) c.self.view_is
