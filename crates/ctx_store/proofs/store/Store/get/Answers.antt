use Rattle.std.proofs.Common.{◌≡◌, ap, ◌∙◌, sym, Option, Some, None, refl, Bor}
use Rattle.std.specs.Option.{option_map, option_copied}
use Rattle.std.specs.Map.{lookup}
use Rattle.std.specs.BTreeMap.{is_at}
use Rattle.ld_model.specs.Tree.{byte_order}
use Rattle.ctx_store.specs.declared.store.Loaded.{Loaded}
use Rattle.ctx_store.specs.View.{loaded_view}
use Rattle.ctx_store.proofs.Held.{lookup-view}
use Rattle.ctx_store.proofs.store.Store.get.Goals as goal

seen_behind : (o : Option (Bor Loaded)) → option_map (λ file. loaded_view file.now) o ≡ option_map loaded_view (option_copied o)
seen_behind None = refl
seen_behind (Some x) = refl

pub returns : goal.returns
returns c =
    seen_behind c.get.result ∙ ap (option_map loaded_view) c.get.ensures.value ∙ sym (lookup-view c.args.iri.now c.self.inside.files.entries) ∙ ap (lookup (is_at (byte_order c.args.iri.now))) c.self.view_is
