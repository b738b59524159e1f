use Rattle.std.proofs.Common.{◌≡◌, ◌<◌, ◌-◌, Err, Some, true, false, ap, sym, ◌∙◌, subst, arith}
use Rattle.std.proofs.lemmas.Grind.{common_steps}
use Rattle.ld_model.specs.Tree.{members_of, tree_list-trees_of}
use Rattle.ld_tree.specs.View.{view}
use Rattle.ctx_types.specs.ContextView.{context_view}
use Rattle.ctx_model.specs.Process.{process_within, with_previous, items_of, items_taken, item_taken, remote_taken, map_taken, resolved_by, scoped_ask, remote_ask, loaded}
use Rattle.ctx_entries.specs.Answers.{Tries}
use Rattle.ctx_entries.specs.Left.{in_call, remote_in, scoped_of, with_scoped}
use Rattle.ctx_entries.specs.View.{ask_view, text_view}
use Rattle.ctx_entries.proofs.Carried.{answers_of, answers_refused, leaves_of}
use Rattle.ctx_entries.proofs.Listed.{of_object}
use Rattle.ctx_process.proofs.ContextSteps.{bind_ok, one_item, process_step, remote_step, scoped_step, item_text, item_object}
use Rattle.ctx_process.proofs.processing.+contexts.Goals as goal

pub process_within-returns-in_err-take_items : goal.process_within-returns-in_err-take_items
process_within-returns-in_err-take_items t c =
    let passed : c.from_residual-in_err-take_items.result ≡ Err c.in_err-take_items.field-0.0 = grind (arith, common_steps) in
    answers_of c.from_residual-in_err-take_items.result context_view
    (process_step c.args.ask.now (view c.args.local.now)
    ∙ ap (λ p. in_call c.args.ask.now items_taken p (ask_view c.args.ask.now) (items_of (view c.args.local.now)) (with_previous p (context_view c.args.ask.now.active.now))) (sym c.propagates_in-propagates.ensures)
    ∙ ap (λ x. in_call c.args.ask.now items_taken c.propagates_in-propagates.result (ask_view c.args.ask.now) (items_of (view c.args.local.now)) x) (sym c.in_ok-context.ensures))
    (answers_refused c.from_residual-in_err-take_items.result c.in_err-take_items.field-0.0 context_view _ passed c.in_err-take_items.ensures)

pub process_within-returns : goal.process_within-returns
process_within-returns t c =
    process_step c.args.ask.now (view c.args.local.now)
    ∙ ap (λ p. in_call c.args.ask.now items_taken p (ask_view c.args.ask.now) (items_of (view c.args.local.now)) (with_previous p (context_view c.args.ask.now.active.now))) (sym c.propagates_in-propagates.ensures)
    ∙ ap (λ x. in_call c.args.ask.now items_taken c.propagates_in-propagates.result (ask_view c.args.ask.now) (items_of (view c.args.local.now)) x) (sym c.in_ok-context.ensures)
    ∙ c.in_ok-take_items.ensures

pub take_items-returns-in-Items : goal.take_items-returns-in-Items
take_items-returns-in-Items t c =
    leaves_of c.take_each.result (context_view c.take_each.new.state.context)
    (ap (λ is. in_call c.args.ask.now items_taken c.args.propagates (ask_view c.args.ask.now) is (context_view c.args.state.now.context)) (ap (λ v. items_of (view v)) c.in-Items.is ∙ tree_list-trees_of c.in-Items.items))
    c.take_each.ensures

pub take_items-returns-in_default : goal.take_items-returns-in_default
take_items-returns-in_default t c =
    leaves_of c.take_item.result (context_view c.take_item.new.state.context)
    (ap (λ is. in_call c.args.ask.now items_taken c.args.propagates (ask_view c.args.ask.now) is (context_view c.args.state.now.context)) (one_item c.args.local.now c.in_default.not-Items)
    ∙ bind_ok (in_call c.args.ask.now item_taken c.args.propagates (ask_view c.args.ask.now) (view c.args.local.now) (context_view c.args.state.now.context)))
    c.take_item.ensures

pub take_item-returns-in-Str : goal.take_item-returns-in-Str
take_item-returns-in-Str t c =
    leaves_of c.take_remote.result (context_view c.take_remote.new.state.context)
    (ap (λ v. in_call c.args.ask.now item_taken c.args.propagates (ask_view c.args.ask.now) (view v) (context_view c.args.state.now.context)) c.in-Str.is
    ∙ item_text c.args.ask.now.store.now (λ b o. remote_in c.args.ask.now b o) (λ b t. scoped_of c.args.ask.now.store.now c.args.ask.now.remote_left c.args.ask.now.scoped_left b t) c.args.propagates (ask_view c.args.ask.now) c.in-Str.text (context_view c.args.state.now.context)
    ∙ ap (λ x. remote_taken c.args.ask.now.store.now (λ b o. remote_in c.args.ask.now b o) (ask_view c.args.ask.now) (resolved_by (text_view c.args.ask.now.base) x) (context_view c.args.state.now.context)) (sym c.as_str.ensures))
    c.take_remote.ensures

pub take_item-returns-in-Map : goal.take_item-returns-in-Map
take_item-returns-in-Map t c =
    leaves_of c.take_map.result (context_view c.take_map.new.state.context)
    (ap (λ v. in_call c.args.ask.now item_taken c.args.propagates (ask_view c.args.ask.now) (view v) (context_view c.args.state.now.context)) c.in-Map.is
    ∙ item_object c.args.ask.now.store.now (λ b o. remote_in c.args.ask.now b o) (λ b t. scoped_of c.args.ask.now.store.now c.args.ask.now.remote_left c.args.ask.now.scoped_left b t) c.args.propagates (ask_view c.args.ask.now) (members_of c.in-Map.own) (context_view c.args.state.now.context)
    ∙ of_object (λ es. with_scoped c.args.ask.now map_taken (ask_view c.args.ask.now) es (context_view c.args.state.now.context)) c.in-Map.own)
    c.take_map.ensures

pub process_remote-returns : goal.process_remote-returns
process_remote-returns t c =
    let some : 0 < c.args.ask.now.remote_left = grind (arith, common_steps) in
    let loaded = ap (λ x. loaded c.args.ask.now.store.now x) (sym c.as_str.ensures) ∙ c.in_ok-local.ensures in
    answers_of c.process_within.result context_view
    (remote_step c.args.ask.now.store.now c.args.ask.now.remote_left c.args.ask.now.scoped_left (remote_ask (ask_view c.args.ask.now) c.args.iri.now (context_view c.args.context.now)) _ (view c.in_ok-local.local.now) some loaded
    ∙ ap (λ rs. process_within c.args.ask.now.store.now (c.args.ask.now.remote_left - 1) c.args.ask.now.scoped_left (record { active = context_view c.args.context.now; base = Some c.args.iri.now; remotes = rs; overrides = false; propagates = true; validates = c.args.ask.now.validates }) (view c.in_ok-local.local.now)) (sym (c.as_slice.ensures.value ∙ c.in_ok-remotes.ensures)))
    c.process_within.ensures

pub try_context-returns : goal.try_context-returns
try_context-returns t c =
    let some : 0 < c.args.ask.now.scoped_left = grind (arith, common_steps) in
    subst (Tries c.tried.result) (sym (scoped_step c.args.ask.now.store.now c.args.ask.now.remote_left c.args.ask.now.scoped_left (scoped_ask (ask_view c.args.ask.now) (context_view c.args.context.now)) (view c.args.scoped.now) some))
    (c.tried.ensures _ c.process_within.ensures)
