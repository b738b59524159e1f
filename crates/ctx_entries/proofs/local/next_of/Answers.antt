use Rattle.std.proofs.Common.{rules, ◌≡◌, Less, Greater, Some, None}
use Rattle.std.specs.Prelude.{slice_get}
use Rattle.ld_model.specs.Tree.{byte_order}
use Rattle.ctx_entries.specs.View.{pair_view}
use Rattle.ctx_entries.proofs.Merging.{of_imports, of_own, own_before, import_before}
use Rattle.ctx_entries.proofs.local.next_of.Goals as goal

pub returns-in_default : goal.returns-in_default
returns-in_default c =
    let none : None ≡ slice_get c.args.own.now 0 = search rules in
    of_imports c.args.own.now c.args.imports.now c.next.new.self c.next.result none c.next.ensures.steps

pub returns-in_default-peek : goal.returns-in_default-peek
returns-in_default-peek c =
    let none : None ≡ slice_get c.args.imports.now 0 = search rules in
    of_own c.args.own.now c.args.imports.now c.next-in_default-peek.new.self c.next-in_default-peek.result none c.next-in_default-peek.ensures.steps

pub returns-in-Less : goal.returns-in-Less
returns-in-Less c =
    let e = pair_view (c.in-Some.key, c.in-Some.field-0-1) in
    let i = pair_view (c.in-Some-peek.import, c.in-Some-peek.field-0-1) in
    let own : Some e ≡ slice_get c.args.own.now 0 = search rules in
    let import : Some i ≡ slice_get c.args.imports.now 0 = search rules in
    let less : byte_order e.0 i.0 ≡ Less = search rules in
    own_before c.args.own.now c.args.imports.now c.next-in-Less.new.self c.next-in-Less.result e i own import less c.next-in-Less.ensures.steps

pub returns-in-Greater : goal.returns-in-Greater
returns-in-Greater c =
    let e = pair_view (c.in-Some.key, c.in-Some.field-0-1) in
    let i = pair_view (c.in-Some-peek.import, c.in-Some-peek.field-0-1) in
    let own : Some e ≡ slice_get c.args.own.now 0 = search rules in
    let import : Some i ≡ slice_get c.args.imports.now 0 = search rules in
    let greater : byte_order e.0 i.0 ≡ Greater = search rules in
    import_before c.args.own.now c.args.imports.now c.next-in-Greater.new.self c.next-in-Greater.result e i own import greater c.next-in-Greater.ensures.steps
