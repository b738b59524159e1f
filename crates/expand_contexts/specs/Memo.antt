-- What is remembered of an array's items: what the same steps make of the same active context.
use Rattle.std.specs.Prelude.{◌≡◌, Option, None, Some, Ok}
use Rattle.ld_tree.specs.View.{view}
use Rattle.ctx_types.specs.Context.{Context}
use Rattle.ctx_types.specs.ContextView.{context_view}
use Rattle.ctx_entries.specs.View.{tree_view}
use Rattle.expand_model.specs.Scope.{Options, Scope}
use Rattle.expand_model.specs.Contexts.{left, in_map, typed_by_all, type_terms}
use Rattle.expand_contexts.specs.declared.memo.Typed.{Typed}
use Rattle.expand_contexts.specs.declared.memo.Last.{Last}
use Rattle.expand_contexts.specs.declared.memo.Memo.{Memo}
use Rattle.expand_contexts.specs.View.{made_view}

-- The type-scoped context of the last item.
abbrev pub last_view : Scope → Last → Context
last_view a l = made_view l.made (left l.leaves a.context)

-- Types made this of the type-scoped context.
abbrev pub IsTyped : Options → Context → Option Typed → Type 0
IsTyped o c None = Unit {0}
IsTyped o c (Some t) = typed_by_all o c (type_terms (view t.value.now)) c ≡ Ok (context_view t.context)

-- Leaving the active context or not, with this local context, made that.
abbrev pub IsLast : Options → Scope → Last → Type 0
IsLast o a l = (in_map o a l.leaves (tree_view l.local) ≡ Ok (last_view a l)) × IsTyped o (last_view a l) l.typed

abbrev pub MayRecallLast : Options → Scope → Option Last → Type 0
MayRecallLast o a None = Unit {0}
MayRecallLast o a (Some l) = IsLast o a l

abbrev pub MayRecall : Options → Scope → Memo → Type 0
MayRecall o a m = MayRecallLast o a m.last
