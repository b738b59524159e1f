-- The original base URL stays as it is.
use Rattle.std.proofs.Common.{◌≡◌, ℕ, zero, suc, List, [], ◌∷◌, Bool, true, false, not, ◌||◌, Option, Some, None, Ok, Err, refl, IfOk, ◌∙◌}
use Rattle.std.specs.List.{AllByRecursion}
use Rattle.ld_model.specs.Tree.{Tree, null, truth, whole, one_one, text, array, object, Pairs, member_list}
use Rattle.case_tables.specs.declared.code.Code.TheVariants.{CyclicIriMapping, InvalidContextNullification}
use Rattle.ctx_types.specs.Context.{Text, Context, has_protected}
use Rattle.ctx_store.specs.Stored.{Contexts}
use Rattle.ctx_model.specs.Outcome.{unless}
use Rattle.ctx_model.specs.State.{State, Local, Scoped, mark_of}
use Rattle.ctx_model.specs.Creation.{create_new, unless_defined, create_within}
use Rattle.ctx_model.specs.Process.{Ask, items_of, process_within}
use Rattle.ctx_laws.specs.Statements.{ItemHas, is_text}
use Rattle.ctx_laws.proofs.Agreement.{Bears, create_agrees}
use Rattle.ctx_laws.proofs.Keeping.{after_any, Kept, process_keeps}

module _ (base : Option Text) where
  abbrev Has : Context → Type 0
  Has c = c.current.original ≡ base

  abbrev StateHas : State → Type 0
  StateHas s = Has s.context

  bears : (t : Text) → Bears StateHas t
  bears t = record { marks = λ b s p. p; drops = λ s p. p; stores = λ d s p. p }

  create_has : (scoped : Scoped) (l : Local) (n : ℕ) (t : Text) (v : Tree) (s : State) → StateHas s → IfOk (create_within scoped l n t v s) StateHas
  create_has scoped l zero t v s p = by (mark_of t s)
    where
      by : (o : Option Bool) → IfOk (unless_defined o s (Err CyclicIriMapping)) StateHas
      by (Some true) = p
      by (Some false) = tt
      by None = tt
  create_has scoped l (suc n) t v s p =
      by (mark_of t s) (create_agrees StateHas (λ t v s. create_within scoped l n t v s) (λ t v s. create_within scoped l n t v s) l (λ u v s is p. (refl, create_has scoped l n u v s p)) scoped t (bears t) v s p).1
    where
      by : (o : Option Bool) → IfOk (create_new (λ t v s. create_within scoped l n t v s) scoped l t v s) StateHas → IfOk (elim o [ Some b ↦ unless_defined (Some b) s (Ok s) | None ↦ create_new (λ t v s. create_within scoped l n t v s) scoped l t v s ]) StateHas
      by (Some true) new = p
      by (Some false) new = tt
      by None new = new

abbrev Any : Text × Tree → Type 0
Any e = Unit {0}

any_entries : (es : Pairs) → AllByRecursion Any es
any_entries [] = tt
any_entries (e ∷ es) = (tt, any_entries es)

any_item : (t : Tree) → ItemHas Any t
any_item (object ms) = any_entries (member_list ms)
any_item null = tt
any_item (truth b) = tt
any_item (whole n) = tt
any_item one_one = tt
any_item (text t) = tt
any_item (array ts) = tt

any_items : (ts : List Tree) → AllByRecursion (ItemHas Any) ts
any_items [] = tt
any_items (t ∷ ts) = (any_item t, any_items ts)

abbrev Always : Bool → Type 0
Always b = Unit {0}

kept : (store : Contexts) (base : Option Text) → Kept store (Has base) Always Any
kept store base =
    record {
      same = λ c d h k. h.original ∙ k;
      nulls = λ propagates ask c o a. after_any (Has base) (unless (ask.overrides || not (has_protected ask.active.current.terms)) InvalidContextNullification) _ (λ _. a);
      creates = λ scoped l n t v s o all e k. create_has base scoped l n t v s k;
      never = tt;
      loads = λ iri t is. any_items (items_of t);
    }

pub original_stays : (store : Contexts) (r s : ℕ) (ask : Ask) (local : Tree) → IfOk (process_within store r s ask local) (λ c. c.current.original ≡ ask.active.current.original)
original_stays store r s ask local =
    process_keeps store (Has ask.active.current.original) Always Any (kept store ask.active.current.original) r s ask local (always (items_of local)) refl (any_items (items_of local))
  where
    always : (ts : List Tree) → AllByRecursion (λ t. is_text t ≡ false → Unit {0}) ts
    always [] = tt
    always (t ∷ ts) = (λ _. tt, always ts)
