-- Steps of context processing, and what its limits leave.
use Rattle.std.proofs.Common.{◌≡◌, ◌<◌, ◌-◌, ℕ, zero, suc, List, [], ◌∷◌, length, Bool, Result, Ok, Err, refl, sym, ap, ◌∙◌, arith}
use Rattle.std.specs.Prelude.{codes}
use Rattle.std.specs.Borrow.{Bor}
use Rattle.case_tables.specs.declared.code.Code.{Code}
use Rattle.ld_model.specs.Tree as model
use Rattle.ld_model.specs.Tree.{Pairs, text, object, Members, member_list, member_at}
use Rattle.ld_tree.specs.View.{view}
use Rattle.ld_tree.specs.declared.value.Tree.{Tree}
use Rattle.ld_tree.specs.declared.value.Tree.TheVariants.{Null, Truth, Whole, OneOne, Str, Items, Map}
use Rattle.ctx_types.specs.Context.{Text, Context}
use Rattle.ctx_types.specs.ContextView.{context_view}
use Rattle.ctx_store.specs.Stored.{Contexts}
use Rattle.ctx_model.specs.Outcome.{◌>>=◌}
use Rattle.ctx_model.specs.Words.{is_true}
use Rattle.ctx_model.specs.Creation.{create_within}
use Rattle.ctx_model.specs.Process.{Ask as AskData, Process, Remote, process_within, processed, items_of, propagates_in, with_previous, items_taken, item_taken, remote_taken, map_taken, terms_taken, terms_created, scoped_ask, resolved_by}
use Rattle.ctx_entries.specs.declared.local.Ask.{Ask}
use Rattle.ctx_entries.specs.Left.{in_call, processing, remote_of, scoped_of}
use Rattle.ctx_entries.specs.View.{ask_view, pairs_view}

pub bind_ok : {A : Type 0} (d : Result A Code) → (d >>= (λ x. Ok x)) ≡ d
bind_ok (Ok x) = refl
bind_ok (Err e) = refl

pub one_item : (t : Tree) → ((x : List model.Tree) → t ≡ Items x → ⊥) → items_of (view t) ≡ view t ∷ []
one_item Null other = refl
one_item (Truth b) other = refl
one_item (Whole n) other = refl
one_item OneOne other = refl
one_item (Str s) other = refl
one_item (Items x) other = absurd (other x refl)
one_item (Map ms) other = refl

pub length-pairs_view : (es : List (Bor Text × Bor Tree)) → length (pairs_view es) ≡ length es
length-pairs_view [] = refl
length-pairs_view (e ∷ es) = ap suc (length-pairs_view es)

module _ (store : Contexts) where
  -- context processing, with so many remote and scoped contexts left
  process_step_at : (r s : ℕ) (a : AskData) (t : model.Tree) → process_within store r s a t ≡ processed store (λ a o. remote_of store r s a o) (λ a t. scoped_of store r s a t) a t
  process_step_at zero zero a t = refl
  process_step_at zero (suc s) a t = refl
  process_step_at (suc r) zero a t = refl
  process_step_at (suc r) (suc s) a t = refl

  pub remote_step : (r s : ℕ) (a : AskData) (o : Result model.Tree Code) (t : model.Tree) → 0 < r → o ≡ Ok t → remote_of store r s a o ≡ process_within store (r - 1) s a t
  remote_step zero s a o t h e = absurd (omega arith)
  remote_step (suc r) s a o t h e =
      let is : r ≡ suc r - 1 = omega arith in
      ap (remote_of store (suc r) s a) e ∙ ap (λ m. process_within store m s a t) is

  pub scoped_step : (r s : ℕ) (a : AskData) (t : model.Tree) → 0 < s → scoped_of store r s a t ≡ process_within store r (s - 1) a t
  scoped_step r zero a t h = absurd (omega arith)
  scoped_step r (suc s) a t h = let is : s ≡ suc s - 1 = omega arith in ap (λ m. process_within store r m a t) is

  module _ (R : Remote) (S : Process) where
    processed_step : (a : AskData) (t : model.Tree) → processed store R S a t ≡ items_taken store R S (propagates_in a.propagates t) a (items_of t) (with_previous (propagates_in a.propagates t) a.active)
    unfolding processed
    processed_step a t = refl

    pub item_text : (p : Bool) (a : AskData) (x : Text) (c : Context) → item_taken store R S p a (text x) c ≡ remote_taken store R a (resolved_by a.base x) c
    unfolding item_taken
    item_text p a x c = refl

    pub item_object : (p : Bool) (a : AskData) (ms : Members) (c : Context) → item_taken store R S p a (object ms) c ≡ map_taken store S a (member_list ms) c
    unfolding item_taken
    item_object p a ms c = refl

  -- the terms of a map, in an order and with a number of keys that are those of its entries
  abbrev pub Creating : Process → AskData → Pairs → Context → Bool → ℕ → Pairs → List (Text × Bool) → Result Context Code
  Creating S a es c p n ps d = terms_created (λ t v s. create_within (λ c v. S (scoped_ask a c) v) (record { entries = es; base = a.base; protected = p; overrides = a.overrides }) n t v s) ps (record { context = c; defined = d }) >>= (λ s. Ok s.context)

  terms_given : (S : Process) (a : AskData) (es : Pairs) (c : Context) → terms_taken store S a es c ≡ Creating S a es c (is_true (member_at (codes "@protected") es)) (length es) es []
  unfolding terms_taken
  terms_given S a es c = refl

  pub terms_step : (S : Process) (a : AskData) (es : Pairs) (c : Context) (p : Bool) (n : ℕ) (ps : Pairs) (d : List (Text × Bool)) → p ≡ is_true (member_at (codes "@protected") es) → n ≡ length es → ps ≡ es → d ≡ [] → terms_taken store S a es c ≡ Creating S a es c p n ps d
  terms_step S a es c p n ps d e₁ e₂ e₃ e₄ =
      terms_given S a es c ∙ ap (λ x. Creating S a es c x (length es) es []) (sym e₁) ∙ ap (λ x. Creating S a es c p x es []) (sym e₂) ∙ ap (λ x. Creating S a es c p n x []) (sym e₃)
      ∙ ap (λ x. Creating S a es c p n ps x) (sym e₄)

-- what is left to a call
pub process_step : (a : Ask) (t : model.Tree) → processing a t ≡ in_call a items_taken (propagates_in a.propagates t) (ask_view a) (items_of t) (with_previous (propagates_in a.propagates t) (context_view a.active.now))
process_step a t =
    process_step_at a.store.now a.remote_left a.scoped_left (ask_view a) t
    ∙ processed_step a.store.now (λ b o. remote_of a.store.now a.remote_left a.scoped_left b o) (λ b t. scoped_of a.store.now a.remote_left a.scoped_left b t) (ask_view a) t
