-- One way through a step of term creation each.
use Rattle.std.proofs.Common.{◌≡◌, ◌<◌, ◌-◌, List, ℕ, zero, suc, Bool, true, false, Option, Some, None, Result, Ok, refl, sym, ap, subst, ◌∙◌, arith}
use Rattle.std.specs.Prelude.{codes}
use Rattle.ld_model.specs.Tree.{Tree, Pairs, text, member_at}
use Rattle.ctx_types.specs.Context.{Definition}
use Rattle.ctx_types.specs.Expansion.{has_keyword_form}
use Rattle.case_tables.specs.declared.code.Code.{Code}
use Rattle.ctx_model.specs.State.{State, Local, Create, Scoped, mark, mark_of}
use Rattle.ctx_model.specs.Definition.{entries_of, protected_by}
use Rattle.ctx_model.specs.Creation.{create_within, create_new, unless_defined, is_reverse_alone, reverse_created, reverse_valued, reverse_named, is_compared, agreeing, own_agrees, is_reserved, id_mapping, id_named, kind_of, directed, defined_by}

module _ (C : Create) (S : Scoped) (L : Local) where
  alone_first : (t x : List ℕ) (es : Pairs) (p : Bool) (k : Option (List ℕ)) (s : State) → is_reverse_alone es ≡ true → reverse_created C S L t (text x) es p k s ≡ reverse_valued C S L t (text x) es p k s
  unfolding reverse_created
  alone_first t x es p k s e = rw (reverse_created, e)

  pub reverse_step : (t x : List ℕ) (es : Pairs) (p : Bool) (k : Option (List ℕ)) (s : State) → is_reverse_alone es ≡ true → has_keyword_form x ≡ false → reverse_created C S L t (text x) es p k s ≡ reverse_named C S L t x es p k s
  reverse_step t x es p k s e₁ e₂ =
      alone_first t x es p k s e₁ ∙ subst (λ b. elim b [ true ↦ Ok (mark t true s) | false ↦ reverse_named C S L t x es p k s ] ≡ reverse_named C S L t x es p k s) (sym e₂) refl

  pub agreeing_step : (t : List ℕ) (iri : Option (List ℕ)) (s : State) → is_compared t ≡ true → agreeing C S L t iri s ≡ own_agrees C S L t iri (mark t true s)
  unfolding agreeing
  agreeing_step t iri s e = rw (agreeing, e)

  pub id_step : (t x : List ℕ) (b : Bool) (s : State) → is_reserved x ≡ false → id_mapping C S L t b (text x) s ≡ id_named C S L t b x s
  unfolding id_mapping
  id_step t x b s e = rw (id_mapping, e)

  pub define_step : (t : List ℕ) (v : Tree) (d : Option Definition) (s s₁ : State) (p : Bool) (k : Option (List ℕ)) → protected_by L.protected (member_at (codes "@protected") (entries_of v)) ≡ Ok p → kind_of C S L (member_at (codes "@type") (entries_of v)) s ≡ Ok (k, s₁) → defined_by C S L t v d s ≡ directed C S L t v (member_at (codes "@reverse") (entries_of v)) p k d s₁
  unfolding defined_by
  define_step t v d s s₁ p k e₁ e₂ = rw (defined_by, e₁, e₂)

-- Term creation, one key down.
abbrev looked : Scoped → Local → ℕ → List ℕ → Tree → State → Option Bool → Result State Code
looked sc l n t v s o = elim o [ Some b ↦ unless_defined (Some b) s (Ok s) | None ↦ create_new (λ t v s. create_within sc l n t v s) sc l t v s ]

pub create_step : (sc : Scoped) (l : Local) (n : ℕ) (t : List ℕ) (v : Tree) (s : State) → 0 < n → mark_of t s ≡ None → create_within sc l n t v s ≡ create_new (λ t v s. create_within sc l (n - 1) t v s) sc l t v s
unfolding create_new
create_step sc l zero t v s h e = absurd (omega arith)
create_step sc l (suc n) t v s h e =
    let is : n ≡ suc n - 1 = omega arith in
    subst (λ m. create_within sc l (suc n) t v s ≡ create_new (λ t v s. create_within sc l m t v s) sc l t v s) is (ap (looked sc l n t v s) e)
