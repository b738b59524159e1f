-- IRI expansion with a local context (JSON-LD 1.1 API, section 5.2.2): a term that the text needs and that the local context
-- has is created first.
use Rattle.std.specs.Prelude.{Bool, true, false, Option, Some, None, Result, Ok}
use Rattle.ld_model.specs.Tree.{Pairs, member_at}
use Rattle.case_tables.specs.declared.code.Code.{Code}
use Rattle.ctx_types.specs.Context.{Text, definition_at}
use Rattle.ctx_types.specs.Expansion.{is_keyword, has_keyword_form, by_definition, colon_parts, is_whole, as_iri}
use Rattle.ctx_model.specs.Outcome.{◌>>=◌}
use Rattle.ctx_model.specs.State.{State, Create, mark_of, is_undone}

module _ (create : Create) (es : Pairs) where
  -- Steps 3 and 6.3: where the local context has an entry for the term and `defined` does not say that it was created, it is.
  -- [Ours: so too in term creation, step 15.1, and with the base URL, the protection and the override of the creation under way,
  -- since the standard passes none of the three.]
  unfoldable pub created : Text → State → Result State Code
  created t s =
      elim (member_at t es) [
        | None ↦ Ok s
        | Some v ↦ elim (is_undone (mark_of t s)) [ true ↦ create t v s | false ↦ Ok s ]
      ]

  -- Step 6.3: the prefix, where the text is none of a blank node identifier and an IRI with an authority.
  unfoldable pub prefix_created : Option (Text × Text) → State → Result State Code
  prefix_created None s = Ok s
  prefix_created (Some p) s = elim (is_whole p) [ true ↦ Ok s | false ↦ created p.0 s ]

  -- Steps 4 to 9, where a term with a definition stands for the text, or none does.
  abbrev pub expand_rest : Bool → Bool → Text → Option (Option Text) → State → Result (Option Text × State) Code
  expand_rest relative vocab t (Some iri) s = Ok (iri, s)
  expand_rest relative vocab t None s = do
    s₁ ← prefix_created (colon_parts t) s
    Ok (Some (as_iri s₁.context.current relative vocab t), s₁)

  -- Steps 3 to 9.
  abbrev pub expand_text : Bool → Bool → Text → State → Result (Option Text × State) Code
  expand_text relative vocab t s = do
    s₁ ← created t s
    expand_rest relative vocab t (by_definition vocab (definition_at t s₁.context.current.terms)) s₁

  -- Steps 1 to 9. Step 1 returns a keyword as it is, and step 2 gives null for any other text that has a keyword's form.
  unfoldable pub expand_iri : Bool → Bool → Text → State → Result (Option Text × State) Code
  expand_iri relative vocab t s =
      elim (is_keyword t) [
        | true ↦ Ok (Some t, s)
        | false ↦ elim (has_keyword_form t) [ true ↦ Ok (None, s) | false ↦ expand_text relative vocab t s ]
      ]
