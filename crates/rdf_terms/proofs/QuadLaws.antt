-- Laws of valid quads, and of the digits of doubles.
use Rattle.std.proofs.Common.{◌≡◌, ℕ, suc, nat_eq, true, List, [], ◌∷◌, ◌++◌, Option, Some, None, refl, ap, ◌∙◌, sym, inl, inr}
use Rattle.std.specs.Prelude.{replicate}
use Rattle.std.proofs.lemmas.Bool.{and_parts, and_from, cases_Bool, eqb-true}
use Rattle.iri_ref.proofs.Forms.{has_scheme-is}
use Rattle.rdf_terms.specs.declared.term.Term.{Term}
use Rattle.rdf_terms.specs.declared.term.Term.TheVariants.{Iri, Blank, Literal}
use Rattle.rdf_terms.specs.declared.term.Quad.{Quad}
use Rattle.rdf_terms.specs.Double.{ahead, without_trailing_zeros}
use Rattle.rdf_terms.specs.Quad.{is_valid_term, is_named, graph_passes, HasNames, IsValidQuad}

-- A valid term has the form that its kind asks for.
named_from_valid : (t : Term) → is_valid_term t ≡ true → is_named t ≡ true
named_from_valid (Iri iri) valid = sym (has_scheme-is iri) ∙ (and_parts _ _ valid).0
named_from_valid (Blank label) valid = (and_parts _ _ valid).0
named_from_valid (Literal lexical datatype language) valid = sym (has_scheme-is datatype) ∙ (and_parts _ _ (and_parts _ _ valid).0).0

-- Every call that asks for the forms of names takes a valid quad.
pub HasNames-from_valid : (q : Quad) → IsValidQuad q → HasNames q
HasNames-from_valid q valid =
    let object = and_parts _ _ valid.1 in
    let predicate = and_parts _ _ object.0 in
    let subject = and_parts _ _ predicate.0 in
    and_from _ _ (and_from _ _ (and_from _ _ (named_from_valid q.subject subject.0) (named_from_valid q.predicate subject.1)) (named_from_valid q.object predicate.1)) (named_graph q.graph object.1)
  where
    named_graph : (g : Option Term) → graph_passes is_valid_term g ≡ true → graph_passes is_named g ≡ true
    named_graph None valid_graph = refl
    named_graph (Some g) valid_graph = named_from_valid g valid_graph

-- Nothing but zeros is cut off.
pub zeros_cut : (ds : List ℕ) → (k : ℕ) × (without_trailing_zeros ds ++ replicate k 48 ≡ ds)
zeros_cut [] = (0, refl)
zeros_cut (d ∷ ds) =
    let rest = zeros_cut ds in
    one_more d (without_trailing_zeros ds) ds rest.0 rest.1
  where
    one_more : (d : ℕ) (kept ds : List ℕ) (k : ℕ) → kept ++ replicate k 48 ≡ ds → (n : ℕ) × (ahead d kept ++ replicate n 48 ≡ d ∷ ds)
    one_more d [] ds k is = elim (cases_Bool (nat_eq d 48)) [ inl zero ↦ (suc k, rw zero (let same = eqb-true d 48 zero in cc)) | inr other ↦ (k, rw other (ap (λ l. d ∷ l) is)) ]
    one_more d (e ∷ es) ds k is = (k, ap (λ l. d ∷ l) is)
