-- The line of a quad that was written says just that quad.
use Rattle.std.proofs.Common.{◌≡◌, ℕ, true, List, [], ◌∷◌, ◌++◌, Ok, Option, Some, None, Result, refl, sym, ap, ◌∙◌, subst, append_assoc, inl, inr, codes}
use Rattle.std.proofs.lemmas.Bool.{and_parts, false≢true}
use Rattle.rdf_terms.specs.declared.term.Term.{Term}
use Rattle.rdf_terms.specs.declared.term.Term.TheVariants.{Iri, Blank, Literal}
use Rattle.rdf_terms.specs.declared.term.Quad.{Quad}
use Rattle.rdf_terms.specs.Quad.{is_valid_term, is_iri, is_iri_or_blank, graph_passes}
use Rattle.nquads_text.specs.Statement.{iri, and_then, needed, subject, predicate, object, graph, graph_from, ending, statement, statement_if_any, said, quad_of}
use Rattle.std.specs.List.{flat_map}
use Rattle.nquads_text.specs.Written.{escaped, annotation, term_text, next_text, graph_text}
use Rattle.quad_laws.specs.Text.{is_text, IsGood, line_text}
use Rattle.quad_laws.proofs.Names.{iri_back}
use Rattle.quad_laws.proofs.Terms.{Starts, gap_back, spaced_back, node_back, node_starts, object_back}

-- what stands behind the object, without its space
abbrev behind_object : Option Term → List ℕ
behind_object None = 46 ∷ []
behind_object (Some g) = term_text g ++ (32 ∷ 46 ∷ [])

dot_starts : Starts (46 ∷ [])
dot_starts = (46, [], refl, inr (inr (inl refl)))

object_starts : (g : Option Term) → graph_passes is_valid_term g ≡ true → graph_passes is_iri_or_blank g ≡ true → Starts (behind_object g)
object_starts None valid kind = dot_starts
object_starts (Some g) valid kind = node_starts g (32 ∷ 46 ∷ []) valid kind

graph_back : (g : Option Term) → graph_passes is_valid_term g ≡ true → graph_passes is_text g ≡ true → graph_passes is_iri_or_blank g ≡ true → graph (behind_object g) ≡ Ok (g, 46 ∷ [])
graph_back None valid text kind = refl
graph_back (Some g) valid text kind =
    ap (graph_from (term_text g ++ (32 ∷ 46 ∷ []))) (node_back g (46 ∷ []) valid text kind) ∙ ap (λ r. and_then r (λ q. Ok (Some q.0, q.1))) (spaced_back g (46 ∷ []) dot_starts)

subject_back : (t : Term) (bs : List ℕ) → is_valid_term t ≡ true → is_text t ≡ true → is_iri_or_blank t ≡ true → Starts bs → subject (term_text t ++ (32 ∷ bs)) ≡ Ok (t, bs)
subject_back t bs valid text kind starts = ap (needed (term_text t ++ (32 ∷ bs))) (node_back t bs valid text kind) ∙ spaced_back t bs starts

iri_read : (t : Term) (rest : List ℕ) → is_valid_term t ≡ true → is_text t ≡ true → is_iri t ≡ true → iri (term_text t ++ (32 ∷ rest)) ≡ Some (t, 32 ∷ rest)
iri_read (Iri i) rest valid text kind = rw (iri_back i (32 ∷ rest) valid text) refl
iri_read (Blank l) rest valid text kind = absurd (false≢true kind)
iri_read (Literal lexical datatype language) rest valid text kind = absurd (false≢true kind)

predicate_back : (t : Term) (bs : List ℕ) → is_valid_term t ≡ true → is_text t ≡ true → is_iri t ≡ true → Starts bs → predicate (term_text t ++ (32 ∷ bs)) ≡ Ok (t, bs)
predicate_back t bs valid text kind starts = ap (needed (term_text t ++ (32 ∷ bs))) (iri_read t bs valid text kind) ∙ spaced_back t bs starts

iri_is_node : (t : Term) → is_iri t ≡ true → is_iri_or_blank t ≡ true
iri_is_node (Iri i) kind = refl
iri_is_node (Blank l) kind = absurd (false≢true kind)
iri_is_node (Literal lexical datatype language) kind = absurd (false≢true kind)

object_start : (t : Term) (tail : List ℕ) → is_valid_term t ≡ true → Starts (term_text t ++ tail)
object_start (Iri i) tail valid = node_starts (Iri i) tail valid refl
object_start (Blank l) tail valid = node_starts (Blank l) tail valid refl
object_start (Literal lexical datatype language) tail valid = (34, ((flat_map escaped lexical ++ (34 ∷ [])) ++ annotation datatype language) ++ tail, refl, inr (inr (inr refl)))

-- ---- the statement, part by part

abbrev pub from_graph : Term → Term → Term → (Option Term × List ℕ) → Result Quad (List ℕ)
from_graph s p o g = and_then (ending g.1) (λ _. Ok (quad_of s p o g.0))

abbrev pub from_object : Term → Term → (Term × List ℕ) → Result Quad (List ℕ)
from_object s p o = and_then (graph o.1) (from_graph s p o.0)

abbrev pub from_predicate : Term → (Term × List ℕ) → Result Quad (List ℕ)
from_predicate s p = and_then (object p.1) (from_object s p.0)

abbrev pub from_subject : (Term × List ℕ) → Result Quad (List ℕ)
from_subject s = and_then (predicate s.1) (from_predicate s.0)

abbrev behind_predicate : Quad → List ℕ
behind_predicate q = term_text q.object ++ (32 ∷ behind_object q.graph)

abbrev behind_subject : Quad → List ℕ
behind_subject q = term_text q.predicate ++ (32 ∷ behind_predicate q)

abbrev whole : Quad → List ℕ
whole q = term_text q.subject ++ (32 ∷ behind_subject q)

-- what is known of the terms of a good quad
pub record Good (q : Quad) : Type 0 where
  pub subject_kind : is_iri_or_blank q.subject ≡ true
  pub predicate_kind : is_iri q.predicate ≡ true
  pub graph_kind : graph_passes is_iri_or_blank q.graph ≡ true
  pub subject_valid : is_valid_term q.subject ≡ true
  pub predicate_valid : is_valid_term q.predicate ≡ true
  pub object_valid : is_valid_term q.object ≡ true
  pub graph_valid : graph_passes is_valid_term q.graph ≡ true
  pub subject_text : is_text q.subject ≡ true
  pub predicate_text : is_text q.predicate ≡ true
  pub object_text : is_text q.object ≡ true
  pub graph_is_text : graph_passes is_text q.graph ≡ true

pub good_from : (q : Quad) → IsGood q → Good q
good_from q good =
    let kinds = and_parts _ _ good.0.0 in
    let first = and_parts _ _ kinds.0 in
    let valid = and_parts _ _ good.0.1 in
    let triple = and_parts _ _ valid.0 in
    let pair = and_parts _ _ triple.0 in
    let texts = and_parts _ _ good.1 in
    let three = and_parts _ _ texts.0 in
    let two = and_parts _ _ three.0 in
    record {
      subject_kind = first.0;
      predicate_kind = first.1;
      graph_kind = kinds.1;
      subject_valid = pair.0;
      predicate_valid = pair.1;
      object_valid = triple.1;
      graph_valid = valid.1;
      subject_text = two.0;
      predicate_text = two.1;
      object_text = three.1;
      graph_is_text = texts.1;
    }

statement_back : (q : Quad) → Good q → statement (whole q) ≡ Ok q
statement_back q g =
    let third = object_starts q.graph g.graph_valid g.graph_kind in
    let second = object_start q.object (32 ∷ behind_object q.graph) g.object_valid in
    let first = node_starts q.predicate (32 ∷ behind_predicate q) g.predicate_valid (iri_is_node q.predicate g.predicate_kind) in
    ap (λ r. and_then r from_subject) (subject_back q.subject (behind_subject q) g.subject_valid g.subject_text g.subject_kind first)
    ∙ ap (λ r. and_then r (from_predicate q.subject)) (predicate_back q.predicate (behind_predicate q) g.predicate_valid g.predicate_text g.predicate_kind second)
    ∙ ap (λ r. and_then r (from_object q.subject q.predicate)) (object_back q.object (behind_object q.graph) g.object_valid g.object_text third)
    ∙ ap (λ r. and_then r (from_graph q.subject q.predicate q.object)) (graph_back q.graph g.graph_valid g.graph_is_text g.graph_kind)

pub if_any : (bs : List ℕ) → Starts bs → statement_if_any bs ≡ and_then (statement bs) (λ q. Ok (Some q))
if_any bs (b, rest, is, mark) = subst (λ l. statement_if_any l ≡ and_then (statement l) (λ q. Ok (Some q))) (sym is) refl

tail_of : (g : Option Term) → graph_text g ++ codes " ." ≡ 32 ∷ behind_object g
tail_of None = refl
tail_of (Some g) = refl

regroup : (a b c d e : List ℕ) → (((a ++ b) ++ c) ++ d) ++ e ≡ a ++ (b ++ (c ++ (d ++ e)))
regroup a b c d e = simp append_assoc

line_is : (q : Quad) → line_text q ≡ whole q
line_is q =
    regroup (term_text q.subject) (next_text q.predicate) (next_text q.object) (graph_text q.graph) (codes " .") ∙ ap (λ l. term_text q.subject ++ (next_text q.predicate ++ (next_text q.object ++ l))) (tail_of q.graph)

pub said_back : (q : Quad) → IsGood q → said (line_text q) ≡ Ok (Some q)
said_back q good =
    let g = good_from q good in
    let starts = node_starts q.subject (32 ∷ behind_subject q) g.subject_valid g.subject_kind in
    ap said (line_is q) ∙ ap (λ r. and_then r statement_if_any) (gap_back (whole q) starts) ∙ if_any (whole q) starts ∙ ap (λ r. and_then r (λ q. Ok (Some q))) (statement_back q g)
