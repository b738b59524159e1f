-- A term that was written is read back.
use Rattle.std.proofs.Common.{◌≡◌, ℕ, Bool, true, false, cond, eqb, List, [], ◌∷◌, ◌++◌, Ok, Option, Some, None, refl, sym, ap, ◌∙◌, subst, arith, append_assoc, ◌⊎◌, inl, inr, codes}
use Rattle.std.proofs.lemmas.Bool.{and_parts, false≢true}
use Rattle.std.proofs.lemmas.Bool.Decides.{nat_tests}
use Rattle.std.specs.List.{flat_map}
use Rattle.std.specs.Str.{is_utf8, bytes_eq}
use Rattle.case_tables.specs.Datatype.{datatype_name}
use Rattle.case_tables.specs.declared.datatype.Datatype.TheVariants.{XsdString, RdfLangString}
use Rattle.iri_ref.specs.Parts.{is_well_formed}
use Rattle.ld_model.specs.Label.{is_blank}
use Rattle.ld_model.proofs.Puts.{bytes_eq-exact}
use Rattle.rdf_terms.specs.Language.{is_tag}
use Rattle.rdf_terms.specs.declared.term.Term.{Term}
use Rattle.rdf_terms.specs.declared.term.Term.TheVariants.{Iri, Blank, Literal}
use Rattle.rdf_terms.specs.Quad.{is_valid_term, is_iri_or_blank, is_label, is_language_of}
use Rattle.nquads_terminals.specs.Terminals.{iriref, label}
use Rattle.nquads_text.specs.Statement.{gap, spaced, node, as_term, and_then, annotated, literal_from, object, object_from, needed}
use Rattle.nquads_text.specs.Written.{escaped, quoted, bracketed, annotation, term_text}
use Rattle.quad_laws.specs.Text.{is_text}
use Rattle.quad_laws.proofs.Strings.{string_back}
use Rattle.quad_laws.proofs.Names.{iri_back}
use Rattle.quad_laws.proofs.Labels.{label_back}
use Rattle.quad_laws.proofs.Tags.{tag_back}

-- `<`, `_`, `.` or `"`
abbrev pub IsMark : ℕ → Type 0
IsMark b = (b ≡ 60) ⊎ ((b ≡ 95) ⊎ ((b ≡ 46) ⊎ (b ≡ 34)))

-- what a term, or the end of a statement, begins with
abbrev pub Starts : List ℕ → Type 0
Starts bs = (b : ℕ) × (rest : List ℕ) × (bs ≡ b ∷ rest) × IsMark b

gap_cons : (b : ℕ) (rest : List ℕ) → IsMark b → gap (b ∷ rest) ≡ Ok (b ∷ rest)
gap_cons b rest (inl is) = subst (λ x. gap (x ∷ rest) ≡ Ok (x ∷ rest)) (sym is) refl
gap_cons b rest (inr (inl is)) = subst (λ x. gap (x ∷ rest) ≡ Ok (x ∷ rest)) (sym is) refl
gap_cons b rest (inr (inr (inl is))) = subst (λ x. gap (x ∷ rest) ≡ Ok (x ∷ rest)) (sym is) refl
gap_cons b rest (inr (inr (inr is))) = subst (λ x. gap (x ∷ rest) ≡ Ok (x ∷ rest)) (sym is) refl

pub gap_back : (bs : List ℕ) → Starts bs → gap bs ≡ Ok bs
gap_back bs (b, rest, is, mark) = subst (λ l. gap l ≡ Ok l) (sym is) (gap_cons b rest mark)

space_cons : (b : ℕ) (rest : List ℕ) → IsMark b → gap (32 ∷ b ∷ rest) ≡ Ok (b ∷ rest)
space_cons b rest (inl is) = subst (λ x. gap (32 ∷ x ∷ rest) ≡ Ok (x ∷ rest)) (sym is) refl
space_cons b rest (inr (inl is)) = subst (λ x. gap (32 ∷ x ∷ rest) ≡ Ok (x ∷ rest)) (sym is) refl
space_cons b rest (inr (inr (inl is))) = subst (λ x. gap (32 ∷ x ∷ rest) ≡ Ok (x ∷ rest)) (sym is) refl
space_cons b rest (inr (inr (inr is))) = subst (λ x. gap (32 ∷ x ∷ rest) ≡ Ok (x ∷ rest)) (sym is) refl

pub gap_space : (bs : List ℕ) → Starts bs → gap (32 ∷ bs) ≡ Ok bs
gap_space bs (b, rest, is, mark) = subst (λ l. gap (32 ∷ l) ≡ Ok l) (sym is) (space_cons b rest mark)

pub spaced_back : (t : Term) (bs : List ℕ) → Starts bs → spaced t (32 ∷ bs) ≡ Ok (t, bs)
spaced_back t bs starts = ap (λ r. and_then r (λ next. Ok (t, next))) (gap_space bs starts)

plain_cons : (lexical : List ℕ) (b : ℕ) (rest : List ℕ) → IsMark b → annotated lexical (b ∷ rest) ≡ Ok (Literal lexical (datatype_name XsdString) None, b ∷ rest)
plain_cons lexical b rest (inl is) = subst (λ x. annotated lexical (x ∷ rest) ≡ Ok (Literal lexical (datatype_name XsdString) None, x ∷ rest)) (sym is) refl
plain_cons lexical b rest (inr (inl is)) = subst (λ x. annotated lexical (x ∷ rest) ≡ Ok (Literal lexical (datatype_name XsdString) None, x ∷ rest)) (sym is) refl
plain_cons lexical b rest (inr (inr (inl is))) = subst (λ x. annotated lexical (x ∷ rest) ≡ Ok (Literal lexical (datatype_name XsdString) None, x ∷ rest)) (sym is) refl
plain_cons lexical b rest (inr (inr (inr is))) = subst (λ x. annotated lexical (x ∷ rest) ≡ Ok (Literal lexical (datatype_name XsdString) None, x ∷ rest)) (sym is) refl

pub plain_back : (lexical bs : List ℕ) → Starts bs → annotated lexical bs ≡ Ok (Literal lexical (datatype_name XsdString) None, bs)
plain_back lexical bs (b, rest, is, mark) = subst (λ l. annotated lexical l ≡ Ok (Literal lexical (datatype_name XsdString) None, l)) (sym is) (plain_cons lexical b rest mark)

-- ---- IRIs and blank nodes

blank_none : (l tail : List ℕ) → is_label l ≡ true → iriref (l ++ tail) ≡ None
blank_none [] tail fits = absurd (false≢true fits)
blank_none (a ∷ []) tail fits = absurd (false≢true fits)
blank_none (a ∷ b ∷ body) tail fits =
    let marks = and_parts (eqb a 95) (eqb b 58) (and_parts (is_blank (a ∷ b ∷ body)) _ fits).0 in
    let first : eqb a 60 ≡ false = grind (arith, nat_tests) in
    rw first refl

pub node_back : (t : Term) (rest : List ℕ) → is_valid_term t ≡ true → is_text t ≡ true → is_iri_or_blank t ≡ true → node (term_text t ++ (32 ∷ rest)) ≡ Some (t, 32 ∷ rest)
node_back (Iri i) rest valid text kind = rw (iri_back i (32 ∷ rest) valid text) refl
node_back (Blank l) rest valid text kind = rw (blank_none l (32 ∷ rest) valid, label_back l rest valid text) refl
node_back (Literal lexical datatype language) rest valid text kind = absurd (false≢true kind)

label_starts : (l tail : List ℕ) → is_label l ≡ true → Starts (l ++ tail)
label_starts [] tail fits = absurd (false≢true fits)
label_starts (a ∷ []) tail fits = absurd (false≢true fits)
label_starts (a ∷ b ∷ body) tail fits =
    let marks = and_parts (eqb a 95) (eqb b 58) (and_parts (is_blank (a ∷ b ∷ body)) _ fits).0 in
    let first : a ≡ 95 = grind (arith, nat_tests) in
    (a, b ∷ (body ++ tail), refl, inr (inl first))

pub node_starts : (t : Term) (tail : List ℕ) → is_valid_term t ≡ true → is_iri_or_blank t ≡ true → Starts (term_text t ++ tail)
node_starts (Iri i) tail valid kind = (60, (i ++ (62 ∷ [])) ++ tail, refl, inl refl)
node_starts (Blank l) tail valid kind = label_starts l tail valid
node_starts (Literal lexical datatype language) tail valid kind = absurd (false≢true kind)

-- ---- literals

label_none : (bs : List ℕ) → label (34 ∷ bs) ≡ None
label_none [] = refl
label_none (b ∷ bs) = refl

pub string_none : (bs : List ℕ) → node (34 ∷ bs) ≡ None
string_none bs = rw (label_none bs) refl

tagged_back : (lexical tag bs : List ℕ) → is_tag tag ≡ true → Starts bs → annotated lexical (64 ∷ (tag ++ (32 ∷ bs))) ≡ Ok (Literal lexical (datatype_name RdfLangString) (Some tag), bs)
tagged_back lexical tag bs fits starts =
    let read = tag_back tag bs fits in
    ap (λ r. needed (64 ∷ (tag ++ (32 ∷ bs))) (as_term (λ tag. Literal lexical (datatype_name RdfLangString) (Some tag)) r)) read ∙ spaced_back (Literal lexical (datatype_name RdfLangString) (Some tag)) bs starts

typed_back : (lexical datatype bs : List ℕ) → is_well_formed datatype ≡ true → is_utf8 datatype ≡ true → Starts bs → annotated lexical (94 ∷ 94 ∷ (bracketed datatype ++ (32 ∷ bs))) ≡ Ok (Literal lexical datatype None, bs)
typed_back lexical datatype bs valid text starts =
    let next = bracketed datatype ++ (32 ∷ bs) in
    let here : gap next ≡ Ok next = gap_cons 60 ((datatype ++ (62 ∷ [])) ++ (32 ∷ bs)) (inl refl) in
    let read = iri_back datatype (32 ∷ bs) valid text in
    ap (λ r. and_then r (λ next. needed next (as_term (λ datatype. Literal lexical datatype None) (iriref next)))) here ∙ ap (λ r. needed next (as_term (λ datatype. Literal lexical datatype None) r)) read ∙ spaced_back (Literal lexical datatype None) bs starts

after_string : (lexical datatype : List ℕ) (language : Option (List ℕ)) (bs : List ℕ) → is_well_formed datatype ≡ true → is_language_of datatype language ≡ true → is_utf8 datatype ≡ true → Starts bs → and_then (gap (annotation datatype language ++ (32 ∷ bs))) (annotated lexical) ≡ Ok (Literal lexical datatype language, bs)
after_string lexical datatype (Some tag) bs valid language text starts =
    let parts = and_parts (is_tag tag) (bytes_eq datatype (datatype_name RdfLangString)) language in
    let same : datatype ≡ datatype_name RdfLangString = bytes_eq-exact datatype (datatype_name RdfLangString) parts.1 in
    tagged_back lexical tag bs parts.0 starts ∙ ap (λ d. Ok (Literal lexical d (Some tag), bs)) (sym same)
after_string lexical datatype None bs valid language text starts = by (bytes_eq datatype (datatype_name XsdString)) refl
  where
    by : (q : Bool) → bytes_eq datatype (datatype_name XsdString) ≡ q → and_then (gap (cond q [] (codes "^^" ++ bracketed datatype) ++ (32 ∷ bs))) (annotated lexical) ≡ Ok (Literal lexical datatype None, bs)
    by true is =
        let same : datatype ≡ datatype_name XsdString = bytes_eq-exact datatype (datatype_name XsdString) is in
        ap (λ r. and_then r (annotated lexical)) (gap_space bs starts) ∙ plain_back lexical bs starts ∙ ap (λ d. Ok (Literal lexical d None, bs)) (sym same)
    by false is = typed_back lexical datatype bs valid text starts

pub object_back : (t : Term) (bs : List ℕ) → is_valid_term t ≡ true → is_text t ≡ true → Starts bs → object (term_text t ++ (32 ∷ bs)) ≡ Ok (t, bs)
object_back (Iri i) bs valid text starts =
    ap (object_from (term_text (Iri i) ++ (32 ∷ bs))) (node_back (Iri i) bs valid text refl) ∙ spaced_back (Iri i) bs starts
object_back (Blank l) bs valid text starts =
    ap (object_from (term_text (Blank l) ++ (32 ∷ bs))) (node_back (Blank l) bs valid text refl) ∙ spaced_back (Blank l) bs starts
object_back (Literal lexical datatype language) bs valid text starts =
    let parts = and_parts (is_well_formed datatype) (is_language_of datatype language) valid in
    let texts = and_parts (is_utf8 lexical) (is_utf8 datatype) text in
    let tail = annotation datatype language ++ (32 ∷ bs) in
    let bytes : term_text (Literal lexical datatype language) ++ (32 ∷ bs) ≡ quoted lexical ++ tail = append_assoc (quoted lexical) (annotation datatype language) (32 ∷ bs) in
    let none : node (quoted lexical ++ tail) ≡ None = string_none ((flat_map escaped lexical ++ (34 ∷ [])) ++ tail) in
    let read = string_back lexical tail texts.0 in
    ap object bytes ∙ ap (object_from (quoted lexical ++ tail)) none ∙ ap (literal_from (quoted lexical ++ tail)) read ∙ after_string lexical datatype language bs parts.0 parts.1 texts.1 starts
