-- No line ends inside what is written of a quad.
use Rattle.std.proofs.Common.{◌≡◌, ℕ, suc, ◌<◌, Bool, true, false, cond, ◌||◌, not, eqb, List, [], ◌∷◌, ◌++◌, length, get_or, Option, Some, None, refl, sym, ap, ◌∙◌, subst, arith, append-nil, codes}
use Rattle.std.proofs.lemmas.Bool.{and_parts, and_from, false≢true}
use Rattle.std.proofs.lemmas.Bool.Decides.{nat_tests}
use Rattle.std.proofs.lemmas.Str.{IsUtf8-from_is_utf8, IsUtf8-drop, IsCharBoundary-after_ascii, encodes-chars, inside_one}
use Rattle.std.proofs.lemmas.List.Splits.{slice_split-cons_yes, slice_split-cons_no}
use Rattle.std.specs.List.{list_all, flat_map}
use Rattle.std.specs.Char.{encode_utf8}
use Rattle.std.specs.Str.{encode_utf8_all, chars, is_utf8, IsUtf8, IsCharBoundary, bytes_eq}
use Rattle.iri_ref.specs.Parts.{is_iri_byte, is_well_formed, has_scheme}
use Rattle.ld_model.specs.Label.{is_blank}
use Rattle.case_tables.specs.Datatype.{datatype_name}
use Rattle.case_tables.specs.declared.datatype.Datatype.TheVariants.{XsdString, RdfLangString}
use Rattle.rdf_terms.specs.Language.{is_tag, are_tag_parts}
use Rattle.rdf_terms.specs.declared.term.Term.{Term}
use Rattle.rdf_terms.specs.declared.term.Term.TheVariants.{Iri, Blank, Literal}
use Rattle.rdf_terms.specs.declared.term.Quad.{Quad}
use Rattle.rdf_terms.specs.Quad.{is_valid_term, is_pn_chars, is_label, is_label_body, is_label_rest, is_language_of, graph_passes}
use Rattle.nquads_terminals.specs.Terminals.{is_tag_byte, may_begin}
use Rattle.nquads_text.specs.Lines.{is_line_end, lines_from}
use Rattle.nquads_text.specs.Written.{escaped, quoted, bracketed, annotation, term_text, next_text, triple_text, graph_text}
use Rattle.quad_laws.specs.Text.{is_text, line_text}
use Rattle.quad_laws.proofs.Tags.{hyphen, parts, goes, onto_goes, all_goes, tag_first}

abbrev unbroken : List ℕ → Bool
unbroken bs = list_all (λ b. not (is_line_end b)) bs

both : (xs ys : List ℕ) → unbroken xs ≡ true → unbroken ys ≡ true → unbroken (xs ++ ys) ≡ true
both [] ys first second = second
both (x ∷ xs) ys first second =
    let split = and_parts (not (is_line_end x)) (unbroken xs) first in
    and_from _ _ split.0 (both xs ys split.1 second)

from_reads : (bs : List ℕ) → ((k : ℕ) → k < length bs → not (is_line_end (get_or bs k 0)) ≡ true) → unbroken bs ≡ true
from_reads [] each = refl
from_reads (b ∷ bs) each = and_from _ _ (each 0 (omega arith)) (from_reads bs (λ k h. each (suc k) (omega arith)))

iri_byte : (b : ℕ) → is_iri_byte b ≡ true → not (is_line_end b) ≡ true
iri_byte b is = grind (arith, nat_tests)

iri_whole : (iri : List ℕ) → list_all is_iri_byte iri ≡ true → unbroken iri ≡ true
iri_whole [] all = refl
iri_whole (b ∷ bs) all =
    let split = and_parts (is_iri_byte b) (list_all is_iri_byte bs) all in
    and_from _ _ (iri_byte b split.0) (iri_whole bs split.1)

bracketed_whole : (iri : List ℕ) → is_well_formed iri ≡ true → unbroken (bracketed iri) ≡ true
bracketed_whole iri valid = both iri (62 ∷ []) (iri_whole iri (and_parts (has_scheme iri) (list_all is_iri_byte iri) valid).1) refl

escaped_whole : (b : ℕ) (p q r s : Bool) → eqb b 34 ≡ p → eqb b 92 ≡ q → eqb b 10 ≡ r → eqb b 13 ≡ s → unbroken (escaped b) ≡ true
escaped_whole b true q r s a c d e = rw a refl
escaped_whole b false true r s a c d e = rw (a, c) refl
escaped_whole b false false true s a c d e = rw (a, c, d) refl
escaped_whole b false false false true a c d e = rw (a, c, d, e) refl
escaped_whole b false false false false a c d e = rw (a, c, d, e) (rw (d, e) refl)

string_whole : (lexical : List ℕ) → unbroken (flat_map escaped lexical) ≡ true
string_whole [] = refl
string_whole (b ∷ bs) = both (escaped b) (flat_map escaped bs) (escaped_whole b (eqb b 34) (eqb b 92) (eqb b 10) (eqb b 13) refl refl refl refl) (string_whole bs)

tag_byte : (first : Bool) (b : ℕ) → is_tag_byte first b ≡ true → not (is_line_end b) ≡ true
tag_byte true b is = grind (arith, nat_tests)
tag_byte false b is = grind (arith, nat_tests)

hyphen_byte : (b : ℕ) → hyphen b ≡ true → not (is_line_end b) ≡ true
hyphen_byte b is = grind (arith, nat_tests)

tag_step : (first : Bool) (b : ℕ) (bs : List ℕ) (q : Bool) → hyphen b ≡ q → goes first (parts (b ∷ bs)) ≡ true → (goes first (parts bs) ≡ true → unbroken bs ≡ true) → (goes false (parts bs) ≡ true → unbroken bs ≡ true) → unbroken (b ∷ bs) ≡ true
tag_step first b bs true is all same later = and_from _ _ (hyphen_byte b is) (later (all_goes (parts bs) (ap (goes first) (sym (slice_split-cons_yes hyphen b bs is)) ∙ all)))
tag_step first b bs false is all same later =
    let split = onto_goes first b (parts bs) (ap (goes first) (sym (slice_split-cons_no hyphen b bs is)) ∙ all) in
    and_from _ _ (tag_byte first b split.0) (same split.1)

tag_more_whole : (first : Bool) (bs : List ℕ) → goes first (parts bs) ≡ true → unbroken bs ≡ true
tag_more_whole first [] all = refl
tag_more_whole first (b ∷ bs) all = tag_step first b bs (hyphen b) refl all (tag_more_whole first bs) (tag_more_whole false bs)

tag_whole : (tag : List ℕ) → is_tag tag ≡ true → unbroken tag ≡ true
tag_whole [] is = refl
tag_whole (b ∷ bs) is = by (hyphen b) refl
  where
    by : (q : Bool) → hyphen b ≡ q → unbroken (b ∷ bs) ≡ true
    by true dash = absurd (false≢true (ap are_tag_parts (sym (slice_split-cons_yes hyphen b bs dash)) ∙ is))
    by false dash =
        let split = tag_first b (parts bs) (ap are_tag_parts (sym (slice_split-cons_no hyphen b bs dash)) ∙ is) in
        and_from _ _ (tag_byte true b split.0) (tag_more_whole true bs split.1)

-- ---- labels

no_end : (c b : ℕ) (q : Bool) → is_line_end b ≡ q → (b < 128 → c ≡ b) → (is_line_end c ≡ true → ⊥) → not q ≡ true
no_end c b false is same other = refl
no_end c b true is same other =
    let small : b < 128 = grind (arith, nat_tests) in
    let here : c ≡ b = same small in
    absurd (other (ap is_line_end here ∙ is))

char_whole : (c : ℕ) → (is_line_end c ≡ true → ⊥) → unbroken (encode_utf8 c) ≡ true
char_whole c other = from_reads (encode_utf8 c) (λ k h. no_end c (get_or (encode_utf8 c) k 0) (is_line_end (get_or (encode_utf8 c) k 0)) refl (λ small. inside_one c [] (encode_utf8 c) k (sym (append-nil (encode_utf8 c))) h small) other)

end_is : (c : ℕ) → is_line_end c ≡ true → (p : Bool) → eqb c 10 ≡ p → (test : ℕ → Bool) → test 10 ≡ false → test 13 ≡ false → test c ≡ false
end_is c end true is test ten thirteen = let same : c ≡ 10 = grind (arith, nat_tests) in ap test same ∙ ten
end_is c end false is test ten thirteen = let same : c ≡ 13 = grind (arith, nat_tests) in ap test same ∙ thirteen

not_end : (test : ℕ → Bool) (c : ℕ) → test 10 ≡ false → test 13 ≡ false → test c ≡ true → is_line_end c ≡ true → ⊥
not_end test c ten thirteen passes end = false≢true (sym (end_is c end (eqb c 10) refl test ten thirteen) ∙ passes)

goes_on : ℕ → Bool
goes_on c = is_pn_chars c || eqb c 46

rest_whole : (cs : List ℕ) → is_label_rest cs ≡ true → unbroken (encode_utf8_all cs) ≡ true
rest_whole [] fits = refl
rest_whole (c ∷ []) fits = both (encode_utf8 c) [] (char_whole c (not_end is_pn_chars c refl refl fits)) refl
rest_whole (c ∷ d ∷ ds) fits =
    let split = and_parts (is_pn_chars c || eqb c 46) (is_label_rest (d ∷ ds)) fits in
    both (encode_utf8 c) (encode_utf8_all (d ∷ ds)) (char_whole c (not_end (λ x. is_pn_chars x || eqb x 46) c refl refl split.0)) (rest_whole (d ∷ ds) split.1)

body_whole : (cs : List ℕ) → is_label_body cs ≡ true → unbroken (encode_utf8_all cs) ≡ true
body_whole [] fits = refl
body_whole (c ∷ cs) fits =
    let split = and_parts (may_begin c) (is_label_rest cs) fits in
    both (encode_utf8 c) (encode_utf8_all cs) (char_whole c (not_end may_begin c refl refl split.0)) (rest_whole cs split.1)

label_whole : (l : List ℕ) → is_label l ≡ true → is_utf8 l ≡ true → unbroken l ≡ true
label_whole [] fits text = refl
label_whole (a ∷ []) fits text = absurd (false≢true fits)
label_whole (a ∷ b ∷ body) fits text =
    let split = and_parts (is_blank (a ∷ b ∷ body)) (is_label_body (chars body)) fits in
    let marks = and_parts (eqb a 95) (eqb b 58) split.0 in
    let first : a ≡ 95 = grind (arith, nat_tests) in
    let second : b ≡ 58 = grind (arith, nat_tests) in
    let utf8 : IsUtf8 (a ∷ b ∷ body) = IsUtf8-from_is_utf8 (a ∷ b ∷ body) text in
    let edge : IsCharBoundary (a ∷ b ∷ body) 2 = IsCharBoundary-after_ascii (a ∷ b ∷ body) 1 utf8 (omega arith) (omega arith) in
    let rest_utf8 : IsUtf8 body = IsUtf8-drop (a ∷ b ∷ body) 2 utf8 edge in
    let more : unbroken body ≡ true = subst (λ l. unbroken l ≡ true) (encodes-chars body rest_utf8) (body_whole (chars body) split.1) in
    rw (first, second) more

-- ---- terms and quads

annotation_whole : (datatype : List ℕ) (language : Option (List ℕ)) → is_well_formed datatype ≡ true → is_language_of datatype language ≡ true → unbroken (annotation datatype language) ≡ true
annotation_whole datatype (Some tag) valid language = tag_whole tag (and_parts (is_tag tag) (bytes_eq datatype (datatype_name RdfLangString)) language).0
annotation_whole datatype None valid language = by (bytes_eq datatype (datatype_name XsdString))
  where
    by : (q : Bool) → unbroken (cond q [] (codes "^^" ++ bracketed datatype)) ≡ true
    by true = refl
    by false = bracketed_whole datatype valid

term_whole : (t : Term) → is_valid_term t ≡ true → is_text t ≡ true → unbroken (term_text t) ≡ true
term_whole (Iri i) valid text = bracketed_whole i valid
term_whole (Blank l) valid text = label_whole l valid text
term_whole (Literal lexical datatype language) valid text =
    let split = and_parts (is_well_formed datatype) (is_language_of datatype language) valid in
    both (quoted lexical) (annotation datatype language) (both (flat_map escaped lexical) (34 ∷ []) (string_whole lexical) refl) (annotation_whole datatype language split.0 split.1)

graph_whole : (g : Option Term) → graph_passes is_valid_term g ≡ true → graph_passes is_text g ≡ true → unbroken (graph_text g) ≡ true
graph_whole None valid text = refl
graph_whole (Some g) valid text = term_whole g valid text

pub line_whole : (q : Quad) → is_valid_term q.subject ≡ true → is_valid_term q.predicate ≡ true → is_valid_term q.object ≡ true → graph_passes is_valid_term q.graph ≡ true → is_text q.subject ≡ true → is_text q.predicate ≡ true → is_text q.object ≡ true → graph_passes is_text q.graph ≡ true → unbroken (line_text q) ≡ true
line_whole q vs vp vo vg ts tp to tg =
    both (triple_text q ++ graph_text q.graph) (codes " .")
    (both (triple_text q) (graph_text q.graph) (both (term_text q.subject ++ next_text q.predicate) (next_text q.object) (both (term_text q.subject) (next_text q.predicate) (term_whole q.subject vs ts) (term_whole q.predicate vp tp)) (term_whole q.object vo to)) (graph_whole q.graph vg tg))
    refl

-- an unbroken line ends at the line feed behind it
pub line_back : (l rest : List ℕ) → unbroken l ≡ true → lines_from false (l ++ (10 ∷ rest)) ≡ l ∷ lines_from false rest
line_back [] rest whole = refl
line_back (b ∷ bs) rest whole =
    let split = and_parts (not (is_line_end b)) (unbroken bs) whole in
    let feed : eqb b 10 ≡ false = grind (arith, nat_tests) in
    let return : eqb b 13 ≡ false = grind (arith, nat_tests) in
    let more = line_back bs rest split.1 in
    rw (feed, return, more) refl
