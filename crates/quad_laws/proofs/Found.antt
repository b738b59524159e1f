-- The parts of a statement that were read stand in the grammar's relations.
use Rattle.std.proofs.Common.{◌≡◌, ℕ, ◌+◌, ◌<◌, ◌≤◌, Bool, true, false, cond, not, ◌&&◌, eqb, leb, List, [], ◌∷◌, ◌++◌, length, drop, Ok, Err, Option, Some, None, Result, refl, sym, ap, ap₂, ◌∙◌, subst, arith, append_assoc, append-nil, length-append, ◌⊎◌, inl, inr, nat_eq, codes}
use Rattle.std.proofs.lemmas.Bool.{and_parts, and_from, false≢true}
use Rattle.std.proofs.lemmas.Bool.Decides.{nat_tests}
use Rattle.std.proofs.lemmas.Option.{none-some, some_pair_parts, same_Some}
use Rattle.std.proofs.lemmas.List.Sums.{prefix_len-le-length}
use Rattle.std.proofs.lemmas.List.Folds.{prefix_len-append}
use Rattle.std.proofs.lemmas.Str.{length-encode, len_utf8_bounds}
use Rattle.std.specs.Char.{encode_utf8}
use Rattle.std.specs.List.{flat_map, position_or_len, prefix_len, starts_with}
use Rattle.std.specs.Option.{option_or}
use Rattle.std.specs.Str.{is_utf8, encode_utf8_all}
use Rattle.case_tables.specs.Datatype.{datatype_name}
use Rattle.case_tables.specs.declared.datatype.Datatype.TheVariants.{XsdString, RdfLangString}
use Rattle.iri_ref.specs.Parts.{colon, is_well_formed}
use Rattle.rdf_terms.specs.declared.term.Term.{Term}
use Rattle.rdf_terms.specs.declared.term.Term.TheVariants.{Iri, Blank, Literal}
use Rattle.nquads_terminals.specs.Characters.{enclosed, enclosed_text, closing}
use Rattle.nquads_terminals.specs.Terminals.{iriref, iri_text, is_iri, string, label, label_more, langtag, backslash, behind}
use Rattle.nquads_terminals.specs.declared.enclosed.Enclosed.{Enclosed}
use Rattle.nquads_terminals.specs.declared.enclosed.Enclosed.TheVariants as terminal
use Rattle.nquads_text.specs.Statement.{as_term, iri, blank, node, needed, gap, spaced, and_then, annotated, typed, tagged, literal, literal_from, object, object_from, graph, graph_from, subject, predicate}
use Rattle.quad_laws.specs.Grammar.{Piece, itself, letter, four, eight, piece_bytes, IsPiece, Write, IsBody, IsIriref, IsString, IsLabel, IsNode, IsPredicate, IsSpace, IsTyped, IsAnnotation, IsObject, IsGraph, Apart}
use Rattle.quad_laws.proofs.Inverse.{err_ok, ok_same, then_ok, then_some, map_some, only_some}
use Rattle.quad_laws.proofs.Bodies.{made_of}
use Rattle.quad_laws.proofs.LabelParts.{label_of}
use Rattle.quad_laws.proofs.TagParts.{tag_of}
use Rattle.quad_laws.proofs.Longest.{label_longest, low_line_more}
use Rattle.quad_laws.proofs.Spaces.{space_of}
use Rattle.quad_laws.proofs.Parts.{Follows}

-- a front of the bytes that stands in a relation, and the rest
abbrev pub Front : List ℕ → List ℕ → (List ℕ → Type 0) → Type 0
Front bs rest P = (bytes : List ℕ) × (bs ≡ bytes ++ rest) × P bytes

pub longer : (front rest : List ℕ) → 0 < length rest → 0 < length (front ++ rest)
longer front rest some = omega (arith, some, length-append front rest)

-- ---- terminals

behind_of : (mark : ℕ) (bs rest : List ℕ) → behind mark bs ≡ Some rest → bs ≡ mark ∷ rest
behind_of mark [] rest is = absurd (none-some rest is)
behind_of mark (b ∷ bs) rest is = by (eqb b mark) refl is
  where
    by : (q : Bool) → eqb b mark ≡ q → cond q (Some bs) None ≡ Some rest → b ∷ bs ≡ mark ∷ rest
    by true same read = let here : b ≡ mark = grind (arith, nat_tests) in ap₂ (λ x y. x ∷ y) here (same_Some bs rest read)
    by false other read = absurd (none-some rest read)

body_of : (kind : Enclosed) (bs value rest : List ℕ) → enclosed_text kind bs ≡ Some (value, rest) → (body : List ℕ) × (bs ≡ body ++ (closing kind ∷ rest)) × IsBody kind body value
body_of kind bs value rest is =
    let o = only_some (λ r. is_utf8 r.0) (enclosed kind 0 bs) (value, rest) is in
    let m = made_of kind 0 bs value rest o.0 in
    let none : m.0 ≡ [] = empty m.0 m.2 in
    (flat_map piece_bytes m.1, m.3 ∙ ap (λ h. h ++ (flat_map piece_bytes m.1 ++ (closing kind ∷ rest))) none, (m.1, refl, m.4, o.1))
  where
    empty : (xs : List ℕ) → length xs ≡ 0 → xs ≡ []
    empty [] same = refl
    empty (x ∷ xs) same = absurd (omega (arith, same))

-- a piece of an IRI writes no more bytes than it has
piece_short : (p : Piece) (value : List ℕ) → IsPiece terminal.Iri p value → length value ≤ length (piece_bytes p)
piece_short (itself b) value (raw, is) = omega (arith, ap length is)
piece_short (letter b) value (c, names, is) = absurd (none-some c names)
piece_short (four digits) value (c, long, writes, is) = omega (arith, ap length is, length-encode c, (len_utf8_bounds c).1, long)
piece_short (eight digits) value (c, long, writes, is) = omega (arith, ap length is, length-encode c, (len_utf8_bounds c).1, long)

pieces_short : (ps : List Piece) (value : List ℕ) → Write terminal.Iri ps value → length value ≤ length (flat_map piece_bytes ps)
pieces_short [] value is = omega (arith, ap length is)
pieces_short (p ∷ ps) value (front, more, is, piece, others) =
    omega (arith, ap length is, length-append front more, length-append (piece_bytes p) (flat_map piece_bytes ps), piece_short p front piece, pieces_short ps more others)

-- the first backslash stands in the body, or the body has none
backslash_in : (body more : List ℕ) → (position_or_len backslash (body ++ more) ≡ position_or_len backslash body) ⊎ (position_or_len backslash body ≡ length body)
backslash_in body more = by (eqb (position_or_len backslash body) (length body)) refl
  where
    by : (q : Bool) → eqb (position_or_len backslash body) (length body) ≡ q → (position_or_len backslash (body ++ more) ≡ position_or_len backslash body) ⊎ (position_or_len backslash body ≡ length body)
    by true is = inr (grind (arith, nat_tests))
    by false is = inl (prefix_len-append (λ b. not (backslash b)) body more ∙ ap (λ q. cond q (length body + position_or_len backslash more) (position_or_len backslash body)) is)

within_body : (c k n : ℕ) (body more : List ℕ) → c ≤ n → n ≤ length body → leb c (position_or_len backslash (body ++ more)) ≡ true → (position_or_len backslash (body ++ more) ≡ position_or_len backslash body) ⊎ (position_or_len backslash body ≡ length body) → leb c (position_or_len backslash body) ≡ true
within_body c k n body more first second before (inl same) = ap (leb c) (sym same) ∙ before
within_body c k n body more first second before (inr none) = grind (arith, nat_tests)

iri_within : (body value more : List ℕ) → length value ≤ length body → is_iri (body ++ more) value ≡ true → is_iri body value ≡ true
iri_within body value more short is =
    let split = and_parts (is_well_formed value) (leb (position_or_len colon value) (position_or_len backslash (body ++ more))) is in
    and_from _ _ split.0 (within_body (position_or_len colon value) 0 (length value) body more (prefix_len-le-length (λ b. not (colon b)) value) short split.1 (backslash_in body more))

pub iriref_of : (bs value rest : List ℕ) → iriref bs ≡ Some (value, rest) → Front bs rest (λ bytes. IsIriref bytes value)
iriref_of bs value rest is =
    let b = then_some iri_text (behind 60 bs) (value, rest) is in
    let o = only_some (λ r. is_iri b.0 r.0) (enclosed_text terminal.Iri b.0) (value, rest) b.2 in
    let m = body_of terminal.Iri b.0 value rest o.0 in
    let short : length value ≤ length m.0 = subst (λ l. length value ≤ length l) (sym m.2.1) (pieces_short m.2.0 value m.2.2) in
    let iri_all : is_iri (m.0 ++ (62 ∷ rest)) value ≡ true = ap (λ l. is_iri l value) (sym m.1) ∙ o.1 in
    let whole : bs ≡ (60 ∷ (m.0 ++ 62 ∷ [])) ++ rest = behind_of 60 bs b.0 b.1 ∙ ap (λ l. 60 ∷ l) (m.1 ∙ sym (append_assoc m.0 (62 ∷ []) rest)) in
    (60 ∷ (m.0 ++ 62 ∷ []), whole, (m.0, refl, m.2, iri_within m.0 value (62 ∷ rest) short iri_all))

pub string_of : (bs value rest : List ℕ) → string bs ≡ Some (value, rest) → Front bs rest (λ bytes. IsString bytes value)
string_of bs value rest is =
    let b = then_some (enclosed_text terminal.Quoted) (behind 34 bs) (value, rest) is in
    let m = body_of terminal.Quoted b.0 value rest b.2 in
    let whole : bs ≡ (34 ∷ (m.0 ++ 34 ∷ [])) ++ rest = behind_of 34 bs b.0 b.1 ∙ ap (λ l. 34 ∷ l) (m.1 ∙ sym (append_assoc m.0 (34 ∷ []) rest)) in
    (34 ∷ (m.0 ++ 34 ∷ []), whole, (m.0, refl, m.2))

-- ---- terms

-- a terminal's value as a term
term_of : (term : List ℕ → Term) (o : Option (List ℕ × List ℕ)) (t : Term) (rest : List ℕ) → as_term term o ≡ Some (t, rest) → (value : List ℕ) × (o ≡ Some (value, rest)) × (t ≡ term value)
term_of term o t rest is =
    let r = map_some (λ (r : List ℕ × List ℕ). (term r.0, r.1)) o (t, rest) is in
    (r.0.0, r.1 ∙ ap (λ (e : Term × List ℕ). Some (r.0.0, e.1)) r.2, sym (ap (λ (e : Term × List ℕ). e.0) r.2))

iri_of : (bs : List ℕ) (t : Term) (rest : List ℕ) → iri bs ≡ Some (t, rest) → Front bs rest (λ bytes. IsPredicate bytes t)
iri_of bs t rest is =
    let v = term_of Iri (iriref bs) t rest is in
    let f = iriref_of bs v.0 rest v.1 in
    (f.0, f.1, subst (IsPredicate f.0) (sym v.2) f.2)

node_front : (bytes : List ℕ) (t : Term) → IsPredicate bytes t → IsNode bytes t
node_front bytes (Iri i) is = is
node_front bytes (Blank l) is = absurd is
node_front bytes (Literal lexical datatype language) is = absurd is

pub node_object : (bytes : List ℕ) (t : Term) → IsNode bytes t → IsObject bytes t
node_object bytes (Iri i) is = is
node_object bytes (Blank l) is = is
node_object bytes (Literal lexical datatype language) is = absurd is

-- an IRI or a label, which is the longest
abbrev pub NodeFront : List ℕ → Term → List ℕ → Type 0
NodeFront bs t rest = (bytes : List ℕ) × (bs ≡ bytes ++ rest) × IsNode bytes t × Follows t rest

follows_iri : (bytes : List ℕ) (t : Term) (rest : List ℕ) → IsPredicate bytes t → Follows t rest
follows_iri bytes (Iri i) rest is = tt
follows_iri bytes (Blank l) rest is = absurd is
follows_iri bytes (Literal lexical datatype language) rest is = tt

node_of : (bs : List ℕ) (t : Term) (rest : List ℕ) → node bs ≡ Some (t, rest) → NodeFront bs t rest
node_of bs t rest is = by (iri bs) refl is
  where
    by : (o : Option (Term × List ℕ)) → iri bs ≡ o → option_or o (blank bs) ≡ Some (t, rest) → NodeFront bs t rest
    by (Some r) first read =
        let f = iri_of bs t rest (first ∙ read) in
        (f.0, f.1, node_front f.0 t f.2, follows_iri f.0 t rest f.2)
    by None first read =
        let v = term_of Blank (label bs) t rest read in
        let l = label_of bs v.0 rest v.1 in
        (v.0, l.0, subst (IsNode v.0) (sym v.2) (refl, l.1), subst (λ x. Follows x rest) (sym v.2) (label_longest bs v.0 rest v.1))

-- ---- behind a term

spaced_of : (term t : Term) (bs rest : List ℕ) → spaced term bs ≡ Ok (t, rest) → 0 < length rest → (term ≡ t) × ((space : List ℕ) × (bs ≡ space ++ rest) × IsSpace space)
spaced_of term t bs rest is some =
    let n = then_ok (gap bs) (λ next. Ok (term, next)) (t, rest) is in
    let same = ok_same (term, n.0) (t, rest) n.2 in
    (ap (λ e. e.0) same, space_of bs rest (n.1 ∙ ap (λ e. Ok e.1) same) some)

needed_of : (bs : List ℕ) (o : Option (Term × List ℕ)) (t : Term) (rest : List ℕ) → needed bs o ≡ Ok (t, rest) → 0 < length rest → (space : List ℕ) × (o ≡ Some (t, space ++ rest)) × IsSpace space
needed_of bs None t rest is some = absurd (err_ok bs (t, rest) is)
needed_of bs (Some r) t rest is some =
    let s = spaced_of r.0 t r.1 rest is some in
    (s.1.0, ap₂ (λ x y. Some (x, y)) s.0 s.1.1, s.1.2)

-- a term and the space behind it
abbrev pub Spaced : List ℕ → List ℕ → (List ℕ → Type 0) → Type 0
Spaced bs rest P = (bytes : List ℕ) × (space : List ℕ) × (bs ≡ bytes ++ (space ++ rest)) × P bytes × IsSpace space

pub subject_of : (bs : List ℕ) (t : Term) (rest : List ℕ) → subject bs ≡ Ok (t, rest) → 0 < length rest → Spaced bs rest (λ bytes. IsNode bytes t)
subject_of bs t rest is some =
    let n = needed_of bs (node bs) t rest is some in
    let f = node_of bs t (n.0 ++ rest) n.1 in
    (f.0, n.0, f.1, f.2, n.2)

pub predicate_of : (bs : List ℕ) (t : Term) (rest : List ℕ) → predicate bs ≡ Ok (t, rest) → 0 < length rest → Spaced bs rest (λ bytes. IsPredicate bytes t)
predicate_of bs t rest is some =
    let n = needed_of bs (iri bs) t rest is some in
    let f = iri_of bs t (n.0 ++ rest) n.1 in
    (f.0, n.0, f.1, f.2, n.2)

-- ---- literals

abbrev Annotated : List ℕ → List ℕ → Term → List ℕ → Type 0
Annotated lexical bs t rest = (bytes : List ℕ) × (space : List ℕ) × (datatype : List ℕ) × (language : Option (List ℕ)) × (bs ≡ bytes ++ (space ++ rest)) × (t ≡ Literal lexical datatype language) × IsAnnotation bytes datatype language × IsSpace space

starts_two : (bs : List ℕ) → starts_with nat_eq bs (codes "^^") ≡ true → bs ≡ 94 ∷ 94 ∷ drop 2 bs
starts_two [] is = absurd (false≢true is)
starts_two (a ∷ []) is = absurd (false≢true (and_parts (eqb 94 a) false is).1)
starts_two (a ∷ b ∷ bs) is =
    let split = and_parts (eqb 94 a) (eqb 94 b && true) is in
    let more = and_parts (eqb 94 b) true split.1 in
    let first : a ≡ 94 = grind (arith, nat_tests) in
    let second : b ≡ 94 = grind (arith, nat_tests) in
    ap₂ (λ x y. x ∷ y ∷ bs) first second

typed_of : (lexical bs : List ℕ) (t : Term) (rest : List ℕ) → bs ≡ 94 ∷ 94 ∷ drop 2 bs → typed lexical (drop 2 bs) ≡ Ok (t, rest) → 0 < length rest → Annotated lexical bs t rest
typed_of lexical bs t rest marks is some =
    let n = then_ok (gap (drop 2 bs)) (λ next. needed next (as_term (λ datatype. Literal lexical datatype None) (iriref next))) (t, rest) is in
    let d = needed_of n.0 (as_term (λ datatype. Literal lexical datatype None) (iriref n.0)) t rest n.2 some in
    let v = term_of (λ datatype. Literal lexical datatype None) (iriref n.0) t (d.0 ++ rest) d.1 in
    let f = iriref_of n.0 v.0 (d.0 ++ rest) v.1 in
    let left : 0 < length n.0 = subst (λ l. 0 < length l) (sym f.1) (longer f.0 (d.0 ++ rest) (longer d.0 rest some)) in
    let s = space_of (drop 2 bs) n.0 n.1 left in
    let whole : bs ≡ (94 ∷ 94 ∷ (s.0 ++ f.0)) ++ (d.0 ++ rest) = marks ∙ ap (λ l. 94 ∷ 94 ∷ l) (s.1 ∙ ap (λ l. s.0 ++ l) f.1 ∙ sym (append_assoc s.0 f.0 (d.0 ++ rest))) in
    (94 ∷ 94 ∷ (s.0 ++ f.0), d.0, v.0, None, whole, v.2, inr (s.0, f.0, refl, s.2, f.2), d.2)

tagged_of : (lexical bs : List ℕ) (t : Term) (rest : List ℕ) → tagged lexical bs ≡ Ok (t, rest) → 0 < length rest → Annotated lexical bs t rest
tagged_of lexical bs t rest is some =
    let d = needed_of bs (as_term (λ tag. Literal lexical (datatype_name RdfLangString) (Some tag)) (langtag bs)) t rest is some in
    let v = term_of (λ tag. Literal lexical (datatype_name RdfLangString) (Some tag)) (langtag bs) t (d.0 ++ rest) d.1 in
    let f = tag_of bs v.0 (d.0 ++ rest) v.1 in
    (f.0, d.0, datatype_name RdfLangString, Some v.0, f.1, v.2, (f.2, refl), d.2)

annotated_of : (lexical bs : List ℕ) (t : Term) (rest : List ℕ) (p q : Bool) → starts_with nat_eq bs (codes "^^") ≡ p → cond p (typed lexical (drop 2 bs)) (cond q (tagged lexical bs) (Ok (Literal lexical (datatype_name XsdString) None, bs))) ≡ Ok (t, rest) → 0 < length rest → Annotated lexical bs t rest
annotated_of lexical bs t rest true q marks is some = typed_of lexical bs t rest (starts_two bs marks) is some
annotated_of lexical bs t rest false true marks is some = tagged_of lexical bs t rest is some
annotated_of lexical bs t rest false false marks is some =
    let same = ok_same (Literal lexical (datatype_name XsdString) None, bs) (t, rest) is in
    ([], [], datatype_name XsdString, None, ap (λ e. e.1) same, sym (ap (λ e. e.0) same), inl (refl, refl), refl)

-- ---- object and graph label

-- an object, the space behind it, and that a label goes no further
abbrev pub ObjectFront : List ℕ → Term → List ℕ → Type 0
ObjectFront bs t rest = (bytes : List ℕ) × (space : List ℕ) × (bs ≡ bytes ++ (space ++ rest)) × IsObject bytes t × IsSpace space × Follows t (space ++ rest)

grouped : (a b c d : List ℕ) → a ++ (b ++ (c ++ d)) ≡ (a ++ (b ++ c)) ++ d
grouped a b c d = simp append_assoc

literal_of : (bs : List ℕ) (t : Term) (rest : List ℕ) (o : Option (List ℕ × List ℕ)) → string bs ≡ o → literal_from bs o ≡ Ok (t, rest) → 0 < length rest → ObjectFront bs t rest
literal_of bs t rest None none is some = absurd (err_ok bs (t, rest) is)
literal_of bs t rest (Some r) read is some =
    let n = then_ok (gap r.1) (annotated r.0) (t, rest) is in
    let a = annotated_of r.0 n.0 t rest (starts_with nat_eq n.0 (codes "^^")) (starts_with nat_eq n.0 (codes "@")) refl n.2 some in
    let f = string_of bs r.0 r.1 read in
    let left : 0 < length n.0 = subst (λ l. 0 < length l) (sym a.4) (longer a.0 (a.1 ++ rest) (longer a.1 rest some)) in
    let s = space_of r.1 n.0 n.1 left in
    let whole : bs ≡ (f.0 ++ (s.0 ++ a.0)) ++ (a.1 ++ rest) = f.1 ∙ ap (λ l. f.0 ++ l) (s.1 ∙ ap (λ l. s.0 ++ l) a.4) ∙ grouped f.0 s.0 a.0 (a.1 ++ rest) in
    let good : IsObject (f.0 ++ (s.0 ++ a.0)) (Literal r.0 a.2 a.3) = (f.0, s.0, a.0, refl, f.2, s.2, a.6) in
    (f.0 ++ (s.0 ++ a.0), a.1, whole, subst (IsObject (f.0 ++ (s.0 ++ a.0))) (sym a.5) good, a.7, subst (λ x. Follows x (a.1 ++ rest)) (sym a.5) tt)

pub object_of : (bs : List ℕ) (t : Term) (rest : List ℕ) → object bs ≡ Ok (t, rest) → 0 < length rest → ObjectFront bs t rest
object_of bs t rest is some = by (node bs) refl is
  where
    by : (o : Option (Term × List ℕ)) → node bs ≡ o → object_from bs o ≡ Ok (t, rest) → ObjectFront bs t rest
    by None none read = literal_of bs t rest (string bs) refl read some
    by (Some r) first read =
        let s = spaced_of r.0 t r.1 rest read some in
        let f = node_of bs t (s.1.0 ++ rest) (first ∙ ap₂ (λ x y. Some (x, y)) s.0 s.1.1) in
        (f.0, s.1.0, f.1, node_object f.0 t f.2, s.1.2, f.3)

pub graph_of : (bs : List ℕ) (g : Option Term) (rest : List ℕ) → graph bs ≡ Ok (g, rest) → 0 < length rest → Front bs rest (λ bytes. IsGraph bytes g)
graph_of bs g rest is some = by (node bs) refl is
  where
    by : (o : Option (Term × List ℕ)) → node bs ≡ o → graph_from bs o ≡ Ok (g, rest) → Front bs rest (λ bytes. IsGraph bytes g)
    by None none read =
        let same = ok_same {A = Option Term × List ℕ} (None, bs) (g, rest) read in
        ([], ap (λ e. e.1) same, subst (IsGraph []) (ap (λ e. e.0) same) refl)
    by (Some r) first read =
        let n = then_ok (spaced r.0 r.1) (λ r. Ok (Some r.0, r.1)) (g, rest) read in
        let same = ok_same {A = Option Term × List ℕ} (Some n.0.0, n.0.1) (g, rest) n.2 in
        let s = spaced_of r.0 n.0.0 r.1 rest (n.1 ∙ ap (λ e. Ok (n.0.0, e.1)) same) some in
        let f = node_of bs n.0.0 (s.1.0 ++ rest) (first ∙ ap₂ (λ x y. Some (x, y)) s.0 s.1.1) in
        let good : IsGraph (f.0 ++ s.1.0) (Some n.0.0) = (f.0, s.1.0, refl, f.2, s.1.2) in
        (f.0 ++ s.1.0, f.1 ∙ sym (append_assoc f.0 s.1.0 rest), subst (IsGraph (f.0 ++ s.1.0)) (ap (λ e. e.0) same) good)

-- a label that goes no further has space before the next one
pub apart_of : (o : Term) (space name : List ℕ) (g : Option Term) (tail : List ℕ) → IsGraph name g → Follows o (space ++ (name ++ tail)) → Apart o space g
apart_of (Iri i) space name g tail is follows = tt
apart_of (Literal lexical datatype language) space name g tail is follows = tt
apart_of (Blank l) space name None tail is follows = tt
apart_of (Blank l) space name (Some (Iri i)) tail is follows = tt
apart_of (Blank l) space name (Some (Literal lexical datatype language)) tail is follows = tt
apart_of (Blank l) (b ∷ bs) name (Some (Blank m)) tail is follows = omega arith
apart_of (Blank l) [] name (Some (Blank m)) tail (word, behind_it, is, (same, (cs, bytes, scalars, fits)), blank_behind) follows =
    let more = ((58 ∷ encode_utf8_all cs) ++ behind_it) ++ tail in
    let whole : name ++ tail ≡ 95 ∷ more = ap (λ l. l ++ tail) (is ∙ ap (λ l. l ++ behind_it) (same ∙ bytes)) in
    absurd (omega (arith, low_line_more more, ap (label_more 0) whole, follows))
