-- The parts of a statement that stand in the grammar's relations are read.
use Rattle.std.proofs.Common.{◌≡◌, ℕ, ◌+◌, ◌<◌, ◌≤◌, Bool, true, false, cond, not, leb, List, [], ◌∷◌, ◌++◌, length, Ok, Option, Some, None, Result, refl, sym, ap, ◌∙◌, subst, arith, append_assoc, inl, inr, lit<}
use Rattle.std.proofs.lemmas.Bool.{and_parts, and_from, false≢true}
use Rattle.std.proofs.lemmas.Bool.Decides.{nat_tests}
use Rattle.std.specs.List.{flat_map, position_or_len}
use Rattle.std.specs.Str.{is_utf8, encode_utf8_all}
use Rattle.case_tables.specs.Datatype.{datatype_name}
use Rattle.case_tables.specs.declared.datatype.Datatype.TheVariants.{XsdString, RdfLangString}
use Rattle.iri_ref.specs.Parts.{colon, is_well_formed}
use Rattle.rdf_terms.specs.declared.term.Term.{Term}
use Rattle.rdf_terms.specs.declared.term.Term.TheVariants.{Iri, Blank, Literal}
use Rattle.nquads_terminals.specs.Characters.{enclosed, enclosed_text, only, closing}
use Rattle.nquads_terminals.specs.Terminals.{iriref, iri_text, is_iri, string, label, label_more, langtag, backslash}
use Rattle.nquads_terminals.specs.declared.enclosed.Enclosed.{Enclosed}
use Rattle.nquads_terminals.specs.declared.enclosed.Enclosed.TheVariants as terminal
use Rattle.nquads_text.specs.Statement.{as_term, iri, node, needed, gap, spaced, and_then, annotated, literal_from, object, object_from, graph, graph_from, subject, predicate}
use Rattle.quad_laws.specs.Grammar.{piece_bytes, IsBody, IsIriref, IsString, IsLabel, IsNode, IsPredicate, IsSpace, IsTyped, IsAnnotation, IsObject, IsGraph, Apart}
use Rattle.quad_laws.proofs.Bodies.{pieces_read}
use Rattle.quad_laws.proofs.LabelParts.{label_read}
use Rattle.quad_laws.proofs.TagParts.{NoTag, tag_read}
use Rattle.quad_laws.proofs.Spaces.{Begins, starts_begins, gap_read, both_space, space_no_label, space_no_tag, angle_no_label}
use Rattle.quad_laws.proofs.Labels.{dot_none}
use Rattle.quad_laws.proofs.Terms.{Starts, plain_back, string_none}

-- ---- terminals

body_read : (kind : Enclosed) (body value rest : List ℕ) → IsBody kind body value → enclosed_text kind (body ++ (closing kind ∷ rest)) ≡ Some (value, rest)
body_read kind body value rest (pieces, bytes, writes, text) =
    ap (λ l. enclosed_text kind (l ++ (closing kind ∷ rest))) bytes ∙ ap (only (λ r. is_utf8 r.0)) (pieces_read kind pieces value rest writes) ∙ ap (λ q. cond q (Some (value, rest)) None) text

first_backslash : (body more : List ℕ) → position_or_len backslash body ≤ position_or_len backslash (body ++ more)
first_backslash [] more = omega arith
first_backslash (b ∷ bs) more = by (backslash b) (first_backslash bs more)
  where
    by : (q : Bool) → position_or_len backslash bs ≤ position_or_len backslash (bs ++ more) → cond (not q) (1 + position_or_len backslash bs) 0 ≤ cond (not q) (1 + position_or_len backslash (bs ++ more)) 0
    by true rest = omega arith
    by false rest = omega (arith, rest)

still_iri : (body value more : List ℕ) → is_iri body value ≡ true → is_iri (body ++ more) value ≡ true
still_iri body value more is =
    let split = and_parts (is_well_formed value) (leb (position_or_len colon value) (position_or_len backslash body)) is in
    let further = first_backslash body more in
    let before : leb (position_or_len colon value) (position_or_len backslash (body ++ more)) ≡ true = grind (arith, nat_tests) in
    and_from _ _ split.0 before

pub iriref_read : (bytes value rest : List ℕ) → IsIriref bytes value → iriref (bytes ++ rest) ≡ Some (value, rest)
iriref_read bytes value rest (body, is, made, good) =
    let all : bytes ++ rest ≡ 60 ∷ (body ++ (62 ∷ rest)) = ap (λ l. l ++ rest) is ∙ ap (λ l. 60 ∷ l) (append_assoc body (62 ∷ []) rest) in
    ap iriref all ∙ ap (only (λ r. is_iri (body ++ (62 ∷ rest)) r.0)) (body_read terminal.Iri body value rest made) ∙ ap (λ q. cond q (Some (value, rest)) None) (still_iri body value (62 ∷ rest) good)

string_read : (bytes value rest : List ℕ) → IsString bytes value → string (bytes ++ rest) ≡ Some (value, rest)
string_read bytes value rest (body, is, made) =
    let all : bytes ++ rest ≡ 34 ∷ (body ++ (34 ∷ rest)) = ap (λ l. l ++ rest) is ∙ ap (λ l. 34 ∷ l) (append_assoc body (34 ∷ []) rest) in
    ap string all ∙ body_read terminal.Quoted body value rest made

-- ---- what they begin with

iriref_starts : (bytes value rest : List ℕ) → IsIriref bytes value → Starts (bytes ++ rest)
iriref_starts bytes value rest (body, is, made, good) = (60, (body ++ 62 ∷ []) ++ rest, ap (λ l. l ++ rest) is, inl refl)

label_starts : (bytes rest : List ℕ) → IsLabel bytes → Starts (bytes ++ rest)
label_starts bytes rest (cs, is, scalars, fits) = (95, 58 ∷ (encode_utf8_all cs ++ rest), ap (λ l. l ++ rest) is, inr (inl refl))

pub node_starts : (bytes : List ℕ) (t : Term) (rest : List ℕ) → IsNode bytes t → Starts (bytes ++ rest)
node_starts bytes (Iri i) rest is = iriref_starts bytes i rest is
node_starts bytes (Blank l) rest (same, is) = label_starts bytes rest (subst IsLabel (sym same) is)
node_starts bytes (Literal lexical datatype language) rest is = absurd is

pub predicate_starts : (bytes : List ℕ) (t : Term) (rest : List ℕ) → IsPredicate bytes t → Starts (bytes ++ rest)
predicate_starts bytes (Iri i) rest is = iriref_starts bytes i rest is
predicate_starts bytes (Blank l) rest is = absurd is
predicate_starts bytes (Literal lexical datatype language) rest is = absurd is

pub object_starts : (bytes : List ℕ) (t : Term) (rest : List ℕ) → IsObject bytes t → Starts (bytes ++ rest)
object_starts bytes (Iri i) rest is = iriref_starts bytes i rest is
object_starts bytes (Blank l) rest (same, is) = label_starts bytes rest (subst IsLabel (sym same) is)
object_starts bytes (Literal lexical datatype language) rest (quoted, space, annotation, is, (body, same, made), all, more) =
    (34, ((body ++ 34 ∷ []) ++ (space ++ annotation)) ++ rest, ap (λ l. l ++ rest) (is ∙ ap (λ l. l ++ (space ++ annotation)) same), inr (inr (inr refl)))

pub graph_starts : (bytes : List ℕ) (g : Option Term) (tail : List ℕ) → IsGraph bytes g → Starts (bytes ++ (46 ∷ tail))
graph_starts bytes None tail is = (46, tail, ap (λ l. l ++ (46 ∷ tail)) is, inr (inr (inl refl)))
graph_starts bytes (Some t) tail (name, space, is, named, all) =
    subst Starts (sym (ap (λ l. l ++ (46 ∷ tail)) is ∙ append_assoc name space (46 ∷ tail))) (node_starts name t (space ++ (46 ∷ tail)) named)

-- ---- terms

no_iri : (bytes rest : List ℕ) → IsLabel bytes → iriref (bytes ++ rest) ≡ None
no_iri bytes rest (cs, is, scalars, fits) = ap (λ l. iriref (l ++ rest)) is

pub node_read : (bytes : List ℕ) (t : Term) (rest : List ℕ) → IsNode bytes t → label_more 0 rest ≡ 0 → node (bytes ++ rest) ≡ Some (t, rest)
node_read bytes (Iri i) rest is ends = let read = iriref_read bytes i rest is in rw read refl
node_read bytes (Blank l) rest (same, is) ends =
    let named : IsLabel bytes = subst IsLabel (sym same) is in
    let none = no_iri bytes rest named in
    let read = label_read bytes rest named ends in
    rw (none, read) (ap (λ x. Some (Blank x, rest)) same)
node_read bytes (Literal lexical datatype language) rest is ends = absurd is

pub iri_read : (bytes : List ℕ) (t : Term) (rest : List ℕ) → IsPredicate bytes t → iri (bytes ++ rest) ≡ Some (t, rest)
iri_read bytes (Iri i) rest is = let read = iriref_read bytes i rest is in rw read refl
iri_read bytes (Blank l) rest is = absurd is
iri_read bytes (Literal lexical datatype language) rest is = absurd is

-- a term, and the space behind it
pub spaced_read : (t : Term) (space next : List ℕ) → IsSpace space → Starts next → spaced t (space ++ next) ≡ Ok (t, next)
spaced_read t space next all starts = ap (λ r. and_then r (λ next. Ok (t, next))) (gap_read space next all (starts_begins next starts))

pub subject_read : (bytes : List ℕ) (t : Term) (space next : List ℕ) → IsNode bytes t → IsSpace space → Starts next → label_more 0 (space ++ next) ≡ 0 → subject (bytes ++ (space ++ next)) ≡ Ok (t, next)
subject_read bytes t space next is all starts ends = ap (needed (bytes ++ (space ++ next))) (node_read bytes t (space ++ next) is ends) ∙ spaced_read t space next all starts

pub predicate_read : (bytes : List ℕ) (t : Term) (space next : List ℕ) → IsPredicate bytes t → IsSpace space → Starts next → predicate (bytes ++ (space ++ next)) ≡ Ok (t, next)
predicate_read bytes t space next is all starts = ap (needed (bytes ++ (space ++ next))) (iri_read bytes t (space ++ next) is) ∙ spaced_read t space next all starts

-- ---- literals

typed_read : (lexical bytes datatype : List ℕ) (space next : List ℕ) → IsTyped bytes datatype → IsSpace space → Starts next → annotated lexical (bytes ++ (space ++ next)) ≡ Ok (Literal lexical datatype None, next)
typed_read lexical bytes datatype space next (before, name, is, all, named) behind starts =
    let rest = space ++ next in
    let whole : bytes ++ rest ≡ 94 ∷ 94 ∷ (before ++ (name ++ rest)) = ap (λ l. l ++ rest) is ∙ ap (λ l. 94 ∷ 94 ∷ l) (append_assoc before name rest) in
    let here = gap_read before (name ++ rest) all (starts_begins (name ++ rest) (iriref_starts name datatype rest named)) in
    let read = iriref_read name datatype rest named in
    ap (annotated lexical) whole
    ∙ ap (λ r. and_then r (λ next. needed next (as_term (λ datatype. Literal lexical datatype None) (iriref next)))) here
    ∙ ap (λ r. needed (name ++ rest) (as_term (λ datatype. Literal lexical datatype None) r)) read
    ∙ spaced_read (Literal lexical datatype None) space next behind starts

tagged_read : (lexical bytes tag : List ℕ) (space next : List ℕ) → langtag (bytes ++ (space ++ next)) ≡ Some (tag, space ++ next) → (more : List ℕ) → bytes ≡ 64 ∷ more → IsSpace space → Starts next → annotated lexical (bytes ++ (space ++ next)) ≡ Ok (Literal lexical (datatype_name RdfLangString) (Some tag), next)
tagged_read lexical bytes tag space next read more is behind starts =
    let rest = space ++ next in
    let here : langtag (64 ∷ (more ++ rest)) ≡ Some (tag, rest) = ap (λ l. langtag (l ++ rest)) (sym is) ∙ read in
    ap (λ l. annotated lexical (l ++ rest)) is
    ∙ ap (λ r. needed (64 ∷ (more ++ rest)) (as_term (λ tag. Literal lexical (datatype_name RdfLangString) (Some tag)) r)) here
    ∙ spaced_read (Literal lexical (datatype_name RdfLangString) (Some tag)) space next behind starts

-- behind a string
annotation_read : (lexical before bytes datatype : List ℕ) (language : Option (List ℕ)) (space next : List ℕ) → IsSpace before → IsAnnotation bytes datatype language → IsSpace space → Starts next → and_then (gap (before ++ (bytes ++ (space ++ next)))) (annotated lexical) ≡ Ok (Literal lexical datatype language, next)
annotation_read lexical before bytes datatype (Some tag) space next first (tagged, same) behind starts =
    let begins : Begins (bytes ++ (space ++ next)) = (64, tag ++ (space ++ next), ap (λ l. l ++ (space ++ next)) tagged.2, refl, refl) in
    let read = tag_read bytes tag (space ++ next) tagged (space_no_tag space next behind starts) in
    ap (λ r. and_then r (annotated lexical)) (gap_read before (bytes ++ (space ++ next)) first begins)
    ∙ tagged_read lexical bytes tag space next read tag tagged.2 behind starts
    ∙ ap (λ d. Ok (Literal lexical d (Some tag), next)) (sym same)
annotation_read lexical before bytes datatype None space next first (inl plain) behind starts =
    let whole : before ++ (bytes ++ (space ++ next)) ≡ (before ++ space) ++ next = ap (λ l. before ++ (l ++ (space ++ next))) plain.0 ∙ sym (append_assoc before space next) in
    ap (λ l. and_then (gap l) (annotated lexical)) whole
    ∙ ap (λ r. and_then r (annotated lexical)) (gap_read (before ++ space) next (both_space before space first behind) (starts_begins next starts))
    ∙ plain_back lexical next starts
    ∙ ap (λ d. Ok (Literal lexical d None, next)) (sym plain.1)
annotation_read lexical before bytes datatype None space next first (inr (gap_in, name, is, all, named)) behind starts =
    let begins : Begins (bytes ++ (space ++ next)) = (94, 94 ∷ ((gap_in ++ name) ++ (space ++ next)), ap (λ l. l ++ (space ++ next)) is, refl, refl) in
    ap (λ r. and_then r (annotated lexical)) (gap_read before (bytes ++ (space ++ next)) first begins)
    ∙ typed_read lexical bytes datatype space next (gap_in, name, is, all, named) behind starts

-- ---- object and graph label

-- what may follow an object
abbrev pub Follows : Term → List ℕ → Type 0
Follows (Blank l) bs = label_more 0 bs ≡ 0
Follows _ bs = Unit {0}

pub object_read : (bytes : List ℕ) (t : Term) (space next : List ℕ) → IsObject bytes t → IsSpace space → Starts next → Follows t (space ++ next) → object (bytes ++ (space ++ next)) ≡ Ok (t, next)
object_read bytes (Iri i) space next is all starts ends =
    let read = iriref_read bytes i (space ++ next) is in
    rw read (spaced_read (Iri i) space next all starts)
object_read bytes (Blank l) space next is all starts ends =
    ap (object_from (bytes ++ (space ++ next))) (node_read bytes (Blank l) (space ++ next) is ends) ∙ spaced_read (Blank l) space next all starts
object_read bytes (Literal lexical datatype language) space next (quoted, before, annotation, is, (body, same, made), first, more) all starts ends =
    let rest = space ++ next in
    let tail = before ++ (annotation ++ rest) in
    let whole : bytes ++ rest ≡ quoted ++ tail = ap (λ l. l ++ rest) is ∙ append_assoc quoted (before ++ annotation) rest ∙ ap (λ l. quoted ++ l) (append_assoc before annotation rest) in
    let none : node (quoted ++ tail) ≡ None = ap (λ l. node (l ++ tail)) same ∙ string_none ((body ++ 34 ∷ []) ++ tail) in
    let read = string_read quoted lexical tail (body, same, made) in
    ap object whole ∙ ap (object_from (quoted ++ tail)) none ∙ ap (literal_from (quoted ++ tail)) read ∙ annotation_read lexical before annotation datatype language space next first more all starts

no_node : (tail : List ℕ) → node (46 ∷ tail) ≡ None
no_node [] = refl
no_node (b ∷ bs) = refl

pub graph_read : (bytes : List ℕ) (g : Option Term) (tail : List ℕ) → IsGraph bytes g → label_more 0 tail ≡ 0 → graph (bytes ++ (46 ∷ tail)) ≡ Ok (g, 46 ∷ tail)
graph_read bytes None tail is ends = ap (λ l. graph (l ++ (46 ∷ tail))) is ∙ ap (graph_from (46 ∷ tail)) (no_node tail)
graph_read bytes (Some t) tail (name, space, is, named, all) ends =
    let next = 46 ∷ tail in
    let whole : bytes ++ next ≡ name ++ (space ++ next) = ap (λ l. l ++ next) is ∙ append_assoc name space next in
    let behind = space_no_label space next all (λ e. dot_none tail ends) in
    ap graph whole ∙ ap (graph_from (name ++ (space ++ next))) (node_read name t (space ++ next) named behind) ∙ ap (λ r. and_then r (λ r. Ok (Some r.0, r.1))) (spaced_read t space next all (46, tail, refl, inr (inr (inl refl))))

-- what stands between an object and the dot goes on with no label
pub apart_follows : (o : Term) (space name : List ℕ) (g : Option Term) (tail : List ℕ) → IsSpace space → IsGraph name g → Apart o space g → label_more 0 tail ≡ 0 → Follows o (space ++ (name ++ (46 ∷ tail)))
apart_follows (Iri i) space name g tail all is apart ends = tt
apart_follows (Literal lexical datatype language) space name g tail all is apart ends = tt
apart_follows (Blank l) space name None tail all is apart ends =
    space_no_label space (name ++ (46 ∷ tail)) all (λ e. ap (λ l. label_more 0 (l ++ (46 ∷ tail))) is ∙ dot_none tail ends)
apart_follows (Blank l) space name (Some (Iri i)) tail all (label_bytes, behind, is, (body, same, made, good), blank) apart ends =
    let whole : name ++ (46 ∷ tail) ≡ 60 ∷ (((body ++ 62 ∷ []) ++ behind) ++ (46 ∷ tail)) = ap (λ l. l ++ (46 ∷ tail)) (is ∙ ap (λ l. l ++ behind) same) in
    space_no_label space (name ++ (46 ∷ tail)) all (λ e. ap (label_more 0) whole ∙ angle_no_label (((body ++ 62 ∷ []) ++ behind) ++ (46 ∷ tail)))
apart_follows (Blank l) space name (Some (Blank m)) tail all is apart ends =
    space_no_label space (name ++ (46 ∷ tail)) all (λ e. absurd (omega (arith, apart, ap length e)))
apart_follows (Blank l) space name (Some (Literal lexical datatype language)) tail all (label_bytes, behind, is, named, blank) apart ends = absurd named
