-- The lines of RDF 1.1 N-Quads by the productions of its grammar (section 4), as relations between bytes and what they say. Each
-- names the parts of which the bytes are made; nothing is said of how far a terminal goes, nor of the order in which it is read.
use Rattle.std.specs.Prelude.{◌≡◌, ◌<◌, ◌⊎◌, ℕ, ⊤, true, List, [], ◌∷◌, ◌++◌, length, codes, Option, Some, None}
use Rattle.std.specs.List.{flat_map, list_all}
use Rattle.std.specs.Char.{encode_utf8}
use Rattle.std.specs.Str.{is_utf8, all_scalars, encode_utf8_all}
use Rattle.case_tables.specs.Datatype.{datatype_name}
use Rattle.case_tables.specs.declared.datatype.Datatype.TheVariants.{XsdString, RdfLangString}
use Rattle.rdf_terms.specs.Quad.{is_label_body}
use Rattle.rdf_terms.specs.Language.{is_letters, is_letters_or_digits}
use Rattle.rdf_terms.specs.declared.term.Term.{Term}
use Rattle.rdf_terms.specs.declared.term.Term.TheVariants.{Iri, Blank, Literal}
use Rattle.rdf_terms.specs.declared.term.Quad.{Quad}
use Rattle.nquads_terminals.specs.Characters.{is_raw, named, short_escape, long_escape}
use Rattle.nquads_terminals.specs.Terminals.{is_iri}
use Rattle.nquads_terminals.specs.declared.enclosed.Enclosed.{Enclosed}
use Rattle.nquads_terminals.specs.declared.enclosed.Enclosed.TheVariants as terminal
use Rattle.nquads_text.specs.Statement.{is_blank}

-- ---- IRIREF and STRING_LITERAL_QUOTE

-- What stands between `<` and `>` or between quotation marks: a byte for itself, the letter of an ECHAR, or the four or eight
-- digits of a UCHAR.
pub data Piece : Type 0 where
  itself : ℕ → Piece
  letter : ℕ → Piece
  four : List ℕ → Piece
  eight : List ℕ → Piece

-- The bytes of a piece, with its backslash.
abbrev pub piece_bytes : Piece → List ℕ
piece_bytes (itself b) = b ∷ []
piece_bytes (letter b) = 92 ∷ b ∷ []
piece_bytes (four digits) = 92 ∷ 117 ∷ digits
piece_bytes (eight digits) = 92 ∷ 85 ∷ digits

-- The piece may stand in the terminal, and these are the bytes of the value that it writes.
abbrev pub IsPiece : Enclosed → Piece → List ℕ → Type 0
IsPiece kind (itself b) value = (is_raw kind b ≡ true) × (value ≡ b ∷ [])
IsPiece kind (letter b) value = (c : ℕ) × (named kind b ≡ Some c) × (value ≡ encode_utf8 c)
IsPiece kind (four digits) value = (c : ℕ) × (length digits ≡ 4) × (short_escape digits ≡ Some c) × (value ≡ encode_utf8 c)
IsPiece kind (eight digits) value = (c : ℕ) × (length digits ≡ 8) × (long_escape digits ≡ Some c) × (value ≡ encode_utf8 c)

-- The pieces write this value, one behind the other.
abbrev pub Write : Enclosed → List Piece → List ℕ → Type 0
Write kind [] value = value ≡ []
Write kind (p ∷ ps) value = (front : List ℕ) × (more : List ℕ) × (value ≡ front ++ more) × IsPiece kind p front × Write kind ps more

-- Bytes that are made of pieces, and the value that these write, which is a text.
abbrev pub IsBody : Enclosed → List ℕ → List ℕ → Type 0
IsBody kind bytes value = (pieces : List Piece) × (bytes ≡ flat_map piece_bytes pieces) × Write kind pieces value × (is_utf8 value ≡ true)

-- IRIREF, and the IRI that it writes. [Ours: the value is well-formed, and no escape stands before its first colon.]
abbrev pub IsIriref : List ℕ → List ℕ → Type 0
IsIriref bytes iri = (body : List ℕ) × (bytes ≡ 60 ∷ (body ++ 62 ∷ [])) × IsBody terminal.Iri body iri × (is_iri body iri ≡ true)

-- STRING_LITERAL_QUOTE, and the string that it writes
abbrev pub IsString : List ℕ → List ℕ → Type 0
IsString bytes lexical = (body : List ℕ) × (bytes ≡ 34 ∷ (body ++ 34 ∷ [])) × IsBody terminal.Quoted body lexical

-- ---- BLANK_NODE_LABEL and LANGTAG

-- `_:` and the characters of a label
abbrev pub IsLabel : List ℕ → Type 0
IsLabel bytes = (characters : List ℕ) × (bytes ≡ 95 ∷ 58 ∷ encode_utf8_all characters) × (all_scalars characters ≡ true) × (is_label_body characters ≡ true)

-- `@` and a tag: letters, and then parts of letters and digits, each behind a hyphen
abbrev pub IsLangtag : List ℕ → List ℕ → Type 0
IsLangtag bytes tag = (first : List ℕ) × (parts : List (List ℕ)) × (bytes ≡ 64 ∷ tag) × (tag ≡ first ++ flat_map (λ part. 45 ∷ part) parts) × (is_letters first ≡ true) × (list_all is_letters_or_digits parts ≡ true)

-- ---- between terminals

-- Spaces and tabs, or nothing.
abbrev pub IsSpace : List ℕ → Type 0
IsSpace bytes = list_all is_blank bytes ≡ true

-- Nothing, or `#` and a text, which goes on to the end of the line.
abbrev pub IsComment : List ℕ → Type 0
IsComment bytes = (bytes ≡ []) ⊎ ((more : List ℕ) × (bytes ≡ 35 ∷ more) × (is_utf8 bytes ≡ true))

-- ---- terms

-- subject and graphLabel: IRIREF or BLANK_NODE_LABEL
abbrev pub IsNode : List ℕ → Term → Type 0
IsNode bytes (Iri iri) = IsIriref bytes iri
IsNode bytes (Blank label) = (bytes ≡ label) × IsLabel label
IsNode bytes (Literal lexical datatype language) = ⊥

-- predicate: IRIREF
abbrev pub IsPredicate : List ℕ → Term → Type 0
IsPredicate bytes (Iri iri) = IsIriref bytes iri
IsPredicate bytes _ = ⊥

-- `^^` and IRIREF
abbrev pub IsTyped : List ℕ → List ℕ → Type 0
IsTyped bytes datatype = (space : List ℕ) × (iri : List ℕ) × (bytes ≡ 94 ∷ 94 ∷ (space ++ iri)) × IsSpace space × IsIriref iri datatype

-- What stands behind a string with these annotations: LANGTAG, or `^^` and IRIREF, which is xsd:string where nothing stands.
abbrev pub IsAnnotation : List ℕ → List ℕ → Option (List ℕ) → Type 0
IsAnnotation bytes datatype (Some tag) = IsLangtag bytes tag × (datatype ≡ datatype_name RdfLangString)
IsAnnotation bytes datatype None = ((bytes ≡ []) × (datatype ≡ datatype_name XsdString)) ⊎ IsTyped bytes datatype

-- literal: STRING_LITERAL_QUOTE with what stands behind it
abbrev pub IsLiteral : List ℕ → List ℕ → List ℕ → Option (List ℕ) → Type 0
IsLiteral bytes lexical datatype language = (string : List ℕ) × (space : List ℕ) × (annotation : List ℕ) × (bytes ≡ string ++ (space ++ annotation)) × IsString string lexical × IsSpace space × IsAnnotation annotation datatype language

-- object: IRIREF, BLANK_NODE_LABEL or literal
abbrev pub IsObject : List ℕ → Term → Type 0
IsObject bytes (Literal lexical datatype language) = IsLiteral bytes lexical datatype language
IsObject bytes (Iri iri) = IsIriref bytes iri
IsObject bytes (Blank label) = (bytes ≡ label) × IsLabel label

-- ---- the line

-- graphLabel?, with the space behind it
abbrev pub IsGraph : List ℕ → Option Term → Type 0
IsGraph bytes None = bytes ≡ []
IsGraph bytes (Some term) = (label : List ℕ) × (space : List ℕ) × (bytes ≡ label ++ space) × IsNode label term × IsSpace space

-- White space stands between two terminals that would otherwise be recognized as one (section 4). In a statement
-- these are the labels of an object and a graph alone: what else follows a label or a tag can't go on with it.
abbrev pub Apart : Term → List ℕ → Option Term → Type 0
Apart (Blank object) space (Some (Blank graph)) = 0 < length space
Apart _ space _ = ⊤

-- statement: subject predicate object graphLabel? '.'
abbrev pub IsStatement : List ℕ → Quad → Type 0
IsStatement bytes quad = (subject : List ℕ) × (a : List ℕ) × (predicate : List ℕ) × (b : List ℕ) × (object : List ℕ) × (c : List ℕ) × (graph : List ℕ) × (bytes ≡ subject ++ (a ++ (predicate ++ (b ++ (object ++ (c ++ (graph ++ 46 ∷ []))))))) × IsNode subject quad.subject × IsSpace a × IsPredicate predicate quad.predicate × IsSpace b × IsObject object quad.object × IsSpace c × IsGraph graph quad.graph × Apart quad.object c quad.graph

-- statement?
abbrev pub IsSaid : List ℕ → Option Quad → Type 0
IsSaid bytes None = bytes ≡ []
IsSaid bytes (Some quad) = IsStatement bytes quad

-- A line of nquadsDoc, with the space and the comment that may stand there.
abbrev pub IsLine : List ℕ → Option Quad → Type 0
IsLine line said = (front : List ℕ) × (body : List ℕ) × (space : List ℕ) × (comment : List ℕ) × (line ≡ front ++ (body ++ (space ++ comment))) × IsSpace front × IsSaid body said × IsSpace space × IsComment comment

-- ---- many lines

-- The quad of a line, or none.
abbrev pub quads_of : Option Quad → List Quad
quads_of None = []
quads_of (Some quad) = quad ∷ []

-- Lines, and the quads that they say in their order.
abbrev pub AreLines : List (List ℕ) → List Quad → Type 0
AreLines [] quads = quads ≡ []
AreLines (line ∷ lines) quads = (said : Option Quad) × (more : List Quad) × (quads ≡ quads_of said ++ more) × IsLine line said × AreLines lines more
