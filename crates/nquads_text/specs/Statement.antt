-- What one line says (RDF 1.1 N-Quads, sections 2 and 4): nothing or one quad, by its terminals.
use Rattle.std.specs.Prelude.{ℕ, ◌==◌, ◌||◌, Bool, if◌then◌else◌, List, [], ◌∷◌, drop, nat_eq, codes, Option, Some, None, Result, Ok, Err}
use Rattle.std.specs.Option.{option_map, option_or}
use Rattle.std.specs.List.{prefix_len, starts_with}
use Rattle.std.specs.Str.{is_utf8}
use Rattle.case_tables.specs.Datatype.{datatype_name}
use Rattle.case_tables.specs.declared.datatype.Datatype.TheVariants.{XsdString, RdfLangString}
use Rattle.rdf_terms.specs.declared.term.Term.{Term}
use Rattle.rdf_terms.specs.declared.term.Term.TheVariants.{Iri, Blank, Literal}
use Rattle.rdf_terms.specs.declared.term.Quad.{Quad}
use Rattle.nquads_terminals.specs.Terminals.{iriref, label, string, langtag}

-- Below, `Err` has what stands where the first terminal that can't be read should begin.

-- One reading, and then the next one.
abbrev pub and_then : {A B : Type 0} → Result A (List ℕ) → (A → Result B (List ℕ)) → Result B (List ℕ)
and_then (Ok x) next = next x
and_then (Err at) next = Err at

-- ---- between terminals

-- A space or a tab.
abbrev pub is_blank : ℕ → Bool
is_blank b = b == 32 || b == 9

-- A comment goes on to the end of the line. Bytes that aren't UTF-8 belong to it, and it is then bad where it begins.
abbrev pub uncommented : List ℕ → Result (List ℕ) (List ℕ)
uncommented [] = Ok []
uncommented (b ∷ bs) = if b == 35 then (if is_utf8 (b ∷ bs) then Ok [] else Err (b ∷ bs)) else Ok (b ∷ bs)

-- What stands behind the spaces and tabs at the front, and behind a comment that follows them.
abbrev pub gap : List ℕ → Result (List ℕ) (List ℕ)
gap bs = uncommented (drop (prefix_len is_blank bs) bs)

-- A term, and where the next terminal should begin.
abbrev pub spaced : Term → List ℕ → Result (Term × List ℕ) (List ℕ)
spaced term bs = and_then (gap bs) (λ next. Ok (term, next))

-- The same, where the term has to begin here.
abbrev pub needed : List ℕ → Option (Term × List ℕ) → Result (Term × List ℕ) (List ℕ)
needed bs None = Err bs
needed bs (Some read) = spaced read.0 read.1

-- ---- terms

-- The term of a terminal's value.
abbrev pub as_term : (List ℕ → Term) → Option (List ℕ × List ℕ) → Option (Term × List ℕ)
as_term term read = option_map (λ r. (term r.0, r.1)) read

-- IRIREF
abbrev pub iri : List ℕ → Option (Term × List ℕ)
iri bs = as_term Iri (iriref bs)

-- BLANK_NODE_LABEL
abbrev pub blank : List ℕ → Option (Term × List ℕ)
blank bs = as_term Blank (label bs)

-- IRIREF or BLANK_NODE_LABEL
abbrev pub node : List ℕ → Option (Term × List ℕ)
node bs = option_or (iri bs) (blank bs)

-- What follows `^^`: IRIREF
abbrev pub typed : List ℕ → List ℕ → Result (Term × List ℕ) (List ℕ)
typed lexical bs = and_then (gap bs) (λ next. needed next (as_term (λ datatype. Literal lexical datatype None) (iriref next)))

-- LANGTAG
abbrev pub tagged : List ℕ → List ℕ → Result (Term × List ℕ) (List ℕ)
tagged lexical bs = needed bs (as_term (λ tag. Literal lexical (datatype_name RdfLangString) (Some tag)) (langtag bs))

-- What follows a string: `^^` and IRIREF, LANGTAG, or nothing.
abbrev pub annotated : List ℕ → List ℕ → Result (Term × List ℕ) (List ℕ)
annotated lexical bs = if starts_with nat_eq bs (codes "^^") then typed lexical (drop 2 bs) else (if starts_with nat_eq bs (codes "@") then tagged lexical bs else Ok (Literal lexical (datatype_name XsdString) None, bs))

-- STRING_LITERAL_QUOTE, and what follows it
abbrev pub literal_from : List ℕ → Option (List ℕ × List ℕ) → Result (Term × List ℕ) (List ℕ)
literal_from bs None = Err bs
literal_from bs (Some read) = and_then (gap read.1) (annotated read.0)

abbrev pub literal : List ℕ → Result (Term × List ℕ) (List ℕ)
literal bs = literal_from bs (string bs)

-- ---- the parts of a statement

abbrev pub subject : List ℕ → Result (Term × List ℕ) (List ℕ)
subject bs = needed bs (node bs)

abbrev pub predicate : List ℕ → Result (Term × List ℕ) (List ℕ)
predicate bs = needed bs (iri bs)

abbrev pub object_from : List ℕ → Option (Term × List ℕ) → Result (Term × List ℕ) (List ℕ)
object_from bs None = literal bs
object_from bs (Some read) = spaced read.0 read.1

abbrev pub object : List ℕ → Result (Term × List ℕ) (List ℕ)
object bs = object_from bs (node bs)

abbrev pub graph_from : List ℕ → Option (Term × List ℕ) → Result (Option Term × List ℕ) (List ℕ)
graph_from bs None = Ok (None, bs)
graph_from bs (Some read) = and_then (spaced read.0 read.1) (λ r. Ok (Some r.0, r.1))

-- graphLabel?
abbrev pub graph : List ℕ → Result (Option Term × List ℕ) (List ℕ)
graph bs = graph_from bs (node bs)

-- `.`
abbrev pub dot : List ℕ → Result (List ℕ) (List ℕ)
dot [] = Err []
dot (b ∷ bs) = if b == 46 then gap bs else Err (b ∷ bs)

-- Nothing is left.
abbrev pub nothing : List ℕ → Result (List ℕ) (List ℕ)
nothing [] = Ok []
nothing (b ∷ bs) = Err (b ∷ bs)

-- The end of a statement.
abbrev pub ending : List ℕ → Result (List ℕ) (List ℕ)
ending bs = and_then (dot bs) nothing

abbrev pub quad_of : Term → Term → Term → Option Term → Quad
quad_of s p o g = record { subject = s; predicate = p; object = o; graph = g }

-- statement: subject predicate object graphLabel? '.'
abbrev pub statement : List ℕ → Result Quad (List ℕ)
statement bs = and_then (subject bs) (λ s. and_then (predicate s.1) (λ p. and_then (object p.1) (λ o. and_then (graph o.1) (λ g. and_then (ending g.1) (λ _. Ok (quad_of s.0 p.0 o.0 g.0))))))

abbrev pub statement_if_any : List ℕ → Result (Option Quad) (List ℕ)
statement_if_any [] = Ok None
statement_if_any (b ∷ bs) = and_then (statement (b ∷ bs)) (λ q. Ok (Some q))

-- What a line says: nothing where it has only spaces, tabs and a comment, and else one quad.
abbrev pub said : List ℕ → Result (Option Quad) (List ℕ)
said line = and_then (gap line) statement_if_any
