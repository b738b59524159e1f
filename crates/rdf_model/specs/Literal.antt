-- The literal that a value object stands for (JSON-LD 1.1 API, section 8.4.2, Object to RDF Conversion).
use Rattle.std.specs.Prelude.{ℕ, ℤ, ◌++◌, Bool, true, false, List, Option, Some, None, if◌then◌else◌, codes, decimal, unsigned_abs}
use Rattle.std.specs.Int.{is_negative}
use Rattle.std.specs.Fmt.{sign_text}
use Rattle.std.specs.Str.{bytes_eq}
use Rattle.case_tables.specs.Keyword.{keyword_name}
use Rattle.case_tables.specs.declared.keyword.Keyword.TheVariants.{Json, Language, TypeWord}
use Rattle.case_tables.specs.Datatype.{datatype_name}
use Rattle.case_tables.specs.declared.datatype.Datatype.TheVariants.{XsdBoolean, XsdInteger, XsdDouble, XsdString, RdfLangString, RdfJson}
use Rattle.iri_ref.specs.Parts.{is_well_formed}
use Rattle.json_canon.specs.Canonical.{canonical_text}
use Rattle.ld_model.specs.Keys.{value_key}
use Rattle.ld_model.specs.Tree.{Tree, Pairs, truth, whole, one_one, text, member_at}
use Rattle.rdf_terms.specs.Double.{double_form}
use Rattle.rdf_terms.specs.Language.{is_tag}
use Rattle.rdf_terms.specs.declared.term.Term.{Term}
use Rattle.rdf_terms.specs.declared.term.Term.TheVariants.{Literal}

-- What `@type` says of a value: nothing, that it is JSON, or the IRI of its datatype.
pub data Typed : Type 0 where
  untyped : Typed
  json : Typed
  datatype : List ℕ → Typed

-- A type that is neither `@json` nor a well-formed IRI gives no literal (step 5).
abbrev pub typed_as : Option Tree → Option Typed
typed_as None = Some untyped
typed_as (Some (text s)) = if bytes_eq s (keyword_name Json) then Some json else (if is_well_formed s then Some (datatype s) else None)
typed_as (Some _) = None

-- A language that is no language tag gives no literal (step 6).
abbrev pub tagged_as : Option Tree → Option (Option (List ℕ))
tagged_as None = Some None
tagged_as (Some (text s)) = if is_tag s then Some (Some s) else None
tagged_as (Some _) = None

abbrev pub truth_form : Bool → List ℕ
truth_form true = codes "true"
truth_form false = codes "false"

-- A whole number in plain digits.
abbrev pub integer_form : ℤ → List ℕ
integer_form z = sign_text (is_negative z) ++ decimal (unsigned_abs z)

abbrev pub untagged : List ℕ → List ℕ → Term
untagged lexical of_type = Literal lexical of_type None

-- A scalar under the datatype that the kind of its value has (steps 8 to 10 and 12).
abbrev pub by_default : Tree → Option Term
by_default (truth b) = Some (untagged (truth_form b) (datatype_name XsdBoolean))
by_default (whole z) = Some (untagged (integer_form z) (datatype_name XsdInteger))
by_default one_one = Some (untagged (codes "1.1E0") (datatype_name XsdDouble))
by_default (text s) = Some (untagged s (datatype_name XsdString))
by_default _ = None

-- A scalar under a given datatype. A whole number is written as a double where the datatype is that of doubles (step 10).
abbrev pub of_datatype : List ℕ → Tree → Option Term
of_datatype d (truth b) = Some (untagged (truth_form b) d)
of_datatype d (whole z) = Some (untagged (if bytes_eq d (datatype_name XsdDouble) then double_form z else integer_form z) d)
of_datatype d one_one = Some (untagged (codes "1.1E0") d)
of_datatype d (text s) = Some (untagged s d)
of_datatype _ _ = None

-- A scalar beside a language, which says something of a text alone (step 14).
abbrev pub of_language : List ℕ → Tree → Option Term
of_language tag (text s) = Some (Literal s (datatype_name RdfLangString) (Some tag))
of_language tag value = by_default value

-- What the value, its type and its language give. A type beside a language gives no literal.
abbrev pub literal_by : Option Typed → Option (Option (List ℕ)) → Option Tree → Option Term
literal_by (Some untyped) (Some None) (Some value) = by_default value
literal_by (Some json) (Some None) (Some value) = Some (untagged (canonical_text value) (datatype_name RdfJson))
literal_by (Some (datatype d)) (Some None) (Some value) = of_datatype d value
literal_by (Some untyped) (Some (Some tag)) (Some value) = of_language tag value
literal_by _ _ _ = None

-- The literal of a value object, if it gives one. Its direction is dropped.
abbrev pub literal : Pairs → Option Term
literal ms = literal_by (typed_as (member_at (keyword_name TypeWord) ms)) (tagged_as (member_at (keyword_name Language) ms)) (member_at value_key ms)
