-- The words of a container mapping (JSON-LD 1.1 API, section 4.2.2, step 19).
use Rattle.std.specs.Prelude.{◌≡◌, ℕ, ◌+◌, ◌==◌, Bool, true, false, ◌&&◌, ◌||◌, not, if◌then◌else◌, List, [], ◌∷◌, Option, Some, None, count_by}
use Rattle.std.specs.Option.{option_and_then}
use Rattle.std.specs.Str.{bytes_eq}
use Rattle.case_tables.specs.declared.keyword.Keyword.{Keyword}
use Rattle.case_tables.specs.declared.keyword.Keyword.TheVariants.{Graph, Id, Index, Language, List as ListWord, Set, TypeWord}
use Rattle.case_tables.specs.declared.shape.Shape.{Shape}
use Rattle.case_tables.specs.Keyword.{keyword_name}

-- whether the shape has the word
abbrev pub has : Shape → Keyword → Bool
has s Graph = s.graph
has s Id = s.id
has s Index = s.index
has s Language = s.language
has s ListWord = s.list
has s Set = s.set
has s TypeWord = s.types
has s _ = false

-- one where it is so, and none where not
abbrev pub count : Bool → ℕ
count b = if b then 1 else 0

-- whether a keyword is this one
abbrev pub is_word : Keyword → Keyword → Bool
is_word k word = bytes_eq (keyword_name k) (keyword_name word)

-- each keyword stands among the words once where the shape has it, and else not at all
abbrev pub HasWords : List Keyword → Shape → Type 0
HasWords words s = (k : Keyword) → count_by (is_word k) words ≡ count (has s k)

-- one word alone
abbrev pub is_one_word : Shape → Bool
is_one_word s = (count s.graph + count s.id + count s.index + count s.language + count s.list + count s.set + count s.types) == 1

-- `@graph` with one of `@id` and `@index`, and perhaps `@set`
abbrev pub is_graph_map : Shape → Bool
is_graph_map s = s.graph && ((count s.id + count s.index) == 1) && not (s.language || s.list || s.types)

-- `@set` with one of `@graph`, `@id`, `@index`, `@language` and `@type`
abbrev pub is_set_of : Shape → Bool
is_set_of s = s.set && ((count s.graph + count s.id + count s.index + count s.language + count s.types) == 1) && not s.list

-- the words that may stand together
abbrev pub is_allowed : Shape → Bool
is_allowed s = is_one_word s || is_graph_map s || is_set_of s

-- the shape with one word more, where it is a word of containers that the shape does not have
abbrev pub with_word : Shape → Keyword → Option Shape
with_word s Graph = if s.graph then None else Some (record s { graph = true })
with_word s Id = if s.id then None else Some (record s { id = true })
with_word s Index = if s.index then None else Some (record s { index = true })
with_word s Language = if s.language then None else Some (record s { language = true })
with_word s ListWord = if s.list then None else Some (record s { list = true })
with_word s Set = if s.set then None else Some (record s { set = true })
with_word s TypeWord = if s.types then None else Some (record s { types = true })
with_word s _ = None

-- the shape with these words more, where it may have each of them
abbrev pub with_words : List Keyword → Shape → Option Shape
with_words [] s = Some s
with_words (k ∷ ks) s = option_and_then (with_words ks) (with_word s k)

-- the shape with no word
abbrev pub no_words : Shape
no_words = record { graph = false; id = false; index = false; language = false; list = false; set = false; types = false }

-- the shape of a container mapping with these words
abbrev pub shape_of : List Keyword → Option Shape
shape_of ks = option_and_then (λ s. if is_allowed s then Some s else None) (with_words ks no_words)
