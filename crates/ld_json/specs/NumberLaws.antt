-- What is known of the words that are found as numbers of a text, and of the byte that is named.
use Rattle.std.specs.Prelude.{ℕ, ◌≡◌, ◌<◌, List, [], ◌∷◌, ◌++◌, map, drop, Some, true, false, ⊤}
use Rattle.std.specs.List.{AllByRecursion, list_all}
use Rattle.json.specs.Lex.{tokens}
use Rattle.serde_json.specs.Data.{Data}
use Rattle.serde_json.specs.Read.{read}
use Rattle.ld_json.specs.declared.numbers.Stand.TheVariants.{Outside}
use Rattle.ld_json.specs.Numbers.{numbers, number_tokens, numbers_in, word_of, is_accepted, refused_number}

-- The words that are found in a JSON text are the number tokens that the grammar finds (RFC 8259, sections 2 and 6), in
-- order.
abbrev pub WordsAreTheTokens : Type 0
WordsAreTheTokens = (bytes : List ℕ) (d : Data) → read bytes ≡ Some d → number_tokens bytes ≡ numbers_in (tokens bytes)

-- The text has each word at the place that goes with it.
abbrev pub StandAtTheirPlaces : Type 0
StandAtTheirPlaces = (bytes : List ℕ) → AllByRecursion (λ n. word_of (drop n.0 bytes) ≡ n.1) (numbers Outside 0 bytes)

-- Each place is before those of later words.
abbrev pub Ascend : List (ℕ × List ℕ) → Type 0
Ascend [] = ⊤
Ascend (n ∷ ns) = AllByRecursion (λ m. n.0 < m.0) ns × Ascend ns

abbrev pub PlacesAscend : Type 0
PlacesAscend = (bytes : List ℕ) → Ascend (numbers Outside 0 bytes)

-- A word at this place isn't accepted, and each in front of it is.
pub record IsFirstRefused (at : ℕ) (found : List (ℕ × List ℕ)) : Type 0 where
  pub before : List (ℕ × List ℕ)
  pub word : List ℕ
  pub after : List (ℕ × List ℕ)
  pub parts : found ≡ before ++ (at, word) ∷ after
  pub accepted : list_all is_accepted (map (λ n. n.1) before) ≡ true
  pub refused : is_accepted word ≡ false

-- The byte that is named is the place of the first word that isn't accepted.
abbrev pub NamedIsFirst : Type 0
NamedIsFirst = (bytes : List ℕ) (at : ℕ) → refused_number bytes ≡ Some at → IsFirstRefused at (numbers Outside 0 bytes)
