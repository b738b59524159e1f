-- Commas and colons take no number away.
use Rattle.std.proofs.Common.{◌≡◌, ℕ, List, [], ◌∷◌, ◌++◌, Bool, true, false, ◌&&◌, refl, ap₂}
use Rattle.std.proofs.lemmas.Bool.{false≢true, and_parts}
use Rattle.std.specs.List.{list_all, flat_map}
use Rattle.json.specs.Token.{Token, begin_object, end_object, begin_array, end_array, key, string, number, boolean, null, bad}
use Rattle.json.specs.Lex.{Lexeme, token, comma, colon, Place, fresh, after_value, after_comma, after_key, begins_colon, may_begin, may_close, if_allowed, place_token, punctuate}
use Rattle.json.specs.Align.{is_good}
use Rattle.ld_json.specs.Numbers.{token_numbers, numbers_in}
use Rattle.ld_json.proofs.GoodTokens.{all_good}

abbrev pub lexeme_numbers : Lexeme → List (List ℕ)
lexeme_numbers (token t) = token_numbers t
lexeme_numbers comma = []
lexeme_numbers colon = []

abbrev pub is_good_lexeme : Lexeme → Bool
is_good_lexeme (token t) = is_good t
is_good_lexeme comma = true
is_good_lexeme colon = true

abbrev pub numbers_among : List Lexeme → List (List ℕ)
numbers_among ls = flat_map lexeme_numbers ls

abbrev pub are_good : List Lexeme → Bool
are_good ls = list_all is_good_lexeme ls

abbrev pub Follows : List Token → List Lexeme → Type 0
Follows ts ls = all_good ts ≡ true → (numbers_in ts ≡ numbers_among ls) × (are_good ls ≡ true)

both : (a b : Bool) → a ≡ true → b ≡ true → (a && b) ≡ true
both true b p q = q
both false b p q = p

allowed : (b : Bool) (t u : Token) (k : Place → List Token) (next : Place) (ls : List Lexeme) → is_good u ≡ true → token_numbers t ≡ token_numbers u → Follows (k next) ls → Follows (if_allowed b t k next) (token u ∷ ls)
allowed true t u k next ls good same follows = λ h.
    let rest : (numbers_in (k next) ≡ numbers_among ls) × (are_good ls ≡ true) = follows (and_parts (is_good t) (all_good (k next)) h).1 in
    (ap₂ (λ a b. a ++ b) same rest.0, both (is_good u) (are_good ls) good rest.1)
allowed false t u k next ls good same follows = λ h. absurd (false≢true h)

placed : (p : Place) (t : Token) (b : Bool) (k : Place → List Token) (ls : List Lexeme) → ((n : Place) → Follows (k n) ls) → Follows (place_token p t b k) (token t ∷ ls)
placed p begin_object b k ls f = allowed (may_begin p) begin_object begin_object k fresh ls refl refl (f fresh)
placed p end_object b k ls f = allowed (may_close p) end_object end_object k after_value ls refl refl (f after_value)
placed p begin_array b k ls f = allowed (may_begin p) begin_array begin_array k fresh ls refl refl (f fresh)
placed p end_array b k ls f = allowed (may_close p) end_array end_array k after_value ls refl refl (f after_value)
placed p (key s) b k ls f = λ h. absurd (false≢true h)
placed p (string s) true k ls f = allowed (may_begin p) (key s) (string s) k after_key ls refl refl (f after_key)
placed p (string s) false k ls f = allowed (may_begin p) (string s) (string s) k after_value ls refl refl (f after_value)
placed p (number s) b k ls f = allowed (may_begin p) (number s) (number s) k after_value ls refl refl (f after_value)
placed p (boolean v) b k ls f = allowed (may_begin p) (boolean v) (boolean v) k after_value ls refl refl (f after_value)
placed p null b k ls f = allowed (may_begin p) null null k after_value ls refl refl (f after_value)
placed p bad b k ls f = λ h. absurd (false≢true h)

pub punctuated : (ls : List Lexeme) (p : Place) → Follows (punctuate p ls) ls
unfolding punctuate
punctuated [] fresh = λ h. (refl, refl)
punctuated [] after_value = λ h. (refl, refl)
punctuated [] after_comma = λ h. absurd (false≢true h)
punctuated [] after_key = λ h. absurd (false≢true h)
punctuated (token t ∷ ls) p = placed p t (begins_colon ls) (λ n. punctuate n ls) ls (punctuated ls)
punctuated (comma ∷ ls) fresh = λ h. absurd (false≢true h)
punctuated (comma ∷ ls) after_value = punctuated ls after_comma
punctuated (comma ∷ ls) after_comma = λ h. absurd (false≢true h)
punctuated (comma ∷ ls) after_key = λ h. absurd (false≢true h)
punctuated (colon ∷ ls) fresh = λ h. absurd (false≢true h)
punctuated (colon ∷ ls) after_value = λ h. absurd (false≢true h)
punctuated (colon ∷ ls) after_comma = λ h. absurd (false≢true h)
punctuated (colon ∷ ls) after_key = punctuated ls fresh
