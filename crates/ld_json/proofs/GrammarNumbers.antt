-- The stands of a text's bytes are the modes of the grammar's lexer, and so the numbers of both are the same.
use Rattle.std.proofs.Common.{◌≡◌, ℕ, ◌+◌, Bool, true, false, ◌||◌, ◌==◌, cond, List, [], ◌∷◌, ◌++◌, map, Option, Some, None, inl, inr, ◌⊎◌, refl, sym, ap, ap₂, ◌∙◌}
use Rattle.std.proofs.lemmas.Bool.{false≢true, eqb-true, and_parts, or_cases}
use Rattle.std.specs.List.{before_first}
use Rattle.std.specs.Char.{is_ascii_digit}
use Rattle.json.specs.Text.{content, plain}
use Rattle.json.specs.Word.{is_operator, is_space, word}
use Rattle.json.specs.Lex.{Lexeme, comma, colon, Class, quote, backslash, operator, space, other, operator_lexeme, string_token, Mode, between, in_word, in_string, in_escape, lex_byte, lex, fresh, tokens}
use Rattle.json.specs.Align.{is_good}
use Rattle.serde_json.specs.Data.{Data}
use Rattle.serde_json.specs.Read.{read}
use Rattle.ld_json.specs.declared.numbers.Stand.{Stand}
use Rattle.ld_json.specs.declared.numbers.Stand.TheVariants.{Outside, Word, Inside, Escaped}
use Rattle.ld_json.specs.Numbers.{is_break, numbers, number_tokens, token_numbers, numbers_in}
use Rattle.ld_json.proofs.GoodTokens.{no_bad_token}
use Rattle.ld_json.proofs.Punctuated.{lexeme_numbers, numbers_among, are_good, punctuated}
use Rattle.ld_json.proofs.GoodWords.{begins, refuted, digit_is_no_break, word_numbers}

abbrev mode_of : Stand → Mode
mode_of Outside = between
mode_of Word = in_word
mode_of Inside = in_string
mode_of Escaped = in_escape

abbrev class_by : Bool → Bool → Bool → Bool → Class
class_by q b o s = cond q quote (cond b backslash (cond o operator (cond s space other)))

abbrev texts : List (ℕ × List ℕ) → List (List ℕ)
texts ns = map (λ n. n.1) ns

-- From each stand on, the numbers are those of the lexemes.
abbrev Same : (Stand → List (ℕ × List ℕ)) → (Mode → List Lexeme) → Type 0
Same f k = (p : Stand) → are_good (k (mode_of p)) ≡ true → texts (f p) ≡ numbers_among (k (mode_of p))

either_none : (b : Bool) (l m : Lexeme) → lexeme_numbers l ≡ [] → lexeme_numbers m ≡ [] → lexeme_numbers (cond b l m) ≡ []
either_none true l m p q = p
either_none false l m p q = q

operator_none : (x : ℕ) → lexeme_numbers (operator_lexeme x) ≡ []
operator_none x =
    either_none (x == 123) _ _ refl (either_none (x == 125) _ _ refl (either_none (x == 91) _ _ refl (either_none (x == 93) _ _ refl (either_none (x == 44) comma colon refl refl))))

string_none : (o : Option (List ℕ)) → token_numbers (string_token o) ≡ []
string_none None = refl
string_none (Some s) = refl

inside : (q b o s : Bool) (x : ℕ) (xs : List ℕ) (f : Stand → List (ℕ × List ℕ)) (k : Mode → List Lexeme) → Same f k → are_good (lex_byte in_string (class_by q b o s) x xs k) ≡ true
    → texts (f (cond q Outside (cond b Escaped Inside))) ≡ numbers_among (lex_byte in_string (class_by q b o s) x xs k)
inside true b o s x xs f k ih h = ih Outside h
inside false true o s x xs f k ih h = ih Escaped h
inside false false true s x xs f k ih h = ih Inside h
inside false false false true x xs f k ih h = ih Inside h
inside false false false false x xs f k ih h = ih Inside h

in_a_word : (q b o s : Bool) (x : ℕ) (xs : List ℕ) (f : Stand → List (ℕ × List ℕ)) (k : Mode → List Lexeme) → (q ≡ true → (o || s) ≡ false) → (b ≡ true → (o || s) ≡ false) → Same f k
    → are_good (lex_byte in_word (class_by q b o s) x xs k) ≡ true → texts (f (cond (o || s) Outside Word)) ≡ numbers_among (lex_byte in_word (class_by q b o s) x xs k)
in_a_word true b o s x xs f k hq hb ih h = ap (λ c. texts (f (cond c Outside Word))) (hq refl) ∙ ih Word h
in_a_word false true o s x xs f k hq hb ih h = ap (λ c. texts (f (cond c Outside Word))) (hb refl) ∙ ih Word h
in_a_word false false true s x xs f k hq hb ih h = ih Outside (and_parts _ _ h).1 ∙ sym (ap (λ l. l ++ numbers_among (k between)) (operator_none x))
in_a_word false false false true x xs f k hq hb ih h = ih Outside h
in_a_word false false false false x xs f k hq hb ih h = ih Word h

one_first : (n : Bool) (at : ℕ) (w : List ℕ) (ns : List (ℕ × List ℕ)) → texts (cond n ((at, w) ∷ []) [] ++ ns) ≡ cond n (w ∷ []) [] ++ texts ns
one_first true at w ns = refl
one_first false at w ns = refl

outside : (q b o s n : Bool) (x : ℕ) (xs w : List ℕ) (at : ℕ) (f : Stand → List (ℕ × List ℕ)) (k : Mode → List Lexeme) → (q ≡ true → n ≡ false) → ((o || s) ≡ true → n ≡ false)
    → (is_good (word (x ∷ xs)) ≡ true → token_numbers (word (x ∷ xs)) ≡ cond n (w ∷ []) []) → Same f k → are_good (lex_byte between (class_by q b o s) x xs k) ≡ true
    → texts (cond n ((at, w) ∷ []) [] ++ f (cond q Inside (cond (o || s) Outside Word))) ≡ numbers_among (lex_byte between (class_by q b o s) x xs k)
outside true b o s n x xs w at f k hq hb hw ih h =
    ap (λ c. texts (cond c ((at, w) ∷ []) [] ++ f Inside)) (hq refl) ∙ ih Inside (and_parts _ _ h).1 ∙ sym (ap (λ l. l ++ numbers_among (k in_string)) (string_none (content plain xs)))
outside false true o s n x xs w at f k hq hb hw ih h = absurd (false≢true h)
outside false false true s n x xs w at f k hq hb hw ih h =
    ap (λ c. texts (cond c ((at, w) ∷ []) [] ++ f Outside)) (hb refl) ∙ ih Outside (and_parts _ _ h).1 ∙ sym (ap (λ l. l ++ numbers_among (k between)) (operator_none x))
outside false false false true n x xs w at f k hq hb hw ih h = ap (λ c. texts (cond c ((at, w) ∷ []) [] ++ f Outside)) (hb refl) ∙ ih Outside h
outside false false false false n x xs w at f k hq hb hw ih h =
    let good = and_parts (is_good (word (x ∷ xs))) (are_good (k in_word)) h in
    one_first n at w (f Word) ∙ ap₂ (λ l m. l ++ m) (sym (hw good.0)) (ih Word good.1)

break_begins_none : (x : ℕ) → is_break x ≡ true → begins x ≡ false
break_begins_none x h = refuted (begins x) (λ e. by_cases (or_cases (x == 45) (is_ascii_digit x) e))
  where
    by_cases : ((x == 45) ≡ true) ⊎ (is_ascii_digit x ≡ true) → ⊥
    by_cases (inl e) = false≢true (sym (ap is_break (eqb-true x 45 e)) ∙ h)
    by_cases (inr e) = false≢true (sym (digit_is_no_break x e) ∙ h)

spelled : (xs : List ℕ) (at : ℕ) → Same (λ p. numbers p at xs) (λ m. lex m xs)
unfolding lex
spelled [] at p h = refl
spelled (x ∷ xs) at Outside h =
    outside (x == 34) (x == 92) (is_operator x) (is_space x) (begins x) x xs (before_first is_break (x ∷ xs)) at (λ p. numbers p (at + 1) xs) (λ m. lex m xs) (λ e. ap begins (eqb-true x 34 e))
    (break_begins_none x) (word_numbers x xs) (spelled xs (at + 1)) h
spelled (x ∷ xs) at Word h =
    in_a_word (x == 34) (x == 92) (is_operator x) (is_space x) x xs (λ p. numbers p (at + 1) xs) (λ m. lex m xs) (λ e. ap is_break (eqb-true x 34 e)) (λ e. ap is_break (eqb-true x 92 e)) (spelled xs (at + 1)) h
spelled (x ∷ xs) at Inside h = inside (x == 34) (x == 92) (is_operator x) (is_space x) x xs (λ p. numbers p (at + 1) xs) (λ m. lex m xs) (spelled xs (at + 1)) h
spelled (x ∷ xs) at Escaped h = spelled xs (at + 1) Inside h

pub same_numbers : (bytes : List ℕ) (d : Data) → read bytes ≡ Some d → number_tokens bytes ≡ numbers_in (tokens bytes)
same_numbers bytes d e =
    let same = punctuated (lex between bytes) fresh (no_bad_token bytes d e) in
    spelled bytes 0 Outside same.1 ∙ sym same.0
