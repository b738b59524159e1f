-- A language tag is read exactly where it is `@` and the parts of a tag, and what follows can't go on with it.
use Rattle.std.proofs.Common.{◌≡◌, ℕ, suc, ◌+◌, Bool, true, false, cond, ◌&&◌, not, eqb, List, [], ◌∷◌, ◌++◌, length, take, drop, Option, Some, None, refl, sym, ap, ap₂, ◌∙◌, arith, append_assoc, take-append-drop, length-append}
use Rattle.std.proofs.lemmas.Bool.{and_parts, and_from, false≢true}
use Rattle.std.proofs.lemmas.Bool.Decides.{nat_tests}
use Rattle.std.proofs.lemmas.Option.{none-some, some_pair_parts}
use lib.Seq.{drop-append_seam, take-append_seam}
use Rattle.std.specs.List.{list_all, flat_map}
use Rattle.std.specs.Char.{is_ascii_alphabetic, is_ascii_alphanumeric}
use Rattle.rdf_terms.specs.Language.{is_letters, is_letters_or_digits}
use Rattle.nquads_terminals.specs.Terminals.{is_tag_byte, begins_part, tag_more, langtag, parted}
use Rattle.quad_laws.specs.Grammar.{IsLangtag}

-- the parts behind the first, each with its hyphen
abbrev hyphened : List (List ℕ) → List ℕ
hyphened parts = flat_map (λ part. 45 ∷ part) parts

one : (n : ℕ) → 1 + n ≡ suc n
one n = omega arith

not_empty : (b : ℕ) (bs : List ℕ) → not (eqb (length (b ∷ bs)) 0) ≡ true
not_empty b bs = grind (arith, nat_tests)

-- ---- what is read is a tag

-- bytes of one part, and the parts behind it
abbrev Tagged : Bool → List ℕ → Type 0
Tagged first bytes = (run : List ℕ) × (parts : List (List ℕ)) × (bytes ≡ run ++ hyphened parts) × (list_all (is_tag_byte first) run ≡ true) × (list_all is_letters_or_digits parts ≡ true)

-- a hyphen, and a part behind it
hyphen_step : (first : Bool) (c : ℕ) (cs : List ℕ) → Tagged false (c ∷ cs) → is_ascii_alphanumeric c ≡ true → Tagged first (45 ∷ c ∷ cs)
hyphen_step first c cs ([], [], bytes, all, others) begins = absurd (cc)
hyphen_step first c cs ([], p ∷ ps, bytes, all, others) begins = absurd (not_hyphen (ap head bytes))
  where
    head : List ℕ → ℕ
    head [] = 0
    head (x ∷ xs) = x

    not_hyphen : c ≡ 45 → ⊥
    not_hyphen is = false≢true (ap is_ascii_alphanumeric (sym is) ∙ begins)
hyphen_step first c cs (r ∷ run, parts, bytes, all, others) begins =
    ([], (r ∷ run) ∷ parts, ap (λ l. 45 ∷ l) bytes, refl, and_from _ _ (and_from _ _ (not_empty r run) all) others)

byte_step : (first : Bool) (b : ℕ) (bytes : List ℕ) → is_tag_byte first b ≡ true → Tagged first bytes → Tagged first (b ∷ bytes)
byte_step first b bytes is (run, parts, same, all, others) = (b ∷ run, parts, ap (λ l. b ∷ l) same, and_from _ _ is all, others)

-- behind a hyphen where a part follows
part_step : (first : Bool) (bs : List ℕ) → begins_part bs ≡ true → Tagged false (take (tag_more false bs) bs) → Tagged first (45 ∷ take (tag_more false bs) bs)
part_step first [] begins more = absurd (false≢true begins)
part_step first (c ∷ cs) begins more =
    let count : tag_more false (c ∷ cs) ≡ suc (tag_more false cs) = rw begins (one (tag_more false cs)) in
    let whole : Tagged false (c ∷ take (tag_more false cs) cs) = rw count at more in
    rw count (hyphen_step first c (take (tag_more false cs) cs) whole begins)

tag_step : (first : Bool) (b : ℕ) (bs : List ℕ) (p q r : Bool) → is_tag_byte first b ≡ p → eqb b 45 ≡ q → begins_part bs ≡ r → Tagged first (take (tag_more first bs) bs) → Tagged false (take (tag_more false bs) bs) → Tagged first (take (cond p (1 + tag_more first bs) (cond (q && r) (1 + tag_more false bs) 0)) (b ∷ bs))
tag_step first b bs true q r is hyphen begins same later = rw one (byte_step first b (take (tag_more first bs) bs) is same)
tag_step first b bs false true true is hyphen begins same later =
    let here : b ≡ 45 = grind (arith, nat_tests) in
    let whole = part_step first bs begins later in
    rw (one, here) whole
tag_step first b bs false true false is hyphen begins same later = ([], [], refl, refl, refl)
tag_step first b bs false false r is hyphen begins same later = ([], [], refl, refl, refl)

more_tagged : (first : Bool) (bs : List ℕ) → Tagged first (take (tag_more first bs) bs)
more_tagged first [] = ([], [], refl, refl, refl)
more_tagged first (b ∷ bs) = tag_step first b bs (is_tag_byte first b) (eqb b 45) (begins_part bs) refl refl refl (more_tagged first bs) (more_tagged false bs)

pub tag_of : (bs tag rest : List ℕ) → langtag bs ≡ Some (tag, rest) → (bytes : List ℕ) × (bs ≡ bytes ++ rest) × IsLangtag bytes tag
tag_of [] tag rest is = absurd (none-some (tag, rest) is)
tag_of (a ∷ []) tag rest is = absurd (none-some (tag, rest) is)
tag_of (a ∷ b ∷ bs) tag rest is = found (eqb a 64) (is_ascii_alphabetic b) refl refl is
  where
    found : (p q : Bool) → eqb a 64 ≡ p → is_ascii_alphabetic b ≡ q → cond (p && q) (parted (1 + tag_more true bs) (b ∷ bs)) None ≡ Some (tag, rest) → (bytes : List ℕ) × (a ∷ b ∷ bs ≡ bytes ++ rest) × IsLangtag bytes tag
    found true true at is_letter read =
        let parts = some_pair_parts (take (1 + tag_more true bs) (b ∷ bs)) tag (drop (1 + tag_more true bs) (b ∷ bs)) rest read in
        let more = more_tagged true bs in
        let here : a ≡ 64 = grind (arith, nat_tests) in
        let bytes : tag ≡ (b ∷ more.0) ++ hyphened more.1 = sym parts.0 ∙ ap (λ n. take n (b ∷ bs)) (one (tag_more true bs)) ∙ ap (λ l. b ∷ l) more.2 in
        (64 ∷ tag, ap₂ (λ x y. x ∷ y) here (sym (take-append-drop (1 + tag_more true bs) (b ∷ bs)) ∙ ap₂ (λ x y. x ++ y) parts.0 parts.1), (b ∷ more.0, more.1, refl, bytes, and_from _ _ (not_empty b more.0) (and_from _ _ is_letter more.3), more.4))
    found true false at is_letter read = absurd (none-some (tag, rest) read)
    found false q at is_letter read = absurd (none-some (tag, rest) read)

-- ---- a tag is read

-- nothing of a tag goes on here
pub record NoTag (rest : List ℕ) : Type 0 where
  pub letters : tag_more true rest ≡ 0
  pub both : tag_more false rest ≡ 0

ends_of : (first : Bool) (rest : List ℕ) → NoTag rest → tag_more first rest ≡ 0
ends_of true rest ends = ends.letters
ends_of false rest ends = ends.both

no_hyphen : (first : Bool) → is_tag_byte first 45 ≡ false
no_hyphen true = refl
no_hyphen false = refl

run_read : (first : Bool) (run tail : List ℕ) (n : ℕ) → list_all (is_tag_byte first) run ≡ true → tag_more first tail ≡ n → tag_more first (run ++ tail) ≡ length run + n
run_read first [] tail n all is = is ∙ (omega arith)
run_read first (b ∷ bs) tail n all is =
    let split = and_parts (is_tag_byte first b) (list_all (is_tag_byte first) bs) all in
    let more = run_read first bs tail n split.1 is in
    rw (split.0, more) (omega arith)

parts_read : (first : Bool) (parts : List (List ℕ)) (rest : List ℕ) → list_all is_letters_or_digits parts ≡ true → NoTag rest → tag_more first (hyphened parts ++ rest) ≡ length (hyphened parts)
parts_read first [] rest all ends = ends_of first rest ends
parts_read first ([] ∷ ps) rest all ends = absurd (false≢true all)
parts_read first ((c ∷ cs) ∷ ps) rest all ends =
    let split = and_parts (is_letters_or_digits (c ∷ cs)) (list_all is_letters_or_digits ps) all in
    let bytes = and_parts (not (eqb (length (c ∷ cs)) 0)) (list_all is_ascii_alphanumeric (c ∷ cs)) split.0 in
    let begins = (and_parts (is_ascii_alphanumeric c) (list_all is_ascii_alphanumeric cs) bytes.1).0 in
    let later = parts_read false ps rest split.1 ends in
    let run : tag_more false ((c ∷ cs) ++ (hyphened ps ++ rest)) ≡ length (c ∷ cs) + length (hyphened ps) = run_read false (c ∷ cs) (hyphened ps ++ rest) (length (hyphened ps)) bytes.1 later in
    let joined : tag_more false (c ∷ ((cs ++ hyphened ps) ++ rest)) ≡ length (c ∷ cs) + length (hyphened ps) = ap (λ l. tag_more false (c ∷ l)) (append_assoc cs (hyphened ps) rest) ∙ run in
    ap (λ q. cond q (1 + tag_more first (c ∷ ((cs ++ hyphened ps) ++ rest))) (cond (is_ascii_alphanumeric c) (1 + tag_more false (c ∷ ((cs ++ hyphened ps) ++ rest))) 0)) (no_hyphen first)
    ∙ ap (λ q. cond q (1 + tag_more false (c ∷ ((cs ++ hyphened ps) ++ rest))) 0) begins
    ∙ ap (λ n. 1 + n) joined ∙ omega (arith, length-append cs (hyphened ps))

pub tag_read : (bytes tag rest : List ℕ) → IsLangtag bytes tag → NoTag rest → langtag (bytes ++ rest) ≡ Some (tag, rest)
tag_read bytes tag rest ([], parts, is, same, letters, others) ends = absurd (false≢true letters)
tag_read bytes tag rest (b ∷ run, parts, is, same, letters, others) ends =
    let split = and_parts (not (eqb (length (b ∷ run)) 0)) (list_all is_ascii_alphabetic (b ∷ run)) letters in
    let first = and_parts (is_ascii_alphabetic b) (list_all is_ascii_alphabetic run) split.1 in
    let body = run ++ hyphened parts in
    let count : tag_more true (body ++ rest) ≡ length body = ap (tag_more true) (append_assoc run (hyphened parts) rest) ∙ run_read true run (hyphened parts ++ rest) (length (hyphened parts)) first.1 (parts_read true parts rest others ends) ∙ sym (length-append run (hyphened parts)) in
    let read : langtag (64 ∷ b ∷ (body ++ rest)) ≡ Some (b ∷ body, rest) = rw (first.0, count, one (length body), take-append_seam body rest, drop-append_seam body rest) refl in
    ap (λ l. langtag (l ++ rest)) (is ∙ ap (λ t. 64 ∷ t) same) ∙ read ∙ ap (λ t. Some (t, rest)) (sym same)
