-- The form of an IRI by its parts, and byte by byte.
use Rattle.std.proofs.Common.{◌≡◌, ℕ, suc, ◌+◌, arith, List, [], ◌∷◌, Bool, true, false, ◌&&◌, Option, Some, None, cond, position, take, refl, sym, ap, ◌∙◌}
use Rattle.std.specs.Prelude.{◌==◌}
use borrow.Author.Tests.{eqb-true}
use Rattle.std.proofs.lemmas.Iterator.Adapters.{position_from-zero}
use Rattle.std.specs.Option.{option_map, option_map_or}
use Rattle.std.specs.List.{list_all, position_from}
use Rattle.ld_model.specs.Iri as model
use Rattle.iri_ref.specs.Parts.{colon, is_scheme_byte, is_scheme, is_letter, has_scheme}

and-false : (b : Bool) → (b && false) ≡ false
and-false true = refl
and-false false = refl

-- The first colon, counted from the front of what is left.
abbrev colon_at : List ℕ → Option ℕ
colon_at [] = None
colon_at (b ∷ bs) = cond (b == 58) (Some 0) (option_map suc (colon_at bs))

position_from-colon : (n : ℕ) (bs : List ℕ) → position_from colon n bs ≡ option_map (λ i. n + i) (colon_at bs)
position_from-colon n [] = refl
position_from-colon n (b ∷ bs) = by_colon (b == 58) (position_from-colon (n + 1) bs)
  where
    further : (o : Option ℕ) → option_map (λ i. n + 1 + i) o ≡ option_map (λ i. n + i) (option_map suc o)
    further None = refl
    further (Some i) = let same : n + 1 + i ≡ n + suc i = omega arith in ap Some same

    by_colon : (t : Bool) → position_from colon (n + 1) bs ≡ option_map (λ i. n + 1 + i) (colon_at bs) → cond t (Some n) (position_from colon (n + 1) bs) ≡ option_map (λ i. n + i) (cond t (Some 0) (option_map suc (colon_at bs)))
    by_colon true h = let same : n ≡ n + 0 = omega arith in ap Some same
    by_colon false h = h ∙ further (colon_at bs)

position-colon : (bs : List ℕ) → position colon bs ≡ colon_at bs
position-colon bs = position_from-zero colon bs ∙ position_from-colon 0 bs ∙ same (colon_at bs)
  where
    same : (o : Option ℕ) → option_map (λ i. 0 + i) o ≡ o
    same None = refl
    same (Some i) = let plain : 0 + i ≡ i = omega arith in ap Some plain

abbrev scheme_ends : Option ℕ → List ℕ → Bool
scheme_ends o bs = option_map_or (list_all is_scheme_byte) (option_map (λ i. take i bs) o) false

ends_scheme-is : (bs : List ℕ) → scheme_ends (colon_at bs) bs ≡ model.ends_scheme bs
ends_scheme-is [] = refl
ends_scheme-is (b ∷ bs) = by_colon (b == 58) (more (colon_at bs) (ends_scheme-is bs))
  where
    more : (o : Option ℕ) → scheme_ends o bs ≡ model.ends_scheme bs → scheme_ends (option_map suc o) (b ∷ bs) ≡ (is_scheme_byte b && model.ends_scheme bs)
    more None h = rw (← h) (sym (and-false (is_scheme_byte b)))
    more (Some i) h = ap (λ x. is_scheme_byte b && x) h

    by_colon : (t : Bool) → scheme_ends (option_map suc (colon_at bs)) (b ∷ bs) ≡ (is_scheme_byte b && model.ends_scheme bs) → scheme_ends (cond t (Some 0) (option_map suc (colon_at bs))) (b ∷ bs) ≡ cond t true (is_scheme_byte b && model.ends_scheme bs)
    by_colon true h = refl
    by_colon false h = h

pub has_scheme-is : (bs : List ℕ) → has_scheme bs ≡ model.has_scheme bs
has_scheme-is [] = refl
has_scheme-is (b ∷ bs) =
    ap (λ o. option_map_or is_scheme (option_map (λ i. take i (b ∷ bs)) o) false) (position-colon (b ∷ bs)) ∙ by_colon (b == 58) refl (ends_scheme-is bs)
  where
    letter : (o : Option ℕ) → scheme_ends o bs ≡ model.ends_scheme bs → option_map_or is_scheme (option_map (λ i. take i (b ∷ bs)) (option_map suc o)) false ≡ (is_letter b && model.ends_scheme bs)
    letter None h = rw (← h) (sym (and-false (is_letter b)))
    letter (Some i) h = ap (λ x. is_letter b && x) h

    no_letter : (b ≡ 58) → is_letter b ≡ false
    no_letter is = rw is refl

    by_colon : (t : Bool) → (b == 58) ≡ t → scheme_ends (colon_at bs) bs ≡ model.ends_scheme bs → option_map_or is_scheme (option_map (λ i. take i (b ∷ bs)) (cond t (Some 0) (option_map suc (colon_at bs)))) false ≡ (is_letter b && model.ends_scheme bs)
    by_colon true is h = rw (no_letter (eqb-true b 58 is)) refl
    by_colon false is h = letter (colon_at bs) h
