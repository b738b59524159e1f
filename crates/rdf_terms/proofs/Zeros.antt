-- Zeros cut off the end of digits.
use Rattle.std.proofs.Common.{◌≡◌, ◌≢◌, ℕ, ◌-◌, nat_eq, cond, List, [], ◌∷◌, ◌++◌, length, drop, refl, ap, ap₂, ◌∙◌, sym, arith, lit<, take-append-drop, Option, Some, None, IfSome, inl, inr}
use Rattle.std.specs.Str.Pattern.{FindsCharSuffix, CutsSuffixes, IsTrimEndMatches}
use Rattle.std.proofs.lemmas.List.{drop_all}
use Rattle.std.proofs.lemmas.Bool.{cases_Bool, eqb-true}
use Rattle.std.proofs.lemmas.Str.{encode_ascii}
use Rattle.rdf_terms.specs.Double.{ahead, without_trailing_zeros}

pub zero_last : (ds : List ℕ) → without_trailing_zeros (ds ++ 48 ∷ []) ≡ without_trailing_zeros ds
zero_last [] = refl
zero_last (d ∷ ds) = ap (ahead d) (zero_last ds)

cut : (ns s r : List ℕ) → CutsSuffixes (FindsCharSuffix 48) s ns r → without_trailing_zeros r ≡ without_trailing_zeros s
cut [] s r is = ap without_trailing_zeros is
cut (n ∷ ns) s r (m, cuts, ends, is) =
    let zero : drop (length m - n) m ≡ 48 ∷ [] = ends.1.split ∙ ap₂ (λ a b. a ++ b) (encode_ascii 48 (lit< tt)) (drop_all (length m) m (omega arith)) in
    let parts : r ++ 48 ∷ [] ≡ m = (λ i. is i ++ sym zero i) ∙ take-append-drop (length m - n) m in
    sym (zero_last r) ∙ ap without_trailing_zeros parts ∙ cut ns s m cuts

no_zero_last : (ds : List ℕ) → ((front : List ℕ) → ds ≢ front ++ 48 ∷ []) → without_trailing_zeros ds ≡ ds
no_zero_last [] no_zero = refl
no_zero_last (d ∷ []) no_zero =
    elim (cases_Bool (nat_eq d 48)) [ inl passes ↦ absurd (no_zero [] (ap (λ x. x ∷ []) (eqb-true d 48 passes))) | inr fails ↦ ap (λ b. cond b [] (d ∷ [])) fails ]
no_zero_last (d ∷ e ∷ es) no_zero = ap (ahead d) (no_zero_last (e ∷ es) (λ front is. no_zero (d ∷ front) (ap (λ l. d ∷ l) is)))

-- No zero is left to cut.
trimmed_whole : (r : List ℕ) (o : Option ℕ) → FindsCharSuffix 48 r o → IfSome o (λ n. n ≡ 0) → without_trailing_zeros r ≡ r
trimmed_whole r None none empty =
    no_zero_last r (λ front is. none front (is ∙ ap (λ l. front ++ l) (sym (encode_ascii 48 (lit< tt)))))
trimmed_whole r (Some n) ends empty = absurd (let one = ends.0 in omega arith)

pub trim_end_of_zeros : (s r : List ℕ) → IsTrimEndMatches (FindsCharSuffix 48) s r → r ≡ without_trailing_zeros s
trim_end_of_zeros s r trimmed =
    sym (trimmed_whole r trimmed.1.0 trimmed.1.1 trimmed.1.2) ∙ cut trimmed.0.0 s r trimmed.0.1
