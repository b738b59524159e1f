-- What stands between terminals, and what may follow a label or a tag.
use Rattle.std.proofs.Common.{◌≡◌, ℕ, suc, ◌+◌, ◌<◌, Bool, true, false, cond, eqb, List, [], ◌∷◌, ◌++◌, length, take, drop, Ok, Err, refl, sym, ap, ap₂, ◌∙◌, subst, arith, append-nil, append_assoc, inl, inr, lit<, take-append-drop}
use Rattle.std.proofs.lemmas.Bool.{and_parts, and_from, false≢true}
use Rattle.std.proofs.lemmas.Bool.Decides.{nat_tests}
use Rattle.std.specs.List.{list_all, prefix_len}
use Rattle.std.specs.Str.{is_utf8}
use Rattle.nquads_terminals.specs.Terminals.{label_more, tag_more}
use Rattle.nquads_terminals.proofs.Iris.{run_passes}
use Rattle.nquads_text.specs.Statement.{is_blank, uncommented, gap}
use Rattle.quad_laws.specs.Grammar.{IsSpace, IsComment}
use Rattle.quad_laws.proofs.Inverse.{err_ok, ok_same}
use Rattle.quad_laws.proofs.Labels.{ascii_none, dot_none}
use Rattle.quad_laws.proofs.TagParts.{NoTag}
use Rattle.quad_laws.proofs.Terms.{IsMark, Starts}

-- ---- space is read

-- a byte that is no space and no comment
abbrev pub Begins : List ℕ → Type 0
Begins bs = (b : ℕ) × (rest : List ℕ) × (bs ≡ b ∷ rest) × (is_blank b ≡ false) × (eqb b 35 ≡ false)

mark_plain : (b : ℕ) → IsMark b → (is_blank b ≡ false) × (eqb b 35 ≡ false)
mark_plain b (inl is) = (ap is_blank is, ap (λ x. eqb x 35) is)
mark_plain b (inr (inl is)) = (ap is_blank is, ap (λ x. eqb x 35) is)
mark_plain b (inr (inr (inl is))) = (ap is_blank is, ap (λ x. eqb x 35) is)
mark_plain b (inr (inr (inr is))) = (ap is_blank is, ap (λ x. eqb x 35) is)

pub starts_begins : (bs : List ℕ) → Starts bs → Begins bs
starts_begins bs (b, rest, is, mark) = (b, rest, is, (mark_plain b mark).0, (mark_plain b mark).1)

one : (n : ℕ) → 1 + n ≡ suc n
one n = omega arith

passed : (space next : List ℕ) → IsSpace space → prefix_len is_blank next ≡ 0 → drop (prefix_len is_blank (space ++ next)) (space ++ next) ≡ next
passed [] next all stops = ap (λ n. drop n next) stops
passed (b ∷ bs) next all stops =
    let split = and_parts (is_blank b) (list_all is_blank bs) all in
    ap (λ q. drop (cond q (1 + prefix_len is_blank (bs ++ next)) 0) (b ∷ (bs ++ next))) split.0 ∙ ap (λ n. drop n (b ∷ (bs ++ next))) (one (prefix_len is_blank (bs ++ next))) ∙ passed bs next split.1 stops

pub gap_read : (space next : List ℕ) → IsSpace space → Begins next → gap (space ++ next) ≡ Ok next
gap_read space next all (b, rest, is, blank, mark) =
    let stops : prefix_len is_blank next ≡ 0 = ap (prefix_len is_blank) is ∙ ap (λ q. cond q (1 + prefix_len is_blank rest) 0) blank in
    ap uncommented (passed space next all stops ∙ is) ∙ ap (λ q. cond q (cond (is_utf8 (b ∷ rest)) (Ok []) (Err (b ∷ rest))) (Ok (b ∷ rest))) mark ∙ ap (λ l. Ok l) (sym is)

pub both_space : (a b : List ℕ) → IsSpace a → IsSpace b → IsSpace (a ++ b)
both_space [] b first second = second
both_space (x ∷ xs) b first second =
    let split = and_parts (is_blank x) (list_all is_blank xs) first in
    and_from _ _ split.0 (both_space xs b split.1 second)

pub gap_end : (space comment : List ℕ) → IsSpace space → IsComment comment → gap (space ++ comment) ≡ Ok []
gap_end space comment all (inl none) =
    ap (λ c. gap (space ++ c)) none ∙ ap uncommented (passed space [] all refl)
gap_end space comment all (inr (more, is, text)) =
    let mark : is_utf8 (35 ∷ more) ≡ true = ap is_utf8 (sym is) ∙ text in
    ap (λ c. gap (space ++ c)) is ∙ ap uncommented (passed space (35 ∷ more) all refl) ∙ ap (λ q. cond q (Ok []) (Err (35 ∷ more))) mark

-- ---- what was read as space

-- space, and a comment where nothing is left
abbrev pub Gap : List ℕ → List ℕ → Type 0
Gap bs rest = (space : List ℕ) × (comment : List ℕ) × (bs ≡ space ++ (comment ++ rest)) × IsSpace space × IsComment comment × (0 < length rest → comment ≡ [])

abbrev Comment : List ℕ → List ℕ → Type 0
Comment bs rest = (comment : List ℕ) × (bs ≡ comment ++ rest) × IsComment comment × (0 < length rest → comment ≡ [])

nothing_more : (rest : List ℕ) → [] ≡ rest → 0 < length rest → ⊥
nothing_more rest is some = omega (arith, some, ap length is)

comment_step : (b : ℕ) (bs rest : List ℕ) (p q : Bool) → eqb b 35 ≡ p → is_utf8 (b ∷ bs) ≡ q → cond p (cond q (Ok []) (Err (b ∷ bs))) (Ok (b ∷ bs)) ≡ Ok rest → Comment (b ∷ bs) rest
comment_step b bs rest true true mark text is =
    let none : [] ≡ rest = ok_same [] rest is in
    let here : b ≡ 35 = grind (arith, nat_tests) in
    (b ∷ bs, sym (append-nil (b ∷ bs)) ∙ ap (λ r. (b ∷ bs) ++ r) none, inr (bs, ap (λ x. x ∷ bs) here, text), λ some. absurd (nothing_more rest none some))
comment_step b bs rest true false mark text is = absurd (err_ok (b ∷ bs) rest is)
comment_step b bs rest false q mark text is = ([], ok_same (b ∷ bs) rest is, inl refl, λ some. refl)

comment_of : (bs rest : List ℕ) → uncommented bs ≡ Ok rest → Comment bs rest
comment_of [] rest is = ([], ok_same [] rest is, inl refl, λ some. refl)
comment_of (b ∷ bs) rest is = comment_step b bs rest (eqb b 35) (is_utf8 (b ∷ bs)) refl refl is

pub gap_of : (bs rest : List ℕ) → gap bs ≡ Ok rest → Gap bs rest
gap_of bs rest is =
    let n = prefix_len is_blank bs in
    let c = comment_of (drop n bs) rest is in
    (take n bs, c.0, sym (take-append-drop n bs) ∙ ap (λ l. take n bs ++ l) c.1, run_passes is_blank bs, c.2, c.3)

-- space alone, since something is left
pub space_of : (bs rest : List ℕ) → gap bs ≡ Ok rest → 0 < length rest → (space : List ℕ) × (bs ≡ space ++ rest) × IsSpace space
space_of bs rest is some =
    let g = gap_of bs rest is in
    (g.0, g.2 ∙ ap (λ c. g.0 ++ (c ++ rest)) (g.5 some), g.3)

-- ---- what goes on with no label and no tag

blank_cases : (b : ℕ) → is_blank b ≡ true → (P : ℕ → Type 0) → P 32 → P 9 → P b
blank_cases b is P space tab = by (eqb b 32) refl
  where
    by : (q : Bool) → eqb b 32 ≡ q → P b
    by true same = let here : b ≡ 32 = grind (arith, nat_tests) in subst P (sym here) space
    by false other = let here : b ≡ 9 = grind (arith, nat_tests) in subst P (sym here) tab

pub space_no_label : (space next : List ℕ) → IsSpace space → (space ≡ [] → label_more 0 next ≡ 0) → label_more 0 (space ++ next) ≡ 0
space_no_label [] next all ends = ends refl
space_no_label (b ∷ bs) next all ends =
    let split = and_parts (is_blank b) (list_all is_blank bs) all in
    blank_cases b split.0 (λ x. label_more 0 (x ∷ (bs ++ next)) ≡ 0) (ascii_none 32 (bs ++ next) (lit< tt) refl refl refl) (ascii_none 9 (bs ++ next) (lit< tt) refl refl refl)

pub angle_no_label : (rest : List ℕ) → label_more 0 (60 ∷ rest) ≡ 0
angle_no_label rest = ascii_none 60 rest (lit< tt) refl refl refl

-- the end of a line goes on with no label
pub end_no_label : (space comment : List ℕ) → IsSpace space → IsComment comment → label_more 0 (space ++ comment) ≡ 0
end_no_label space comment all (inl none) = space_no_label space comment all (λ e. ap (label_more 0) none)
end_no_label space comment all (inr (more, is, text)) = space_no_label space comment all (λ e. ap (label_more 0) is ∙ ascii_none 35 more (lit< tt) refl refl refl)

mark_no_tag : (b : ℕ) (rest : List ℕ) → IsMark b → NoTag (b ∷ rest)
mark_no_tag b rest (inl is) = subst (λ x. NoTag (x ∷ rest)) (sym is) (record { letters = refl; both = refl })
mark_no_tag b rest (inr (inl is)) = subst (λ x. NoTag (x ∷ rest)) (sym is) (record { letters = refl; both = refl })
mark_no_tag b rest (inr (inr (inl is))) = subst (λ x. NoTag (x ∷ rest)) (sym is) (record { letters = refl; both = refl })
mark_no_tag b rest (inr (inr (inr is))) = subst (λ x. NoTag (x ∷ rest)) (sym is) (record { letters = refl; both = refl })

pub space_no_tag : (space next : List ℕ) → IsSpace space → Starts next → NoTag (space ++ next)
space_no_tag [] next all (b, rest, is, mark) = subst NoTag (sym is) (mark_no_tag b rest mark)
space_no_tag (b ∷ bs) next all starts =
    let split = and_parts (is_blank b) (list_all is_blank bs) all in
    blank_cases b split.0 (λ x. NoTag (x ∷ (bs ++ next))) (record { letters = refl; both = refl }) (record { letters = refl; both = refl })
