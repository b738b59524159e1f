-- A path that grows in one buffer is the path of the segments that are kept.
use Rattle.std.proofs.Common.{◌≡◌, ℕ, ◌+◌, ◌-◌, ◌<◌, ◌≤◌, Bool, true, false, ◌||◌, List, [], ◌∷◌, ◌++◌, Bor, Option, Some, None, MatchOption, cond, drop, drop-cons, get_or, take, suc, unwrap_or, ◌≢◌, fold, not, reverse, length, refl, sym, ap, ◌∙◌, ⊎_elim, subst, append_assoc, arith}
use Rattle.std.specs.List.{slice_range, list_any, onto_first, join_with_byte, before_first, after_first, position_or_len}
use Rattle.std.proofs.lemmas.Bool.{cases_lt, cond_both, ne_eqb, le-ltb, lt-ltb, or_parts, or_from}
use Rattle.std.proofs.lemmas.List.{get_or-drop, length-drop, reverse-append, take_all, take_more, take-append-drop}
use Rattle.std.proofs.lemmas.List.Splits.{slice_split_first, slice_split_none}
use Rattle.std.proofs.lemmas.List.Sums.{fails_before_first, prefix_len-le-length}
use Rattle.std.specs.Option.{is_some, option_copied, option_map}
use Rattle.iri_ref.specs.Parts.{part_after, slash}
use Rattle.iri_ref.specs.Dots.{segments_of, is_dot, is_dot_dot, is_dots, closed, without_last, without_leading_dots, placed, kept_of, remove_dots}
use Rattle.iri_ref.specs.Resolve.{directory_of}
use Rattle.iri_ref.specs.Walk.{up_to_last_slash, path_with}

-- a segment holds no slash
abbrev pub Plain : List ℕ → Type 0
Plain s = list_any slash s ≡ false

abbrev pub AllPlain : List (List ℕ) → Type 0
AllPlain [] = Unit {0}
AllPlain (s ∷ ss) = Plain s × AllPlain ss

-- some segments, none of which holds a slash
abbrev pub Stack : List (List ℕ) → Type 0
Stack [] = ⊥
Stack (s ∷ []) = Plain s
Stack (s ∷ t ∷ ss) = Plain s × Stack (t ∷ ss)

-- the path of these segments, the last of which stands at the head
abbrev pub path_of : List (List ℕ) → List ℕ
path_of [] = []
path_of (s ∷ []) = s
path_of (s ∷ t ∷ ss) = path_of (t ∷ ss) ++ 47 ∷ s

any_slash : (xs ys : List ℕ) → list_any slash (xs ++ 47 ∷ ys) ≡ true
any_slash [] ys = refl
any_slash (x ∷ xs) ys = ap (λ b. slash x || b) (any_slash xs ys) ∙ or_true (slash x)
  where
    or_true : (b : Bool) → (b || true) ≡ true
    or_true true = refl
    or_true false = refl

-- the last segment goes with the slash before it
pub last_slash : (xs ys : List ℕ) → Plain ys → up_to_last_slash (xs ++ 47 ∷ ys) ≡ xs
last_slash [] ys plain = ap (λ b. cond b (47 ∷ up_to_last_slash ys) []) plain
last_slash (x ∷ xs) ys plain = ap (λ b. cond b (x ∷ up_to_last_slash (xs ++ 47 ∷ ys)) []) (any_slash xs ys) ∙ ap (λ zs. x ∷ zs) (last_slash xs ys plain)

-- and nothing is left of the first segment
pub no_slash : (ys : List ℕ) → Plain ys → up_to_last_slash ys ≡ []
no_slash [] plain = refl
no_slash (y ∷ ys) plain = ap (λ b. cond b (y ∷ up_to_last_slash ys) []) (or_parts (slash y) (list_any slash ys) plain).1

path_without_last : (kept : List (List ℕ)) → Stack kept → path_of (without_last kept) ≡ up_to_last_slash (path_of kept)
path_without_last [] stack = absurd stack
path_without_last (s ∷ []) stack = sym (no_slash s stack)
path_without_last (s ∷ t ∷ ss) stack = sym (last_slash (path_of (t ∷ ss)) s stack.0)

stack_without_last : (kept : List (List ℕ)) → Stack kept → Stack (without_last kept)
stack_without_last [] stack = stack
stack_without_last (s ∷ []) stack = refl
stack_without_last (s ∷ t ∷ ss) stack = stack.1

-- both facts of a stack with one segment more
Grows : List ℕ → List ℕ → List (List ℕ) → Type 0
Grows path s kept = (path_of kept ≡ path) × Stack kept

path_pushed : (kept : List (List ℕ)) (s : List ℕ) → Stack kept → path_of (s ∷ kept) ≡ path_of kept ++ 47 ∷ s
path_pushed [] s stack = absurd stack
path_pushed (t ∷ ts) s stack = refl

stack_pushed : (kept : List (List ℕ)) (s : List ℕ) → Stack kept → Plain s → Stack (s ∷ kept)
stack_pushed [] s stack plain = absurd stack
stack_pushed (t ∷ ts) s stack plain = (plain, stack)

by_test : {A : Type 0} (P : A → Type 0) (b : Bool) (x y : A) → P x → P y → P (cond b x y)
by_test P true x y p q = p
by_test P false x y p q = q

path_placed : (kept : List (List ℕ)) (s : List ℕ) (dot two : Bool) → Stack kept → path_of (cond dot kept (cond two (without_last kept) (s ∷ kept))) ≡ cond dot (path_of kept) (cond two (up_to_last_slash (path_of kept)) (path_of kept ++ 47 ∷ s))
path_placed kept s true two stack = refl
path_placed kept s false true stack = path_without_last kept stack
path_placed kept s false false stack = path_pushed kept s stack

stack_placed : (kept : List (List ℕ)) (s : List ℕ) → Stack kept → Plain s → Stack (placed kept s)
stack_placed kept s stack plain =
    by_test Stack (is_dot s) kept (cond (is_dot_dot s) (without_last kept) (s ∷ kept)) stack
    (by_test Stack (is_dot_dot s) (without_last kept) (s ∷ kept) (stack_without_last kept stack) (stack_pushed kept s stack plain))

-- segment by segment
pub path_folded : (kept ss : List (List ℕ)) → Stack kept → AllPlain ss → path_of (fold placed kept ss) ≡ fold path_with (path_of kept) ss
path_folded kept [] stack plain = refl
path_folded kept (s ∷ ss) stack plain =
    path_folded (placed kept s) ss (stack_placed kept s stack plain.0) plain.1
    ∙ ap (λ path. fold path_with path ss) (path_placed kept s (is_dot s) (is_dot_dot s) stack)

-- the segments in their order
joined_pushed : (ss : List (List ℕ)) (t s : List ℕ) → join_with_byte 47 (ss ++ t ∷ s ∷ []) ≡ join_with_byte 47 (ss ++ t ∷ []) ++ 47 ∷ s
joined_pushed [] t s = refl
joined_pushed (r ∷ []) t s = sym (append_assoc r (47 ∷ t) (47 ∷ s))
joined_pushed (r ∷ q ∷ rs) t s = ap (λ xs. r ++ 47 ∷ xs) (joined_pushed (q ∷ rs) t s) ∙ sym (append_assoc r (47 ∷ join_with_byte 47 ((q ∷ rs) ++ t ∷ [])) (47 ∷ s))

joined : (kept : List (List ℕ)) → join_with_byte 47 (reverse kept) ≡ path_of kept
joined [] = refl
joined (s ∷ []) = refl
joined (s ∷ t ∷ ss) =
    let turned : reverse (s ∷ t ∷ ss) ≡ reverse ss ++ t ∷ s ∷ [] = reverse-append (s ∷ t ∷ []) ss in
    let front : reverse (t ∷ ss) ≡ reverse ss ++ t ∷ [] = reverse-append (t ∷ []) ss in
    ap (join_with_byte 47) turned ∙ joined_pushed (reverse ss) t s ∙ ap (λ xs. join_with_byte 47 xs ++ 47 ∷ s) (sym front) ∙ ap (λ path. path ++ 47 ∷ s) (joined (t ∷ ss))

-- the segments that are kept of some, the first of which is no dots
pub kept_path : (s : List ℕ) (ss : List (List ℕ)) → Plain s → AllPlain ss → join_with_byte 47 (kept_of (s ∷ ss)) ≡ fold path_with s ss
kept_path s ss plain all = joined (fold placed (s ∷ []) ss) ∙ path_folded (s ∷ []) ss plain all

-- no segment holds a slash
plain_onto_first : (b : ℕ) (ss : List (List ℕ)) → slash b ≡ false → AllPlain ss → AllPlain (onto_first b ss)
plain_onto_first b [] other all = (or_from (slash b) false other refl, tt)
plain_onto_first b (s ∷ ss) other all = (or_from (slash b) (list_any slash s) other all.0, all.1)

pub plain_segments : (bs : List ℕ) → AllPlain (segments_of bs)
plain_segments [] = (refl, tt)
plain_segments (b ∷ bs) = cond_both (slash b) ([] ∷ segments_of bs) (onto_first b (segments_of bs)) AllPlain (λ yes. (refl, plain_segments bs)) (λ other. plain_onto_first b (segments_of bs) other (plain_segments bs))

pub plain_closed : (ss : List (List ℕ)) → AllPlain ss → AllPlain (closed ss)
plain_closed [] all = tt
plain_closed (s ∷ []) all = by_test AllPlain (is_dots s) (s ∷ [] ∷ []) (s ∷ []) (all.0, (refl, tt)) all
plain_closed (s ∷ t ∷ ss) all = (all.0, plain_closed (t ∷ ss) all.1)

-- there is always a first segment
some_segment : (bs : List ℕ) → (s : List ℕ) × (ss : List (List ℕ)) × (segments_of bs ≡ s ∷ ss)
some_segment [] = ([], [], refl)
some_segment (b ∷ bs) =
    let Some_first : List (List ℕ) → Type 0 = λ xs. (s : List ℕ) × (ss : List (List ℕ)) × (xs ≡ s ∷ ss) in
    by_test Some_first (slash b) ([] ∷ segments_of bs) (onto_first b (segments_of bs)) ([], segments_of bs, refl) (onto (segments_of bs))
  where
    onto : (xs : List (List ℕ)) → (s : List ℕ) × (ss : List (List ℕ)) × (onto_first b xs ≡ s ∷ ss)
    onto [] = (b ∷ [], [], refl)
    onto (x ∷ xs) = (b ∷ x, xs, refl)

closed_more : (s : List ℕ) (bs : List ℕ) → closed (s ∷ segments_of bs) ≡ s ∷ closed (segments_of bs)
closed_more s bs = let first = some_segment bs in rw first.2 refl

-- the text behind the first slash, if there is one
abbrev pub Rest : Option (List ℕ) → List (List ℕ)
Rest None = []
Rest (Some text) = closed (segments_of text)

abbrev pub IsCut : List ℕ → Option (List ℕ) → Type 0
IsCut bs r = MatchOption r
    ((before_first slash bs ≡ bs) × (segments_of bs ≡ bs ∷ []))
    (λ rest. (length rest < length bs) × (segments_of bs ≡ before_first slash bs ∷ segments_of rest) × (closed (segments_of bs) ≡ before_first slash bs ∷ closed (segments_of rest)))

pub cut_cases : (bs : List ℕ) → IsCut bs (part_after slash bs)
cut_cases bs = ⊎_elim
    (λ lt.
    let found : part_after slash bs ≡ Some (after_first slash bs) = ap (λ b. option_map (λ i. drop (i + 1) bs) (cond b (Some (position_or_len slash bs)) None)) (lt-ltb (position_or_len slash bs) (length bs) lt) in
    let first : segments_of bs ≡ before_first slash bs ∷ segments_of (after_first slash bs) = slice_split_first slash bs 0 lt in
    subst (IsCut bs) (sym found) (
      omega (arith, length-drop (position_or_len slash bs + 1) bs),
      first,
      ap closed first ∙ closed_more (before_first slash bs) (after_first slash bs),
    ))
    (λ le.
    let none : part_after slash bs ≡ None = ap (λ b. option_map (λ i. drop (i + 1) bs) (cond b (Some (position_or_len slash bs)) None)) (le-ltb (position_or_len slash bs) (length bs) le) in
    let whole : before_first slash bs ≡ bs = take_all (position_or_len slash bs) bs le in
    let within : position_or_len slash bs ≤ length bs = prefix_len-le-length (λ b. not (slash b)) bs in
    subst (IsCut bs) (sym none) (whole, slice_split_none slash bs (λ i d lt. fails_before_first slash bs i d (omega arith))))
    (cases_lt (position_or_len slash bs) (length bs))

pub plain_from : (ys : List ℕ) → ((i : ℕ) → i < length ys → get_or ys i 0 ≢ 47) → Plain ys
plain_from [] none = refl
plain_from (y ∷ ys) none = or_from (slash y) (list_any slash ys) (ne_eqb y 47 (none 0 (omega arith))) (plain_from ys (λ i lt. none (suc i) (omega arith)))

parted : (bs : List ℕ) (k : ℕ) → k < length bs → get_or bs k 0 ≡ 47 → bs ≡ take k bs ++ 47 ∷ drop (suc k) bs
parted bs k within here = sym (take-append-drop k bs) ∙ ap (λ xs. take k bs ++ xs) (drop-cons bs k 0 within ∙ ap (λ b. b ∷ drop (suc k) bs) here)

plain_behind_last : (bs : List ℕ) (k : ℕ) → k < length bs → ((i : ℕ) → k < i → i < length bs → get_or bs i 0 ≢ 47) → Plain (drop (suc k) bs)
plain_behind_last bs k within last = plain_from (drop (suc k) bs) (λ i lt.
    let far : suc k + i < length bs = omega (arith, length-drop (suc k) bs, lt) in
    rw get_or-drop (last (suc k + i) (omega arith) far))

-- what stands before the place that a search from the back answers
pub last_place : (bs : List ℕ) (r : Option ℕ) → MatchOption r ((i : ℕ) → i < length bs → get_or bs i 0 ≢ 47) (λ k. (k < length bs) × (get_or bs k 0 ≡ 47) × ((i : ℕ) → k < i → i < length bs → get_or bs i 0 ≢ 47)) → take (unwrap_or r 0) bs ≡ up_to_last_slash bs
last_place bs None none = sym (no_slash bs (plain_from bs none))
last_place bs (Some k) found =
    sym (ap up_to_last_slash (parted bs k found.0 found.1) ∙ last_slash (take k bs) (drop (suc k) bs) (plain_behind_last bs k found.0 found.2))

-- the segments of a text are the first and those behind the first slash
pub rest_behind : (bs : List ℕ) (r : Option (Bor (List ℕ))) → option_copied r ≡ part_after slash bs → is_some r ≡ true → closed (segments_of bs) ≡ before_first slash bs ∷ Rest (option_copied r)
rest_behind bs None is some = absurd cc
rest_behind bs (Some text) is some = (subst (IsCut bs) (sym is) (cut_cases bs)).2

-- also where no slash stands behind it, and it is no dots
none_behind : (bs : List ℕ) → IsCut bs None → is_dots (before_first slash bs) ≡ false → closed (segments_of bs) ≡ before_first slash bs ∷ []
none_behind bs cut other =
    ap closed cut.1 ∙ ap (λ s. closed (s ∷ [])) (sym cut.0) ∙ ap (λ b. cond b (before_first slash bs ∷ [] ∷ []) (before_first slash bs ∷ [])) other

rest_of_plain : (bs : List ℕ) (r : Option (List ℕ)) → IsCut bs r → is_dots (before_first slash bs) ≡ false → closed (segments_of bs) ≡ before_first slash bs ∷ Rest r
rest_of_plain bs None cut other = none_behind bs cut other
rest_of_plain bs (Some text) cut other = cut.2

pub plain_behind : (bs : List ℕ) (r : Option (List ℕ)) → r ≡ part_after slash bs → is_dots (before_first slash bs) ≡ false → closed (segments_of bs) ≡ before_first slash bs ∷ Rest r
plain_behind bs r is other = rest_of_plain bs r (subst (IsCut bs) (sym is) (cut_cases bs)) other

-- a path that begins with no dots keeps its head
pub no_dots_lead : (bs : List ℕ) → is_dots (before_first slash bs) ≡ false → without_leading_dots (closed (segments_of bs)) ≡ closed (segments_of bs)
no_dots_lead bs other =
    let parts = plain_behind bs (part_after slash bs) refl other in
    ap without_leading_dots parts ∙ ap (λ b. cond b (without_leading_dots (Rest (part_after slash bs))) (before_first slash bs ∷ Rest (part_after slash bs))) other ∙ sym parts

-- and leading dots go
pub dots_lead : (bs text : List ℕ) → Some text ≡ part_after slash bs → is_dots (before_first slash bs) ≡ true → without_leading_dots (closed (segments_of text)) ≡ without_leading_dots (closed (segments_of bs))
dots_lead bs text is dots =
    let parts = (subst (IsCut bs) (sym is) (cut_cases bs)).2 in
    sym (ap without_leading_dots parts ∙ ap (λ b. cond b (without_leading_dots (closed (segments_of text))) (before_first slash bs ∷ closed (segments_of text))) dots)

first_is_plain : (bs : List ℕ) (r : Option (List ℕ)) → IsCut bs r → Plain (before_first slash bs)
first_is_plain bs None cut =
    let all : AllPlain (bs ∷ []) = subst AllPlain cut.1 (plain_segments bs) in
    subst Plain (sym cut.0) all.0
first_is_plain bs (Some text) cut =
    let all : AllPlain (before_first slash bs ∷ segments_of text) = subst AllPlain cut.1 (plain_segments bs) in
    all.0

rest_is_plain : (r : Option (List ℕ)) → AllPlain (Rest r)
rest_is_plain None = tt
rest_is_plain (Some text) = plain_closed (segments_of text) (plain_segments text)

-- the path without its dots, as the buffer grows
pub remove_dots_walk : (path head : List ℕ) (r : Option (List ℕ)) → without_leading_dots (closed (segments_of path)) ≡ closed (segments_of head) → is_dots (before_first slash head) ≡ false → r ≡ part_after slash head → remove_dots path ≡ fold path_with (before_first slash head) (Rest r)
remove_dots_walk path head r led other is =
    ap (λ ss. join_with_byte 47 (kept_of ss)) (led ∙ plain_behind head r is other)
    ∙ kept_path (before_first slash head) (Rest r) (first_is_plain head (part_after slash head) (cut_cases head)) (rest_is_plain r)

-- one segment more
pub path_stepped : (kept new segment text : List ℕ) (r : Option (List ℕ)) → new ≡ path_with kept segment → segment ≡ before_first slash text → closed (segments_of text) ≡ before_first slash text ∷ Rest r → fold path_with new (Rest r) ≡ fold path_with kept (closed (segments_of text))
path_stepped kept new segment text r is front parts =
    ap (λ path. fold path_with path (Rest r)) (is ∙ ap (path_with kept) front) ∙ ap (fold path_with kept) (sym parts)

-- the directory of a path ends with its last slash
no_directory : (ys : List ℕ) → Plain ys → directory_of ys ≡ []
no_directory [] plain = refl
no_directory (y ∷ ys) plain = ap (λ b. cond b (y ∷ directory_of ys) []) plain

directory_behind : (xs ys : List ℕ) → Plain ys → directory_of (xs ++ 47 ∷ ys) ≡ xs ++ 47 ∷ []
directory_behind [] ys plain = ap (λ zs. 47 ∷ zs) (no_directory ys plain)
directory_behind (x ∷ xs) ys plain =
    ap (λ b. cond b (x ∷ directory_of (xs ++ 47 ∷ ys)) []) (any_slash (x ∷ xs) ys) ∙ ap (λ zs. x ∷ zs) (directory_behind xs ys plain)

pub last_directory : (bs : List ℕ) (r : Option ℕ) → MatchOption r ((i : ℕ) → i < length bs → get_or bs i 0 ≢ 47) (λ k. (k < length bs) × (get_or bs k 0 ≡ 47) × ((i : ℕ) → k < i → i < length bs → get_or bs i 0 ≢ 47)) → MatchOption r (directory_of bs ≡ []) (λ k. directory_of bs ≡ take (k + 1) bs)
last_directory bs None none = no_directory bs (plain_from bs none)
last_directory bs (Some k) found =
    ap directory_of (parted bs k found.0 found.1) ∙ directory_behind (take k bs) (drop (suc k) bs) (plain_behind_last bs k found.0 found.2)
    ∙ sym (take_more bs k 0 found.0 ∙ ap (λ b. take k bs ++ b ∷ []) found.1)

-- a range from the start
pub front_range : (bs : List ℕ) (n : ℕ) → slice_range bs 0 n ≡ take n bs
front_range bs n = let same : n - 0 ≡ n = omega arith in ap (λ m. take m bs) same
