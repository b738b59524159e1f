-- The words of a container mapping, put into a shape one after another.
use Rattle.std.proofs.Common.{◌≡◌, ◌+◌, Bool, true, false, cond, List, [], ◌∷◌, Option, Some, None, ◌↔◌, ◌⊎◌, inl, inr, count_by, ◌≤◌, add-zero, refl, sym, ap, ◌∙◌, arith}
use Rattle.std.specs.Option.{option_and_then}
use Rattle.std.proofs.lemmas.List.Sums.{sum_by-cons}
use Rattle.case_tables.specs.declared.keyword.Keyword.{Keyword}
use Rattle.case_tables.specs.declared.keyword.Keyword.TheVariants.{Base, Graph, Id, Index, Language, List as ListWord, Set, TypeWord}
use Rattle.case_tables.specs.declared.shape.Shape.{Shape}
use Rattle.case_tables.specs.Shape.{has, count, is_word, HasWords, with_word, with_words}

-- a word that is put adds itself, and nothing else
abbrev pub Adds : Shape → Keyword → Option Shape → Type 0
Adds s w None = (has s w ≡ true) ⊎ ((t : Shape) → has t w ≡ false)
Adds s w (Some t) = (k : Keyword) → count (has t k) ≡ count (has s k) + count (is_word k w)

empty_flag : (b : Bool) → b ≡ false → count b ≡ 0
empty_flag b h = rw h refl

put_in : (s t : Shape) (w : Keyword) (b : Bool) → b ≡ has s w → ((has s w ≡ false) → (k : Keyword) → count (has t k) ≡ count (has s k) + count (is_word k w)) → Adds s w (cond b None (Some t))
put_in s t w true e h = inl (sym e)
put_in s t w false e h = h (sym e)

put_graph : (s : Shape) → s.graph ≡ false → (k : Keyword) → count (has (record s { graph = true }) k) ≡ count (has s k) + count (is_word k Graph)
put_graph s free Graph = rw free refl
put_graph s free k = sym (add-zero (count (has s k)))

put_id : (s : Shape) → s.id ≡ false → (k : Keyword) → count (has (record s { id = true }) k) ≡ count (has s k) + count (is_word k Id)
put_id s free Id = rw free refl
put_id s free k = sym (add-zero (count (has s k)))

put_index : (s : Shape) → s.index ≡ false → (k : Keyword) → count (has (record s { index = true }) k) ≡ count (has s k) + count (is_word k Index)
put_index s free Index = rw free refl
put_index s free k = sym (add-zero (count (has s k)))

put_language : (s : Shape) → s.language ≡ false → (k : Keyword) → count (has (record s { language = true }) k) ≡ count (has s k) + count (is_word k Language)
put_language s free Language = rw free refl
put_language s free k = sym (add-zero (count (has s k)))

put_list : (s : Shape) → s.list ≡ false → (k : Keyword) → count (has (record s { list = true }) k) ≡ count (has s k) + count (is_word k ListWord)
put_list s free ListWord = rw free refl
put_list s free k = sym (add-zero (count (has s k)))

put_set : (s : Shape) → s.set ≡ false → (k : Keyword) → count (has (record s { set = true }) k) ≡ count (has s k) + count (is_word k Set)
put_set s free Set = rw free refl
put_set s free k = sym (add-zero (count (has s k)))

put_types : (s : Shape) → s.types ≡ false → (k : Keyword) → count (has (record s { types = true }) k) ≡ count (has s k) + count (is_word k TypeWord)
put_types s free TypeWord = rw free refl
put_types s free k = sym (add-zero (count (has s k)))

adds : (s : Shape) (w : Keyword) → Adds s w (with_word s w)
adds s Graph = put_in s (record s { graph = true }) Graph s.graph refl (put_graph s)
adds s Id = put_in s (record s { id = true }) Id s.id refl (put_id s)
adds s Index = put_in s (record s { index = true }) Index s.index refl (put_index s)
adds s Language = put_in s (record s { language = true }) Language s.language refl (put_language s)
adds s ListWord = put_in s (record s { list = true }) ListWord s.list refl (put_list s)
adds s Set = put_in s (record s { set = true }) Set s.set refl (put_set s)
adds s TypeWord = put_in s (record s { types = true }) TypeWord s.types refl (put_types s)
adds s w = inr (λ t. refl)

count_by-cons : (p : Keyword → Bool) (w : Keyword) (ws : List Keyword) → count_by p (w ∷ ws) ≡ count (p w) + count_by p ws
count_by-cons p w ws = sum_by-cons (λ k. cond (p k) 1 0) w ws

is_word-same : (w : Keyword) → is_word w w ≡ true
is_word-same Base = refl
is_word-same w = refl

at_most_one : (b : Bool) → count b ≤ 1
at_most_one true = omega arith
at_most_one false = omega arith

-- what the words have put: the shape has them and what it had before
abbrev pub Puts : List Keyword → Shape → Shape → Type 0
Puts ws s t = (k : Keyword) → count (has t k) ≡ count (has s k) + count_by (is_word k) ws

puts_more : (w : Keyword) (ws : List Keyword) (s t : Shape) (o : Option Shape) → Adds s w o → ((u : Shape) → with_words ws u ≡ Some t → Puts ws u t) → option_and_then (with_words ws) o ≡ Some t → Puts (w ∷ ws) s t
puts_more w ws s t None a rest h k = absurd cc
puts_more w ws s t (Some u) a rest h k =
    let one = a k in let more = rest u h k in
    omega (arith, one, more, count_by-cons (is_word k) w ws)

with_wordsed : (ws : List Keyword) (s t : Shape) → with_words ws s ≡ Some t → Puts ws s t
with_wordsed [] s t h k = let same : s ≡ t = cc in rw same (sym (add-zero (count (has t k))))
with_wordsed (w ∷ ws) s t h k = puts_more w ws s t (with_word s w) (adds s w) (λ u e. with_wordsed ws u t e) h k

same_count : (a b : Bool) → count a ≡ count b → a ≡ b
same_count true true h = refl
same_count true false h = absurd (omega (arith, h))
same_count false true h = absurd (omega (arith, h))
same_count false false h = refl

shape_of : Bool → Bool → Bool → Bool → Bool → Bool → Bool → Shape
shape_of a b c d e f g = record { graph = a; id = b; index = c; language = d; list = e; set = f; types = g }

same_shape : (s t : Shape) → ((k : Keyword) → count (has s k) ≡ count (has t k)) → s ≡ t
unfolding shape_of
same_shape s t h =
    let same_graph : s.graph ≡ t.graph = same_count s.graph t.graph (h Graph) in
    let same_id : s.id ≡ t.id = same_count s.id t.id (h Id) in
    let same_index : s.index ≡ t.index = same_count s.index t.index (h Index) in
    let same_language : s.language ≡ t.language = same_count s.language t.language (h Language) in
    let same_list : s.list ≡ t.list = same_count s.list t.list (h ListWord) in
    let same_set : s.set ≡ t.set = same_count s.set t.set (h Set) in
    let same_types : s.types ≡ t.types = same_count s.types t.types (h TypeWord) in
    let same : shape_of s.graph s.id s.index s.language s.list s.set s.types ≡ shape_of t.graph t.id t.index t.language t.list t.set t.types = cc in
    same

with_wordss_more : (w : Keyword) (ws : List Keyword) (s t : Shape) (o : Option Shape) → Adds s w o → ((u : Shape) → Puts ws u t → with_words ws u ≡ Some t) → Puts (w ∷ ws) s t → option_and_then (with_words ws) o ≡ Some t
with_wordss_more w ws s t None (inl had) rest h =
    let there = h w in let small = at_most_one (has t w) in
    absurd (omega (arith, there, small, ap count had, ap count (is_word-same w), count_by-cons (is_word w) w ws))
with_wordss_more w ws s t None (inr none) rest h =
    let there = h w in
    absurd (omega (arith, there, ap count (none t), ap count (is_word-same w), count_by-cons (is_word w) w ws))
with_wordss_more w ws s t (Some u) a rest h =
    rest u (λ k. let one = a k in let all = h k in omega (arith, one, all, count_by-cons (is_word k) w ws))

with_wordss : (ws : List Keyword) (s t : Shape) → Puts ws s t → with_words ws s ≡ Some t
with_wordss [] s t h = ap Some (same_shape s t (λ k. sym (h k ∙ add-zero (count (has s k)))))
with_wordss (w ∷ ws) s t h = with_wordss_more w ws s t (with_word s w) (adds s w) (λ u e. with_wordss ws u t e) h

none_has_nothing : (k : Keyword) → has (shape_of false false false false false false false) k ≡ false
unfolding shape_of
none_has_nothing Base = refl
none_has_nothing k = refl

-- the words make a shape out of none just where it has them
pub with_words_iff : (ws : List Keyword) (none s : Shape) → none ≡ record { graph = false; id = false; index = false; language = false; list = false; set = false; types = false } → (with_words ws none ≡ Some s) ↔ HasWords ws s
unfolding shape_of
with_words_iff ws none s is =
    let nothing : (k : Keyword) → count (has none k) ≡ 0 = λ k. rw is (ap count (none_has_nothing k)) in (
      λ h k. let puts = with_wordsed ws none s h k in let zero_there = nothing k in omega (arith, puts, zero_there),
      λ h. with_wordss ws none s (λ k. let puts = h k in let zero_there = nothing k in omega (arith, puts, zero_there)),
    )
