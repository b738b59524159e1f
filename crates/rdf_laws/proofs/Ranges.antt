-- Ranges of subjects, one behind the other.
use Rattle.std.proofs.Common.{◌≡◌, ◌∙◌, refl, sym, ap, ℕ, ◌+◌, ◌-◌, ◌≤◌, arith, List, [], ◌∷◌, ◌++◌, length}
use Rattle.std.specs.Prelude.{take, drop}
use Rattle.std.proofs.Math.Seq.{take-add}
use Rattle.std.proofs.lemmas.List.{append_assoc, drop-drop, take_all}
use Rattle.ld_model.specs.Tree.{Pairs}
use Rattle.rdf_model.specs.ToRdf.{then_said}
use Rattle.rdf_model.specs.Subjects.{Subject, said, said_of, subjects, within, labels_of}
use Rattle.rdf_laws.proofs.Needed.{next_is_needed, labels_are_counted}

-- Subjects are converted one behind the other.
said_append : (next : ℕ) (xs ys : List Subject) → said next (xs ++ ys) ≡ then_said (said next xs).quads (said (said next xs).next ys)
said_append next [] ys = refl
said_append next (x ∷ xs) ys =
    ap (then_said (said_of next x).quads) (said_append (said_of next x).next xs ys)
    ∙ (λ i. record { next = (said (said next (x ∷ xs)).next ys).next; quads = sym (append_assoc (said_of next x).quads (said (said_of next x).next xs).quads (said (said next (x ∷ xs)).next ys).quads) i })

-- What subjects say with labels from where others end.
from_the_end : (next : ℕ) (xs ys : List Subject) → said next (xs ++ ys) ≡ then_said (said next xs).quads (said (next + labels_of xs) ys)
from_the_end next xs ys =
    let end : (said next xs).next ≡ next + labels_of xs = next_is_needed next xs ∙ ap (λ n. next + n) (sym (labels_are_counted xs)) in
    said_append next xs ys ∙ ap (λ n. then_said (said next xs).quads (said n ys)) end

within_two : (graphs : Pairs) (from middle to : ℕ) → from ≤ middle → middle ≤ to → within from to graphs ≡ within from middle graphs ++ within middle to graphs
within_two graphs from middle to first second =
    let sum : to - from ≡ (middle - from) + (to - middle) = omega arith in
    let behind : from + (middle - from) ≡ middle = omega arith in
    let ss = subjects graphs in
    ap (λ n. take n (drop from ss)) sum
    ∙ take-add (middle - from) (to - middle) (drop from ss)
    ∙ ap (λ zs. take (middle - from) (drop from ss) ++ take (to - middle) zs) (drop-drop (middle - from) from ss ∙ ap (λ n. drop n ss) behind)

pub ranges_are_joined :
    (graphs : Pairs) (next from middle to : ℕ) → from ≤ middle → middle ≤ to
    → said next (within from to graphs) ≡ then_said (said next (within from middle graphs)).quads (said (next + labels_of (within from middle graphs)) (within middle to graphs))
ranges_are_joined graphs next from middle to first second =
    ap (said next) (within_two graphs from middle to first second) ∙ from_the_end next (within from middle graphs) (within middle to graphs)

pub the_whole_is_a_range : (graphs : Pairs) → within 0 (length (subjects graphs)) graphs ≡ subjects graphs
the_whole_is_a_range graphs =
    let ss = subjects graphs in
    let all : length ss - 0 ≡ length ss = omega arith in
    let within_all : length ss ≤ length ss = omega arith in
    ap (λ n. take n ss) all ∙ take_all (length ss) ss within_all
