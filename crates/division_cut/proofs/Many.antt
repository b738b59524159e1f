-- Once there are many chunks there stay many.
use Rattle.std.proofs.Common.{◌≡◌, ◌≤◌, ◌<◌, ◌+◌, ℕ, arith, List, [], ◌∷◌, ◌++◌, length, Bool, true, false, if◌then◌else◌, Option, Some, None, refl, sym, ap, ◌∙◌, subst}
use Rattle.std.specs.Prelude.{⊤, is_some}
use Rattle.std.proofs.lemmas.Bool.Decides.{nat_tests}
use Rattle.std.proofs.lemmas.List.{length-append}
use Rattle.ld_model.specs.Tree.{Tree, Trees, Pairs}
use Rattle.ctx_types.specs.Expansion.{is_keyword}
use Rattle.node_model.specs.Walk.{To, nowhere, under, in_list, reverse}
use Rattle.node_walk.specs.Found.{graph_made}
use Rattle.op_model.specs.Names.{Name}
use Rattle.op_model.specs.Ops.{Op}
use Rattle.op_model.specs.Noting.{Chunk, spine}
use Rattle.op_laws.proofs.Gathered as gathered
use Rattle.division_model.specs.Dividing.{Mark, opened, begins, continues, Division, spine_noting, with_spine, spine_ended, range_of, range_ended, divide, divide_items}
use Rattle.division_model.specs.ByWeight.{by_weight, are_few}
use Rattle.division_laws.proofs.Kept.{Keeps, divide_keeps, items_keep}
use Rattle.division_cut.specs.Standing.{is_outside}
use Rattle.division_cut.specs.Turns.{turned}

abbrev pub HasMany : Division → Type 0
HasMany d = are_few d.chunks ≡ false

more_are_many : (chunks more : List Chunk) → are_few chunks ≡ false → are_few (chunks ++ more) ≡ false
more_are_many chunks more many = let longer = length-append chunks more in grind (arith, nat_tests, longer, many)

pub same_are_many : (d e : Division) → e.chunks ≡ d.chunks → HasMany d → HasMany e
same_are_many d e same many = ap are_few same ∙ many

pub spine_has_many : (os : List Op) (d : Division) → HasMany d → HasMany (with_spine os d)
spine_has_many [] d many = many
spine_has_many (o ∷ os) d many = more_are_many d.chunks (spine (o ∷ os) ∷ []) many

pub range_has_many : (g : Name) (to : To Name) (ts : List Tree) (d : Division) → HasMany d → HasMany (range_ended g to ts d)
range_has_many g to [] d many = many
range_has_many g to (t ∷ ts) d many = more_are_many (spine_ended d).chunks (range_of g to (t ∷ ts) ∷ []) (spine_has_many d.notes.ops d many)

keeps_many : Keeps HasMany (λ marks. ⊤) (λ ts. ⊤)
keeps_many = record {
  spined = λ d e same many. same_are_many d e same many;
  range = λ g to ts d out taken many. range_has_many g to ts d many;
  none = tt;
  rest = λ m marks good. tt;
  begun = λ marks t good. tt;
  on = λ marks taken t good are. tt;
}

out : (to : To Name) → is_outside to ≡ true → gathered.is_outside to ≡ true
out nowhere is = refl
out (under n p) is = refl
out in_list is = is
out (reverse n p) is = refl

pub divided_has_many : (limit : ℕ) (g : Name) (to : To Name) (t : Tree) (d : Division) → is_outside to ≡ true → HasMany d → HasMany (divide (by_weight limit) g to t d)
divided_has_many limit g to t d outside many = divide_keeps HasMany (λ marks. ⊤) (λ ts. ⊤) keeps_many (by_weight limit) (λ place ts. tt) g to t d (out to outside) many

pub items_have_many : (limit : ℕ) (g : Name) (to : To Name) (marks : List Mark) (number : ℕ) (taken : List Tree) (ts : Trees) (d : Division) → is_outside to ≡ true → HasMany d
    → HasMany (divide_items (by_weight limit) g to marks number taken ts d)
items_have_many limit g to marks number taken ts d outside many =
    items_keep HasMany (λ marks. ⊤) (λ ts. ⊤) keeps_many (by_weight limit) (λ place ts. tt) g to marks number taken ts d (out to outside) tt tt many

pub graph_has_many : (id : Name) (inner : Option Tree) (d : Division) → HasMany d → HasMany (graph_made spine_noting id inner d)
graph_has_many id (Some t) d many = many
graph_has_many id None d many = many
