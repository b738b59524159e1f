-- Names that are made one after another.
use Rattle.std.proofs.Common.{◌≡◌, List, [], ◌∷◌, Some, refl, sym, ap, ◌∙◌}
use Rattle.std.proofs.lemmas.List.{append_assoc}
use Rattle.ld_model.specs.Tree.{Tree, Trees, null, truth, whole, one_one, text, array, object, tree, trees_of}
use Rattle.node_model.specs.Walk.{Steps, names, text_in, texts_in}
use Rattle.node_walk.specs.Found.{more_names, next_name}

-- The next name and those after it.
names_next : {S N E : Type 0} (p : Steps S N E) (ns : List N) (t : Tree) (ts : Trees) (s : S)
    → more_names p ns (texts_in (tree t ts)) s ≡ (let n = next_name p ns (text_in (Some t)) s in more_names p n.0 (texts_in ts) n.1)
names_next p ns null ts s = refl
names_next p ns (truth b) ts s = refl
names_next p ns (whole n) ts s = refl
names_next p ns one_one ts s = refl
names_next p ns (text t) ts s =
    let made = p.named t s in
    let rest = names p (texts_in ts) made.1 in
    λ i. (sym (append_assoc ns (made.0 ∷ []) rest.0) i, rest.1)
names_next p ns (array us) ts s = refl
names_next p ns (object ms) ts s = refl

-- Once the name of the first tree was made, those of the others are left.
pub names_step : {S N E : Type 0} (p : Steps S N E) (ns more : List N) (t : Tree) (ts all : List Tree) (s next : S)
    → (more, next) ≡ next_name p ns (text_in (Some t)) s → all ≡ t ∷ ts
    → more_names p more (texts_in (trees_of ts)) next ≡ more_names p ns (texts_in (trees_of all)) s
names_step p ns more t ts all s next made parts =
    ap (λ n. more_names p n.0 (texts_in (trees_of ts)) n.1) made
    ∙ sym (names_next p ns t (trees_of ts) s)
    ∙ ap (λ l. more_names p ns (texts_in (trees_of l)) s) (sym parts)
