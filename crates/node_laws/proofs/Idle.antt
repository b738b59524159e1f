-- Steps that do nothing. Beside them, what stands for each other is what the other steps keep true.
use Rattle.std.proofs.Common.{List, [], ◌∷◌}
use Rattle.std.specs.Prelude.{⊤}
use Rattle.node_model.specs.Walk.{Steps, To, nowhere, under, in_list, reverse}

abbrev pub idle : Steps ⊤ ⊤ ⊤
idle = record {
  named = λ x s. (tt, tt);
  node = λ g id s. (tt, tt);
  property = λ g id x s. (tt, tt);
  graph = λ g s. tt;
  value = λ t. tt;
  reference = λ n. tt;
  list = λ es. tt;
  add = λ g id p e s. tt;
  append = λ g id p es s. tt;
  type_ = λ g id n s. tt;
  index = λ g id x s. tt;
}

abbrev pub idle_place : {N : Type 0} → To N → To ⊤
idle_place nowhere = nowhere
idle_place (under n p) = under tt tt
idle_place in_list = in_list
idle_place (reverse n p) = reverse tt tt

abbrev pub idle_items : {E : Type 0} → List E → List ⊤
idle_items [] = []
idle_items (e ∷ es) = tt ∷ idle_items es
