-- A node map whose only graph is the default one; and the default graph taken out of a node map.
use Rattle.std.proofs.Common.{◌≡◌, [], ◌∷◌, Bool, true, false, cond, refl, ◌∙◌}
use Rattle.std.specs.Str.{bytes_eq}
use Rattle.std.specs.Map.{set_value}
use Rattle.std.specs.BTreeMap.{is_at}
use Rattle.std.proofs.lemmas.Map.Text.{is_eq-slice_cmp}
use Rattle.ld_model.specs.Tree.{Pairs, null, byte_order}
use Rattle.ld_model.specs.Keys.{default_graph}
use Rattle.ld_model.specs.Flatten.{graph_into, graphs_into}
use Rattle.ld_model.proofs.Puts.{bytes_eq-sym}
use Rattle.flatten_out.specs.Only.{is_only_default}

pub only_default : (graphs nodes : Pairs) → is_only_default graphs ≡ true → graphs_into graphs nodes ≡ nodes
only_default [] nodes only = refl
only_default (m ∷ ms) nodes only = by_name (bytes_eq m.0 default_graph) refl (only_default ms nodes)
  where
    by_name : (b : Bool) → bytes_eq m.0 default_graph ≡ b → (is_only_default ms ≡ true → graphs_into ms nodes ≡ nodes) → graphs_into ms (cond b nodes (graph_into m nodes)) ≡ nodes
    by_name true is rest = let more : is_only_default ms ≡ true = (rw is at only) in rest more
    by_name false is rest = absurd (let no : false ≡ true = (rw is at only) in cc)

-- What the default graph has makes no difference to the others.
pub without_default : (graphs nodes : Pairs) → graphs_into (set_value (is_at (byte_order default_graph)) graphs null) nodes ≡ graphs_into graphs nodes
without_default [] nodes = refl
without_default (m ∷ ms) nodes = by_name (bytes_eq m.0 default_graph) refl (without_default ms)
  where
    at_default : is_at (byte_order default_graph) m.0 ≡ bytes_eq m.0 default_graph
    at_default = is_eq-slice_cmp default_graph m.0 ∙ bytes_eq-sym default_graph m.0

    by_name : (b : Bool) → bytes_eq m.0 default_graph ≡ b → ((ns : Pairs) → graphs_into (set_value (is_at (byte_order default_graph)) ms null) ns ≡ graphs_into ms ns)
        → graphs_into (set_value (is_at (byte_order default_graph)) (m ∷ ms) null) nodes ≡ graphs_into (m ∷ ms) nodes
    by_name true is rest = let there = at_default ∙ is in rw (there, is) refl
    by_name false is rest = let there = at_default ∙ is in rw (there, is) (rest (graph_into m nodes))
