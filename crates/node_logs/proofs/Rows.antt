-- What is told of nodes one after another: of one node twice, and of two nodes in either order.
use Rattle.std.proofs.Common.{◌≡◌, ℕ, List, [], ◌∷◌, ◌++◌, ◌&&◌, Bool, true, false, Option, Some, None, refl, sym, ap, ap₂, ◌∙◌, subst}
use Rattle.std.specs.Str.{bytes_eq}
use Rattle.ld_model.proofs.Puts.{bytes_eq-exact}
use Rattle.ld_model.proofs.Truths.{both}
use Rattle.ld_model.specs.Tree.{Tree}
use Rattle.node_model.specs.Maps.{MapOf, at, with_at}
use Rattle.node_model.specs.NodeMap.{Node, Graph, Graphs, node_in, graph_in, node_or_new, graph_or_new, new_node, on_graph, with_node, on_node}
use Rattle.node_logs.specs.Log.{node_view, node_told, types_told, index_told, properties_told}
use Rattle.node_logs.specs.Views.{is_row_of, row_told}
use Rattle.node_logs.specs.declared.node.Node as code
use Rattle.node_logs.specs.declared.node.Told.{Told}
use Rattle.node_logs.specs.declared.gathered.Row.{Row}
use Rattle.node_logs.proofs.Maps.{at-with_at, with_at-with_at, at-apart, with_at-apart}
use Rattle.node_logs.proofs.Logs.{types_told-append, properties_told-append}

other_way : (a b : List ℕ) → bytes_eq a b ≡ false → bytes_eq b a ≡ false
other_way a b apart = by_found (bytes_eq b a) refl
  where
    by_found : (f : Bool) → bytes_eq b a ≡ f → f ≡ false
    by_found false is = refl
    by_found true is = absurd (let same = ap₂ bytes_eq (sym (bytes_eq-exact b a is)) (bytes_eq-exact b a is) ∙ is in cc)

with_node-twice : (id : List ℕ) (h f : Node → Node) (nodes : Graph) → with_node id h (with_node id f nodes) ≡ with_node id (λ n. h (f n)) nodes
with_node-twice id h f nodes =
    let n : Node = f (node_in id nodes) in
    ap (λ o. with_at id (h (node_or_new o)) (with_at id n nodes)) (at-with_at id n nodes) ∙ with_at-with_at id (h n) n nodes

on_graph-twice : (g : List ℕ) (h f : Graph → Graph) (graphs : Graphs) → on_graph g h (on_graph g f graphs) ≡ on_graph g (λ nodes. h (f nodes)) graphs
on_graph-twice g h f graphs =
    let nodes : Graph = f (graph_in g graphs) in
    ap (λ o. with_at g (h (graph_or_new o)) (with_at g nodes graphs)) (at-with_at g nodes graphs) ∙ with_at-with_at g (h nodes) nodes graphs

pub on_node-twice : (g id : List ℕ) (h f : Node → Node) (graphs : Graphs) → on_node g id h (on_node g id f graphs) ≡ on_node g id (λ n. h (f n)) graphs
on_node-twice g id h f graphs = on_graph-twice g (with_node id h) (with_node id f) graphs ∙ ap (λ change. on_graph g change graphs) (λ i nodes. with_node-twice id h f nodes i)

with_node-apart : (id other : List ℕ) (h f : Node → Node) (nodes : Graph) → bytes_eq id other ≡ false → with_node id h (with_node other f nodes) ≡ with_node other f (with_node id h nodes)
with_node-apart id other h f nodes apart =
    let n : Node = h (node_in id nodes) in
    let m : Node = f (node_in other nodes) in
    ap (λ o. with_at id (h (node_or_new o)) (with_at other m nodes)) (at-apart id other m nodes apart) ∙ with_at-apart id other n m nodes apart
    ∙ ap (λ o. with_at other (f (node_or_new o)) (with_at id n nodes)) (sym (at-apart other id n nodes (other_way id other apart)))

on_graph-apart : (g other : List ℕ) (h f : Graph → Graph) (graphs : Graphs) → bytes_eq g other ≡ false → on_graph g h (on_graph other f graphs) ≡ on_graph other f (on_graph g h graphs)
on_graph-apart g other h f graphs apart =
    let n : Graph = h (graph_in g graphs) in
    let m : Graph = f (graph_in other graphs) in
    ap (λ o. with_at g (h (graph_or_new o)) (with_at other m graphs)) (at-apart g other m graphs apart) ∙ with_at-apart g other n m graphs apart
    ∙ ap (λ o. with_at other (f (graph_or_new o)) (with_at g n graphs)) (sym (at-apart other g n graphs (other_way g other apart)))

-- Of two nodes, no matter which is told of first.
on_node-apart : (g id h other : List ℕ) (change more : Node → Node) (graphs : Graphs) → (bytes_eq g h && bytes_eq id other) ≡ false → on_node g id change (on_node h other more graphs) ≡ on_node h other more (on_node g id change graphs)
on_node-apart g id h other change more graphs apart = by_graph (bytes_eq g h) refl
  where
    by_graph : (b : Bool) → bytes_eq g h ≡ b → on_node g id change (on_node h other more graphs) ≡ on_node h other more (on_node g id change graphs)
    by_graph false is = on_graph-apart g h (with_node id change) (with_node other more) graphs is
    by_graph true is =
        let there : bytes_eq id other ≡ false = (ap (λ b. b && bytes_eq id other) (sym is) ∙ apart) in
        subst (λ x. on_node g id change (on_node x other more graphs) ≡ on_node x other more (on_node g id change graphs)) (bytes_eq-exact g h is)
        (on_graph-twice g (with_node id change) (with_node other more) graphs
        ∙ ap (λ c. on_graph g c graphs) (λ i nodes. with_node-apart id other change more nodes there i)
        ∙ sym (on_graph-twice g (with_node other more) (with_node id change) graphs))

-- A row, and what is told further.
pub row-has : (r : Option Row) (g id : List ℕ) (graphs : Graphs) → is_row_of g id r ≡ true → row_told r graphs ≡ on_node g id (λ n. n) (row_told r graphs)
row-has None g id graphs is = absurd (cc)
row-has (Some r) g id graphs is =
    let same = both (bytes_eq r.graph g) (bytes_eq r.id id) is in
    subst (λ h. row_told (Some r) graphs ≡ on_node h id (λ n. n) (row_told (Some r) graphs)) (bytes_eq-exact r.graph g same.0)
    (subst (λ x. row_told (Some r) graphs ≡ on_node r.graph x (λ n. n) (row_told (Some r) graphs)) (bytes_eq-exact r.id id same.1)
    (sym (on_node-twice r.graph r.id (λ n. n) (node_told r.node) graphs)))

pub row-apart : (r : Option Row) (g id : List ℕ) (graphs : Graphs) → is_row_of g id r ≡ false → row_told r (on_node g id (λ n. n) graphs) ≡ on_node g id (λ n. n) (row_told r graphs)
row-apart None g id graphs is = refl
row-apart (Some r) g id graphs is = on_node-apart r.graph r.id g id (node_told r.node) (λ n. n) graphs is

pub row-goes_on : (r : Row) (log : code.Node) (g id : List ℕ) (change : Node → Node) (graphs : Graphs) → (bytes_eq r.graph g && bytes_eq r.id id) ≡ true → ((n : Node) → node_told log n ≡ change (node_told r.node n)) → on_node r.graph r.id (node_told log) graphs ≡ on_node g id change (on_node r.graph r.id (node_told r.node) graphs)
row-goes_on r log g id change graphs is more =
    let same = both (bytes_eq r.graph g) (bytes_eq r.id id) is in
    subst (λ h. on_node r.graph r.id (node_told log) graphs ≡ on_node h id change (on_node r.graph r.id (node_told r.node) graphs)) (bytes_eq-exact r.graph g same.0)
    (subst (λ x. on_node r.graph r.id (node_told log) graphs ≡ on_node r.graph x change (on_node r.graph r.id (node_told r.node) graphs)) (bytes_eq-exact r.id id same.1)
    (ap (λ f. on_node r.graph r.id f graphs) (λ i n. more n i) ∙ sym (on_node-twice r.graph r.id change (node_told r.node) graphs)))

-- A log stands for what a new node is once it was told.
index-told-none : (i : Option (List ℕ)) → i ≡ index_told i None
index-told-none (Some i) = refl
index-told-none None = refl

pub view-told : (n : code.Node) → node_view n ≡ node_told n new_node
view-told n = ap (λ i. record { types = types_told n.types.items []; index = i; properties = properties_told n.told.items [] }) (index-told-none n.index)

-- A log behind another one.
pub told-behind : (n log : code.Node) (types : List (List ℕ)) (index : Option (List ℕ)) (told : List Told) → types ≡ n.types.items ++ log.types.items → index ≡ index_told log.index n.index → told ≡ n.told.items ++ log.told.items → record { types = types_told types []; index = index; properties = properties_told told [] } ≡ node_told log (node_view n)
told-behind n log types index told types-are index-is told-is =
    let made : List (List ℕ) → Option (List ℕ) → MapOf (List Tree) → Node = λ ts i ps. record { types = ts; index = i; properties = ps } in
    ap (λ ts. made ts index (properties_told told [])) (ap (λ l. types_told l []) types-are ∙ types_told-append n.types.items log.types.items [])
    ∙ ap₂ (made (types_told log.types.items (types_told n.types.items []))) index-is (ap (λ l. properties_told l []) told-is ∙ properties_told-append n.told.items log.told.items [])
