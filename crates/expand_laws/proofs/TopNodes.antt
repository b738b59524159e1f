-- What stands at the top of a graph.
use Rattle.std.proofs.Common.{◌≡◌, List, [], ◌∷◌, Bool, true, false, Option, Some, None, Ok, refl, sym, ap, subst, codes, IfOk, if◌then◌else◌}
use Rattle.std.specs.Option.{option_and_then}
use Rattle.std.specs.List.{AllByRecursion}
use Rattle.std.specs.Str.{bytes_eq}
use Rattle.ld_model.specs.Tree.{Tree, null, truth, whole, one_one, text, array, object, Members, no_members, member, Pairs, trees_of, tree_list, tree_list-trees_of}
use Rattle.ctx_types.specs.Context.{Text, definition_at}
use Rattle.expand_model.specs.Scope.{Options, Scope, container_of, as_items, is_top, is_map, members_in}
use Rattle.expand_model.specs.Indexes.{has_lists, index_added}
use Rattle.expand_model.specs.Rules.{At, scalar_in, scalar_under, scalar, scalar_at, lists_at, spliced, finished, finished_at, start, whole_items}
use Rattle.expand_model.specs.Expand.{element, document}
use Rattle.expand_laws.specs.Statements.{IsNodeObject}
use Rattle.expand_laws.specs.Laws.{OnlyNodeObjectsStandAtTheTop}
use Rattle.expand_laws.proofs.Steps.{never, after, of_any, of_both, of_case, of_value, of_located, all_map, all_append}
use Rattle.expand_laws.proofs.TopEntries.{IsTopNode, IsReversal, is_under_reverse, AllFit, property_added_fits, property_told_fits, keyword_told_fits, graph_added_fits, included_added_fits, list_added_fits, set_added_fits, reverse_map_added_fits}
use Rattle.expand_laws.proofs.Walk.{Rules, element_comes}
use Rattle.expand_laws.proofs.TopFinish.{finished_top, finished_reversed}

abbrev AreTopNodes : List Tree → Type 0
AreTopNodes ts = AllByRecursion IsTopNode ts

-- what a value comes to under this property
record Comes (t : Tree) (p : Option Text) (v : Tree) : Type 0 where
  top : is_top p ≡ true → AreTopNodes (as_items v)
  reverse : is_map t ≡ true → is_under_reverse p ≡ true → AllByRecursion IsReversal (members_in v)

-- scalars
scalar_top : (o : Options) (p : Option Text) (t : Tree) (a : Scope) → IfOk (scalar_under o p t a) (λ v. is_top p ≡ true → AreTopNodes (as_items v))
scalar_top o None t a = λ top. tt
scalar_top o (Some p) t a = by (is_top (Some p))
  where
    by : (b : Bool) → IfOk (if b then Ok null else scalar_in o p t a) (λ v. b ≡ true → AreTopNodes (as_items v))
    by true = λ top. tt
    by false = of_any (λ v. false ≡ true → AreTopNodes (as_items v)) (scalar_in o p t a) (λ v top. absurd (cc))

scalar_comes : (o : Options) (t : Tree) (a : At) → is_map t ≡ false → IfOk (scalar_at o t a) (Comes t a.scope.property)
unfolding scalar
scalar_comes o t a none =
    of_located (Comes t a.scope.property) a.place (scalar_under o a.scope.property t a.scope)
    (of_both (λ v. is_top a.scope.property ≡ true → AreTopNodes (as_items v)) (λ v. Unit {0}) (Comes t a.scope.property) (scalar_under o a.scope.property t a.scope)
    (scalar_top o a.scope.property t a.scope) (of_any (λ v. Unit {0}) (scalar_under o a.scope.property t a.scope) (λ v. tt))
    (λ v tops _. record { top = tops; reverse = λ map under. never (is_map t) none map }))

-- items of an array
no_lists : (a : Scope) → is_top a.property ≡ true → has_lists a ≡ false
no_lists a top = ap (λ b. (container_of (if b then None else option_and_then (λ t. definition_at t a.context.current.terms) a.property)).list) top

spliced_top : (lists : Bool) (v : Tree) → lists ≡ false → AreTopNodes (as_items v) → AreTopNodes (spliced lists v)
unfolding spliced
spliced_top true v off tops = absurd (cc)
spliced_top false null off tops = tops
spliced_top false (array ts) off tops = tops
spliced_top false (truth b) off tops = tops
spliced_top false (whole n) off tops = tops
spliced_top false one_one off tops = tops
spliced_top false (text s) off tops = tops
spliced_top false (object ms) off tops = tops

-- a map, from what its entries came to
finished_comes : (ms : Members) (a : At) (r : Pairs) → AllFit a.scope.property r → IfOk (finished_at a r) (Comes (object ms) a.scope.property)
finished_comes ms a r all =
    of_located (Comes (object ms) a.scope.property) a.place (finished r a.scope.property)
    (of_both (λ v. is_top a.scope.property ≡ true → AreTopNodes (as_items v)) (λ v. is_under_reverse a.scope.property ≡ true → AllByRecursion IsReversal (members_in v)) (Comes (object ms) a.scope.property) (finished r a.scope.property)
    (of_case (is_top a.scope.property ≡ true) (λ v. AreTopNodes (as_items v)) (finished r a.scope.property) (λ top. finished_top a.scope.property top r all))
    (of_case (is_under_reverse a.scope.property ≡ true) (λ v. AllByRecursion IsReversal (members_in v)) (finished r a.scope.property) (λ under. finished_reversed a.scope.property under r all))
    (λ v tops reversals. record { top = tops; reverse = λ map under. reversals under }))

-- the rules
abbrev AreOut : At → List Tree → Type 0
AreOut a out = is_top a.scope.property ≡ true → AreTopNodes out

nodes_in : (v : Tree) → AreTopNodes (as_items v) → AllByRecursion IsNodeObject (as_items v)
nodes_in v tops = all_map IsTopNode IsNodeObject (as_items v) (λ t is. is.node) tops

rules_of_top : (o : Options) → Rules o Comes AreOut AllFit (λ out. Unit {0})
rules_of_top o =
    record {
      nothing = λ p. record { top = λ top. tt; reverse = λ map under. tt };
      scalars = λ t a some none. scalar_comes o t a none;
      no_items = λ a top. tt;
      next_item = λ t a out v come are top. all_append IsTopNode out (spliced (lists_at a) v) (are top) (spliced_top (lists_at a) v (no_lists a.scope top) (come.top top));
      arrays = λ ts a rs are. record { top = λ top. subst AreTopNodes (sym (tree_list-trees_of rs)) (are top); reverse = λ map under. tt };
      maps = λ ms a r all. finished_comes ms a r all;
      no_entries = λ p. tt;
      told = λ p c types json w t r all. keyword_told_fits p c types json w t r all;
      graphs = λ p t v r forward come all. graph_added_fits p v r forward (nodes_in v (come.top refl)) all;
      includes = λ p t v r forward come all. included_added_fits p v r forward all;
      lists = λ p t v r forward come all. list_added_fits p v r forward all;
      sets = λ p t v r forward come all. set_added_fits p v r forward come.top all;
      reverses = λ p t v r map come all. reverse_map_added_fits p v r (come.reverse map refl) all;
      properties_told = λ p c d i t r has all. property_told_fits p c d i t r has all;
      properties = λ p q d i t v r has come all. property_added_fits p d i v r has all;
      indexed = λ p d i out r has _ all. property_added_fits p d i (array (trees_of out)) r has all;
      no_indexes = tt;
      indexes = λ c d l i q t v out come _. of_any (λ out. Unit {0}) (index_added c d l i t v out) (λ out. tt);
    }

-- the whole document
nodes_of : (ts : List Tree) → AreTopNodes ts → AllByRecursion IsNodeObject ts
nodes_of ts tops = all_map IsTopNode IsNodeObject ts (λ t is. is.node) tops

whole_top : (v : Tree) → AreTopNodes (as_items v) → AllByRecursion IsNodeObject (whole_items v)
whole_top null tops = tt
whole_top (truth b) tops = nodes_of (as_items (truth b)) tops
whole_top (whole n) tops = nodes_of (as_items (whole n)) tops
whole_top one_one tops = nodes_of (as_items one_one) tops
whole_top (text s) tops = nodes_of (as_items (text s)) tops
whole_top (array ts) tops = nodes_of (tree_list ts) tops
whole_top (object no_members) tops = (tops.0.node, tt)
whole_top (object (member k t (member l u ms))) tops = (tops.0.node, tt)
whole_top (object (member k t no_members)) tops = by (bytes_eq k (codes "@graph")) refl
  where
    by : (b : Bool) → bytes_eq k (codes "@graph") ≡ b → AllByRecursion IsNodeObject (if b then as_items t else object (member k t no_members) ∷ [])
    by true same = tops.0.graph.0 same
    by false other = (tops.0.node, tt)

expands_to_nodes : (o : Options) (t : Tree) → IfOk (document o t) (AllByRecursion IsNodeObject)
unfolding document
expands_to_nodes o t =
    after (Comes t None) (AllByRecursion IsNodeObject) (element o t (start o)) _ (element_comes o Comes AreOut AllFit (λ out. Unit {0}) (rules_of_top o) t (start o)) (λ v come. whole_top v (come.top refl))

pub only_node_objects_stand_at_the_top : OnlyNodeObjectsStandAtTheTop
only_node_objects_stand_at_the_top o t ts is = of_value (AllByRecursion IsNodeObject) (document o t) ts (expands_to_nodes o t) is
