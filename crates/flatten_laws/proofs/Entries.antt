-- The entries of a property of a node, after each step of generation.
use Rattle.std.proofs.Common.{◌≡◌, ℕ, List, Bool, true, false, cond, ◌&&◌, Option, Some, None, refl, sym, ap, ap₂, ◌∙◌, subst}
use Rattle.std.specs.Str.{bytes_eq}
use Rattle.ld_model.specs.Tree.{Tree, object, Pairs, members_of, member_list-members_of, member_at, put, tree_list-trees_of}
use Rattle.ld_model.specs.NodeMap.{new_node, node_or_new, node_at, with_node_by, with_node, entries_of, with_entries, changed}
use Rattle.ld_model.proofs.Puts.{bytes_eq-exact, bytes_eq-sym, member_at-put, member_at-put_other}

abbrev pub entries_at : List ℕ → List ℕ → Pairs → List Tree
entries_at id property nodes = entries_of (member_at property (node_at id nodes))

-- One property of a node.
entries_same : (p : List ℕ) (f : List Tree → List Tree) (ms : Pairs) → entries_of (member_at p (with_entries p f ms)) ≡ f (entries_of (member_at p ms))
unfolding with_entries
entries_same p f ms = ap entries_of (member_at-put p _ ms) ∙ tree_list-trees_of _

entries_other : (r p : List ℕ) (f : List Tree → List Tree) (ms : Pairs) → bytes_eq r p ≡ false → entries_of (member_at r (with_entries p f ms)) ≡ entries_of (member_at r ms)
unfolding with_entries
entries_other r p f ms apart = ap entries_of (member_at-put_other r p _ ms apart)

-- One node.
node_at-put : (id : List ℕ) (ms nodes : Pairs) → node_at id (put id (object (members_of ms)) nodes) ≡ ms
node_at-put id ms nodes = ap (node_or_new id) (member_at-put id (object (members_of ms)) nodes) ∙ member_list-members_of ms

node_at-put_other : (q id : List ℕ) (t : Tree) (nodes : Pairs) → bytes_eq q id ≡ false → node_at q (put id t nodes) ≡ node_at q nodes
node_at-put_other q id t nodes apart = ap (node_or_new q) (member_at-put_other q id t nodes apart)

pub node_at-changed : (id p : List ℕ) (f : List Tree → List Tree) (nodes : Pairs) → node_at id (changed id p f nodes) ≡ with_entries p f (node_at id nodes)
unfolding changed
node_at-changed id p f nodes = node_at-put id (with_entries p f (node_at id nodes)) nodes

pub node_at-changed_other : (q id p : List ℕ) (f : List Tree → List Tree) (nodes : Pairs) → bytes_eq q id ≡ false → node_at q (changed id p f nodes) ≡ node_at q nodes
unfolding changed
node_at-changed_other q id p f nodes apart = node_at-put_other q id _ nodes apart

changed_by : (id p q r : List ℕ) (f : List Tree → List Tree) (nodes : Pairs) (b c : Bool) → bytes_eq id q ≡ b → bytes_eq p r ≡ c → entries_at q r (changed id p f nodes) ≡ cond (b && c) (f (entries_at q r nodes)) (entries_at q r nodes)
changed_by id p q r f nodes true true same_node same =
    ap₂ (λ x y. entries_at q r (changed x y f nodes)) (bytes_eq-exact id q same_node) (bytes_eq-exact p r same)
    ∙ ap (λ ms. entries_of (member_at r ms)) (node_at-changed q r f nodes)
    ∙ entries_same r f (node_at q nodes)
changed_by id p q r f nodes true false same_node apart =
    ap (λ x. entries_at q r (changed x p f nodes)) (bytes_eq-exact id q same_node)
    ∙ ap (λ ms. entries_of (member_at r ms)) (node_at-changed q p f nodes)
    ∙ entries_other r p f (node_at q nodes) (bytes_eq-sym r p ∙ apart)
changed_by id p q r f nodes false c apart same =
    ap (λ ms. entries_of (member_at r ms)) (node_at-changed_other q id p f nodes (bytes_eq-sym q id ∙ apart))

pub entries_at-changed : (id p q r : List ℕ) (f : List Tree → List Tree) (nodes : Pairs) → entries_at q r (changed id p f nodes) ≡ cond (bytes_eq id q && bytes_eq p r) (f (entries_at q r nodes)) (entries_at q r nodes)
entries_at-changed id p q r f nodes = changed_by id p q r f nodes (bytes_eq id q) (bytes_eq p r) refl refl

-- A node that is made has nothing but its id, as one that is missing.
made_by : (q id : List ℕ) (nodes : Pairs) (b : Bool) → bytes_eq q id ≡ b → member_at id nodes ≡ None → node_at q (put id (object (members_of (new_node id))) nodes) ≡ node_at q nodes
made_by q id nodes true same missing =
    subst (λ x. node_at x (put id (object (members_of (new_node id))) nodes) ≡ node_at x nodes) (sym (bytes_eq-exact q id same))
    (node_at-put id (new_node id) nodes ∙ ap (node_or_new id) (sym missing))
made_by q id nodes false apart missing = node_at-put_other q id _ nodes apart

with_node_by-is : (q id : List ℕ) (nodes : Pairs) (o : Option Tree) → member_at id nodes ≡ o → node_at q (with_node_by o id nodes) ≡ node_at q nodes
with_node_by-is q id nodes (Some t) is = refl
with_node_by-is q id nodes None is = made_by q id nodes (bytes_eq q id) refl is

pub node_at-with_node : (q id : List ℕ) (nodes : Pairs) → node_at q (with_node id nodes) ≡ node_at q nodes
unfolding with_node
node_at-with_node q id nodes = with_node_by-is q id nodes (member_at id nodes) refl
