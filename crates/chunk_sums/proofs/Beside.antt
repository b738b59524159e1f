-- Steps that tell what operations say answer alike to steps that note them.
use Rattle.std.proofs.Common.{◌≡◌, ℕ, ◌+◌, List, [], ◌∷◌, Bool, true, false, if◌then◌else◌, Option, Some, None, refl, sym, ap, ap₂, ◌∙◌}
use Rattle.ld_model.specs.Tree.{Tree, Trees, array, trees_of}
use Rattle.ld_model.specs.Label.{is_blank}
use Rattle.node_model.specs.Walk.{To, nowhere, under, in_list, reverse, At, walk, walk_all}
use Rattle.node_laws.proofs.Likeness.{Likeness, Pairwise, Reach, Toward, AnswerAlike, lasts_here}
use Rattle.node_laws.proofs.Alike.{all_beside}
use Rattle.op_model.specs.Names.{Name, source, fresh, name_of}
use Rattle.op_model.specs.Ops.{Entry, reference, list, entries_of, Op, use_label, ensure_graph, ensure_node, ensure_property, add_entry, append_list, add_type, set_index}
use Rattle.op_model.specs.Noting.{Notes, note, noting, no_notes}
use Rattle.subtree_summary.specs.OnTheWay.{SoFar}
use Rattle.chunk_sums.specs.Summing.{OnTheWay, told, summing, on_the_way, then_said, summed}
use Rattle.chunk_sums.proofs.Told.{then_said-last, summed-note, nothing_yet}

-- Member by member equal is equal.
pairwise_same : {X : Type 0} (xs ys : List X) → Pairwise (λ (x y : X). x ≡ y) xs ys → xs ≡ ys
pairwise_same [] [] is = refl
pairwise_same (x ∷ xs) (y ∷ ys) is = ap₂ (λ z zs. z ∷ zs) is.0 (pairwise_same xs ys is.1)
pairwise_same [] (y ∷ ys) is = absurd is
pairwise_same (x ∷ xs) [] is = absurd is

-- In the chunk with this number, where this was said before.
module _ (chunk : ℕ) (before : SoFar) where
  abbrev pub Stands : OnTheWay → Notes → Type 0
  Stands s n = (s ≡ summed before n) × (n.chunk ≡ chunk)

  abbrev pub summed_alike : Likeness OnTheWay Name Entry Notes Name Entry
  summed_alike = record {
    states = Stands;
    names = λ s n m. n ≡ m;
    properties = λ s n m. n ≡ m;
    entries = λ s e f. e ≡ f;
  }

  reach : (s r : OnTheWay) (n : Notes) → Stands r n → Reach summed_alike s r n
  reach s r n is = record { states = is; lasts = record { names = λ a b same. same; properties = λ a b same. same; entries = λ a b same. same } }

  -- One and the same operation is told and noted.
  told_reach : (o p : Op) (s : OnTheWay) (n : Notes) → o ≡ p → Stands s n → Reach summed_alike s (told o s) (note p n)
  told_reach o p s n same is = reach s (told o s) (note p n) (ap₂ told same is.0 ∙ sym (summed-note before p n), is.1)

  named_alike : (x : List ℕ) (s : OnTheWay) (n : Notes) → Stands s n → Reach summed_alike s (summing.named x s).1 (noting.named x n).1
  named_alike x s n is = by_form (is_blank x)
    where
      by_form : (b : Bool) → Reach summed_alike s (if b then told (use_label (source x)) s else s) (if b then note (use_label (source x)) n else n)
      by_form true = told_reach (use_label (source x)) (use_label (source x)) s n refl is
      by_form false = reach s s n is

  node_alike : (g h : Name) (id : Option (List ℕ)) (s : OnTheWay) (n : Notes) → g ≡ h → Stands s n
      → Reach summed_alike s (summing.node g id s).1 (noting.node h id n).1 × ((summing.node g id s).0 ≡ (noting.node h id n).0)
  node_alike g h (Some x) s n graph is = (told_reach (ensure_node g (name_of x)) (ensure_node h (name_of x)) s n (ap (λ a. ensure_node a (name_of x)) graph) is, refl)
  node_alike g h None s n graph is =
      let name = fresh n.chunk n.unnamed in
      let said = sym (then_said-last n.chunk before n.ops (ensure_node h name)) in (
        reach s (summing.node g None s).1 (noting.node h None n).1
            (ap₂ (λ a t. (summing.node a None t).1) graph is.0 ∙ (λ i. record { chunk = n.chunk; unnamed = n.unnamed + 1; so_far = said i }), is.1),
        ap (λ (t : OnTheWay). fresh t.chunk t.unnamed) is.0,
      )

  pub steps_alike : AnswerAlike summed_alike summing noting
  steps_alike = record {
    named = λ x s n is. (named_alike x s n is, refl, λ apart. refl);
    node = λ g h id s n graph is. node_alike g h id s n graph is;
    property = λ g h a b x s n apart graph id is.
        (told_reach (ensure_property g a (name_of x)) (ensure_property h b (name_of x)) s n (ap₂ (λ c d. ensure_property c d (name_of x)) graph id) is, refl);
    graph = λ g h s n graph is. told_reach (ensure_graph g) (ensure_graph h) s n (ap ensure_graph graph) is;
    value = λ ms s is. refl;
    reference = λ a b s is. ap reference is;
    list = λ es fs s are. ap (λ ds. list (entries_of ds)) (pairwise_same es fs are);
    add = λ g h a b p q e f s n graph id property entry is.
        told_reach (add_entry g a p e) (add_entry h b q f) s n (λ i. add_entry (graph i) (id i) (property i) (entry i)) is;
    append = λ g h a b p q es fs s n graph id property entries is.
        told_reach (append_list g a p (entries_of es)) (append_list h b q (entries_of fs)) s n (λ i. append_list (graph i) (id i) (property i) (entries_of (pairwise_same es fs entries i))) is;
    type_ = λ g h a b x y s n graph id name is. told_reach (add_type g a x) (add_type h b y) s n (λ i. add_type (graph i) (id i) (name i)) is;
    index = λ g h a b x s n graph id is. told_reach (set_index g a x) (set_index h b x) s n (λ i. set_index (graph i) (id i) x) is;
  }

  same_place : (s : OnTheWay) (to : To Name) → Toward summed_alike s to to
  same_place s nowhere = tt
  same_place s (under n p) = (refl, refl)
  same_place s in_list = tt
  same_place s (reverse n p) = (refl, refl)

  -- A walk that tells what operations say comes to what the notes of a walk come to, and these are still of the chunk.
  walks_alike : (g : Name) (to : To Name) (ts : Trees)
      → Stands (walk_all summing g to ts (record { state = on_the_way chunk before; items = [] })).state (walk_all noting g to ts (record { state = no_notes chunk; items = [] })).state
  walks_alike g to ts =
      (all_beside summed_alike summing noting steps_alike g g to to ts (on_the_way chunk before) (record { state = on_the_way chunk before; items = [] }) (record { state = no_notes chunk; items = [] }) refl
      (same_place (on_the_way chunk before) to)
      (record { states = (nothing_yet chunk before, refl); gathered = tt; lasts = lasts_here summed_alike (on_the_way chunk before) })).states

  -- What sums have been told once some items were gone through, wherever these stand.
  pub said_of_range : (items : List Tree) (g : Name) (to : To Name) (s r : OnTheWay) (es fs : List Entry) (t : SoFar)
      → s ≡ on_the_way chunk before → es ≡ [] → record { state = r; items = fs } ≡ walk_all summing g to (trees_of items) (record { state = s; items = es }) → t ≡ r.so_far
      → t ≡ then_said chunk before (walk noting g to (array (trees_of items)) (record { state = no_notes chunk; items = [] })).state.ops
  said_of_range items g to s r es fs t begun none ended taken =
      let both = walks_alike g to (trees_of items) in
      let ops = (walk_all noting g to (trees_of items) (record { state = no_notes chunk; items = [] })).state.ops in
      taken
      ∙ ap (λ (w : At OnTheWay Entry). w.state.so_far) (ended ∙ (λ i. walk_all summing g to (trees_of items) (record { state = begun i; items = none i })))
      ∙ ap (λ (u : OnTheWay). u.so_far) both.0
      ∙ ap (λ c. then_said c before ops) both.1
