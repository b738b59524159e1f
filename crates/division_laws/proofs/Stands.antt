-- A division up to a step, beside the notes of the whole document up to that step: one and the same operations, but for the names of nodes
-- without an id. Which name stands for which is said by the names given so far: whatever exchange leads to these turns the one into the
-- other. More names only leave fewer such exchanges, so what stands for each other does so for good.
use Rattle.std.proofs.Common.{◌≡◌, ℕ, ◌+◌, ◌≤◌, ◌<◌, arith, List, [], ◌∷◌, ◌++◌, length, Bool, true, false, if◌then◌else◌, Option, Some, None, refl, sym, ap, ap₂, ◌∙◌, subst}
use Rattle.std.specs.Prelude.{map as each}
use Rattle.std.specs.List.{slice_get}
use Rattle.std.proofs.lemmas.List.{append-nil, append_assoc, length-append, map-append}
use Rattle.ld_model.specs.Label.{is_blank}
use Rattle.node_laws.proofs.Likeness.{Likeness, Pairwise, Lasts, Reach, AnswerAlike, lasts_here}
use Rattle.op_model.specs.Names.{Name, source, fresh, name_of}
use Rattle.op_model.specs.Ops.{Entry, reference, list, entry, entries_of, Op, use_label, ensure_graph, ensure_node, ensure_property, add_entry, append_list, add_type, set_index}
use Rattle.op_model.specs.Noting.{Notes, note, noting, ops_of_chunks}
use Rattle.op_laws.specs.Exchanged.{Exchange, exchanged, exchanged_entry, exchanged_entries, exchanged_op}
use Rattle.division_model.specs.Dividing.{Division, on_notes, spine_noting}
use Rattle.division_laws.proofs.Unnamed.{unnamed_by, unnamed_in, unnamed_in-append, LeadsTo, get_at_end, Stood, in_front, at_end, where_it_stood, leads_to_front, text_stays, named_by_text, never_empty}

-- The operations so far, of the chunks and of the spine under way, and the names given in them.
abbrev pub ops_so_far : Division → List Op
ops_so_far d = ops_of_chunks 0 d.chunks ++ d.notes.ops

abbrev pub unnamed : Division → List (ℕ × ℕ)
unnamed d = unnamed_in (ops_so_far d)

-- A name of an earlier chunk, or of this one with a smaller number.
abbrev pub IsEarlier : ℕ → ℕ → ℕ × ℕ → Type 0
IsEarlier chunk number name = (name.0 ≤ chunk) × (name.0 ≡ chunk → name.1 < number)

pub record Stands (d : Division) (n : Notes) : Type 0 where
  -- the whole document is one chunk, and has made as many nodes without an id
  pub whole : n.chunk ≡ 0
  pub count : n.unnamed ≡ length (unnamed d)
  pub same : (other : Exchange) → LeadsTo other (unnamed d) → ops_so_far d ≡ each (exchanged_op other) n.ops
  -- the spine under way is the next chunk, and without operations it has given no name
  pub number : d.notes.chunk ≡ length d.chunks
  pub empty : d.notes.ops ≡ [] → d.notes.unnamed ≡ 0
  -- no name was given twice
  pub earlier : (k : ℕ) (name : ℕ × ℕ) → slice_get (unnamed d) k ≡ Some name → IsEarlier d.notes.chunk d.notes.unnamed name
  pub apart : (j k : ℕ) (name : ℕ × ℕ) → slice_get (unnamed d) j ≡ Some name → slice_get (unnamed d) k ≡ Some name → j ≡ k

-- A name, and an entry, of the division and of the whole document.
abbrev pub IsCalled : Division → Name → Name → Type 0
IsCalled d a b = (other : Exchange) → LeadsTo other (unnamed d) → exchanged other b ≡ a

abbrev pub IsEntry : Division → Entry → Entry → Type 0
IsEntry d e f = (other : Exchange) → LeadsTo other (unnamed d) → exchanged_entry other f ≡ e

abbrev pub standing : Likeness Division Name Entry Notes Name Entry
standing = record { states = Stands; names = IsCalled; properties = IsCalled; entries = IsEntry }

pub more_unnamed : (d e : Division) (names : List (ℕ × ℕ)) → unnamed e ≡ unnamed d ++ names → Lasts standing d e
more_unnamed d e names is = record {
  names = λ a b called other leads. called other (back other leads);
  properties = λ a b called other leads. called other (back other leads);
  entries = λ a b entry other leads. entry other (back other leads);
}
  where
    back : (other : Exchange) → LeadsTo other (unnamed e) → LeadsTo other (unnamed d)
    back other leads = leads_to_front other (unnamed d) names (subst (LeadsTo other) is leads)

-- One more operation of the spine.
one_more : (d : Division) (os : List Op) (o : Op) → ops_of_chunks 0 d.chunks ++ (os ++ o ∷ []) ≡ (ops_of_chunks 0 d.chunks ++ os) ++ o ∷ []
one_more d os o = sym (append_assoc (ops_of_chunks 0 d.chunks) os (o ∷ []))

unnamed_more : (d : Division) (o : Op) → unnamed (on_notes (note o) d) ≡ unnamed d ++ (unnamed_by o ++ [])
unnamed_more d o = ap unnamed_in (one_more d d.notes.ops o) ∙ unnamed_in-append (ops_so_far d) (o ∷ [])

same_more : (other : Exchange) (d : Division) (n : Notes) (o p : Op) → ops_so_far d ≡ each (exchanged_op other) n.ops → exchanged_op other p ≡ o
    → ops_of_chunks 0 d.chunks ++ (d.notes.ops ++ o ∷ []) ≡ each (exchanged_op other) (n.ops ++ p ∷ [])
same_more other d n o p is last =
    one_more d d.notes.ops o
    ∙ ap₂ (λ os o. os ++ o ∷ []) is (sym last)
    ∙ sym (map-append (exchanged_op other) n.ops (p ∷ []))

-- An operation that gives no name.
noted : (o p : Op) (d : Division) (n : Notes) → unnamed_by o ≡ [] → Stands d n → ((other : Exchange) → LeadsTo other (unnamed d) → exchanged_op other p ≡ o)
    → Reach standing d (on_notes (note o) d) (note p n)
noted o p d n none is alike = record {
  states = record {
    whole = is.whole;
    count = is.count ∙ ap length (sym stay);
    same = λ other leads. let led = subst (LeadsTo other) stay leads in same_more other d n o p (is.same other led) (alike other led);
    number = is.number;
    empty = λ e. absurd (never_empty d.notes.ops o e);
    earlier = λ k name at. is.earlier k name (subst (λ names. slice_get names k ≡ Some name) stay at);
    apart = λ j k name first second.
        is.apart j k name (subst (λ names. slice_get names j ≡ Some name) stay first) (subst (λ names. slice_get names k ≡ Some name) stay second);
  };
  lasts = more_unnamed d (on_notes (note o) d) [] (stay ∙ sym (append-nil (unnamed d)));
}
  where
    stay : unnamed (on_notes (note o) d) ≡ unnamed d
    stay = unnamed_more d o ∙ ap (λ names. unnamed d ++ (names ++ [])) none ∙ append-nil (unnamed d)

-- A node without an id.
module _ (g h : Name) (d : Division) (n : Notes) (graph : IsCalled d g h) (is : Stands d n) where
  abbrev name : ℕ × ℕ
  name = (d.notes.chunk, d.notes.unnamed)

  abbrev op : Op
  op = ensure_node g (fresh d.notes.chunk d.notes.unnamed)

  abbrev whole_op : Op
  whole_op = ensure_node h (fresh n.chunk n.unnamed)

  abbrev after : Division
  after = (spine_noting.node g None d).1

  grow : unnamed after ≡ unnamed d ++ name ∷ []
  grow = ap unnamed_in (one_more d d.notes.ops op) ∙ unnamed_in-append (ops_so_far d) (op ∷ [])

  in_after : (k : ℕ) (p : ℕ × ℕ) → slice_get (unnamed after) k ≡ Some p → Stood (unnamed d) name k p
  in_after k p at = where_it_stood (unnamed d) name k p (subst (λ names. slice_get names k ≡ Some p) grow at)

  is_called : (other : Exchange) → LeadsTo other (unnamed after) → exchanged other (fresh n.chunk n.unnamed) ≡ fresh d.notes.chunk d.notes.unnamed
  is_called other leads =
      let here = subst (λ names. slice_get names (length (unnamed d)) ≡ Some name) (sym grow) (get_at_end (unnamed d) name) in
      let given : other n.chunk n.unnamed ≡ name = ap₂ other is.whole is.count ∙ leads (length (unnamed d)) name here in
      ap (λ p. fresh p.0 p.1) given

  is_earlier : (k : ℕ) (p : ℕ × ℕ) → Stood (unnamed d) name k p → IsEarlier d.notes.chunk (d.notes.unnamed + 1) p
  is_earlier k p (in_front at) = let old = is.earlier k p at in (old.0, λ same. let less = old.1 same in omega arith)
  is_earlier k p (at_end at same) = let chunk = ap (λ p. p.0) same in let number = ap (λ p. p.1) same in (omega arith, λ here. omega arith)

  not_before : (k : ℕ) (p : ℕ × ℕ) → slice_get (unnamed d) k ≡ Some p → p ≡ name → ⊥
  not_before k p at same =
      let old = is.earlier k p at in
      let less = old.1 (ap (λ p. p.0) same) in
      let number = ap (λ p. p.1) same in
      omega arith

  stay_apart : (j k : ℕ) (p : ℕ × ℕ) → Stood (unnamed d) name j p → Stood (unnamed d) name k p → j ≡ k
  stay_apart j k p (in_front first) (in_front second) = is.apart j k p first second
  stay_apart j k p (in_front first) (at_end second same) = absurd (not_before j p first same)
  stay_apart j k p (at_end first same) (in_front second) = absurd (not_before k p second same)
  stay_apart j k p (at_end first one) (at_end second two) = first ∙ sym second

  back : (other : Exchange) → LeadsTo other (unnamed after) → LeadsTo other (unnamed d)
  back other leads = leads_to_front other (unnamed d) (name ∷ []) (subst (LeadsTo other) grow leads)

  node_made : Reach standing d after (noting.node h None n).1 × IsCalled after (fresh d.notes.chunk d.notes.unnamed) (fresh n.chunk n.unnamed)
  node_made = (
    record {
      states = record {
        whole = is.whole;
        count = let one = length-append (unnamed d) (name ∷ []) in let before = is.count in let all = ap length grow in omega arith;
        same = λ other leads. let led = back other leads in same_more other d n op whole_op (is.same other led) (ap₂ ensure_node (graph other led) (is_called other leads));
        number = is.number;
        empty = λ e. absurd (never_empty d.notes.ops op e);
        earlier = λ k p at. is_earlier k p (in_after k p at);
        apart = λ j k p first second. stay_apart j k p (in_after j p first) (in_after k p second);
      };
      lasts = more_unnamed d after (name ∷ []) grow;
    },
    is_called,
  )

named_alike : (x : List ℕ) (d : Division) (n : Notes) → Stands d n → Reach standing d (spine_noting.named x d).1 (noting.named x n).1
named_alike x d n is = by_form (is_blank x)
  where
    by_form : (b : Bool) → Reach standing d (record { chunks = d.chunks; notes = if b then note (use_label (source x)) d.notes else d.notes }) (if b then note (use_label (source x)) n else n)
    by_form true = noted (use_label (source x)) (use_label (source x)) d n refl is (λ other leads. refl)
    by_form false = record { states = is; lasts = lasts_here standing d }

node_alike : (g h : Name) (id : Option (List ℕ)) (d : Division) (n : Notes) → IsCalled d g h → Stands d n
    → Reach standing d (spine_noting.node g id d).1 (noting.node h id n).1 × IsCalled (spine_noting.node g id d).1 (spine_noting.node g id d).0 (noting.node h id n).0
node_alike g h (Some x) d n graph is = (
  noted (ensure_node g (name_of x)) (ensure_node h (name_of x)) d n (named_by_text g x) is (λ other leads. ap₂ ensure_node (graph other leads) (text_stays other x)),
  λ other leads. text_stays other x,
)
node_alike g h None d n graph is = node_made g h d n graph is

items_alike : (d : Division) (es fs : List Entry) → Pairwise (IsEntry d) es fs → (other : Exchange) → LeadsTo other (unnamed d) → exchanged_entries other (entries_of fs) ≡ entries_of es
items_alike d [] [] are other leads = refl
items_alike d (e ∷ es) (f ∷ fs) are other leads = ap₂ entry (are.0 other leads) (items_alike d es fs are.1 other leads)
items_alike d [] (f ∷ fs) are other leads = absurd are
items_alike d (e ∷ es) [] are other leads = absurd are

-- Each step of the spine, beside that of the whole document.
pub steps_alike : AnswerAlike standing spine_noting noting
steps_alike = record {
  named = λ x d n is. (named_alike x d n is, λ other leads. text_stays other x, λ apart other leads. text_stays other x);
  node = node_alike;
  property = λ g h a b x d n apart graph node is. (
    noted (ensure_property g a (name_of x)) (ensure_property h b (name_of x)) d n refl is (λ other leads i. ensure_property (graph other leads i) (node other leads i) (text_stays other x i)),
    λ other leads. text_stays other x,
  );
  graph = λ g h d n graph is. noted (ensure_graph g) (ensure_graph h) d n refl is (λ other leads. ap ensure_graph (graph other leads));
  value = λ ms d is_value other leads. refl;
  reference = λ a b d node other leads. ap reference (node other leads);
  list = λ es fs d are other leads. ap list (items_alike d es fs are other leads);
  add = λ g h a b p q e f d n graph node property item is. noted (add_entry g a p e) (add_entry h b q f) d n refl is
      (λ other leads i. add_entry (graph other leads i) (node other leads i) (property other leads i) (item other leads i));
  append = λ g h a b p q es fs d n graph node property are is. noted (append_list g a p (entries_of es)) (append_list h b q (entries_of fs)) d n refl is
      (λ other leads i. append_list (graph other leads i) (node other leads i) (property other leads i) (items_alike d es fs are other leads i));
  type_ = λ g h a b x y d n graph node type is. noted (add_type g a x) (add_type h b y) d n refl is (λ other leads i. add_type (graph other leads i) (node other leads i) (type other leads i));
  index = λ g h a b x d n graph node is. noted (set_index g a x) (set_index h b x) d n refl is (λ other leads i. set_index (graph other leads i) (node other leads i) x);
}
