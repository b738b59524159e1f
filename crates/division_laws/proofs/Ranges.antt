-- The end of a spine, and a range. A range is walked as if its operations were those of a spine: what that spine has is what the range has.
use Rattle.std.proofs.Common.{◌≡◌, ℕ, ◌+◌, arith, List, [], ◌∷◌, ◌++◌, length, true, Some, refl, sym, ap, ◌∙◌, subst}
use Rattle.std.specs.List.{slice_get}
use Rattle.std.proofs.lemmas.List.{append-nil, append_assoc, length-append}
use Rattle.ld_model.specs.Tree.{Tree, trees_of}
use Rattle.node_model.specs.Walk.{To, nowhere, under, in_list, reverse, At, walk_all}
use Rattle.node_laws.proofs.Likeness.{Reach, Beside, Toward, lasts_here, beside_step}
use Rattle.node_laws.proofs.Alike.{all_beside}
use Rattle.op_model.specs.Names.{Name}
use Rattle.op_model.specs.Ops.{Entry, Op}
use Rattle.op_model.specs.Noting.{Notes, noting, no_notes, Chunk, spine, ops_of, ops_of_chunks}
use Rattle.op_laws.proofs.Gathered.{is_outside, all_hold}
use Rattle.division_model.specs.Dividing.{Division, spine_noting, with_spine, spine_ended, range_of, with_range, range_ended, outside_lists}
use Rattle.division_laws.proofs.Unnamed.{unnamed_in, LeadsTo}
use Rattle.division_laws.proofs.Stands.{ops_so_far, unnamed, IsEarlier, Stands, standing, more_unnamed, steps_alike}
use Rattle.division_laws.proofs.Spines.{items_in_spine}

-- One more chunk, behind those that are numbered from some number on.
last_chunk : (first number : ℕ) (chunks : List Chunk) (c : Chunk) → first + length chunks ≡ number → ops_of_chunks first (chunks ++ c ∷ []) ≡ ops_of_chunks first chunks ++ ops_of number c
last_chunk first number [] c is = let same : first ≡ number = omega arith in append-nil (ops_of first c) ∙ ap (λ k. ops_of k c) same
last_chunk first number (x ∷ chunks) c is =
    let rest : (first + 1) + length chunks ≡ number = omega arith in
    ap (λ l. ops_of first x ++ l) (last_chunk (first + 1) number chunks c rest)
    ∙ sym (append_assoc (ops_of first x) (ops_of_chunks (first + 1) chunks) (ops_of number c))

abbrev with_chunk : Chunk → Division → Division
with_chunk c d = record { chunks = d.chunks ++ c ∷ []; notes = no_notes (d.notes.chunk + 1) }

-- A chunk that has the operations of the spine under way may stand in its place.
chunk_reach : (d : Division) (n : Notes) (c : Chunk) → Stands d n → ops_of d.notes.chunk c ≡ d.notes.ops → Reach standing d (with_chunk c d) n
chunk_reach d n c is ops_are = record {
  states = record {
    whole = is.whole;
    count = is.count ∙ ap length (sym stay);
    same = λ other leads. ops_stay ∙ is.same other (subst (LeadsTo other) stay leads);
    number = let one = length-append d.chunks (c ∷ []) in let before = is.number in omega arith;
    empty = λ e. refl;
    earlier = λ k name at. later_on name (is.earlier k name (subst (λ names. slice_get names k ≡ Some name) stay at));
    apart = λ j k name first second.
        is.apart j k name (subst (λ names. slice_get names j ≡ Some name) stay first) (subst (λ names. slice_get names k ≡ Some name) stay second);
  };
  lasts = more_unnamed d (with_chunk c d) [] (stay ∙ sym (append-nil (unnamed d)));
}
  where
    ops_stay : ops_so_far (with_chunk c d) ≡ ops_so_far d
    ops_stay =
        append-nil (ops_of_chunks 0 (d.chunks ++ c ∷ []))
        ∙ last_chunk 0 d.notes.chunk d.chunks c (let before = is.number in omega arith)
        ∙ ap (λ l. ops_of_chunks 0 d.chunks ++ l) ops_are

    stay : unnamed (with_chunk c d) ≡ unnamed d
    stay = ap unnamed_in ops_stay

    later_on : (name : ℕ × ℕ) → IsEarlier d.notes.chunk d.notes.unnamed name → IsEarlier (d.notes.chunk + 1) 0 name
    later_on name old = let chunk = old.0 in (omega arith, λ same. absurd (omega arith))

ended_reach : (d : Division) (n : Notes) → Stands d n → Reach standing d (spine_ended d) n
ended_reach d n is = by_ops d.notes.ops refl
  where
    by_ops : (os : List Op) → d.notes.ops ≡ os → Reach standing d (with_spine os d) n
    by_ops [] ops_are =
        let none = is.empty ops_are in
        let same : d.notes ≡ no_notes d.notes.chunk = λ i. record { chunk = d.notes.chunk; unnamed = none i; ops = ops_are i } in
        subst (λ notes. Reach standing d (record { chunks = d.chunks; notes = notes }) n) same (record { states = is; lasts = lasts_here standing d })
    by_ops (o ∷ os) ops_are = chunk_reach d n (spine (o ∷ os)) is (sym ops_are)

pub none_noted : (d : Division) → (spine_ended d).notes ≡ no_notes (spine_ended d).notes.chunk
none_noted d = by_ops d.notes.ops
  where
    by_ops : (os : List Op) → (with_spine os d).notes ≡ no_notes (with_spine os d).notes.chunk
    by_ops [] = refl
    by_ops (o ∷ os) = refl

range_ops : (number : ℕ) (g : Name) (to : To Name) (ts : List Tree) → is_outside to ≡ true
    → ops_of number (range_of g to ts) ≡ (walk_all noting g to (trees_of ts) (record { state = no_notes number; items = [] })).state.ops
range_ops number g nowhere ts out = refl
range_ops number g (under n p) ts out = refl
range_ops number g in_list ts out = absurd (cc)
range_ops number g (reverse n p) ts out = refl

-- Where nothing was gathered.
pub outside_beside : (s : Division) (w : At Division Entry) (v : At Notes Entry) → w.items ≡ [] → Beside standing s w v → Beside standing s (outside_lists w.state) v
outside_beside s w v none is = subst (λ es. Beside standing s (record { state = w.state; items = es }) v) none is

pub ended_beside : (s d : Division) (v : At Notes Entry) → Beside standing s (outside_lists d) v → Beside standing s (outside_lists (spine_ended d)) v
ended_beside s d v is = beside_step standing s (outside_lists d) v (spine_ended d) v.state is (ended_reach d v.state is.states)

module _ (g h : Name) (i j : To Name) (t : Tree) (ts : List Tree) (d : Division) (v : At Notes Entry) where
  abbrev e : Division
  e = spine_ended d

  -- The range as if it were a spine, and the same items in the whole document.
  abbrev m : Division
  m = (walk_all spine_noting g i (trees_of (t ∷ ts)) (outside_lists e)).state

  abbrev x : At Notes Entry
  x = walk_all noting h j (trees_of (t ∷ ts)) v

  shown : (m.chunks ≡ e.chunks) × (m.notes ≡ (walk_all noting g i (trees_of (t ∷ ts)) (record { state = e.notes; items = [] })).state)
  shown = items_in_spine g i (trees_of (t ∷ ts)) e

  range_beside : (s : Division) → standing.names s g h → Toward standing s i j → is_outside i ≡ true → Beside standing s (outside_lists d) v
      → Beside standing s (outside_lists (with_range g i (t ∷ ts) e)) x
  range_beside s graph to out is =
      let begun = ended_beside s d v is in
      let inner = all_beside standing spine_noting noting steps_alike g h i j (trees_of (t ∷ ts)) s (outside_lists e) v graph to begun in
      let walked = outside_beside s (walk_all spine_noting g i (trees_of (t ∷ ts)) (outside_lists e)) x (all_hold spine_noting [] g i (trees_of (t ∷ ts)) (outside_lists e) out refl) inner in
      let chunk_is : m.notes.chunk ≡ e.notes.chunk = inner.states.number ∙ ap length shown.0 ∙ sym begun.states.number in
      let ops_are = range_ops m.notes.chunk g i (t ∷ ts) out
      ∙ ap (λ (notes : Notes). (walk_all noting g i (trees_of (t ∷ ts)) (record { state = notes; items = [] })).state.ops) (ap no_notes chunk_is ∙ sym (none_noted d))
      ∙ ap (λ (notes : Notes). notes.ops) (sym shown.1) in
      let ended = beside_step standing s (outside_lists m) x (with_chunk (range_of g i (t ∷ ts)) m) x.state walked (chunk_reach m x.state (range_of g i (t ∷ ts)) inner.states ops_are) in
      let same : with_chunk (range_of g i (t ∷ ts)) m ≡ with_range g i (t ∷ ts) e = λ k. record { chunks = shown.0 k ++ range_of g i (t ∷ ts) ∷ []; notes = no_notes (chunk_is k + 1) } in
      subst (λ d. Beside standing s (outside_lists d) x) same ended

pub range_ended_beside : (g h : Name) (i j : To Name) (ts : List Tree) (s d : Division) (v : At Notes Entry) → standing.names s g h → Toward standing s i j → is_outside i ≡ true
    → Beside standing s (outside_lists d) v → Beside standing s (outside_lists (range_ended g i ts d)) (walk_all noting h j (trees_of ts) v)
range_ended_beside g h i j [] s d v graph to out is = is
range_ended_beside g h i j (t ∷ ts) s d v graph to out is = range_beside g h i j t ts d v s graph to out is
