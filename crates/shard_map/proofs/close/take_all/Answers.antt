use Rattle.std.proofs.Common.{arith, ◌≡◌, false, get_or, set, sym, ap, ◌∙◌, ⊎_elim}
use lib.ListN.{get_elem?}
use Rattle.std.specs.Mem.Slots.{slots_filled, slots_items, slots_counts}
use Rattle.std.proofs.lemmas.Bool.{cases_eq}
use Rattle.std.proofs.lemmas.List.{get_or-set_same, get_or-set_other}
use Rattle.shard_map.proofs.Closing.{one_more}
use Rattle.shard_map.proofs.close.take_all.Goals as goal

pub loop-at-preserved : goal.loop-at-preserved
loop-at-preserved g c =
    let i = c.loop-at.invariant in
    let o = c.take-slot.ensures.others in
    let low = c.loop-at-test.true in
    let filled = slots_filled c.loop-at.closed.slots in record {
      words = o.3 ∙ i.words;
      items = o.0 ∙ i.items;
      count = o.2 ∙ i.count;
      full = λ k a b. ap (λ l. get_or l k false) o.1 ∙ (get_or-set_other filled c.loop-at.at k false false (λ e. omega arith) ∙ i.full k (omega arith) (let e = o.2 in omega arith));
      empty = λ k a. ap (λ l. get_or l k false) o.1 ∙ ⊎_elim
          (λ (t : k ≡ c.loop-at.at). ap (λ z. get_or (set filled c.loop-at.at false) z false) t ∙ get_or-set_same filled c.loop-at.at false false (let n = (slots_counts c.loop-at.closed.slots).1 in let m = i.count in let q = c.slot_count-at-end.ensures in let z = c.loop-at.auto.at-end in omega arith))
          (λ (t : k ≡ c.loop-at.at → ⊥). get_or-set_other filled c.loop-at.at k false false t ∙ i.empty k (let ne = t in omega arith))
          (cases_eq k c.loop-at.at);
      len = let a = c.push_reserved.ensures.len in let b = i.len in omega arith;
      room = let a = c.push_reserved.ensures.capacity in let b = i.room in let e = o.2 in omega arith;
      left = one_more c.loop-at.lists.items c.push_reserved.new.self.items c.runs_of.result (slots_items c.args.closed.words) (slots_items c.args.closed.slots) c.loop-at.at c.word-word.result c.take-slot.result _ c.push_reserved.ensures.items c.runs_of.ensures (ap (λ w. get_elem? (slots_items w) c.loop-at.at) (sym i.words) ∙ c.word-word.ensures) (ap (λ l. get_elem? l c.loop-at.at) (sym i.items) ∙ c.take-slot.ensures.value) i.left;
    }
