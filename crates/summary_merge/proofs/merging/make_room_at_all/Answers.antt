use Rattle.std.proofs.Common.{◌∙◌, subst, ◌∷◌, refl}
use Rattle.std.specs.List.{IsDistinct}
use Rattle.std.specs.Map.{keys_of}
use Rattle.std.proofs.lemmas.Map.Keys.{IsDistinct-tail}
use Rattle.op_types.specs.declared.name.NodeKey.{NodeKey}
use Rattle.subtree_summary.specs.declared.entry.PartEntry.{PartEntry}
use Rattle.subtree_summary.specs.Parts.{same_code_key}
use Rattle.summary_merge.proofs.Moves.{HasRoomButFor, one_less}
use Rattle.summary_merge.proofs.merging.make_room_at_all.Goals as goal

pub loop-key-preserved : goal.loop-key-preserved
loop-key-preserved c =
    let e : NodeKey × PartEntry = (c.in-Some.key.now, c.in-Some.entry.now) in
    let rest = c.next.new.self in
    let all = c.args.later.now.entries in
    let distinct : IsDistinct same_code_key (keys_of (e ∷ rest)) = subst (λ es. IsDistinct same_code_key (keys_of es)) c.in-Some.ensures.steps c.loop-key.invariant.distinct in
    record {
      same = c.in_ok-make_room_at.ensures.same ∙ c.loop-key.invariant.same;
      distinct = IsDistinct-tail same_code_key e.0 (keys_of rest) distinct;
      room = one_less c.loop-key.nodes.entries c.make_room_at.new.nodes.entries e rest all distinct c.in_ok-make_room_at.ensures.others c.in_ok-make_room_at.ensures.room (subst (λ es. HasRoomButFor c.loop-key.nodes.entries es all) c.in-Some.ensures.steps c.loop-key.invariant.room);
    }

pub returns-clause-room : goal.returns-clause-room
returns-clause-room c =
    (subst (λ es. HasRoomButFor c.loop-key.nodes.entries es c.args.later.now.entries) c.in-None.ensures.steps.0 c.loop-key.invariant.room) c.loop-key.nodes.entries (λ k none. refl) tt
