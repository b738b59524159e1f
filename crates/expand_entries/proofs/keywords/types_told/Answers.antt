use Rattle.std.proofs.Common.{refl}
use Rattle.ld_model.specs.Tree.{tree_list-trees_of}
use Rattle.expand_entries.proofs.keywords.types_told.Goals as goal

pub returns-then-not-are_texts : goal.returns-then-not-are_texts
returns-then-not-are_texts c = rw (tree_list-trees_of c.args.values.now, ← c.are_texts.ensures, c.if-not-are_texts.true) refl

pub returns : goal.returns
returns c = rw (tree_list-trees_of c.args.values.now, ← c.are_texts.ensures, c.if-not-are_texts.false, c.in_ok-items.ensures) refl
