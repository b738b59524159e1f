-- Values in which no number 1.1 was read.
use Rattle.std.proofs.Common.{◌≡◌, ◌+◌, ℕ, List, [], ◌∷◌, ◌++◌, Bool, true, false, if◌then◌else◌, None, Option, refl, ap}
use Rattle.std.specs.List.{AllByRecursion}
use Rattle.ld_model.specs.Tree.{Tree, Pairs, trees_of, members_of}
use Rattle.ld_json.specs.declared.location.Step.{Step}
use Rattle.ld_json.specs.Marks.{misplaced, misplaced_items, misplaced_members, is_version, under}
use Rattle.ld_json.specs.Tokens.{HasNoMark}

pub no_mark_items : (n : ℕ) (ts : List Tree) → AllByRecursion HasNoMark ts → misplaced_items n (trees_of ts) ≡ None
no_mark_items n [] all = refl
no_mark_items n (t ∷ ts) all = rw (all.0) (no_mark_items (n + 1) ts all.1)

by_test : (b : Bool) (s : Step) (o : Option (List Step)) → o ≡ None → (if b then None else under s o) ≡ None
by_test true s o none = refl
by_test false s o none = ap (under s) none

pub no_mark_members : (ms : Pairs) → AllByRecursion (λ m. HasNoMark m.1) ms → misplaced_members (members_of ms) ≡ None
no_mark_members [] all = refl
no_mark_members (m ∷ ms) all = rw (by_test (is_version m.0 m.1) _ (misplaced m.1) all.0) (no_mark_members ms all.1)

-- A value without lists that isn't the mark.
pub all_behind : {X : Type 0} (P : X → Type 0) (xs : List X) (x : X) → AllByRecursion P xs → P x → AllByRecursion P (xs ++ x ∷ [])
all_behind P [] x all here = (here, tt)
all_behind P (y ∷ ys) x all here = (all.0, all_behind P ys x all.1 here)
