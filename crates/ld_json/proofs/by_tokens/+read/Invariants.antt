use Rattle.std.proofs.Common.{◌≡◌, ℕ, ◌+◌, ◌*◌, ◌≤◌, ◌++◌, ◌&&◌, true, [], length}
use Rattle.json.specs.Json.{items, members, value, parse_map}
use Rattle.serde_json.specs.Read.{converted}
use Rattle.ld_tree.specs.View.{trees_view, members_view}
use Rattle.std.specs.List.{AllByRecursion}
use Rattle.ld_tree.specs.Built.{built}
use Rattle.ld_json.specs.Tokens.{items_read, members_read, all_in, HasNoMark}
use Rattle.ld_json.proofs.by_tokens.+read.Given as goal

abbrev pub decreases-read : goal.decreases-read
decreases-read l = 2 * l.depth

abbrev pub decreases-read_items : goal.decreases-read_items
decreases-read_items l = 2 * l.depth + 1

abbrev pub decreases-read_members : goal.decreases-read_members
decreases-read_members l = 2 * l.depth + 1

abbrev pub invariant-read_items-items : goal.invariant-read_items-items
invariant-read_items-items l =
    (n : ℕ) × (length l.reader ≤ n)
    × (converted items_read (items (value l.depth) (length l.initial.reader) l.initial.reader) ≡ parse_map (λ ts. trees_view l.found.items ++ ts) (converted items_read (items (value l.depth) n l.reader)))
    × (length l.reader ≤ length l.initial.reader)
    × ((l.seen.accepted && all_in l.reader) ≡ (l.initial.seen.accepted && all_in l.initial.reader))
    × (l.seen.unmarked ≡ true → (l.initial.seen.unmarked ≡ true) × AllByRecursion HasNoMark (trees_view l.found.items))

abbrev pub decreases-read_items-items : goal.decreases-read_items-items
decreases-read_items-items l = length l.reader

abbrev pub invariant-read_members-members : goal.invariant-read_members-members
invariant-read_members-members l =
    (n : ℕ) × (length l.reader ≤ n)
    × (converted (λ ms. members_read ms []) (members (value l.depth) (length l.initial.reader) l.initial.reader) ≡ converted (λ ms. members_read ms (built (members_view l.found.items))) (members (value l.depth) n l.reader))
    × (length l.reader ≤ length l.initial.reader)
    × ((l.seen.accepted && all_in l.reader) ≡ (l.initial.seen.accepted && all_in l.initial.reader))
    × (l.seen.unmarked ≡ true → (l.initial.seen.unmarked ≡ true) × AllByRecursion (λ m. HasNoMark m.1) (members_view l.found.items))

abbrev pub decreases-read_members-members : goal.decreases-read_members-members
decreases-read_members-members l = length l.reader
