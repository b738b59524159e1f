-- What a folder of contexts holds.
use Rattle.std.specs.Prelude.{ℕ, ◌+◌, List, [], ◌∷◌, Option, Some, None, codes}
use Rattle.std.specs.Option.{option_map_or}
use Rattle.std.specs.Ordering.{nat_cmp}
use Rattle.std.specs.Cmp.Lexicographic.{slice_cmp}
use Rattle.std.specs.FinMap as map
use Rattle.std.specs.FinMap.{FinMap}
use Rattle.std.specs.BTreeMap.{insert_entry}
use Rattle.ld_model.specs.Tree.{Tree, byte_order}
use Rattle.ld_json.specs.Read.{Reading, reads, reading}
use Rattle.ctx_store.specs.Index.{lines, entry_on, first_broken}

-- The files of a folder, by their names.
abbrev pub Files : Type 0
Files = FinMap (slice_cmp nat_cmp) (List ℕ)

-- IRIs in the order of their bytes, each with the tree of its file, or with none where the file is unreadable.
abbrev pub Contexts : Type 0
Contexts = List (List ℕ × Option Tree)

-- The tree that was read, if one was.
abbrev pub tree_read : Reading → Option Tree
tree_read (reads t) = Some t
tree_read _ = None

-- The contexts; or the number of the first line of the index that breaks its rule; or that of the first line whose file is
-- missing.
pub data Stored : Type 0 where
  holds : Contexts → Stored
  index_line : ℕ → Stored
  missing : ℕ → Stored

-- The contexts with that of these bytes.
abbrev pub with_file : Contexts → List ℕ → List ℕ → Contexts
with_file contexts iri bytes = insert_entry byte_order contexts iri (tree_read (reading bytes))

-- What the files of these lines add to contexts, where the first line has this number.
abbrev pub filed : Files → Contexts → ℕ → List (List ℕ) → Stored
filed files contexts n [] = holds contexts
filed files contexts n (l ∷ ls) =
    option_map_or (λ e. option_map_or (λ bytes. filed files (with_file contexts e.0 bytes) (n + 1) ls) (map.get files e.1) (missing n))
    (entry_on l) (filed files contexts (n + 1) ls)

-- What the lines of an index give: its first broken line, or else the contexts of its files. Lines are counted from 1.
abbrev pub indexed : Files → List (List ℕ) → Stored
indexed files ls = option_map_or index_line (first_broken [] 1 ls) (filed files [] 1 ls)

-- What a folder holds: nothing where it has no index.
abbrev pub stored : Files → Stored
stored files = option_map_or (λ index. indexed files (lines index)) (map.get files (codes "index.txt")) (holds [])
