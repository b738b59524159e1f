-- The rows of a table, as pairs of a name's bytes and a number.
use Rattle.std.specs.Prelude.{ℕ, Bool, true, ◌&&◌, List, [], ◌∷◌, map, nat_eq, not, ◌+◌}
use Rattle.std.specs.List.{list_all}
use Rattle.std.specs.Str.{bytes_eq}
use Rattle.case_tables.specs.declared.table.Row.{Row}

-- the name's bytes and the number of each row
abbrev pub pairs_of : List Row → List (List ℕ × ℕ)
pairs_of rows = map (λ r. (r.name.now, r.number)) rows

-- no element is equal to one after it
abbrev pub all_differ : {K : Type 0} → (K → K → Bool) → List K → Bool
all_differ eq [] = true
all_differ eq (k ∷ ks) = list_all (λ j. not (eq k j)) ks && all_differ eq ks

-- no two rows have one name
abbrev pub names_differ : List (List ℕ × ℕ) → Bool
names_differ pairs = all_differ bytes_eq (map (λ p. p.0) pairs)

-- no two rows have one number
abbrev pub numbers_differ : List (List ℕ × ℕ) → Bool
numbers_differ pairs = all_differ nat_eq (map (λ p. p.1) pairs)

-- each number with its name
abbrev pub turned : List (List ℕ × ℕ) → List (ℕ × List ℕ)
turned pairs = map (λ p. (p.1, p.0)) pairs

-- the rows of the names of these values, numbered from n on
abbrev pub numbered : {K : Type 0} → (K → List ℕ) → ℕ → List K → List (List ℕ × ℕ)
numbered name n [] = []
numbered name n (k ∷ ks) = (name k, n) ∷ numbered name (n + 1) ks
