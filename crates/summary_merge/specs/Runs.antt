-- Runs of neighbouring chunks, as the sums of their operations, and how they are joined.
use Rattle.std.specs.Prelude.{ℕ, ◌≡◌, List, [], ◌∷◌, Option, refl, ⊤}
use Rattle.std.specs.Coded.{Coded, code_by, coded×, coded_list, coded_ℕ, coded_option}
use Rattle.op_model.specs.Names.{Name}
use Rattle.op_model.specs.Ops.{Entry}
use Rattle.sum_model.specs.Sums.{Place, Index, Key, PartEntry, Sum, empty_sum, join}
use Rattle.op_types.specs.Codes.{name_code, entry_code}

-- The number of the first chunk, that after the last one, and what the operations of the chunks say.
pub record RunOf : Type 0 where
  pub first : ℕ
  pub end : ℕ
  pub sum : Sum

-- A run, and then the one that begins where it ends.
abbrev pub runs_joined : RunOf → RunOf → RunOf
runs_joined a b = record { first = a.first; end = b.end; sum = join a.sum b.sum }

abbrev pub all_from : RunOf → List RunOf → RunOf
all_from r [] = r
all_from r (s ∷ ss) = runs_joined r (all_from s ss)

-- Runs, one after another. No run at all begins and ends at chunk 0.
abbrev pub all_joined : List RunOf → RunOf
all_joined [] = record { first = 0; end = 0; sum = empty_sum }
all_joined (r ∷ rs) = all_from r rs

-- The next run, where there is one, begins here.
abbrev pub Begins : ℕ → List RunOf → Type 0
Begins at [] = ⊤
Begins at (r ∷ rs) = at ≡ r.first

-- Each run begins where the one before it ends.
abbrev pub AreNeighbours : List RunOf → Type 0
AreNeighbours [] = ⊤
AreNeighbours (r ∷ rs) = Begins r.end rs × AreNeighbours rs

abbrev place_code : Coded Place
place_code = code_by (ℕ × ℕ) (coded× coded_ℕ coded_ℕ) (λ p. (p.chunk, p.number)) (λ t. record { chunk = t.0; number = t.1 }) (λ _. refl)

abbrev index_code : Coded Index
index_code = code_by (Place × (List ℕ × Option (Place × List ℕ))) (coded× place_code (coded× (coded_list coded_ℕ) (coded_option (coded× place_code (coded_list coded_ℕ)))))
    (λ i. (i.place, (i.text, i.conflict))) (λ t. record { place = t.0; text = t.1.0; conflict = t.1.1 }) (λ _. refl)

abbrev part_entry_code : Coded PartEntry
part_entry_code = code_by (List Name × (Option Index × List (Name × List Entry))) (coded× (coded_list name_code) (coded× (coded_option index_code) (coded_list (coded× name_code (coded_list entry_code)))))
    (λ e. (e.types, (e.index, e.properties))) (λ t. record { types = t.0; index = t.1.0; properties = t.1.1 }) (λ _. refl)

abbrev sum_code : Coded Sum
sum_code = code_by (List Name × List (Key × PartEntry)) (coded× (coded_list name_code) (coded_list (coded× (coded× name_code name_code) part_entry_code)))
    (λ s. (s.graphs, s.nodes)) (λ t. record { graphs = t.0; nodes = t.1 }) (λ _. refl)

abbrev pub run_code : Coded RunOf
run_code = code_by (ℕ × (ℕ × Sum)) (coded× coded_ℕ (coded× coded_ℕ sum_code)) (λ r. (r.first, (r.end, r.sum))) (λ t. record { first = t.0; end = t.1.0; sum = t.1.1 }) (λ _. refl)
