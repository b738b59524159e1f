-- The IRIs of the lines before.
use Rattle.std.specs.Prelude.{ℕ, ◌≡◌, Bool, List}
use Rattle.std.specs.Borrow.{Bor}
use Rattle.std.specs.List.{list_any}
use Rattle.std.specs.Str.{bytes_eq}
use Rattle.std.specs.BTreeSet.{BTreeSet, contains_by}
use Rattle.ld_model.specs.Tree.{byte_order}

-- A set of texts has this one.
abbrev pub has : BTreeSet (Bor (List ℕ)) → List ℕ → Bool
has seen q = contains_by (λ text. byte_order q text.now) seen

-- A set has just these IRIs.
abbrev pub HasSeen : BTreeSet (Bor (List ℕ)) → List (List ℕ) → Type 0
HasSeen seen iris = (q : List ℕ) → has seen q ≡ list_any (λ iri. bytes_eq iri q) iris
