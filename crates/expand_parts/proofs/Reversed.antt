-- The entries of a map at `@reverse`, where the value of its own `@reverse` was taken.
use Rattle.std.proofs.Common.{◌≡◌, [], ◌∷◌, Bool, true, false, Option, None, Some, Result, Ok, Err, refl, sym, ◌∙◌}
use Rattle.std.specs.Prelude.{codes}
use Rattle.std.specs.Str.{bytes_eq}
use Rattle.std.specs.Map.{set_value}
use Rattle.std.specs.BTreeMap.{is_at}
use Rattle.std.proofs.lemmas.Map.Text.{is_eq-slice_cmp}
use Rattle.ld_model.specs.Tree.{Tree, Pairs, byte_order, member_at, null}
use Rattle.ld_model.proofs.Puts.{bytes_eq-sym}
use Rattle.case_tables.specs.declared.code.Code.{Code}
use Rattle.ctx_model.specs.Outcome.{◌>>=◌}
use Rattle.expand_model.specs.Keywords.{each_reversed, reversed_in}
use Rattle.expand_model.specs.Properties.{reverses_of}

reversed_by : (ms : Pairs) (o : Option Tree) → member_at (codes "@reverse") ms ≡ o → reversed_in ms ≡ reverses_of o
reversed_by ms None is = rw is refl
reversed_by ms (Some t) is = rw is refl

-- What stands at `@reverse`, by a look-up.
pub reversed-at : (ms : Pairs) → reversed_in ms ≡ reverses_of (member_at (codes "@reverse") ms)
reversed-at ms = reversed_by ms (member_at (codes "@reverse") ms) refl

going_on : (d : Result Pairs Code) (ms ns : Pairs) → ((r : Pairs) → each_reversed ms r ≡ each_reversed ns r) → (d >>= λ r. each_reversed ms r) ≡ (d >>= λ r. each_reversed ns r)
going_on (Ok r) ms ns same = same r
going_on (Err e) ms ns same = refl

-- Its value doesn't count among the entries.
pub reversed-taken : (ms : Pairs) (r : Pairs) → each_reversed (set_value (is_at (byte_order (codes "@reverse"))) ms null) r ≡ each_reversed ms r
reversed-taken [] r = refl
reversed-taken (m ∷ ms) r = by_key (is_at (byte_order (codes "@reverse")) m.0) refl (λ q. reversed-taken ms q)
  where
    by_key : (b : Bool) → is_at (byte_order (codes "@reverse")) m.0 ≡ b → ((q : Pairs) → each_reversed (set_value (is_at (byte_order (codes "@reverse"))) ms null) q ≡ each_reversed ms q) → each_reversed (set_value (is_at (byte_order (codes "@reverse"))) (m ∷ ms) null) r ≡ each_reversed (m ∷ ms) r
    by_key true is more =
        let named : bytes_eq m.0 (codes "@reverse") ≡ true = bytes_eq-sym m.0 (codes "@reverse") ∙ sym (is_eq-slice_cmp (codes "@reverse") m.0) ∙ is in
        rw (is, named) refl
    by_key false is more = rw is (going_on _ (set_value (is_at (byte_order (codes "@reverse"))) ms null) ms more)
