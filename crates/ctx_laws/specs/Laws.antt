-- The laws of context processing.
use Rattle.std.specs.Prelude.{ℕ, ◌≡◌, ◌≤◌, is_some, length, List, [], ◌∷◌, ◌++◌, true, Some, Ok, Err, if◌then◌else◌}
use Rattle.std.specs.Option.{option_or}
use Rattle.ld_model.specs.Tree.{Tree, null, array, trees_of, Pairs, member_at, AreAscending}
use Rattle.case_tables.specs.declared.code.Code.TheVariants.{InvalidContextNullification}
use Rattle.ctx_types.specs.Context.{Text, Definition, Context, definition_at}
use Rattle.ctx_store.specs.Stored.{Contexts}
use Rattle.ctx_model.specs.State.{State, Local, Scoped}
use Rattle.ctx_model.specs.Creation.{create_within}
use Rattle.ctx_model.specs.Outcome.{◌>>=◌}
use Rattle.ctx_model.specs.Process.{Ask, merged, with_previous, terms_created, process}
use Rattle.ctx_laws.specs.Statements.{IsNothing, stands_against_null, anew, over, untouched, NoneOverrides, AllHeed, IsItem, MayBeParted}

-- The merge of an item's own entries with imported ones has at each key the own value, or else the imported one; and its keys
-- ascend as theirs do.
pub record IsMergeOf (own imports both : Pairs) : Type 0 where
  pub values : (k : Text) → member_at k both ≡ option_or (member_at k own) (member_at k imports)
  pub ascending : AreAscending both

abbrev pub ImportsGiveWay : Type 0
ImportsGiveWay = (own imports : Pairs) → AreAscending own → AreAscending imports → IsMergeOf own imports (merged own imports)

-- An empty map or array gives the active context, which remembers itself where the call does not propagate.
abbrev pub NothingChangesNothing : Type 0
NothingChangesNothing = (store : Contexts) (ask : Ask) (local : Tree) → IsNothing local → process store ask local ≡ Ok (with_previous ask.propagates ask.active)

-- Null is refused exactly where protected terms stand against it, and else begins anew.
abbrev pub NullBeginsAnew : Type 0
NullBeginsAnew = (store : Contexts) (ask : Ask) → process store ask null ≡ (if stands_against_null ask then Err InvalidContextNullification else Ok (anew ask))

-- An array is processed part by part, and an item in it as by itself.
pub record ItemsGoInTurn : Type 0 where
  pub parts : (store : Contexts) (ask : Ask) (first second : List Tree) → MayBeParted store ask first second → process store ask (array (trees_of (first ++ second))) ≡ (process store ask (array (trees_of first)) >>= (λ c. process store (over ask c) (array (trees_of second))))
  pub alone : (store : Contexts) (ask : Ask) (local : Tree) → IsItem ask local → process store ask (array (trees_of (local ∷ []))) ≡ process store ask local
  pub two : (store : Contexts) (ask : Ask) (a b : Tree) → IsItem ask a → IsItem ask b → MayBeParted store ask (a ∷ []) (b ∷ []) → process store ask (array (trees_of (a ∷ b ∷ []))) ≡ (process store ask a >>= (λ c. process store (over ask c) b))

-- For a term that is a key of the local context, any number from that of the keys of which `defined` says nothing on gives the
-- same outcome; and for all entries of a local context, any number from theirs on.
pub record KeysAreEnough : Type 0 where
  pub term : (scoped : Scoped) (l : Local) (n more : ℕ) (t : Text) (v : Tree) (s : State) → is_some (member_at t l.entries) ≡ true → untouched l.entries s ≤ n → n ≤ more → create_within scoped l more t v s ≡ create_within scoped l n t v s
  pub entries : (scoped : Scoped) (l : Local) (more : ℕ) (s : State) → length l.entries ≤ more → terms_created (λ t v s. create_within scoped l more t v s) l.entries s ≡ terms_created (λ t v s. create_within scoped l (length l.entries) t v s) l.entries s

-- Where no item overrides protected terms, a protected term of the active context has its definition in the outcome, too.
-- It does so save where a local context that is processed makes the term a reverse property, or gives it an `@id` in the form of
-- a keyword.
abbrev pub ProtectedTermsStay : Type 0
ProtectedTermsStay = (store : Contexts) (ask : Ask) (local : Tree) (t : Text) (d : Definition) (c : Context) → definition_at t ask.active.current.terms ≡ Some d → d.protected ≡ true → NoneOverrides ask local → AllHeed store t local → process store ask local ≡ Ok c → definition_at t c.current.terms ≡ Some d
