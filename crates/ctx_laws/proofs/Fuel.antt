-- The number of keys is enough for term creation.
use Rattle.std.proofs.Common.{◌≡◌, ℕ, zero, suc, ◌+◌, ◌≤◌, ◌<◌, [], ◌∷◌, Bool, true, false, cond, Option, Some, None, is_some, is_none, length, Result, Ok, Err, refl, sym, ap, ◌∙◌, subst, IfOk, arith, le_refl, if◌then◌else◌}
use Rattle.std.specs.Str.{bytes_eq}
use Rattle.std.specs.List.{AllByRecursion}
use Rattle.std.specs.BTreeMap.{is_at}
use Rattle.ld_model.specs.Tree.{Tree, Pairs, byte_order, member_at}
use Rattle.ld_model.proofs.Puts.{bytes_eq-exact}
use Rattle.case_tables.specs.declared.code.Code.{Code}
use Rattle.case_tables.specs.declared.code.Code.TheVariants.{CyclicIriMapping}
use Rattle.ctx_types.specs.Context.{Text, Context}
use Rattle.ctx_model.specs.Outcome.{◌>>=◌}
use Rattle.ctx_model.specs.State.{State, Local, Scoped, mark, mark_of, stored, without_term}
use Rattle.ctx_model.specs.Creation.{create_new, unless_defined, create_within}
use Rattle.ctx_model.specs.Process.{is_term_key, entry_created, terms_created}
use Rattle.ctx_laws.specs.Statements.{untouched}
use Rattle.ctx_laws.specs.Laws.{KeysAreEnough}
use Rattle.ctx_laws.proofs.Lookups.{at_inserted, at_other, at-is, at-self}
use Rattle.ctx_laws.proofs.Agreement.{itself, Agree, Bears, create_agrees}

-- one where the key is untouched
abbrev counted : Option Bool → ℕ
counted o = if is_none o then 1 else 0

-- what the mark of one key does to another's
mark_at : (k t : Text) (b : Bool) (s : State) → counted (mark_of k (mark t b s)) ≤ counted (mark_of k s)
mark_at k t b s = by (bytes_eq k t) refl
  where
    by : (same : Bool) → bytes_eq k t ≡ same → counted (mark_of k (mark t b s)) ≤ counted (mark_of k s)
    by true h = let is : mark_of k (mark t b s) ≡ Some b = subst (λ x. mark_of x (mark t b s) ≡ Some b) (sym (bytes_eq-exact k t h)) (at_inserted t b s.defined) in rw is (omega arith)
    by false h = let is : mark_of k (mark t b s) ≡ mark_of k s = at_other k t b s.defined h in rw is (le_refl _)

pub marked_fewer : (es : Pairs) (t : Text) (b : Bool) (s : State) → untouched es (mark t b s) ≤ untouched es s
marked_fewer [] t b s = le_refl 0
marked_fewer (e ∷ es) t b s = let first = mark_at e.0 t b s in let rest = marked_fewer es t b s in omega (arith, first, rest)

-- a key that is marked for the first time
pub marked_one : (es : Pairs) (t : Text) (b : Bool) (s : State) → is_some (member_at t es) ≡ true → mark_of t s ≡ None → untouched es (mark t b s) < untouched es s
marked_one [] t b s key none = absurd (cc)
marked_one (e ∷ es) t b s key none = by (is_at (byte_order t) e.0) refl key (marked_one es t b s)
  where
    by : (same : Bool) → is_at (byte_order t) e.0 ≡ same → is_some (cond same (Some e.1) (member_at t es)) ≡ true → (is_some (member_at t es) ≡ true → mark_of t s ≡ None → untouched es (mark t b s) < untouched es s) → untouched (e ∷ es) (mark t b s) < untouched (e ∷ es) s
    by true h key rest =
        let same : t ≡ e.0 = bytes_eq-exact t e.0 (sym (at-is t e.0) ∙ h) in
        let before : counted (mark_of e.0 s) ≡ 1 = ap counted (subst (λ x. mark_of x s ≡ None) same none) in
        let behind : counted (mark_of e.0 (mark t b s)) ≡ 0 = ap counted (subst (λ x. mark_of x (mark t b s) ≡ Some b) same (at_inserted t b s.defined)) in
        let others = marked_fewer es t b s in
        omega (arith, before, behind, others)
    by false h key rest = let first = mark_at e.0 t b s in let fewer = rest key none in omega (arith, first, fewer)

-- terms have no say in it
with_context : (es : Pairs) (s : State) (c : Context) → untouched es (record s { context = c }) ≡ untouched es s
with_context [] s c = refl
with_context (e ∷ es) s c = ap (λ n. counted (mark_of e.0 s) + n) (with_context es s c)

module _ (scoped : Scoped) (l : Local) where
  -- at most this many keys are untouched
  abbrev AtMost : ℕ → State → Type 0
  AtMost b s = untouched l.entries s ≤ b

  bears : (b : ℕ) (t : Text) → Bears (AtMost b) t
  bears b t =
      record {
        marks = λ m s p. let fewer = marked_fewer l.entries t m s in omega (arith, fewer, p);
        drops = λ s p. let same = with_context l.entries s (without_term t s).context in omega (arith, same, p);
        stores = λ d s p. let same = with_context l.entries (mark t true s) (stored t d s).context in let fewer = marked_fewer l.entries t true s in omega (arith, same, fewer, p);
      }

  looser : (b c : ℕ) (r : Result State Code) → b ≤ c → IfOk r (AtMost b) → IfOk r (AtMost c)
  looser b c (Ok s) less p = omega (arith, less, p)
  looser b c (Err e) less p = tt

  -- where the term is marked
  marked : (b : ℕ) (s : State) (o : Option Bool) (r q : Result State Code) → AtMost b s → (o ≡ None → Agree (AtMost b) itself r q) → Agree (AtMost b) itself (elim o [ Some m ↦ unless_defined (Some m) s (Ok s) | None ↦ r ]) (elim o [ Some m ↦ unless_defined (Some m) s (Ok s) | None ↦ q ])
  marked b s (Some true) r q p next = (refl, p)
  marked b s (Some false) r q p next = (refl, tt)
  marked b s None r q p next = next refl

  no_more : (b : ℕ) (s : State) (o : Option Bool) (q : Result State Code) → AtMost b s → (o ≡ None → ⊥) → Agree (AtMost b) itself (unless_defined o s (Err CyclicIriMapping)) (elim o [ Some m ↦ unless_defined (Some m) s (Ok s) | None ↦ q ])
  no_more b s (Some true) q p never = (refl, p)
  no_more b s (Some false) q p never = (refl, tt)
  no_more b s None q p never = absurd (never refl)

  stuck : (b : ℕ) (s : State) (o : Option Bool) → AtMost b s → Agree (AtMost b) itself (unless_defined o s (Err CyclicIriMapping)) (unless_defined o s (Err CyclicIriMapping))
  stuck b s (Some true) p = (refl, p)
  stuck b s (Some false) p = (refl, tt)
  stuck b s None p = (refl, tt)

  key_of : (u : Text) (v : Tree) → member_at u l.entries ≡ Some v → is_some (member_at u l.entries) ≡ true
  key_of u v is = ap is_some is

  enough : (n more b : ℕ) (t : Text) (v : Tree) (s : State) → n ≤ more → b ≤ n → is_some (member_at t l.entries) ≡ true → AtMost b s → Agree (AtMost b) itself (create_within scoped l n t v s) (create_within scoped l more t v s)
  enough zero zero b t v s less in_n key p = stuck b s (mark_of t s) p
  enough zero (suc more) b t v s less in_n key p =
      no_more b s (mark_of t s) _ p (λ none. let fewer = marked_one l.entries t false s key none in omega (arith, fewer, p, in_n))
  enough (suc n) zero b t v s less in_n key p = absurd (omega (arith, less))
  enough (suc n) (suc more) b t v s less in_n key p =
      marked b s (mark_of t s) _ _ p
      (λ none. by (untouched l.entries (mark t false s)) refl (marked_one l.entries t false s key none) (λ c u w s₁ in_c is p₁. enough n more c u w s₁ (omega (arith, less)) in_c (key_of u w is) p₁))
    where
      by : (c : ℕ) → untouched l.entries (mark t false s) ≡ c → untouched l.entries (mark t false s) < untouched l.entries s
          → ((c : ℕ) (u : Text) (w : Tree) (s₁ : State) → c ≤ n → member_at u l.entries ≡ Some w → AtMost c s₁ → Agree (AtMost c) itself (create_within scoped l n u w s₁) (create_within scoped l more u w s₁))
          → Agree (AtMost b) itself (create_new (λ t v s. create_within scoped l n t v s) scoped l t v s) (create_new (λ t v s. create_within scoped l more t v s) scoped l t v s)
      by c is fewer next =
          let in_c : c ≤ n = omega (arith, is, fewer, p, in_n) in
          let same = create_agrees (AtMost c) (λ t v s. create_within scoped l n t v s) (λ t v s. create_within scoped l more t v s) l (λ u w s₁ is p₁. next c u w s₁ in_c is p₁) scoped t (bears c t) v s (omega (arith, is)) in
          (same.0, looser c b _ (omega (arith, is, fewer, p)) same.1)

term_enough : (scoped : Scoped) (l : Local) (n more : ℕ) (t : Text) (v : Tree) (s : State) → is_some (member_at t l.entries) ≡ true → untouched l.entries s ≤ n → n ≤ more → create_within scoped l more t v s ≡ create_within scoped l n t v s
term_enough scoped l n more t v s key untouched less = sym (enough scoped l n more n t v s less (le_refl n) key untouched).0

-- the entries of a local context, one after another
at_most_all : (es : Pairs) (s : State) → untouched es s ≤ length es
at_most_all [] s = le_refl 0
at_most_all (e ∷ es) s = let rest = at_most_all es s in let one = at_most_one (mark_of e.0 s) in omega (arith, rest, one)
  where
    at_most_one : (o : Option Bool) → counted o ≤ 1
    at_most_one None = le_refl 1
    at_most_one (Some b) = omega (arith)

keys_here : (all es : Pairs) → ((k : Text) → is_some (member_at k es) ≡ true → is_some (member_at k all) ≡ true) → AllByRecursion (λ e. is_some (member_at e.0 all) ≡ true) es
keys_here all [] from = tt
keys_here all (e ∷ es) from = (from e.0 (ap (λ b. is_some (cond b (Some e.1) (member_at e.0 es))) (at-self e.0)), keys_here all es (λ k is. from k (later k (is_at (byte_order k) e.0) is)))
  where
    later : (k : Text) (b : Bool) → is_some (member_at k es) ≡ true → is_some (cond b (Some e.1) (member_at k es)) ≡ true
    later k true is = refl
    later k false is = is

module _ (scoped : Scoped) (l : Local) (more : ℕ) (less : length l.entries ≤ more) where
  entry_same : (b : Bool) (e : Text × Tree) (s : State) → is_some (member_at e.0 l.entries) ≡ true → (if b then create_within scoped l more e.0 e.1 s else Ok s) ≡ (if b then create_within scoped l (length l.entries) e.0 e.1 s else Ok s)
  entry_same true e s key = term_enough scoped l (length l.entries) more e.0 e.1 s key (at_most_all l.entries s) less
  entry_same false e s key = refl

  entries_same : (es : Pairs) (s : State) → AllByRecursion (λ e. is_some (member_at e.0 l.entries) ≡ true) es → terms_created (λ t v s. create_within scoped l more t v s) es s ≡ terms_created (λ t v s. create_within scoped l (length l.entries) t v s) es s
  entries_same [] s keys = refl
  entries_same (e ∷ es) s keys =
      ap (λ (r : Result State Code). r >>= (λ s₁. terms_created (λ t v s. create_within scoped l more t v s) es s₁)) (entry_same (is_term_key e.0) e s keys.0)
      ∙ ap (λ (f : State → Result State Code). entry_created (λ t v s. create_within scoped l (length l.entries) t v s) e s >>= f) (λ i s₁. entries_same es s₁ keys.1 i)

pub keys_are_enough : KeysAreEnough
keys_are_enough = record { term = term_enough; entries = λ scoped l more s less. entries_same scoped l more less l.entries s (keys_here l.entries l.entries (λ k is. is)) }
