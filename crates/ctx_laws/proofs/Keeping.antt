-- What context processing keeps of the active context: something that settings leave, that null and term creation keep, and
-- so all local contexts that are processed for the sake of one.
use Rattle.std.proofs.Common.{◌≡◌, ℕ, zero, suc, List, [], ◌∷◌, Bool, true, false, not, ◌&&◌, ◌||◌, Option, Some, None, Result, Ok, Err, refl, codes, length, IfOk, is_none, if◌then◌else◌}
use Rattle.std.specs.List.{AllByRecursion}
use Rattle.ld_model.specs.Tree.{Tree, null, truth, whole, one_one, text, array, object, Pairs, member_list, member_at, is_empty}
use Rattle.case_tables.specs.declared.code.Code.{Code}
use Rattle.case_tables.specs.declared.code.Code.TheVariants.{InvalidContextEntry, InvalidPropagateValue, InvalidVersionValue}
use Rattle.ctx_types.specs.Context.{Text, Context}
use Rattle.ctx_types.specs.Expansion.{expand_iri}
use Rattle.ctx_store.specs.Stored.{Contexts}
use Rattle.ctx_model.specs.Outcome.{◌>>=◌, unless}
use Rattle.ctx_model.specs.Words.{among, is_iri_or_blank, is_absent_or_truth}
use Rattle.ctx_model.specs.State.{State, Local, Scoped}
use Rattle.ctx_model.specs.Definition.{side_named}
use Rattle.ctx_model.specs.Creation.{create_within}
use Rattle.ctx_model.specs.Process.{Ask, Process, Remote, propagates_in, with_previous, items_of, nullified, resolved_by, loaded, imported, importable, merged, is_known_version, new_base, based, vocab_set, language_set, side_set, settings_taken, is_term_key, terms_created, local_of, scoped_ask, remote_ask, remote_taken, terms_taken, map_taken, item_taken, items_taken, processed, goes_into, process_within}
use Rattle.ctx_laws.specs.Statements.{ItemHas, is_text}
use Rattle.ctx_laws.proofs.Merging.{entries_merged}

-- a step that goes on from a value of which Q holds
pub after : {A B : Type 0} (Q : A → Type 0) (R : B → Type 0) (r : Result A Code) (h : A → Result B Code) → IfOk r Q → ((a : A) → Q a → IfOk (h a) R) → IfOk (r >>= h) R
after Q R (Ok a) h holds next = next a holds
after Q R (Err e) h holds next = tt

-- a step that goes on from any value
pub after_any : {A B : Type 0} (R : B → Type 0) (r : Result A Code) (h : A → Result B Code) → ((a : A) → IfOk (h a) R) → IfOk (r >>= h) R
after_any R (Ok a) h next = next a
after_any R (Err e) h next = tt

-- a step that goes on from a value that the step before it gave
pub after_it : {A B : Type 0} (R : B → Type 0) (r : Result A Code) (h : A → Result B Code) → ((a : A) → r ≡ Ok a → IfOk (h a) R) → IfOk (r >>= h) R
after_it R (Ok a) h next = next a refl
after_it R (Err e) h next = tt

pub if_cond : {B : Type 0} (R : B → Type 0) (b : Bool) (x y : Result B Code) → IfOk x R → IfOk y R → IfOk (if b then x else y) R
if_cond R true x y hx hy = hx
if_cond R false x y hx hy = hy

-- The contexts have the same terms and the same original base URL.
pub record HasTermsOf (c d : Context) : Type 0 where
  pub terms : d.current.terms ≡ c.current.terms
  pub original : d.current.original ≡ c.current.original

abbrev pub has_own : (c : Context) → HasTermsOf c c
has_own c = record { terms = refl; original = refl }

-- settings
based_keeps : (remotes : List Text) (v : Option Tree) (c : Context) → IfOk (based remotes v c) (HasTermsOf c)
based_keeps [] None c = has_own c
based_keeps (r ∷ rs) v c = has_own c
based_keeps [] (Some null) c = record { terms = refl; original = refl }
based_keeps [] (Some (text t)) c = after_any (HasTermsOf c) (new_base t c.current.base) _ (λ b. record { terms = refl; original = refl })
based_keeps [] (Some (truth b)) c = tt
based_keeps [] (Some (whole n)) c = tt
based_keeps [] (Some one_one) c = tt
based_keeps [] (Some (array ts)) c = tt
based_keeps [] (Some (object ms)) c = tt

vocab_keeps : (v : Option Tree) (c : Context) → IfOk (vocab_set v c) (HasTermsOf c)
vocab_keeps None c = has_own c
vocab_keeps (Some null) c = record { terms = refl; original = refl }
vocab_keeps (Some (text t)) c = if_cond (HasTermsOf c) (is_iri_or_blank (expand_iri c.current true true t)) _ _ (record { terms = refl; original = refl }) tt
vocab_keeps (Some (truth b)) c = tt
vocab_keeps (Some (whole n)) c = tt
vocab_keeps (Some one_one) c = tt
vocab_keeps (Some (array ts)) c = tt
vocab_keeps (Some (object ms)) c = tt

language_keeps : (v : Option Tree) (c : Context) → IfOk (language_set v c) (HasTermsOf c)
language_keeps None c = has_own c
language_keeps (Some null) c = record { terms = refl; original = refl }
language_keeps (Some (text t)) c = record { terms = refl; original = refl }
language_keeps (Some (truth b)) c = tt
language_keeps (Some (whole n)) c = tt
language_keeps (Some one_one) c = tt
language_keeps (Some (array ts)) c = tt
language_keeps (Some (object ms)) c = tt

side_keeps : (v : Option Tree) (c : Context) → IfOk (side_set v c) (HasTermsOf c)
side_keeps None c = has_own c
side_keeps (Some null) c = record { terms = refl; original = refl }
side_keeps (Some (text t)) c = after_any (HasTermsOf c) (side_named t) _ (λ b. record { terms = refl; original = refl })
side_keeps (Some (truth b)) c = tt
side_keeps (Some (whole n)) c = tt
side_keeps (Some one_one) c = tt
side_keeps (Some (array ts)) c = tt
side_keeps (Some (object ms)) c = tt

pub previous_keeps : (propagates : Bool) (c : Context) → HasTermsOf c (with_previous propagates c)
previous_keeps propagates c = by (propagates || not (is_empty c.earlier))
  where
    by : (b : Bool) → HasTermsOf c (if b then c else record c { earlier = c.current ∷ [] })
    by true = has_own c
    by false = record { terms = refl; original = refl }

module _ (store : Contexts) (K : Context → Type 0) (C : Bool → Type 0) (E : Text × Tree → Type 0) where
  pub record Kept : Type 0 where
    pub same : (c d : Context) → HasTermsOf c d → K c → K d
    pub nulls : (propagates : Bool) (ask : Ask) (c : Context) → C ask.overrides → K ask.active → IfOk (nullified propagates ask c) K
    pub creates : (scoped : Scoped) (l : Local) (n : ℕ) (t : Text) (v : Tree) (s : State) → C l.overrides → AllByRecursion E l.entries → E (t, v) → K s.context → IfOk (create_within scoped l n t v s) (λ s₁. K s₁.context)
    pub never : C false
    pub loads : (iri : Text) (t : Tree) → loaded store iri ≡ Ok t → AllByRecursion (ItemHas E) (items_of t)

  module _ (kept : Kept) where
    settings_keep : (remotes : List Text) (es : Pairs) (c : Context) → K c → IfOk (settings_taken remotes es c) K
    unfolding settings_taken
    settings_keep remotes es c k =
        after (HasTermsOf c) K _ _ (based_keeps remotes (member_at (codes "@base") es) c)
        (λ c₁ h₁. after (HasTermsOf c₁) K _ _ (vocab_keeps (member_at (codes "@vocab") es) c₁)
        (λ c₂ h₂. after (HasTermsOf c₂) K _ _ (language_keeps (member_at (codes "@language") es) c₂)
        (λ c₃ h₃. after (HasTermsOf c₃) K _ _ (side_keeps (member_at (codes "@direction") es) c₃)
        (λ c₄ h₄. after_any K (unless (is_absent_or_truth (member_at (codes "@propagate") es)) InvalidPropagateValue) _
        (λ _. kept.same c₃ c₄ h₄ (kept.same c₂ c₃ h₃ (kept.same c₁ c₂ h₂ (kept.same c c₁ h₁ k))))))))

    entries_keep : (scoped : Scoped) (l : Local) (n : ℕ) (es : Pairs) (s : State) → C l.overrides → AllByRecursion E l.entries → AllByRecursion E es → K s.context → IfOk (terms_created (λ t v s. create_within scoped l n t v s) es s) (λ s₁. K s₁.context)
    entries_keep scoped l n [] s o all each k = k
    entries_keep scoped l n (e ∷ es) s o all each k =
        after (λ s₁. K s₁.context) (λ s₁. K s₁.context) _ _
        (if_cond (λ s₁. K s₁.context) (is_term_key e.0) (create_within scoped l n e.0 e.1 s) (Ok s) (kept.creates scoped l n e.0 e.1 s o all each.0 k) k)
        (λ s₁ k₁. entries_keep scoped l n es s₁ o all each.1 k₁)

    terms_keep : (scoped : Process) (ask : Ask) (es : Pairs) (c : Context) → C ask.overrides → AllByRecursion E es → K c → IfOk (terms_taken store scoped ask es c) K
    unfolding terms_taken
    terms_keep scoped ask es c o each k =
        after (λ s₁. K s₁.context) K _ _ (entries_keep (λ c v. scoped (scoped_ask ask c) v) (local_of ask es) (length es) es (record { context = c; defined = [] }) o each each k) (λ s₁ k₁. k₁)

    imports_have : (base : Option Text) (v : Option Tree) → IfOk (imported store base v) (AllByRecursion E)
    imports_have base None = tt
    imports_have base (Some (text t)) = after_it (AllByRecursion E) (loaded store (resolved_by base t)) _ (λ context is. by context (kept.loads (resolved_by base t) context is))
      where
        by : (t : Tree) → AllByRecursion (ItemHas E) (items_of t) → IfOk (importable t) (AllByRecursion E)
        by (object ms) all = after_any (AllByRecursion E) (unless (is_none (member_at (codes "@import") (member_list ms))) InvalidContextEntry) _ (λ _. all.0)
        by null all = tt
        by (text t) all = tt
        by (truth b) all = tt
        by (whole n) all = tt
        by one_one all = tt
        by (array ts) all = tt
    imports_have base (Some null) = tt
    imports_have base (Some (truth b)) = tt
    imports_have base (Some (whole n)) = tt
    imports_have base (Some one_one) = tt
    imports_have base (Some (array ts)) = tt
    imports_have base (Some (object ms)) = tt

    map_keeps : (scoped : Process) (ask : Ask) (own : Pairs) (c : Context) → C ask.overrides → AllByRecursion E own → K c → IfOk (map_taken store scoped ask own c) K
    unfolding map_taken
    map_keeps scoped ask own c o each k =
        after_any K (unless (is_known_version (member_at (codes "@version") own)) InvalidVersionValue) _
        (λ _. after (AllByRecursion E) K _ _ (imports_have ask.base (member_at (codes "@import") own))
        (λ imports theirs. after K K _ _ (settings_keep ask.remotes (merged own imports) c k)
        (λ c₁ k₁. terms_keep scoped ask (merged own imports) c₁ o (entries_merged E own imports each theirs) k₁)))

    -- Remote contexts are processed by something that keeps it.
    abbrev pub RemoteKeeps : Remote → Type 0
    RemoteKeeps remote = (ask : Ask) (iri : Text) → C ask.overrides → K ask.active → IfOk (remote ask (loaded store iri)) K

    remote_keeps : (remote : Remote) → RemoteKeeps remote → (ask : Ask) (iri : Text) (c : Context) → K c → IfOk (remote_taken store remote ask iri c) K
    unfolding remote_taken
    remote_keeps remote r ask iri c k = by (not ask.validates && among iri ask.remotes)
      where
        by : (b : Bool) → IfOk (elim b [ true ↦ Ok c | false ↦ remote (remote_ask ask iri c) (loaded store iri) ]) K
        by true = k
        by false = r (remote_ask ask iri c) iri kept.never k

    -- Where an item is no text, the call is of the kind.
    abbrev pub Calls : Ask → Tree → Type 0
    Calls ask t = is_text t ≡ false → C ask.overrides

    item_keeps : (remote : Remote) (scoped : Process) → RemoteKeeps remote → (propagates : Bool) (ask : Ask) (t : Tree) (c : Context) → Calls ask t → K ask.active → ItemHas E t → K c → IfOk (item_taken store remote scoped propagates ask t c) K
    unfolding item_taken
    item_keeps remote scoped r propagates ask null c o a has k = kept.nulls propagates ask c (o refl) a
    item_keeps remote scoped r propagates ask (text t) c o a has k = remote_keeps remote r ask (resolved_by ask.base t) c k
    item_keeps remote scoped r propagates ask (object ms) c o a has k = map_keeps scoped ask (member_list ms) c (o refl) has k
    item_keeps remote scoped r propagates ask (truth b) c o a has k = tt
    item_keeps remote scoped r propagates ask (whole n) c o a has k = tt
    item_keeps remote scoped r propagates ask one_one c o a has k = tt
    item_keeps remote scoped r propagates ask (array ts) c o a has k = tt

    items_keep : (remote : Remote) (scoped : Process) → RemoteKeeps remote → (propagates : Bool) (ask : Ask) (ts : List Tree) (c : Context) → AllByRecursion (Calls ask) ts → K ask.active → AllByRecursion (ItemHas E) ts → K c → IfOk (items_taken store remote scoped propagates ask ts c) K
    items_keep remote scoped r propagates ask [] c o a all k = k
    items_keep remote scoped r propagates ask (t ∷ ts) c o a all k =
        after K K _ _ (item_keeps remote scoped r propagates ask t c o.0 a all.0 k) (λ c₁ k₁. items_keep remote scoped r propagates ask ts c₁ o.1 a all.1 k₁)

    -- What keeps it, as a whole.
    abbrev pub ProcessKeeps : Process → Type 0
    ProcessKeeps process = (ask : Ask) (local : Tree) → AllByRecursion (Calls ask) (items_of local) → K ask.active → AllByRecursion (ItemHas E) (items_of local) → IfOk (process ask local) K

    processed_keeps : (remote : Remote) (scoped : Process) → RemoteKeeps remote → ProcessKeeps (processed store remote scoped)
    unfolding processed
    processed_keeps remote scoped r ask local o a all =
        let propagates = propagates_in ask.propagates local in
        items_keep remote scoped r propagates ask (items_of local) (with_previous propagates ask.active) o a all (kept.same ask.active (with_previous propagates ask.active) (previous_keeps propagates ask.active) a)

    all_call : (ask : Ask) (ts : List Tree) → C ask.overrides → AllByRecursion (Calls ask) ts
    all_call ask [] o = tt
    all_call ask (t ∷ ts) o = (λ _. o, all_call ask ts o)

    into_keeps : (process : Process) → ProcessKeeps process → RemoteKeeps (goes_into store process)
    into_keeps process keeps ask iri o a = after_it K (loaded store iri) _ (λ t is. keeps ask t (all_call ask (items_of t) o) a (kept.loads iri t is))

    pub process_keeps : (r s : ℕ) → ProcessKeeps (λ ask local. process_within store r s ask local)
    process_keeps zero zero ask local o a all = processed_keeps _ _ (λ ask iri o a. tt) ask local o a all
    process_keeps zero (suc s) ask local o a all = processed_keeps _ _ (λ ask iri o a. tt) ask local o a all
    process_keeps (suc r) zero ask local o a all = processed_keeps _ _ (into_keeps _ (λ ask local o a all. process_keeps r zero ask local o a all)) ask local o a all
    process_keeps (suc r) (suc s) ask local o a all = processed_keeps _ _ (into_keeps _ (λ ask local o a all. process_keeps r (suc s) ask local o a all)) ask local o a all
