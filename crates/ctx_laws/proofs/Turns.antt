-- Null, and the items of an array one after another.
use Rattle.std.proofs.Common.{◌≡◌, List, [], ◌∷◌, ◌++◌, Bool, true, false, not, ◌&&◌, ◌||◌, Result, Ok, Err, refl, sym, ap, ◌∙◌, subst, IfOk, if◌then◌else◌}
use Rattle.std.specs.List.{list_any}
use Rattle.ld_model.specs.Tree.{Tree, null, truth, whole, one_one, text, array, object, trees_of, tree_list-trees_of, is_empty}
use Rattle.case_tables.specs.declared.code.Code.{Code}
use Rattle.case_tables.specs.declared.code.Code.TheVariants.{InvalidContextNullification}
use Rattle.ctx_types.specs.Context.{Context, Settings, has_protected, initial}
use Rattle.ctx_store.specs.Stored.{Contexts}
use Rattle.ctx_model.specs.Outcome.{◌>>=◌, unless}
use Rattle.ctx_model.specs.Process.{Ask, Process, Remote, with_previous, propagates_in, nullified, remote_taken, terms_taken, map_taken, item_taken, items_taken, items_of, processed, process}
use Rattle.ctx_laws.specs.Statements.{stands_against_null, remembered, anew, over, is_item, is_null, IsItem, MayBeParted}
use Rattle.ctx_laws.specs.Laws.{NullBeginsAnew, ItemsGoInTurn}
use Rattle.ctx_laws.proofs.Original.{original_stays}

pub bind_ok : {A : Type 0} (r : Result A Code) → (r >>= (λ x. Ok x)) ≡ r
bind_ok (Ok x) = refl
bind_ok (Err e) = refl

pub bind_bind : {A B D : Type 0} (r : Result A Code) (f : A → Result B Code) (g : B → Result D Code) → (r >>= (λ a. f a >>= g)) ≡ (r >>= f >>= g)
bind_bind (Ok a) f g = refl
bind_bind (Err e) f g = refl

-- two ways to go on that come to the same where the first step gives a value
bind_on : {A B : Type 0} (r : Result A Code) (f g : A → Result B Code) → ((a : A) → r ≡ Ok a → f a ≡ g a) → (r >>= f) ≡ (r >>= g)
bind_on (Ok a) f g h = h a refl
bind_on (Err e) f g h = refl

-- null
earlier_is : (propagates : Bool) (c : Context) → (if propagates then [] else (with_previous propagates c).current ∷ (with_previous propagates c).earlier) ≡ (if propagates then [] else remembered c)
earlier_is true c = refl
earlier_is false c = by (is_empty c.earlier)
  where
    by : (b : Bool) → ((if not b then c else record c { earlier = c.current ∷ [] }).current ∷ (if not b then c else record c { earlier = c.current ∷ [] }).earlier) ≡ (c.current ∷ (if b then c.current ∷ [] else c.earlier))
    by true = refl
    by false = refl

null_gives : (o h : Bool) (c d : Context) → c ≡ d → (unless (o || not h) InvalidContextNullification >>= (λ _. Ok c)) ≡ (if not o && h then Err InvalidContextNullification else Ok d)
null_gives true h c d same = ap (λ c. Ok c) same
null_gives false true c d same = refl
null_gives false false c d same = ap (λ c. Ok c) same

begins_anew : (store : Contexts) (remote : Remote) (scoped : Process) (ask : Ask) → processed store remote scoped ask null ≡ (if stands_against_null ask then Err InvalidContextNullification else Ok (anew ask))
unfolding processed item_taken
begins_anew store remote scoped ask =
    bind_ok (nullified ask.propagates ask (with_previous ask.propagates ask.active))
    ∙ null_gives ask.overrides (has_protected ask.active.current.terms) _ _ (ap (λ (es : List Settings). record (initial ask.active.current.original) { earlier = es }) (earlier_is ask.propagates ask.active))

pub null_begins_anew : NullBeginsAnew
unfolding process
null_begins_anew store ask = begins_anew store _ _ ask

-- an array in two parts
module _ (store : Contexts) (remote : Remote) (scoped : Process) where
  append_taken : (propagates : Bool) (ask : Ask) (ts us : List Tree) (c : Context) → items_taken store remote scoped propagates ask (ts ++ us) c ≡ (items_taken store remote scoped propagates ask ts c >>= (λ d. items_taken store remote scoped propagates ask us d))
  append_taken propagates ask [] us c = refl
  append_taken propagates ask (t ∷ ts) us c =
      ap (λ (f : Context → Result Context Code). item_taken store remote scoped propagates ask t c >>= f) (λ i d. append_taken propagates ask ts us d i)
      ∙ bind_bind (item_taken store remote scoped propagates ask t c) (λ d. items_taken store remote scoped propagates ask ts d) (λ d. items_taken store remote scoped propagates ask us d)

  -- what null looks at in the context that was handed in
  abbrev SameForNull : Ask → Context → Type 0
  SameForNull ask d = (d.current.original ≡ ask.active.current.original) × (ask.overrides ≡ false → has_protected d.current.terms ≡ has_protected ask.active.current.terms)

  null_same : (propagates : Bool) (ask : Ask) (d c : Context) → SameForNull ask d → nullified propagates ask c ≡ nullified propagates (over ask d) c
  null_same propagates ask d c h = by ask.overrides h.1 ∙ ap (λ o. unless (ask.overrides || not (has_protected d.current.terms)) InvalidContextNullification >>= (λ _. Ok (record (initial o) { earlier = if propagates then [] else c.current ∷ c.earlier }))) (sym h.0)
    where
      by : (o : Bool) → (o ≡ false → has_protected d.current.terms ≡ has_protected ask.active.current.terms) → (unless (o || not (has_protected ask.active.current.terms)) InvalidContextNullification >>= (λ _. Ok (record (initial ask.active.current.original) { earlier = if propagates then [] else c.current ∷ c.earlier }))) ≡ (unless (o || not (has_protected d.current.terms)) InvalidContextNullification >>= (λ _. Ok (record (initial ask.active.current.original) { earlier = if propagates then [] else c.current ∷ c.earlier })))
      by true h = refl
      by false h = ap (λ b. unless (not b) InvalidContextNullification >>= (λ _. Ok (record (initial ask.active.current.original) { earlier = if propagates then [] else c.current ∷ c.earlier }))) (sym (h refl))

  item_same : (propagates : Bool) (ask : Ask) (d : Context) (t : Tree) (c : Context) → (is_null t ≡ true → SameForNull ask d) → item_taken store remote scoped propagates ask t c ≡ item_taken store remote scoped propagates (over ask d) t c
  unfolding item_taken remote_taken map_taken terms_taken
  item_same propagates ask d null c h = null_same propagates ask d c (h refl)
  item_same propagates ask d (text t) c h = refl
  item_same propagates ask d (object ms) c h = refl
  item_same propagates ask d (truth b) c h = refl
  item_same propagates ask d (whole n) c h = refl
  item_same propagates ask d one_one c h = refl
  item_same propagates ask d (array ts) c h = refl

  items_same : (propagates : Bool) (ask : Ask) (d : Context) (ts : List Tree) (c : Context) → (list_any is_null ts ≡ true → SameForNull ask d) → items_taken store remote scoped propagates ask ts c ≡ items_taken store remote scoped propagates (over ask d) ts c
  items_same propagates ask d [] c h = refl
  items_same propagates ask d (t ∷ ts) c h =
      ap (λ (r : Result Context Code). r >>= (λ e. items_taken store remote scoped propagates ask ts e)) (item_same propagates ask d t c (λ is. h (ap (λ b. b || list_any is_null ts) is)))
      ∙ ap (λ (f : Context → Result Context Code). item_taken store remote scoped propagates (over ask d) t c >>= f) (λ i e. items_same propagates ask d ts e (λ is. h (later (is_null t) is)) i)
    where
      later : (b : Bool) → list_any is_null ts ≡ true → (b || list_any is_null ts) ≡ true
      later true is = refl
      later false is = is

  array_is : (ask : Ask) (ts : List Tree) → processed store remote scoped ask (array (trees_of ts)) ≡ items_taken store remote scoped ask.propagates ask ts (with_previous ask.propagates ask.active)
  unfolding processed
  array_is ask ts = ap (λ us. items_taken store remote scoped ask.propagates ask us (with_previous ask.propagates ask.active)) (tree_list-trees_of ts)

  previous_is : (propagates : Bool) (c : Context) → (propagates || not (is_empty c.earlier)) ≡ true → c ≡ with_previous propagates c
  previous_is propagates c h = ap (λ b. if b then c else record c { earlier = c.current ∷ [] }) (sym h)

  parted : (ask : Ask) (ts us : List Tree)
      → ((c : Context) → processed store remote scoped ask (array (trees_of ts)) ≡ Ok c → (ask.propagates || not (is_empty c.earlier)) ≡ true)
      → ((c : Context) → processed store remote scoped ask (array (trees_of ts)) ≡ Ok c → list_any is_null us ≡ true → SameForNull ask c)
      → processed store remote scoped ask (array (trees_of (ts ++ us))) ≡ (processed store remote scoped ask (array (trees_of ts)) >>= (λ c. processed store remote scoped (over ask c) (array (trees_of us))))
  parted ask ts us previous same =
      array_is ask (ts ++ us)
      ∙ append_taken ask.propagates ask ts us (with_previous ask.propagates ask.active)
      ∙ ap (λ (r : Result Context Code). r >>= (λ c. items_taken store remote scoped ask.propagates ask us c)) (sym (array_is ask ts))
      ∙ bind_on (processed store remote scoped ask (array (trees_of ts))) _ _
      (λ c is. items_same ask.propagates ask c us c (same c is)
      ∙ ap (λ d. items_taken store remote scoped ask.propagates (over ask c) us d) (previous_is ask.propagates c (previous c is))
      ∙ sym (array_is (over ask c) us))

  one : (t : Tree) → is_item t ≡ true → items_of t ≡ t ∷ []
  one null is = refl
  one (truth b) is = refl
  one (whole n) is = refl
  one one_one is = refl
  one (text t) is = refl
  one (array ts) is = absurd (cc)
  one (object ms) is = refl

  alone : (ask : Ask) (t : Tree) → IsItem ask t → processed store remote scoped ask (array (trees_of (t ∷ []))) ≡ processed store remote scoped ask t
  unfolding processed
  alone ask t is =
      ap (λ p. items_taken store remote scoped p ask (t ∷ []) (with_previous p ask.active)) (sym is.propagates)
      ∙ ap (λ ts. items_taken store remote scoped (propagates_in ask.propagates t) ask ts (with_previous (propagates_in ask.propagates t) ask.active)) (sym (one t is.item))

outcome : {A : Type 0} (P : A → Type 0) (r : Result A Code) (a : A) → IfOk r P → r ≡ Ok a → P a
outcome P r a holds is = subst (λ r. IfOk r P) is holds

original_of : (store : Contexts) (ask : Ask) (local : Tree) (c : Context) → process store ask local ≡ Ok c → c.current.original ≡ ask.active.current.original
unfolding process
original_of store ask local c is = outcome (λ c. c.current.original ≡ ask.active.current.original) (process store ask local) c (original_stays store 32 128 ask local) is

in_parts : (store : Contexts) (ask : Ask) (ts us : List Tree) → MayBeParted store ask ts us → process store ask (array (trees_of (ts ++ us))) ≡ (process store ask (array (trees_of ts)) >>= (λ c. process store (over ask c) (array (trees_of us))))
unfolding process
in_parts store ask ts us may =
    parted store _ _ ask ts us may.previous (λ c is null. (original_of store ask (array (trees_of ts)) c is, λ o. may.protection c is null o))

by_itself : (store : Contexts) (ask : Ask) (t : Tree) → IsItem ask t → process store ask (array (trees_of (t ∷ []))) ≡ process store ask t
unfolding process
by_itself store ask t is = alone store _ _ ask t is

both : (store : Contexts) (ask : Ask) (a b : Tree) → IsItem ask a → IsItem ask b → MayBeParted store ask (a ∷ []) (b ∷ []) → process store ask (array (trees_of (a ∷ b ∷ []))) ≡ (process store ask a >>= (λ c. process store (over ask c) b))
both store ask a b first second may =
    in_parts store ask (a ∷ []) (b ∷ []) may
    ∙ bind_on (process store ask (array (trees_of (a ∷ [])))) _ _ (λ c is. by_itself store (over ask c) b (record { item = second.item; propagates = second.propagates }))
    ∙ ap (λ (r : Result Context Code). r >>= (λ c. process store (over ask c) b)) (by_itself store ask a first)

pub items_go_in_turn : ItemsGoInTurn
items_go_in_turn = record { parts = in_parts; alone = by_itself; two = both }
