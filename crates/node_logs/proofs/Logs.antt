-- What a log comes to once something further was told.
use Rattle.std.proofs.Common.{◌≡◌, ℕ, List, [], ◌∷◌, ◌++◌, append_assoc, append-nil, cond, ◌||◌, Bool, true, false, Ordering, Less, Equal, Greater, refl, sym, ap, ◌∙◌}
use Rattle.std.specs.Prelude.{map, ⊤}
use Rattle.std.specs.Ordering.{is_lt}
use Rattle.std.specs.Str.{bytes_eq}
use Rattle.std.specs.List.{AllByRecursion, list_any}
use Rattle.std.specs.Map.{keys_of}
use Rattle.std.proofs.lemmas.List.{map-append}
use Rattle.std.proofs.lemmas.Cmp.{nat_list_cmp_total}
use Rattle.ld_model.specs.Tree.{Tree, Pairs, array, text, trees_of, same_tree, byte_order, IsBefore, put, is_empty}
use Rattle.ld_model.specs.NodeMap.{added}
use Rattle.ld_model.proofs.Truths.{both}
use Rattle.node_model.specs.Keys.{type_key}
use Rattle.node_model.specs.AsTrees.{types_put}
use Rattle.node_model.specs.Maps.{MapOf, with_at}
use Rattle.node_model.specs.NodeMap.{told, type_told, entries_in, entries_or_none, with_entries}
use Rattle.node_logs.specs.Log.{all_told, types_told, properties_told}
use Rattle.node_logs.specs.declared.node.Told.{Told}
use Rattle.node_logs.specs.Merged.{trees_told, pair_of, is_first_after, properties_ascend}
use Rattle.node_logs.proofs.Maps.{at-with_at, with_at-with_at, behind, none_behind}

pub all_told-append : (ts us es : List Tree) → all_told (ts ++ us) es ≡ all_told us (all_told ts es)
all_told-append [] us es = refl
all_told-append (t ∷ ts) us es = all_told-append ts us (told t es)

pub types_told-append : (ts us old : List (List ℕ)) → types_told (ts ++ us) old ≡ types_told us (types_told ts old)
types_told-append [] us old = refl
types_told-append (t ∷ ts) us old = types_told-append ts us (type_told t old)

pub properties_told-append : (ts us : List Told) (ps : MapOf (List Tree)) → properties_told (ts ++ us) ps ≡ properties_told us (properties_told ts ps)
properties_told-append [] us ps = refl
properties_told-append (t ∷ ts) us ps = properties_told-append ts us (with_entries t.property (all_told t.entries) ps)

-- One change of the entries of a property, and then another.
pub with_entries-twice : (p : List ℕ) (f g : List Tree → List Tree) (ps : MapOf (List Tree)) → with_entries p f (with_entries p g ps) ≡ with_entries p (λ es. f (g es)) ps
with_entries-twice p f g ps =
    let es : List Tree = g (entries_in p ps) in
    ap (λ o. with_at p (f (entries_or_none o)) (with_at p es ps)) (at-with_at p es ps) ∙ with_at-with_at p (f es) es ps

-- A log that ends with this property already has it.
pub ends_with : (ts : List Told) (t : Told) (p : List ℕ) (ps : MapOf (List Tree)) → t.property ≡ p → properties_told (ts ++ t ∷ []) ps ≡ with_entries p (λ es. es) (properties_told (ts ++ t ∷ []) ps)
ends_with ts t p ps is =
    let whole : properties_told (ts ++ t ∷ []) ps ≡ with_entries p (all_told t.entries) (properties_told ts ps) =
    properties_told-append ts (t ∷ []) ps ∙ ap (λ q. with_entries q (all_told t.entries) (properties_told ts ps)) is in
    whole ∙ sym (with_entries-twice p (λ es. es) (all_told t.entries) (properties_told ts ps)) ∙ ap (with_entries p (λ es. es)) (sym whole)

-- A property of which nothing was told, behind a log.
pub nothing_behind : (ts : List Told) (t : Told) (p : List ℕ) (ps : MapOf (List Tree)) → t.property ≡ p → t.entries ≡ [] → properties_told (ts ++ t ∷ []) ps ≡ with_entries p (λ es. es) (properties_told ts ps)
nothing_behind ts t p ps is none =
    properties_told-append ts (t ∷ []) ps ∙ ap (λ q. with_entries q (all_told t.entries) (properties_told ts ps)) is
    ∙ ap (λ es. with_entries p (all_told es) (properties_told ts ps)) none

-- A further entry of the property with which a log ends.
pub entry_behind : (ts : List Told) (t u : Told) (p : List ℕ) (e : Tree) (ps old : MapOf (List Tree)) → t.property ≡ p → u.property ≡ t.property → u.entries ≡ t.entries ++ e ∷ [] → properties_told (ts ++ t ∷ []) ps ≡ with_entries p (λ es. es) old → properties_told (ts ++ u ∷ []) ps ≡ with_entries p (told e) old
entry_behind ts t u p e ps old is same more log =
    let before : MapOf (List Tree) = properties_told ts ps in
    properties_told-append ts (u ∷ []) ps ∙ ap (λ q. with_entries q (all_told u.entries) before) (same ∙ is)
    ∙ ap (λ f. with_entries p f before) (ap all_told more ∙ (λ i es. all_told-append t.entries (e ∷ []) es i))
    ∙ sym (with_entries-twice p (told e) (all_told t.entries) before)
    ∙ ap (λ q. with_entries p (told e) (with_entries q (all_told t.entries) before)) (sym is)
    ∙ ap (with_entries p (told e)) (sym (properties_told-append ts (t ∷ []) ps) ∙ log)
    ∙ with_entries-twice p (told e) (λ es. es) old

-- A log whose properties ascend has each of them once.
is_less : (o : Ordering) → is_lt o ≡ true → o ≡ Less
is_less Less is = refl
is_less Equal is = absurd (cc)
is_less Greater is = absurd (cc)

AreBehind : MapOf (List Tree) → List Told → Type 0
AreBehind ps [] = ⊤
AreBehind ps (t ∷ ts) = AllByRecursion (λ x. IsBefore x t.property) (keys_of ps)

all_before : (k l : List ℕ) (ps : MapOf (List Tree)) (es : List Tree) → IsBefore k l → AllByRecursion (λ x. IsBefore x k) (keys_of ps) → AllByRecursion (λ x. IsBefore x l) (keys_of (ps ++ (k, es) ∷ []))
all_before k l [] es less all = (less, tt)
all_before k l (p ∷ ps) es less all = (nat_list_cmp_total.trans p.0 k l all.0 less, all_before k l ps es less all.1)

behind_next : (t : Told) (ts : List Told) (ps : MapOf (List Tree)) → AllByRecursion (λ x. IsBefore x t.property) (keys_of ps) → is_first_after t.property ts ≡ true → AreBehind (ps ++ pair_of t ∷ []) ts
unfolding AreBehind
behind_next t [] ps all next = tt
behind_next t (u ∷ ts) ps all next = all_before t.property u.property ps (trees_told t.entries) (is_less (byte_order t.property u.property) next) all

told_behind : (t : Told) (ps : MapOf (List Tree)) → AllByRecursion (λ x. IsBefore x t.property) (keys_of ps) → with_entries t.property (all_told t.entries) ps ≡ ps ++ pair_of t ∷ []
told_behind t ps all =
    ap (λ o. with_at t.property (all_told t.entries (entries_or_none o)) ps) (none_behind t.property ps all) ∙ behind t.property (trees_told t.entries) ps all

ascending_told : (ts : List Told) (ps : MapOf (List Tree)) → AreBehind ps ts → properties_ascend ts ≡ true → ps ++ map pair_of ts ≡ properties_told ts ps
unfolding AreBehind
ascending_told [] ps all ascend = append-nil ps
ascending_told (t ∷ ts) ps all ascend =
    let parts = both (is_first_after t.property ts) (properties_ascend ts) ascend in
    sym (append_assoc ps (pair_of t ∷ []) (map pair_of ts)) ∙ ascending_told ts (ps ++ pair_of t ∷ []) (behind_next t ts ps all parts.0) parts.1
    ∙ ap (properties_told ts) (sym (told_behind t ps all))

none_behind_all : (ts : List Told) → AreBehind [] ts
unfolding AreBehind
none_behind_all [] = tt
none_behind_all (t ∷ ts) = tt

pub ascending-told : (ts : List Told) → properties_ascend ts ≡ true → map pair_of ts ≡ properties_told ts []
ascending-told ts ascend = ascending_told ts [] (none_behind_all ts) ascend

-- Types, and what is put of them.
types_put-some : (more : List (List ℕ)) (t : List ℕ) (ts : List (List ℕ)) (ms : Pairs) → put type_key (array (trees_of (map text (types_told more (t ∷ ts))))) ms ≡ types_put (types_told more (t ∷ ts)) ms
types_put-some [] t ts ms = refl
types_put-some (u ∷ more) t ts ms = by_found (list_any (bytes_eq u) (t ∷ ts)) (types_put-some more t)
  where
    by_found : (b : Bool) → ((ts : List (List ℕ)) (ms : Pairs) → put type_key (array (trees_of (map text (types_told more (t ∷ ts))))) ms ≡ types_put (types_told more (t ∷ ts)) ms) → put type_key (array (trees_of (map text (types_told more (cond b (t ∷ ts) ((t ∷ ts) ++ u ∷ [])))))) ms ≡ types_put (types_told more (cond b (t ∷ ts) ((t ∷ ts) ++ u ∷ []))) ms
    by_found true rest = rest ts ms
    by_found false rest = rest (ts ++ u ∷ []) ms

texts_any : (t : List ℕ) (ts : List (List ℕ)) → list_any (same_tree (text t)) (map text ts) ≡ list_any (bytes_eq t) ts
texts_any t [] = refl
texts_any t (u ∷ ts) = ap (λ b. bytes_eq t u || b) (texts_any t ts)

text-told : (t : List ℕ) (ts : List (List ℕ)) → told (text t) (map text ts) ≡ map text (type_told t ts)
unfolding added
text-told t ts = rw (texts_any t ts) (by_found (list_any (bytes_eq t) ts))
  where
    by_found : (b : Bool) → cond b (map text ts) (map text ts ++ text t ∷ []) ≡ map text (cond b ts (ts ++ t ∷ []))
    by_found true = refl
    by_found false = sym (map-append text ts (t ∷ []))

texts_told : (more ts : List (List ℕ)) → all_told (map text more) (map text ts) ≡ map text (types_told more ts)
texts_told [] ts = refl
texts_told (t ∷ more) ts = ap (all_told (map text more)) (text-told t ts) ∙ texts_told more (type_told t ts)

pub types_put-none : (ts : List (List ℕ)) (ms : Pairs) → is_empty (map text ts) ≡ true → ms ≡ types_put (types_told ts []) ms
types_put-none [] ms none = refl
types_put-none (t ∷ ts) ms none = absurd (cc)

pub types_put-is : (ts : List (List ℕ)) (ms : Pairs) → is_empty (map text ts) ≡ false → put type_key (array (trees_of (all_told (map text ts) []))) ms ≡ types_put (types_told ts []) ms
types_put-is [] ms some = absurd (cc)
types_put-is (t ∷ ts) ms some = ap (λ l. put type_key (array (trees_of l)) ms) (texts_told (t ∷ ts) []) ∙ types_put-some ts t [] ms
