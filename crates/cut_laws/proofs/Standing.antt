-- The pieces of a cut document stand in it.
use Rattle.std.proofs.Common.{ℕ, zero, suc, ◌≡◌, List, [], ◌∷◌, ◌++◌, length, Bool, true, false, Option, None, Some, Result, Ok, Err, refl, sym, ap, ◌∙◌, subst}
use Rattle.std.specs.Prelude.{if◌then◌else◌, nat_lt, nat_le, ◌*◌, slice_get}
use Rattle.std.specs.Option.{option_and_then}
use Rattle.std.specs.Str.{bytes_eq}
use Rattle.std.specs.List.{AllByRecursion}
use Rattle.ld_json.specs.declared.location.Step.{Step}
use Rattle.ld_json.specs.declared.location.Step.TheVariants.{Key, Item}
use Rattle.ld_model.specs.Tree.{Tree, Trees, Members, array, object, no_trees, tree, no_members, member, trees_of, tree_list, member_list, member_at}
use Rattle.ld_model.proofs.Puts.{bytes_eq-exact, bytes_eq-refl, at_first, at_later}
use Rattle.ctx_types.specs.Context.{Text}
use Rattle.expand_model.specs.Scope.{Options, Fault, in_key, in_item}
use Rattle.expand_model.specs.Rules.{At, ◌>>=◌, item_at, lists_at, spliced}
use Rattle.expand_model.specs.Over.{Outcome, state_of, here, settled_by, given, element_over, items_over}
use Rattle.range_laws.specs.Right.{first_trees, rest_trees}
use Rattle.cut_model.specs.Pieces.{Piece, count}
use Rattle.cut_model.specs.Reached.{piece_of}
use Rattle.cut_model.specs.Planning.{Choice, walks_item, tries_item, passes_array, takes_range, choice, Plan, empty_plan, capped, with_piece, chosen, chooses, opens_or_takes, planned}
use Rattle.cut_model.specs.Cutting.{cut_within, cut}
use Rattle.cut_model.specs.Standing.{step_to, value_at_place, StandsIn}
use Rattle.cut_laws.proofs.Lists.{all_append}
use Rattle.cut_laws.proofs.Regions.{Region, NotIn}
use Rattle.cut_laws.proofs.PiecesInRegions.{KeysApart, AllApart, EachApart}
use Rattle.cut_laws.proofs.TwoRuns.{Rules, document_both}
use Rattle.cut_laws.proofs.RightAnswers.{AnyRegions}
use Rattle.cut_laws.proofs.LastReached.{AnyValues}
use Rattle.cut_laws.proofs.Unreached.{put_one, no_more}

-- One step more.
then_some : (d : Option Tree) → option_and_then (λ u. Some u) d ≡ d
then_some None = refl
then_some (Some t) = refl

then_then : (f g h : Tree → Option Tree) → ((t : Tree) → f t ≡ option_and_then h (g t)) → (d : Option Tree) → option_and_then f d ≡ option_and_then h (option_and_then g d)
then_then f g h same None = refl
then_then f g h same (Some t) = same t

at_more : (p : List Step) (x : Step) (t : Tree) → value_at_place (p ++ x ∷ []) t ≡ option_and_then (step_to x) (value_at_place p t)
at_more [] x t = then_some (step_to x t)
at_more (y ∷ p) x t = then_then (value_at_place (p ++ x ∷ [])) (value_at_place p) (step_to x) (λ u. at_more p x u) (step_to y t)

-- Items from a number on.
abbrev is_tree : Trees → Type 0
is_tree no_trees = ⊥
is_tree (tree t ts) = Unit {0}

abbrev first_of : Tree → Trees → Tree
first_of d no_trees = d
first_of d (tree t ts) = t

abbrev behind_first : Trees → Trees
behind_first no_trees = no_trees
behind_first (tree t ts) = ts

rest_all : (ts : Trees) → rest_trees 0 ts ≡ ts
rest_all no_trees = refl
rest_all (tree t ts) = refl

rest_item : (n : ℕ) (whole : Trees) (t : Tree) (ts : Trees) → rest_trees n whole ≡ tree t ts → slice_get (tree_list whole) n ≡ Some t
rest_item n no_trees t ts is = absurd (subst is_tree (sym is) tt)
rest_item zero (tree u us) t ts is = ap (λ x. Some (first_of u x)) is
rest_item (suc n) (tree u us) t ts is = rest_item n us t ts is

rest_more : (n : ℕ) (whole : Trees) (t : Tree) (ts : Trees) → rest_trees n whole ≡ tree t ts → rest_trees (suc n) whole ≡ ts
rest_more n no_trees t ts is = absurd (subst is_tree (sym is) tt)
rest_more zero (tree u us) t ts is = rest_all us ∙ ap behind_first is
rest_more (suc n) (tree u us) t ts is = rest_more n us t ts is

first_count : (k : ℕ) (ts : Trees) → first_trees k ts ≡ first_trees (count (first_trees k ts)) ts
first_count k no_trees = refl
first_count zero (tree t ts) = refl
first_count (suc k) (tree t ts) = ap (tree t) (first_count k ts)

-- Each of these members is found at its key in the whole map.
abbrev Found : Members → Members → Type 0
Found whole no_members = Unit {0}
Found whole (member k t ms) = (member_at k (member_list whole) ≡ Some t) × Found whole ms

other_key : (k l : Text) → (k ≡ l → ⊥) → bytes_eq l k ≡ false
other_key k l apart = by (bytes_eq l k) refl
  where
    by : (b : Bool) → bytes_eq l k ≡ b → b ≡ false
    by false is = refl
    by true is = absurd (apart (sym (bytes_eq-exact l k is)))

found_behind : (k : Text) (t : Tree) (whole ms : Members) → NotIn k ms → Found whole ms → Found (member k t whole) ms
found_behind k t whole no_members not found = tt
found_behind k t whole (member l u ms) not found = (at_later l (k, t) (member_list whole) (other_key k l not.0) ∙ found.0, found_behind k t whole ms not.1 found.1)

each_found : (ms : Members) → EachApart ms → Found ms ms
each_found no_members apart = tt
each_found (member k t ms) apart = (at_first k (k, t) (member_list ms) (bytes_eq-refl k), found_behind k t ms ms apart.0 (each_found ms apart.2))

module _ (o : Options) (doc : Tree) where
  -- What is known of a value, of items and of the values of a map.
  record IsAt (p : List Step) (t : Tree) : Type 0 where
    at : value_at_place p doc ≡ Some t
    apart : KeysApart t

  record AreAt (p : List Step) (n : ℕ) (ts : Trees) : Type 0 where
    whole : Trees
    at : value_at_place p doc ≡ Some (array whole)
    rest : rest_trees n whole ≡ ts
    apart : AllApart ts

  abbrev ValuesAt : List Step → Members → Type 0
  ValuesAt p no_members = Unit {0}
  ValuesAt p (member k t ms) = IsAt (in_key k p) t × ValuesAt p ms

  items_at : (p : List Step) (ts : Trees) → IsAt p (array ts) → AreAt p 0 ts
  items_at p ts known = record { whole = ts; at = known.at; rest = rest_all ts; apart = known.apart }

  item_then : (p : List Step) (n : ℕ) (t : Tree) (ts : Trees) → AreAt p n (tree t ts) → IsAt (in_item n p) t × AreAt p (suc n) ts
  item_then p n t ts known = (
    record { at = at_more p (Item n) doc ∙ ap (option_and_then (step_to (Item n))) known.at ∙ rest_item n known.whole t ts known.rest; apart = known.apart.0 },
    record { whole = known.whole; at = known.at; rest = rest_more n known.whole t ts known.rest; apart = known.apart.1 },
  )

  values_at : (p : List Step) (whole : Members) → value_at_place p doc ≡ Some (object whole) → (ms : Members) → Found whole ms → EachApart ms → ValuesAt p ms
  values_at p whole at no_members found apart = tt
  values_at p whole at (member k t ms) found apart = (record { at = at_more p (Key k) doc ∙ ap (option_and_then (step_to (Key k))) at ∙ found.0; apart = apart.1 }, values_at p whole at ms found.1 apart.2)

  abbrev AllStand : List Piece → Type 0
  AllStand xs = AllByRecursion (λ x. StandsIn doc x) xs

  stands : (behind : ℕ) (t : Tree) (ts : Trees) (n : ℕ) (a : At) → AreAt a.place n (tree t ts) → StandsIn doc (piece_of behind (tree t ts) n a)
  stands behind t ts n a known = record { whole = known.whole; place = known.at; items = first_count (suc behind) (tree t ts) ∙ ap (first_trees (count (first_trees (suc behind) (tree t ts)))) (sym known.rest) }

  -- Pieces that stand in the document are kept, and only such are added.
  record Stand (X : Type 0) (Q : Region) (s l : Plan) (m m′ : Outcome Plan X) : Type 0 where
    by : AllStand s.pieces → AllStand (state_of m).pieces

  stand_here : (X : Type 0) (Q : Region) (s l : Plan) (d d′ : Result X Fault) → Stand X Q s l (here s d) (here l d′)
  stand_here X Q s l (Ok x) d = record { by = λ h. h }
  stand_here X Q s l (Err f) d = record { by = λ h. h }

  stand_both : (X Y : Type 0) (Q : Region) (s l : Plan) (d : Result X Fault) (g g′ : X × Plan → Outcome Plan Y) → ((x : X) → d ≡ Ok x → Stand Y Q s l (g (x, s)) (g′ (x, l))) → Stand Y Q s l (here s d >>= g) (here l d >>= g′)
  stand_both X Y Q s l (Ok x) g g′ p = record { by = (p x refl).by }
  stand_both X Y Q s l (Err f) g g′ p = record { by = λ h. h }

  stand_bind : (X Y : Type 0) (s l : Plan) (m : Outcome Plan X) (g : X × Plan → Outcome Plan Y) → (AllStand s.pieces → AllStand (state_of m).pieces) → ((x : X) (s : Plan) → AllStand s.pieces → AllStand (state_of (g (x, s))).pieces) → AllStand s.pieces → AllStand (state_of (m >>= g)).pieces
  stand_bind X Y s l (Ok v) g p q h = q v.0 v.1 (p h)
  stand_bind X Y s l (Err e) g p q h = p h

  abbrev Items : Trees → ℕ → At → Type 0
  Items ts n a = (k : ℕ) (out : List Tree) (s : Plan) → AllStand s.pieces → AllStand (state_of (items_over o chooses opens_or_takes ts k n a out s)).pieces

  abbrev rest_plan : Trees → ℕ → At → (List Tree × ℕ) × Plan → Outcome Plan (List Tree)
  rest_plan ts n a v = items_over o chooses opens_or_takes ts v.0.1 (suc n) a v.0.0 v.1

  module _ (t : Tree) (ts : Trees) (n : ℕ) (a : At) (known : AreAt a.place n (tree t ts))
      (p : (s : Plan) → AllStand s.pieces → AllStand (state_of (element_over o chooses opens_or_takes t (item_at n a) s)).pieces)
      (q : Items ts (suc n) a) where
    with_one : (behind : ℕ) (s : Plan) → AllStand s.pieces → AllStand (with_piece (piece_of behind (tree t ts) n a) s).pieces
    with_one behind s h = all_append (λ x. StandsIn doc x) s.pieces (piece_of behind (tree t ts) n a ∷ []) h (stands behind t ts n a known, tt)

    walked : (m : Outcome Plan Tree) (out : List Tree) → AllStand (state_of m).pieces → AllStand (state_of (((m >>= put_one (lists_at a) out) >>= no_more) >>= rest_plan ts n a)).pieces
    walked (Ok v) out h = q 0 (out ++ spliced (lists_at a) v.0) v.1 h
    walked (Err e) out h = h

    kept : (m : Outcome Plan Tree) (out : List Tree) → AllStand (state_of m).pieces → AllStand (state_of (settled_by None (lists_at a) out m >>= rest_plan ts n a)).pieces
    kept (Ok v) out h = q 0 (out ++ spliced (lists_at a) v.0) v.1 h
    kept (Err e) out h = h

    tried : (m : Outcome Plan Tree) (out : List Tree) (b : Bool) → AllStand (state_of m).pieces → AllStand (state_of (settled_by (if b then None else Some (with_piece (piece_of 0 (tree t ts) n a) (state_of m))) (lists_at a) out m >>= rest_plan ts n a)).pieces
    tried m out true h = kept m out h
    tried m out false h = q 0 out (with_piece (piece_of 0 (tree t ts) n a) (state_of m)) (with_one 0 (state_of m) h)

    stand_choice : (c : Choice) (out : List Tree) (s : Plan) → AllStand s.pieces → AllStand (state_of (given (element_over o chooses opens_or_takes t (item_at n a)) (opens_or_takes (tree t ts) n a) (lists_at a) out (chosen c (tree t ts) n a s).answer (chosen c (tree t ts) n a s).state >>= rest_plan ts n a)).pieces
    stand_choice walks_item out s h = walked (element_over o chooses opens_or_takes t (item_at n a) s) out (p s h)
    stand_choice tries_item out s h = tried (element_over o chooses opens_or_takes t (item_at n a) s) out (nat_lt (length s.pieces) (length (state_of (element_over o chooses opens_or_takes t (item_at n a) s)).pieces)) (p s h)
    stand_choice (passes_array behind) out s h = q behind (out ++ []) s h
    stand_choice (takes_range behind) out s h = q behind (out ++ []) (with_piece (piece_of behind (tree t ts) n a) s) (with_one behind s h)

    stand_next : Items (tree t ts) n a
    stand_next (suc k) out s h = q k out s h
    stand_next zero out s h = stand_choice (choice s.limit t ts n) out s h

  abbrev as_array : List Tree × Plan → Outcome Plan Tree
  as_array v = Ok (array (trees_of v.0), v.1)

  stand_rules : Rules o chooses opens_or_takes chooses opens_or_takes AnyValues AnyRegions Stand Items IsAt AreAt ValuesAt
  stand_rules = record {
    same = λ X x. tt;
    weaken = λ X Q Q′ s l m m′ h p. record { by = p.by };
    tells = λ X Y Z Q s l g x x′ y y′ e h. stand_here Z Q s l (g x y) (g x′ y′);
    both = stand_both;
    bind = λ X Y x₀ Q R s l m m′ g g′ d p q. record { by = stand_bind X Y s l m g p.by (λ x s. (q x x tt s l).by) };
    no_items = λ n a k out s h. h;
    next_item = λ t ts n a known p q. stand_next t ts n a known (λ s. (p s s).by) q;
    arrays = λ ts a s l known p. record { by = stand_bind (List Tree) Tree s l (items_over o chooses opens_or_takes ts 0 0 a [] s) as_array (p 0 [] s) (λ x s h. h) };
    of_array = items_at;
    of_object = λ p ms known. values_at p ms known.at ms (each_found ms known.apart) known.apart;
    of_trees = item_then;
    of_members = λ p k t ms h. (h.0, h.1);
    nothing_first = λ Q. tt;
    nothing_last = λ Q. tt;
    items_apart = λ p n. tt;
    entry_apart = λ b e k t ms h. tt;
    key_apart = λ p k t ms h. tt;
    nests_apart = λ e ms. tt;
  }

  module _ (apart : KeysApart doc) where
    planned_stands : (limit : ℕ) → AllStand (planned o limit doc)
    planned_stands limit = (document_both o chooses opens_or_takes chooses opens_or_takes AnyValues AnyRegions Stand Items IsAt AreAt ValuesAt stand_rules doc (record { at = refl; apart = apart }) (empty_plan limit) (empty_plan limit)).by tt

    within_stands : (n limit : ℕ) → AllStand (cut_within n o doc limit)
    unfolding cut_within
    within_stands zero limit = planned_stands limit
    within_stands (suc n) limit = by (nat_le (length (planned o limit doc)) 4096) (within_stands n (capped (limit * 2)))
      where
        by : (b : Bool) → AllStand (cut_within n o doc (capped (limit * 2))) → AllStand (if b then planned o limit doc else cut_within n o doc (capped (limit * 2)))
        by true rest = planned_stands limit
        by false rest = rest

    pub cut_stands : (limit : ℕ) → AllStand (cut o doc limit)
    cut_stands limit = within_stands 64 limit
