-- Planning against expansion under the plan that it gives: the ranges that expansion reaches are the plan's, in its order, all of them where
-- expansion doesn't fail. What the two come to differs, errors too; only places and the order in which they are asked for are compared.
use Rattle.std.proofs.Common.{inl, inr, ℕ, zero, suc, ◌≡◌, ◌+◌, ◌<◌, ◌≤◌, List, [], ◌∷◌, ◌++◌, length, Bool, true, false, Option, None, Some, Result, Ok, Err, refl, sym, ap, ◌∙◌, subst, arith}
use Rattle.std.specs.Prelude.{if◌then◌else◌, nat_lt}
use Rattle.std.specs.List.{AllByRecursion}
use Rattle.ld_json.specs.declared.location.Step.{Step}
use Rattle.ld_json.specs.declared.location.Step.TheVariants.{Item}
use Rattle.ld_model.specs.Tree.{Tree, Trees, null, array, no_trees, tree, trees_of, weight}
use Rattle.expand_model.specs.Scope.{Options, Fault, in_item}
use Rattle.expand_model.specs.Rules.{At, ◌>>=◌, item_at, lists_at, spliced}
use Rattle.expand_model.specs.Expand.{items}
use Rattle.expand_model.specs.Over.{Outcome, state_of, here, settled_by, given, element_over, items_over, document_over}
use Rattle.range_laws.specs.Right.{first_trees, keeps_each}
use Rattle.cut_model.specs.Pieces.{Piece, Ranges, count, count_behind, ranges_of}
use Rattle.cut_model.specs.Legal.{IsLegal}
use Rattle.cut_model.specs.Reached.{piece_of, right_answer, noted, notes_ranges}
use Rattle.cut_model.specs.Planning.{is_light, taken_behind, Choice, walks_item, tries_item, passes_array, takes_range, cut_choice, heavy_choice, choice, Plan, with_piece, chosen, chooses, opens_or_takes}
use Rattle.cut_laws.proofs.Lists.{append_assoc, append_nil, all_map, all_append, IsFront, front_more}
use Rattle.cut_laws.proofs.Regions.{Region, Cone, Nothing, Either, Every, Is, Later, wider, deeper, all_of, cone_closed, itself, cones_disjoint, cancel_rest, item_number, item_later, entry_excludes, key_excludes, nests_excluded}
use Rattle.cut_laws.proofs.Places.{begins_itself}
use Rattle.cut_laws.proofs.PiecesInRegions.{IsIn, ranges_none, ranges_left, ranges_right, Apart, closed_apart, legal_append, count_first, count_all, KeysApart, AllApart, EachApart}
use Rattle.cut_laws.proofs.TwoRuns.{Rules, only_left, document_both}
use Rattle.cut_laws.proofs.LastReached.{AnyValues}
use Rattle.cut_laws.proofs.Unreached.{Silent, put_one, no_more, element_quiet, items_quiet}

cones_apart : (p : List Step) (A B : Step → Type 0) → ((x : Step) → A x → B x → ⊥) → Apart (Cone p A) (Cone p B)
cones_apart p A B h = closed_apart (Cone p A) (Cone p B) (cones_disjoint p A B h) (cone_closed p A) (cone_closed p B)

nothing_apart : (Q : Region) → Apart Q Nothing
nothing_apart Q = ((λ q h k. k), (λ q r h k. k), (λ q r h k. h))

-- What the one has noted stands in front of what the other has noted, and is all of it where it doesn't fail.
abbrev pub Follows : {X : Type 0} → List Piece → Outcome (List Piece) X → Type 0
Follows l (Ok v) = v.1 ≡ l
Follows l (Err e) = IsFront e.1 l

follows_state : {X : Type 0} (l : List Piece) (m : Outcome (List Piece) X) → state_of m ≡ l → Follows l m
follows_state l (Ok v) e = e
follows_state l (Err v) e = ([], sym e ∙ sym (append_nil v.1))

follows_to : {X : Type 0} {l l′ : List Piece} (m : Outcome (List Piece) X) → l ≡ l′ → Follows l m → Follows l′ m
follows_to m e h = subst (λ l. Follows l m) e h

here_state : {S X : Type 0} (s : S) (d : Result X Fault) → state_of (here s d) ≡ s
here_state s (Ok x) = refl
here_state s (Err f) = refl

-- a choice that passes over no array, and takes items that there are
abbrev Sound : Trees → Choice → Type 0
Sound ts walks_item = Unit {0}
Sound ts tries_item = Unit {0}
Sound ts (passes_array more) = ⊥
Sound ts (takes_range more) = more ≤ count ts

fitting_count : (limit sum : ℕ) (ts : Trees) → taken_behind limit sum ts ≤ count ts
fitting_count limit sum no_trees = omega arith
fitting_count limit sum (tree t ts) = by (is_light limit (sum + weight t)) (fitting_count limit (sum + weight t) ts)
  where
    by : (b : Bool) → taken_behind limit (sum + weight t) ts ≤ count ts → (if b then suc (taken_behind limit (sum + weight t) ts) else 0) ≤ suc (count ts)
    by true h = omega (arith, h)
    by false h = omega arith

cut_sound : (limit : ℕ) (t : Tree) (ts : Trees) → Sound ts (cut_choice limit t ts)
cut_sound limit t ts = by (is_light limit (weight t))
  where
    by : (b : Bool) → Sound ts (if b then takes_range (taken_behind limit (weight t) ts) else tries_item)
    by true = fitting_count limit (weight t) ts
    by false = tt

heavy_sound : (limit : ℕ) (t : Tree) (ts : Trees) → Sound ts (heavy_choice limit t ts)
heavy_sound limit t no_trees = tt
heavy_sound limit t (tree u us) = cut_sound limit t (tree u us)

abbrev IsSound : ℕ → Trees → ℕ → Type 0
IsSound limit no_trees n = Unit {0}
IsSound limit (tree t ts) n = Sound ts (choice limit t ts n)

later_sound : (limit : ℕ) (ts : Trees) (n : ℕ) → IsSound limit ts (suc n)
later_sound limit no_trees n = tt
later_sound limit (tree t ts) n = cut_sound limit t ts

none_left : (xs ys : List Piece) → nat_lt (length xs) (length (xs ++ ys)) ≡ false → ys ≡ []
none_left [] [] h = refl
none_left [] (y ∷ ys) h = absurd (grind (arith, h))
none_left (x ∷ xs) ys h = none_left xs ys (grind (arith, h))

abbrev empty : List Step → Type 0
empty [] = Unit {0}
empty (z ∷ zs) = ⊥

grows : (p : List Step) (x y : Step) (r : List Step) → p ++ x ∷ [] ≡ (p ++ x ∷ []) ++ y ∷ r → ⊥
grows p x y r e = no_cons (cancel_rest p x x [] (y ∷ r) (e ∙ append_assoc p (x ∷ []) (y ∷ r)))
  where
    no_cons : [] ≡ y ∷ r → ⊥
    no_cons h = subst empty h tt

module _ (o : Options) (ranges : Ranges) where
  -- the ranges in a region are those that were noted
  abbrev Agrees : Region → List Piece → Type 0
  Agrees Q new = (p : List Step) (n : ℕ) → Q (in_item n p) → ranges p n ≡ ranges_of new p n

  pub record Beside (X : Type 0) (Q : Region) (s : Plan) (l : List Piece) (m : Outcome Plan X) (m′ : Outcome (List Piece) X) : Type 0 where
    pub new : List Piece
    pub is : (state_of m).pieces ≡ s.pieces ++ new
    pub limit : (state_of m).limit ≡ s.limit
    pub within : AllByRecursion (IsIn Q) new
    pub legal : IsLegal new
    pub quiet : Silent ranges Q → state_of m′ ≡ l
    pub follows : Agrees Q new → Follows (l ++ new) m′

  -- nothing is noted
  beside_none : (X : Type 0) (Q : Region) (s : Plan) (l : List Piece) (m : Outcome Plan X) (m′ : Outcome (List Piece) X) → state_of m ≡ s → (Silent ranges Q → state_of m′ ≡ l) → Beside X Q s l m m′
  beside_none X Q s l m m′ e quiet = record {
    new = [];
    is = ap (λ z. z.pieces) e ∙ sym (append_nil s.pieces);
    limit = ap (λ z. z.limit) e;
    within = tt;
    legal = tt;
    quiet = quiet;
    follows = λ agrees. follows_state (l ++ []) m′ (quiet agrees ∙ sym (append_nil l));
  }

  beside_here : (X : Type 0) (Q : Region) (s : Plan) (l : List Piece) (d d′ : Result X Fault) → Beside X Q s l (here s d) (here l d′)
  beside_here X Q s l d d′ = beside_none X Q s l (here s d) (here l d′) (here_state s d) (λ _. here_state l d′)

  beside_both : (X Y : Type 0) (Q : Region) (s : Plan) (l : List Piece) (d : Result X Fault) (g : X × Plan → Outcome Plan Y) (g′ : X × List Piece → Outcome (List Piece) Y) → ((x : X) → d ≡ Ok x → Beside Y Q s l (g (x, s)) (g′ (x, l))) → Beside Y Q s l (here s d >>= g) (here l d >>= g′)
  beside_both X Y Q s l (Ok x) g g′ p = p x refl
  beside_both X Y Q s l (Err f) g g′ p = beside_none Y Q s l (Err (f, s)) (Err (f, l)) refl (λ _. refl)

  weaken : (X : Type 0) (Q Q′ : Region) (s : Plan) (l : List Piece) (m : Outcome Plan X) (m′ : Outcome (List Piece) X) → ((q : List Step) → Q q → Q′ q) → Beside X Q s l m m′ → Beside X Q′ s l m m′
  weaken X Q Q′ s l m m′ h p = record {
    new = p.new;
    is = p.is;
    limit = p.limit;
    within = all_map (IsIn Q) (IsIn Q′) (λ x inside n has. h (in_item n x.at.place) (inside n has)) p.new p.within;
    legal = p.legal;
    quiet = λ silent. p.quiet (λ r n k. silent r n (h (in_item n r) k));
    follows = λ agrees. p.follows (λ r n k. agrees r n (h (in_item n r) k));
  }

  -- what was noted first, and then
  module _ (Q R : Region) (apart : Apart Q R) where
    agrees_first : (xs ys : List Piece) → AllByRecursion (IsIn R) ys → IsLegal ys → Agrees (Either Q R) (xs ++ ys) → Agrees Q xs
    agrees_first xs ys inside legal agrees p n h = agrees p n (inl h) ∙ ranges_left xs ys p n (ranges_none R ys p n inside legal (λ k. apart.0 (in_item n p) h k))

    agrees_then : (xs ys : List Piece) → AllByRecursion (IsIn Q) xs → IsLegal xs → Agrees (Either Q R) (xs ++ ys) → Agrees R ys
    agrees_then xs ys inside legal agrees p n h = agrees p n (inr h) ∙ ranges_right xs ys p n (ranges_none Q xs p n inside legal (λ k. apart.0 (in_item n p) k h))

    silent_then : (xs : List Piece) → AllByRecursion (IsIn Q) xs → IsLegal xs → Agrees (Either Q R) xs → Silent ranges R
    silent_then xs inside legal agrees p n h = agrees p n (inr h) ∙ ranges_none Q xs p n inside legal (λ k. apart.0 (in_item n p) k h)

    both_in : (xs ys : List Piece) → AllByRecursion (IsIn Q) xs → AllByRecursion (IsIn R) ys → AllByRecursion (IsIn (Either Q R)) (xs ++ ys)
    both_in xs ys h k = all_append (IsIn (Either Q R)) xs ys (all_map (IsIn Q) (IsIn (Either Q R)) (λ x inside n has. inl (inside n has)) xs h) (all_map (IsIn R) (IsIn (Either Q R)) (λ x inside n has. inr (inside n has)) ys k)

    both_legal : (xs ys : List Piece) → AllByRecursion (IsIn Q) xs → AllByRecursion (IsIn R) ys → IsLegal xs → IsLegal ys → IsLegal (xs ++ ys)
    both_legal xs ys h k legal legal′ = legal_append Q R xs ys apart h k legal legal′

    beside_bind : (X Y : Type 0) (x₀ : X) (s : Plan) (l : List Piece) (m : Outcome Plan X) (m′ : Outcome (List Piece) X) (g : X × Plan → Outcome Plan Y) (g′ : X × List Piece → Outcome (List Piece) Y) → Beside X Q s l m m′ → ((x x′ : X) (s : Plan) (l : List Piece) → Beside Y R s l (g (x, s)) (g′ (x′, l))) → Beside Y (Either Q R) s l (m >>= g) (m′ >>= g′)
    beside_bind X Y x₀ s l (Ok v) (Ok w) g g′ p q =
        let r = q v.0 w.0 v.1 w.1 in
        record {
          new = p.new ++ r.new;
          is = r.is ∙ ap (λ z. z ++ r.new) p.is ∙ append_assoc s.pieces p.new r.new;
          limit = r.limit ∙ p.limit;
          within = both_in p.new r.new p.within r.within;
          legal = both_legal p.new r.new p.within r.within p.legal r.legal;
          quiet = λ silent. r.quiet (λ p n h. silent p n (inr h)) ∙ p.quiet (λ p n h. silent p n (inl h));
          follows = λ agrees.
              let first : w.1 ≡ l ++ p.new = p.follows (agrees_first p.new r.new r.within r.legal agrees) in
              follows_to (g′ w) (ap (λ z. z ++ r.new) first ∙ append_assoc l p.new r.new) (r.follows (agrees_then p.new r.new p.within p.legal agrees));
        }
    beside_bind X Y x₀ s l (Err e) (Ok w) g g′ p q =
        let r = q x₀ w.0 s w.1 in
        record {
          new = p.new;
          is = p.is;
          limit = p.limit;
          within = all_map (IsIn Q) (IsIn (Either Q R)) (λ x inside n has. inl (inside n has)) p.new p.within;
          legal = p.legal;
          quiet = λ silent. r.quiet (λ p n h. silent p n (inr h)) ∙ p.quiet (λ p n h. silent p n (inl h));
          follows = λ agrees.
              let first : w.1 ≡ l ++ p.new = p.follows (λ q n h. agrees q n (inl h)) in
              follows_state (l ++ p.new) (g′ w) (r.quiet (silent_then p.new p.within p.legal agrees) ∙ first);
        }
    beside_bind X Y x₀ s l (Ok v) (Err e) g g′ p q =
        let r = q v.0 x₀ v.1 l in
        record {
          new = p.new ++ r.new;
          is = r.is ∙ ap (λ z. z ++ r.new) p.is ∙ append_assoc s.pieces p.new r.new;
          limit = r.limit ∙ p.limit;
          within = both_in p.new r.new p.within r.within;
          legal = both_legal p.new r.new p.within r.within p.legal r.legal;
          quiet = λ silent. p.quiet (λ p n h. silent p n (inl h));
          follows = λ agrees.
              let first : IsFront e.1 (l ++ p.new) = p.follows (agrees_first p.new r.new r.within r.legal agrees) in
              subst (λ z. IsFront e.1 z) (append_assoc l p.new r.new) (front_more e.1 (l ++ p.new) r.new first);
        }
    beside_bind X Y x₀ s l (Err d) (Err e) g g′ p q =
        record {
          new = p.new;
          is = p.is;
          limit = p.limit;
          within = all_map (IsIn Q) (IsIn (Either Q R)) (λ x inside n has. inl (inside n has)) p.new p.within;
          legal = p.legal;
          quiet = λ silent. p.quiet (λ p n h. silent p n (inl h));
          follows = λ agrees. p.follows (λ q n h. agrees q n (inl h));
        }

  -- An array's items.
  abbrev Run : Type 0
  Run = (List Tree × ℕ) × Plan → Outcome Plan (List Tree)

  abbrev Run′ : Type 0
  Run′ = (List Tree × ℕ) × List Piece → Outcome (List Piece) (List Tree)

  abbrev rest_plan : Trees → ℕ → At → Run
  rest_plan ts n a v = items_over o chooses opens_or_takes ts v.0.1 (suc n) a v.0.0 v.1

  abbrev rest_run : Trees → ℕ → At → Run′
  rest_run ts n a v = items_over o (notes_ranges o ranges) keeps_each ts v.0.1 (suc n) a v.0.0 v.1

  abbrev Items : Trees → ℕ → At → Type 0
  Items ts n a = (k : ℕ) (out out′ : List Tree) (s : Plan) (l : List Piece) → IsSound s.limit ts n → Beside (List Tree) (Cone a.place (Later (n + k))) s l (items_over o chooses opens_or_takes ts k n a out s) (items_over o (notes_ranges o ranges) keeps_each ts k n a out′ l)

  -- An item that is expanded, and those behind it.
  shape : {S : Type 0} (m : Outcome S Tree) (lists : Bool) (out : List Tree) (c : (List Tree × ℕ) × S → Outcome S (List Tree)) → (((m >>= put_one lists out) >>= no_more) >>= c) ≡ (m >>= (λ v. c ((out ++ spliced lists v.0, 0), v.1)))
  shape (Ok v) lists out c = refl
  shape (Err e) lists out c = refl

  shape_kept : (m : Outcome Plan Tree) (lists : Bool) (out : List Tree) (c : Run) → (settled_by None lists out m >>= c) ≡ (m >>= (λ v. c ((out ++ spliced lists v.0, 0), v.1)))
  shape_kept (Ok v) lists out c = refl
  shape_kept (Err e) lists out c = refl

  abbrev Below : At → ℕ → Region
  Below a n = Cone (in_item n a.place) Every

  abbrev Behind : At → ℕ → Region
  Behind a n = Cone a.place (Later n)

  below_apart : (a : At) (n : ℕ) → Apart (Below a n) (Behind a (suc n + 0))
  below_apart a n = closed_apart (Below a n) (Behind a (suc n + 0)) (λ q h k. cones_disjoint a.place (Is (Item n)) (Later (suc n + 0)) (λ x i u. let b = u.1 in item_later n x i (u.0, omega arith, u.2)) q (deeper a.place (Item n) Every q h) k) (cone_closed (in_item n a.place) Every) (cone_closed a.place (Later (suc n + 0)))

  from_item : (a : At) (n : ℕ) (q : List Step) → Either (Below a n) (Behind a (suc n + 0)) q → Behind a (n + 0) q
  from_item a n q (inl h) = wider a.place (Is (Item n)) (Later (n + 0)) (λ x i. (n, omega arith, i)) q (deeper a.place (Item n) Every q h)
  from_item a n q (inr h) = wider a.place (Later (suc n + 0)) (Later (n + 0)) (λ x u. let b = u.1 in (u.0, omega arith, u.2)) q h

  not_itself : (a : At) (n : ℕ) → Either (Below a n) (Behind a (suc n + 0)) (in_item n a.place) → ⊥
  not_itself a n (inl h) = grows a.place (Item n) h.0 h.2 h.3
  not_itself a n (inr h) = cones_disjoint a.place (Is (Item n)) (Later (suc n + 0)) (λ x i u. let b = u.1 in item_later n x i (u.0, omega arith, u.2)) (in_item n a.place) (itself a.place (Item n) (Is (Item n)) refl) h

  -- what expansion has at an item, by the range that begins there
  abbrev asked_there : Tree → Trees → ℕ → At → List Tree → List Piece → Option ℕ → Outcome (List Piece) (List Tree)
  asked_there t ts n a out l g = given (element_over o (notes_ranges o ranges) keeps_each t (item_at n a)) (keeps_each (tree t ts) n a) (lists_at a) out (right_answer o g (tree t ts) n a) (noted g (tree t ts) n a l) >>= rest_run ts n a

  module _ (t : Tree) (ts : Trees) (n : ℕ) (a : At)
      (p : (s : Plan) (l : List Piece) → Beside Tree (Below a n) s l (element_over o chooses opens_or_takes t (item_at n a) s) (element_over o (notes_ranges o ranges) keeps_each t (item_at n a) l))
      (q : Items ts (suc n) a) where
    -- the item is opened
    beside_opened : (out out′ : List Tree) (s : Plan) (l : List Piece) → Beside (List Tree) (Behind a (n + 0)) s l (element_over o chooses opens_or_takes t (item_at n a) s >>= (λ v. rest_plan ts n a ((out ++ spliced (lists_at a) v.0, 0), v.1))) (asked_there t ts n a out′ l (ranges a.place n))
    beside_opened out out′ s l =
        let b = beside_bind (Below a n) (Behind a (suc n + 0)) (below_apart a n) Tree (List Tree) null s l (element_over o chooses opens_or_takes t (item_at n a) s) (element_over o (notes_ranges o ranges) keeps_each t (item_at n a) l) (λ v. rest_plan ts n a ((out ++ spliced (lists_at a) v.0, 0), v.1)) (λ v. rest_run ts n a ((out′ ++ spliced (lists_at a) v.0, 0), v.1)) (p s l)
        (λ x x′ s l. q 0 (out ++ spliced (lists_at a) x) (out′ ++ spliced (lists_at a) x′) s l (later_sound s.limit ts n)) in
        let same : ranges a.place n ≡ None → asked_there t ts n a out′ l (ranges a.place n) ≡ (element_over o (notes_ranges o ranges) keeps_each t (item_at n a) l >>= (λ v. rest_run ts n a ((out′ ++ spliced (lists_at a) v.0, 0), v.1))) =
        λ none. ap (λ g. asked_there t ts n a out′ l g) none ∙ shape (element_over o (notes_ranges o ranges) keeps_each t (item_at n a) l) (lists_at a) out′ (rest_run ts n a) in
        record {
          new = b.new;
          is = b.is;
          limit = b.limit;
          within = all_map (IsIn (Either (Below a n) (Behind a (suc n + 0)))) (IsIn (Behind a (n + 0))) (λ x inside m has. from_item a n (in_item m x.at.place) (inside m has)) b.new b.within;
          legal = b.legal;
          quiet = λ silent. items_quiet o ranges (tree t ts) n a 0 out′ l silent;
          follows = λ agrees.
              let none : ranges a.place n ≡ None = agrees a.place n (itself a.place (Item n) (Later (n + 0)) (n, omega arith, refl)) ∙ ranges_none (Either (Below a n) (Behind a (suc n + 0))) b.new a.place n b.within b.legal (not_itself a n) in
              subst (λ m. Follows (l ++ b.new) m) (sym (same none)) (b.follows (λ r m h. agrees r m (from_item a n (in_item m r) h)));
        }

    -- a range is taken
    abbrev piece : ℕ → Piece
    piece more = record { at = a; from = n; items = first_trees (suc more) (tree t ts) }

    abbrev Between : ℕ → Step → Type 0
    Between more x = (i : ℕ) × (n ≤ i) × (i < n + suc more) × (x ≡ Item i)

    in_piece : (more : ℕ) → IsIn (Cone a.place (Between more)) (piece more)
    in_piece more m has = let b = has.1 in let c = count_first more ts in itself a.place (Item m) (Between more) (m, has.0, omega (arith, b, c), refl)

    sides : (more : ℕ) → Apart (Cone a.place (Between more)) (Behind a (suc n + more))
    sides more = cones_apart a.place (Between more) (Later (suc n + more)) (λ x i u. let e = item_number i.0 u.0 (sym i.3 ∙ u.2) in let b = i.2 in let c = u.1 in omega (arith, e, b, c))

    from_piece : (more : ℕ) (q : List Step) → Either (Cone a.place (Between more)) (Behind a (suc n + more)) q → Behind a (n + 0) q
    from_piece more q (inl h) = wider a.place (Between more) (Later (n + 0)) (λ x i. let b = i.1 in (i.0, omega arith, i.3)) q h
    from_piece more q (inr h) = wider a.place (Later (suc n + more)) (Later (n + 0)) (λ x u. let b = u.1 in (u.0, omega arith, u.2)) q h

    abbrev put_answer : List Tree → ℕ → List Tree × List Piece → Outcome (List Piece) (List Tree × ℕ)
    put_answer out more rs = Ok ((out ++ rs.0, more), rs.1)

    abbrev outs : List Tree → Result (List Tree) Fault → List Tree
    outs out (Ok rs) = out ++ rs
    outs out (Err f) = out

    answer_follows : (x : Piece) (more : ℕ) (out : List Tree) (l new : List Piece) (d : Result (List Tree) Fault) → Follows ((l ++ x ∷ []) ++ new) (rest_run ts n a ((outs out d, more), l ++ x ∷ [])) → Follows (l ++ x ∷ new) ((here (l ++ x ∷ []) d >>= put_answer out more) >>= rest_run ts n a)
    answer_follows x more out l new (Ok rs) h = follows_to (rest_run ts n a ((out ++ rs, more), l ++ x ∷ [])) (append_assoc l (x ∷ []) new) h
    answer_follows x more out l new (Err f) h = (new, sym (append_assoc l (x ∷ []) new))

    beside_taken : (more : ℕ) → more ≤ count ts → (out out′ : List Tree) (s s₁ : Plan) (l : List Piece) → s₁.pieces ≡ s.pieces ++ piece more ∷ [] → s₁.limit ≡ s.limit → Beside (List Tree) (Behind a (n + 0)) s l (rest_plan ts n a ((out, more), s₁)) (asked_there t ts n a out′ l (ranges a.place n))
    beside_taken more enough out out′ s s₁ l noted_it same_limit =
        let x : Piece = piece more in
        let d : Result (List Tree) Fault = items o (first_trees (suc more) (tree t ts)) n a [] in
        let r = q more out (outs out′ d) s₁ (l ++ x ∷ []) (later_sound s₁.limit ts n) in
        let Q : Region = Cone a.place (Between more) in
        let R : Region = Behind a (suc n + more) in
        let one : IsLegal (x ∷ []) = (omega arith, tt, tt) in
        record {
          new = x ∷ r.new;
          is = r.is ∙ ap (λ z. z ++ r.new) noted_it ∙ append_assoc s.pieces (x ∷ []) r.new;
          limit = r.limit ∙ same_limit;
          within = all_map (IsIn (Either Q R)) (IsIn (Behind a (n + 0))) (λ y inside m has. from_piece more (in_item m y.at.place) (inside m has)) (x ∷ r.new) (both_in Q R (sides more) (x ∷ []) r.new (in_piece more, tt) r.within);
          legal = both_legal Q R (sides more) (x ∷ []) r.new (in_piece more, tt) r.within one r.legal;
          quiet = λ silent. items_quiet o ranges (tree t ts) n a 0 out′ l silent;
          follows = λ agrees.
              let begins_here : ranges a.place n ≡ Some more =
              agrees a.place n (itself a.place (Item n) (Later (n + 0)) (n, omega arith, refl))
              ∙ ap (λ b. if b then Some (count_behind x.items) else ranges_of r.new a.place n) (begins_itself x)
              ∙ ap (λ m. Some m) (count_all more ts enough) in
              subst (λ g. Follows (l ++ x ∷ r.new) (asked_there t ts n a out′ l g)) (sym begins_here)
              (answer_follows x more out′ l r.new d (r.follows (agrees_then Q R (sides more) (x ∷ []) r.new (in_piece more, tt) one (λ y m h. agrees y m (from_piece more (in_item m y) h)))));
        }

    beside_tried : (out out′ : List Tree) (s : Plan) (l : List Piece) (b : Bool) → nat_lt (length s.pieces) (length (state_of (element_over o chooses opens_or_takes t (item_at n a) s)).pieces) ≡ b
        → Beside (List Tree) (Behind a (n + 0)) s l (settled_by (if b then None else Some (with_piece (piece_of 0 (tree t ts) n a) (state_of (element_over o chooses opens_or_takes t (item_at n a) s)))) (lists_at a) out (element_over o chooses opens_or_takes t (item_at n a) s) >>= rest_plan ts n a) (asked_there t ts n a out′ l (ranges a.place n))
    beside_tried out out′ s l true h = subst (λ m. Beside (List Tree) (Behind a (n + 0)) s l m (asked_there t ts n a out′ l (ranges a.place n))) (sym (shape_kept (element_over o chooses opens_or_takes t (item_at n a) s) (lists_at a) out (rest_plan ts n a))) (beside_opened out out′ s l)
    beside_tried out out′ s l false h =
        let r = p s l in
        let none : r.new ≡ [] = none_left s.pieces r.new (ap (λ z. nat_lt (length s.pieces) (length z)) (sym r.is) ∙ h) in
        let as_before : (state_of (element_over o chooses opens_or_takes t (item_at n a) s)).pieces ≡ s.pieces = r.is ∙ ap (λ z. s.pieces ++ z) none ∙ append_nil s.pieces in
        beside_taken 0 (omega arith) out out′ s (with_piece (piece_of 0 (tree t ts) n a) (state_of (element_over o chooses opens_or_takes t (item_at n a) s))) l (ap (λ z. z ++ piece 0 ∷ []) as_before) r.limit

    beside_choice : (c : Choice) → Sound ts c → (out out′ : List Tree) (s : Plan) (l : List Piece)
        → Beside (List Tree) (Behind a (n + 0)) s l (given (element_over o chooses opens_or_takes t (item_at n a)) (opens_or_takes (tree t ts) n a) (lists_at a) out (chosen c (tree t ts) n a s).answer (chosen c (tree t ts) n a s).state >>= rest_plan ts n a) (asked_there t ts n a out′ l (ranges a.place n))
    beside_choice walks_item sound out out′ s l = subst (λ m. Beside (List Tree) (Behind a (n + 0)) s l m (asked_there t ts n a out′ l (ranges a.place n))) (sym (shape (element_over o chooses opens_or_takes t (item_at n a) s) (lists_at a) out (rest_plan ts n a))) (beside_opened out out′ s l)
    beside_choice tries_item sound out out′ s l = beside_tried out out′ s l (nat_lt (length s.pieces) (length (state_of (element_over o chooses opens_or_takes t (item_at n a) s)).pieces)) refl
    beside_choice (passes_array more) sound out out′ s l = absurd sound
    beside_choice (takes_range more) sound out out′ s l = beside_taken more sound (out ++ []) out′ s (with_piece (piece_of more (tree t ts) n a) s) l refl refl

    beside_next : Items (tree t ts) n a
    beside_next (suc k) out out′ s l sound = weaken (List Tree) (Behind a (suc n + k)) (Behind a (n + suc k)) s l _ _ (wider a.place (Later (suc n + k)) (Later (n + suc k)) (λ x u. let b = u.1 in (u.0, omega arith, u.2))) (q k out out′ s l (later_sound s.limit ts n))
    beside_next zero out out′ s l sound = beside_choice (choice s.limit t ts n) sound out out′ s l

  -- An array: it is passed over, or its items are.
  skip_all : (ts : Trees) (k n : ℕ) (a : At) (out : List Tree) (s : Plan) → k ≡ count ts → items_over o chooses opens_or_takes ts k n a out s ≡ Ok (out, s)
  skip_all no_trees k n a out s e = refl
  skip_all (tree t ts) zero n a out s e = absurd (omega (arith, e))
  skip_all (tree t ts) (suc k) n a out s e = skip_all ts k (suc n) a out s (omega (arith, e))

  abbrev plan_array : List Tree × Plan → Outcome Plan Tree
  plan_array v = Ok (array (trees_of v.0), v.1)

  abbrev run_array : List Tree × List Piece → Outcome (List Piece) Tree
  run_array v = Ok (array (trees_of v.0), v.1)

  walked : (ts : Trees) (a : At) (s : Plan) (l : List Piece) → Items ts 0 a → IsSound s.limit ts 0 → Beside Tree (Cone a.place Every) s l (element_over o chooses opens_or_takes (array ts) a s) (element_over o (notes_ranges o ranges) keeps_each (array ts) a l)
  walked ts a s l p sound =
      weaken Tree (Either (Behind a 0) Nothing) (Cone a.place Every) s l _ _ (λ q h. all_of a.place (Later 0) q (only_left (Behind a 0) q h))
      (beside_bind (Behind a 0) Nothing (nothing_apart (Behind a 0)) (List Tree) Tree [] s l (items_over o chooses opens_or_takes ts 0 0 a [] s) (items_over o (notes_ranges o ranges) keeps_each ts 0 0 a [] l) plan_array run_array (p 0 [] [] s l sound)
      (λ x x′ s l. beside_here Tree Nothing s l (Ok (array (trees_of x))) (Ok (array (trees_of x′)))))

  beside_array : (ts : Trees) (a : At) (s : Plan) (l : List Piece) → Items ts 0 a → Beside Tree (Cone a.place Every) s l (element_over o chooses opens_or_takes (array ts) a s) (element_over o (notes_ranges o ranges) keeps_each (array ts) a l)
  beside_array no_trees a s l p = walked no_trees a s l p tt
  beside_array (tree t ts) a s l p = by (is_light s.limit (weight (array (tree t ts)))) refl
    where
      by : (b : Bool) → is_light s.limit (weight (array (tree t ts))) ≡ b → Beside Tree (Cone a.place Every) s l (element_over o chooses opens_or_takes (array (tree t ts)) a s) (element_over o (notes_ranges o ranges) keeps_each (array (tree t ts)) a l)
      by true h = beside_none Tree (Cone a.place Every) s l _ _
          (ap (λ b. state_of (given (element_over o chooses opens_or_takes t (item_at 0 a)) (opens_or_takes (tree t ts) 0 a) (lists_at a) [] (chosen (if b then passes_array (count ts) else heavy_choice s.limit t ts) (tree t ts) 0 a s).answer (chosen (if b then passes_array (count ts) else heavy_choice s.limit t ts) (tree t ts) 0 a s).state >>= rest_plan ts 0 a >>= plan_array)) h
          ∙ ap (λ m. state_of (m >>= plan_array)) (skip_all ts (count ts) 1 a [] s refl))
          (λ silent. element_quiet o ranges (array (tree t ts)) a l silent)
      by false h = walked (tree t ts) a s l p (subst (λ b. Sound ts (if b then passes_array (count ts) else heavy_choice s.limit t ts)) (sym h) (heavy_sound s.limit t ts))

  beside_rules : Rules o chooses opens_or_takes (notes_ranges o ranges) keeps_each AnyValues Apart Beside Items (λ p t. KeysApart t) (λ p n ts. AllApart ts) (λ p ms. EachApart ms)
  beside_rules = record {
    same = λ X x. tt;
    weaken = weaken;
    tells = λ X Y Z Q s l g x x′ y y′ e h. beside_here Z Q s l (g x y) (g x′ y′);
    both = beside_both;
    bind = λ X Y x₀ Q R s l m m′ g g′ d p q. beside_bind Q R d X Y x₀ s l m m′ g g′ p (λ x x′ s l. q x x′ tt s l);
    no_items = λ n a k out out′ s l sound. beside_here (List Tree) (Behind a (n + k)) s l (Ok out) (Ok out′);
    next_item = λ t ts n a known p q. beside_next t ts n a p q;
    arrays = λ ts a s l known p. beside_array ts a s l p;
    of_array = λ p ts h. h;
    of_object = λ p ms h. h;
    of_trees = λ p n t ts h. h;
    of_members = λ p k t ms h. (h.1, h.2);
    nothing_first = λ Q. ((λ q h k. h), (λ q r h k. h), (λ q r h k. k));
    nothing_last = nothing_apart;
    items_apart = λ p n. cones_apart p (Is (Item n)) (Later (suc n)) (item_later n);
    entry_apart = λ b e k t ms h. cones_apart e.place _ _ (entry_excludes b e k ms h.0);
    key_apart = λ p k t ms h. cones_apart p _ _ (key_excludes k ms h.0);
    nests_apart = λ e ms. cones_apart e.place _ _ (nests_excluded e ms);
  }

  pub beside_document : (t : Tree) → KeysApart t → (s : Plan) (l : List Piece) → Beside (List Tree) (Cone [] Every) s l (document_over o chooses opens_or_takes t s) (document_over o (notes_ranges o ranges) keeps_each t l)
  beside_document t apart s l = document_both o chooses opens_or_takes (notes_ranges o ranges) keeps_each AnyValues Apart Beside Items (λ p t. KeysApart t) (λ p n ts. AllApart ts) (λ p ms. EachApart ms) beside_rules t apart s l
