-- Answers that are right for each range that expansion reaches make the outcome that of expansion, its first error too.
use Rattle.std.proofs.Common.{ℕ, zero, suc, ◌≡◌, List, [], ◌∷◌, ◌++◌, Option, None, Some, Result, Ok, Err, refl, sym, ap, ◌∙◌, subst}
use Rattle.std.specs.List.{AllByRecursion}
use Rattle.ld_json.specs.declared.location.Step.{Step}
use Rattle.ld_model.specs.Tree.{Tree, Trees, array, tree, trees_of}
use Rattle.expand_model.specs.Scope.{Options, Fault}
use Rattle.expand_model.specs.Rules.{At, ◌>>=◌, item_at, lists_at, spliced}
use Rattle.expand_model.specs.Expand.{items, document}
use Rattle.expand_model.specs.Over.{expands, Asked, Outcome, state_of, here, given, turn, element_over, items_over, document_over}
use Rattle.range_laws.specs.Right.{outcome, first_trees, IsRight, keeps_each}
use Rattle.range_laws.proofs.Plain.{document_run}
use Rattle.cut_model.specs.Pieces.{Piece, Ranges, count_behind}
use Rattle.cut_model.specs.Reached.{piece_of, right_answer, noted, notes_ranges, reached_of}
use Rattle.cut_model.specs.Answers.{RangeAnswer, RangeAnswers, answer_of, IsAnswered}
use Rattle.cut_laws.proofs.Lists.{is_some, some_or}
use Rattle.cut_laws.proofs.Regions.{Region}
use Rattle.cut_laws.proofs.TwoRuns.{Rules, document_both}

abbrev fine : {X : Type 0} → X → Result X Fault
fine x = Ok x

ok_value : {X : Type 0} (x y : X) → fine x ≡ fine y → x ≡ y
ok_value {X} x y p = ap (value x) p
  where
    value : X → Result X Fault → X
    value d (Ok z) = z
    value d (Err f) = d

abbrev is_ok : {X : Type 0} → Result X Fault → Type 0
is_ok (Ok x) = Unit {0}
is_ok (Err f) = ⊥

some_value : {X : Type 0} (x y : X) → Some x ≡ Some y → x ≡ y
some_value x y p = ap (some_or x) p

-- Two runs whose values are equal; regions of which nothing is asked.
abbrev pub Equal : (X : Type 0) → X → X → Type 0
Equal X x y = x ≡ y

abbrev pub AnyRegions : Region → Region → Type 0
AnyRegions Q R = Unit {0}

-- Where something is answered, a range with so many items more begins.
abbrev pub IsOfRanges : RangeAnswers → Ranges → Type 0
IsOfRanges f ranges = (p : List Step) (n : ℕ) (g : RangeAnswer) → f p n ≡ Some g → ranges p n ≡ Some g.behind

-- A run's state stands in this relation to what the run that notes ranges has noted so far; and all that this run notes agrees with something.
module _ (o : Options) {S : Type 0} (ask : Trees → ℕ → At → S → Asked S) (settle : Trees → ℕ → At → ℕ → S → Option S) (P : S → List Piece → Type 0) (Agree : List Piece → Type 0) (f : RangeAnswers) (ranges : Ranges) where
  -- Where the second run's notes agree in the end, both come to the same.
  pub record Same (X : Type 0) (Q : Region) (s : S) (l : List Piece) (m : Outcome S X) (m′ : Outcome (List Piece) X) : Type 0 where
    pub before : Agree (state_of m′) → Agree l
    pub by : P s l → Agree (state_of m′) → (outcome m ≡ outcome m′) × P (state_of m) (state_of m′)

  same_here : (X : Type 0) (Q : Region) (s : S) (l : List Piece) (d : Result X Fault) → Same X Q s l (here s d) (here l d)
  same_here X Q s l (Ok x) = record { before = λ agree. agree; by = λ p agree. (refl, p) }
  same_here X Q s l (Err e) = record { before = λ agree. agree; by = λ p agree. (refl, p) }

  same_equal : (X : Type 0) (Q : Region) (s : S) (l : List Piece) (d d′ : Result X Fault) → d ≡ d′ → Same X Q s l (here s d) (here l d′)
  same_equal X Q s l d d′ e = subst (λ z. Same X Q s l (here s d) (here l z)) e (same_here X Q s l d)

  same_both : (X Y : Type 0) (Q : Region) (s : S) (l : List Piece) (d : Result X Fault) (g : X × S → Outcome S Y) (g′ : X × List Piece → Outcome (List Piece) Y) → ((x : X) → d ≡ Ok x → Same Y Q s l (g (x, s)) (g′ (x, l))) → Same Y Q s l (here s d >>= g) (here l d >>= g′)
  same_both X Y Q s l (Ok x) g g′ p = p x refl
  same_both X Y Q s l (Err e) g g′ p = record { before = λ agree. agree; by = λ p agree. (refl, p) }

  same_bind : (X Y : Type 0) (Q R : Region) (s : S) (l : List Piece) (m : Outcome S X) (m′ : Outcome (List Piece) X) (g : X × S → Outcome S Y) (g′ : X × List Piece → Outcome (List Piece) Y) → Same X Q s l m m′ → ((x x′ : X) → x ≡ x′ → (s : S) (l : List Piece) → Same Y R s l (g (x, s)) (g′ (x′, l))) → Same Y R s l (m >>= g) (m′ >>= g′)
  same_bind X Y Q R s l (Ok v) (Ok w) g g′ p q = record {
    before = λ agree. p.before ((q w.0 w.0 refl s w.1).before agree);
    by = λ k agree.
        let r = p.by k ((q w.0 w.0 refl s w.1).before agree) in
        (q v.0 w.0 (ok_value v.0 w.0 r.0) v.1 w.1).by r.1 agree;
  }
  same_bind X Y Q R s l (Err e) (Ok w) g g′ p q = record {
    before = λ agree. p.before ((q w.0 w.0 refl s w.1).before agree);
    by = λ k agree. absurd (subst is_ok (sym (p.by k ((q w.0 w.0 refl s w.1).before agree)).0) tt);
  }
  same_bind X Y Q R s l (Ok v) (Err e) g g′ p q = record { before = p.before; by = λ k agree. absurd (subst is_ok (p.by k agree).0 tt) }
  same_bind X Y Q R s l (Err d) (Err e) g g′ p q = record { before = p.before; by = λ k agree. let r = p.by k agree in (ap (λ z. z >>= (λ _. Err e.0)) r.0, r.1) }

  abbrev answer : {T : Type 0} → T → List Tree → ℕ → Result (List Tree) Fault → Outcome T (List Tree × ℕ)
  answer t out more d = here t d >>= (λ rs. Ok ((out ++ rs.0, more), rs.1))

  answered_state : {T : Type 0} (t : T) (out : List Tree) (more : ℕ) (d : Result (List Tree) Fault) → state_of (answer t out more d) ≡ t
  answered_state t out more (Ok rs) = refl
  answered_state t out more (Err e) = refl

  answered_same : {T U : Type 0} (t : T) (u : U) (out : List Tree) (more : ℕ) (d : Result (List Tree) Fault) → outcome (answer t out more d) ≡ outcome (answer u out more d)
  answered_same t u out more (Ok rs) = refl
  answered_same t u out more (Err e) = refl

  abbrev Items : Trees → ℕ → At → Type 0
  Items ts n a = (k : ℕ) (out : List Tree) (s : S) (l : List Piece) → Same (List Tree) (λ _. Unit {0}) s l (items_over o ask settle ts k n a out s) (items_over o (notes_ranges o ranges) keeps_each ts k n a out l)

  -- What is answered for a range that is noted last is right, where the notes agree; and so do those before it. And what is asked is answered by
  -- what is known, where the notes that are left agree.
  module _ (of_ranges : IsOfRanges f ranges) (fronts : (l : List Piece) (x : Piece) → Agree (l ++ x ∷ []) → Agree l × IsAnswered o f x)
      (kept : (ts : Trees) (n : ℕ) (a : At) (s : S) (l : List Piece) → P s l → Agree (noted (ranges a.place n) ts n a l) → ((ask ts n a s).answer ≡ answer_of (f a.place n)) × P (ask ts n a s).state (noted (ranges a.place n) ts n a l)) where
    none_given : (p : List Step) (n : ℕ) → ranges p n ≡ None → f p n ≡ None
    none_given p n e = by (f p n) refl
      where
        by : (g : Option RangeAnswer) → f p n ≡ g → g ≡ None
        by None h = refl
        by (Some g) h = absurd (subst is_some (sym (of_ranges p n g h) ∙ e) tt)

    same_given : (ts : Trees) (n : ℕ) (a : At) (es : S → Outcome S Tree) (es′ : List Piece → Outcome (List Piece) Tree) (set : ℕ → S → Option S) (set′ : ℕ → List Piece → Option (List Piece)) (out : List Tree) (s : S) (l : List Piece)
        → ((s : S) (l : List Piece) → Same Tree (λ _. Unit {0}) s l (es s) (es′ l)) → (g : Option ℕ) → ranges a.place n ≡ g
        → Same (List Tree × ℕ) (λ _. Unit {0}) s (noted g ts n a l) (given es set (lists_at a) out (answer_of (f a.place n)) s) (given es′ set′ (lists_at a) out (right_answer o g ts n a) (noted g ts n a l))
    same_given ts n a es es′ set set′ out s l p None e =
        subst (λ g. Same (List Tree × ℕ) (λ _. Unit {0}) s l (given es set (lists_at a) out (answer_of g) s) (given es′ set′ (lists_at a) out expands l)) (sym (none_given a.place n e))
        (same_bind (List Tree) (List Tree × ℕ) (λ _. Unit {0}) (λ _. Unit {0}) s l _ _ (λ v. Ok ((v.0, 0), v.1)) (λ v. Ok ((v.0, 0), v.1))
        (same_bind Tree (List Tree) (λ _. Unit {0}) (λ _. Unit {0}) s l (es s) (es′ l) (λ v. Ok (out ++ spliced (lists_at a) v.0, v.1)) (λ v. Ok (out ++ spliced (lists_at a) v.0, v.1)) (p s l)
        (λ x x′ e s l. same_equal (List Tree) _ s l (Ok (out ++ spliced (lists_at a) x)) (Ok (out ++ spliced (lists_at a) x′)) (ap (λ z. fine (out ++ spliced (lists_at a) z)) e)))
        (λ x x′ e s l. same_equal (List Tree × ℕ) _ s l (Ok (x, 0)) (Ok (x′, 0)) (ap (λ z. fine (z, 0)) e)))
    same_given ts n a es es′ set set′ out s l p (Some more) e =
        let x : Piece = record { at = a; from = n; items = first_trees (suc more) ts } in
        let d : Result (List Tree) Fault = items o (first_trees (suc more) ts) n a [] in
        let log : Agree (state_of (answer (l ++ x ∷ []) out more d)) → Agree (l ++ x ∷ []) = λ agree. subst Agree (answered_state (l ++ x ∷ []) out more d) agree in
        record {
          before = log;
          by = λ k agree.
              let is = (fronts l x (log agree)).1 in
              let as_many : count_behind x.items ≡ more = some_value (count_behind x.items) more (sym (of_ranges a.place n (record { behind = count_behind x.items; result = d }) is) ∙ e) in (
                ap (λ g. outcome (given es set (lists_at a) out (answer_of g) s)) is ∙ ap (λ m. outcome (answer s out m d)) as_many ∙ answered_same s (l ++ x ∷ []) out more d,
                subst (λ g. P (state_of (given es set (lists_at a) out (answer_of g) s)) (state_of (answer (l ++ x ∷ []) out more d))) (sym is)
                    (subst (λ t. P t (state_of (answer (l ++ x ∷ []) out more d))) (sym (answered_state s out (count_behind x.items) d)) (subst (P s) (sym (answered_state (l ++ x ∷ []) out more d)) k)),
              );
        }

    front_of : (g : Option ℕ) (ts : Trees) (n : ℕ) (a : At) (l : List Piece) → Agree (noted g ts n a l) → Agree l
    front_of None ts n a l agree = agree
    front_of (Some more) ts n a l agree = (fronts l (piece_of more ts n a) agree).0

    same_turn : (ts : Trees) (n : ℕ) (a : At) (es : S → Outcome S Tree) (es′ : List Piece → Outcome (List Piece) Tree) (set : ℕ → S → Option S) (set′ : ℕ → List Piece → Option (List Piece)) (k : ℕ) (out : List Tree) (s : S) (l : List Piece)
        → ((s : S) (l : List Piece) → Same Tree (λ _. Unit {0}) s l (es s) (es′ l))
        → Same (List Tree × ℕ) (λ _. Unit {0}) s l (turn es set (lists_at a) k out (ask ts n a s) s) (turn es′ set′ (lists_at a) k out (notes_ranges o ranges ts n a l) l)
    same_turn ts n a es es′ set set′ (suc k) out s l p = same_here (List Tree × ℕ) _ s l (Ok (out, k))
    same_turn ts n a es es′ set set′ zero out s l p =
        let after = (ask ts n a s).state in
        let inner = same_given ts n a es es′ set set′ out after l p (ranges a.place n) refl in
        record {
          before = λ agree. front_of (ranges a.place n) ts n a l (inner.before agree);
          by = λ k agree.
              let is = kept ts n a s l k (inner.before agree) in
              let r = inner.by is.1 agree in
              (ap (λ g. outcome (given es set (lists_at a) out g after)) is.0 ∙ r.0, subst (λ g. P (state_of (given es set (lists_at a) out g after)) (state_of (turn es′ set′ (lists_at a) zero out (notes_ranges o ranges ts n a l) l))) (sym is.0) r.1);
        }

    same_next : (t : Tree) (ts : Trees) (n : ℕ) (a : At) → ((s : S) (l : List Piece) → Same Tree (λ _. Unit {0}) s l (element_over o ask settle t (item_at n a) s) (element_over o (notes_ranges o ranges) keeps_each t (item_at n a) l)) → Items ts (suc n) a → Items (tree t ts) n a
    same_next t ts n a p q k out s l =
        same_bind (List Tree × ℕ) (List Tree) (λ _. Unit {0}) (λ _. Unit {0}) s l _ _ _ _ (same_turn (tree t ts) n a (element_over o ask settle t (item_at n a)) (element_over o (notes_ranges o ranges) keeps_each t (item_at n a)) (settle (tree t ts) n a) (keeps_each (tree t ts) n a) k out s l p)
        (λ x x′ e s l. subst (λ z. Same (List Tree) (λ _. Unit {0}) s l (items_over o ask settle ts x.1 (suc n) a x.0 s) (items_over o (notes_ranges o ranges) keeps_each ts z.1 (suc n) a z.0 l)) e (q x.1 x.0 s l))

    same_rules : Rules o ask settle (notes_ranges o ranges) keeps_each Equal AnyRegions Same Items (λ p t. Unit {0}) (λ p n ts. Unit {0}) (λ p ms. Unit {0})
    same_rules = record {
      same = λ X x. refl;
      weaken = λ X Q Q′ s l m m′ h p. record { before = p.before; by = p.by };
      tells = λ X Y Z Q s l g x x′ y y′ e h. same_equal Z Q s l (g x y) (g x′ y′) (ap (λ z. g z y) e ∙ ap (λ z. g x′ z) h);
      both = same_both;
      bind = λ X Y x₀ Q R s l m m′ g g′ d p q. (let r = same_bind X Y Q R s l m m′ g g′ p q in record { before = r.before; by = r.by });
      no_items = λ n a k out s l. same_here (List Tree) _ s l (Ok out);
      next_item = λ t ts n a known p q. same_next t ts n a (λ s l. let r = p s l in record { before = r.before; by = r.by }) q;
      arrays = λ ts a s l known p. (let r = same_bind (List Tree) Tree (λ _. Unit {0}) (λ _. Unit {0}) s l _ _ _ _ (p 0 [] s l) (λ x x′ e s l. same_equal Tree (λ _. Unit {0}) s l (Ok (array (trees_of x))) (Ok (array (trees_of x′))) (ap (λ z. fine (array (trees_of z))) e)) in record { before = r.before; by = r.by });
      of_array = λ p ts h. tt;
      of_object = λ p ms h. tt;
      of_trees = λ p n t ts h. (tt, tt);
      of_members = λ p k t ms h. (tt, tt);
      nothing_first = λ Q. tt;
      nothing_last = λ Q. tt;
      items_apart = λ p n. tt;
      entry_apart = λ b e k t ms h. tt;
      key_apart = λ p k t ms h. tt;
      nests_apart = λ e ms. tt;
    }

    right_is : (ts : Trees) (n : ℕ) (a : At) (g : Option ℕ) → IsRight {S = List Piece} o keeps_each ts n a (right_answer o g ts n a)
    right_is ts n a None = tt
    right_is ts n a (Some more) = refl

    -- A run that answers by what is known of ranges is expansion, its first error too, where that is right for each range which expansion
    -- reaches; whatever its state is, of a kind that stands to the ranges so far as it is to.
    pub answered_run : (t : Tree) (s : S) → P s [] → Agree (reached_of o ranges t) → outcome (document_over o ask settle t s) ≡ document o t
    answered_run t s p agree =
        ((document_both o ask settle (notes_ranges o ranges) keeps_each Equal AnyRegions Same Items (λ p t. Unit {0}) (λ p n ts. Unit {0}) (λ p ms. Unit {0}) same_rules t tt s []).by p agree).0
        ∙ document_run o (notes_ranges o ranges) keeps_each (λ ts n a l. right_is ts n a (ranges a.place n)) t []
