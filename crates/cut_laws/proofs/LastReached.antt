-- A range in which the first error lies is the last that is reached.
use Rattle.std.proofs.Common.{ℕ, zero, suc, ◌≡◌, List, [], ◌∷◌, ◌++◌, Option, None, Some, Result, Ok, Err, refl, subst}
use Rattle.std.specs.List.{AllByRecursion}
use Rattle.ld_model.specs.Tree.{Tree, Trees, array, tree, trees_of}
use Rattle.expand_model.specs.Scope.{Options, Fault}
use Rattle.expand_model.specs.Rules.{At, ◌>>=◌, item_at, lists_at, spliced}
use Rattle.expand_model.specs.Expand.{items}
use Rattle.expand_model.specs.Over.{Outcome, state_of, here, given, turn, element_over, items_over, turn_over, document_over}
use Rattle.range_laws.specs.Right.{first_trees, keeps_each}
use Rattle.cut_model.specs.Pieces.{Piece, Ranges}
use Rattle.cut_model.specs.Reached.{right_answer, noted, notes_ranges, reached_of}
use Rattle.cut_laws.proofs.Regions.{Region}
use Rattle.cut_laws.proofs.TwoRuns.{Rules, document_both}
use Rattle.cut_laws.proofs.RightAnswers.{AnyRegions}

-- No error.
abbrev pub GoesOn : Result (List Tree) Fault → Type 0
GoesOn (Ok ts) = Unit {0}
GoesOn (Err f) = ⊥

-- Two runs of whose values nothing is asked.
abbrev pub AnyValues : (X : Type 0) → X → X → Type 0
AnyValues X x y = Unit {0}

all_more : {X : Type 0} (P : X → Type 0) (xs : List X) (x : X) → AllByRecursion P xs → P x → AllByRecursion P (xs ++ x ∷ [])
all_more P [] x h p = (p, tt)
all_more P (y ∷ xs) x h p = (h.0, all_more P xs x h.1 p)

module _ (o : Options) where
  abbrev pub Fine : Piece → Type 0
  Fine x = GoesOn (items o x.items x.from x.at [])

  -- all but the last
  abbrev pub AllButLast : List Piece → Type 0
  AllButLast [] = Unit {0}
  AllButLast (x ∷ []) = Unit {0}
  AllButLast (x ∷ y ∷ ys) = Fine x × AllButLast (y ∷ ys)

  all_fine : (l : List Piece) → AllByRecursion Fine l → AllButLast l
  all_fine [] h = tt
  all_fine (x ∷ []) h = tt
  all_fine (x ∷ y ∷ ys) h = (h.0, all_fine (y ∷ ys) h.1)

  one_more : (l : List Piece) (x : Piece) → AllByRecursion Fine l → AllButLast (l ++ x ∷ [])
  one_more [] x h = tt
  one_more (y ∷ []) x h = (h.0, tt)
  one_more (y ∷ z ∷ zs) x h = (h.0, one_more (z ∷ zs) x h.1)

module _ (o : Options) (ranges : Ranges) where
  abbrev pub After : {X : Type 0} → Outcome (List Piece) X → Type 0
  After (Ok v) = AllByRecursion (Fine o) v.1
  After (Err e) = AllButLast o e.1

  -- two equal runs, of which the second is looked at
  pub record Ends (X : Type 0) (Q : Region) (s l : List Piece) (m m′ : Outcome (List Piece) X) : Type 0 where
    pub by : AllByRecursion (Fine o) l → After m′

  ends_here : (X : Type 0) (Q : Region) (s l : List Piece) (d d′ : Result X Fault) → Ends X Q s l (here s d) (here l d′)
  ends_here X Q s l d (Ok x) = record { by = λ h. h }
  ends_here X Q s l d (Err f) = record { by = λ h. all_fine o l h }

  ends_both : (X Y : Type 0) (Q : Region) (s l : List Piece) (d : Result X Fault) (g g′ : X × List Piece → Outcome (List Piece) Y) → ((x : X) → d ≡ Ok x → Ends Y Q s l (g (x, s)) (g′ (x, l))) → Ends Y Q s l (here s d >>= g) (here l d >>= g′)
  ends_both X Y Q s l (Ok x) g g′ p = record { by = (p x refl).by }
  ends_both X Y Q s l (Err f) g g′ p = record { by = λ h. all_fine o l h }

  ends_bind : (X Y : Type 0) (Q R : Region) (s l : List Piece) (m m′ : Outcome (List Piece) X) (g g′ : X × List Piece → Outcome (List Piece) Y) → Ends X Q s l m m′ → ((x x′ : X) (s l : List Piece) → Ends Y R s l (g (x, s)) (g′ (x′, l))) → Ends Y R s l (m >>= g) (m′ >>= g′)
  ends_bind X Y Q R s l m (Ok w) g g′ p q = record { by = λ h. (q w.0 w.0 s w.1).by (p.by h) }
  ends_bind X Y Q R s l m (Err e) g g′ p q = record { by = λ h. p.by h }

  abbrev Items : Trees → ℕ → At → Type 0
  Items ts n a = (k : ℕ) (out : List Tree) (s l : List Piece) → Ends (List Tree) (λ _. Unit {0}) s l (items_over o (notes_ranges o ranges) keeps_each ts k n a out s) (items_over o (notes_ranges o ranges) keeps_each ts k n a out l)

  abbrev put_answer : List Piece → List Tree → ℕ → Result (List Tree) Fault → Outcome (List Piece) (List Tree × ℕ)
  put_answer l out more d = here l d >>= (λ rs. Ok ((out ++ rs.0, more), rs.1))

  answered : (x : Piece) (out : List Tree) (more : ℕ) (d : Result (List Tree) Fault) (l : List Piece) → d ≡ items o x.items x.from x.at [] → AllByRecursion (Fine o) l → After (put_answer (l ++ x ∷ []) out more d)
  answered x out more (Ok rs) l e h = all_more (Fine o) l x h (subst GoesOn e tt)
  answered x out more (Err f) l e h = one_more o l x h

  ends_given : (ts : Trees) (n : ℕ) (a : At) (es : List Piece → Outcome (List Piece) Tree) (set : ℕ → List Piece → Option (List Piece)) (out : List Tree) (l : List Piece) (m : Outcome (List Piece) (List Tree × ℕ)) (s : List Piece)
      → ((s l : List Piece) → Ends Tree (λ _. Unit {0}) s l (es s) (es l)) → (g : Option ℕ)
      → Ends (List Tree × ℕ) (λ _. Unit {0}) s l m (given es set (lists_at a) out (right_answer o g ts n a) (noted g ts n a l))
  ends_given ts n a es set out l m s p None =
      record {
        by = (ends_bind (List Tree) (List Tree × ℕ) (λ _. Unit {0}) (λ _. Unit {0}) s l _ _ (λ v. Ok ((v.0, 0), v.1)) (λ v. Ok ((v.0, 0), v.1))
            (ends_bind Tree (List Tree) (λ _. Unit {0}) (λ _. Unit {0}) s l (es s) (es l) (λ v. Ok (out ++ spliced (lists_at a) v.0, v.1)) (λ v. Ok (out ++ spliced (lists_at a) v.0, v.1)) (p s l)
            (λ x x′ s l. ends_here (List Tree) _ s l (Ok (out ++ spliced (lists_at a) x)) (Ok (out ++ spliced (lists_at a) x′))))
            (λ x x′ s l. ends_here (List Tree × ℕ) _ s l (Ok (x, 0)) (Ok (x′, 0)))).by;
      }
  ends_given ts n a es set out l m s p (Some more) = record { by = λ h. answered (record { at = a; from = n; items = first_trees (suc more) ts }) out more (items o (first_trees (suc more) ts) n a []) l refl h }

  ends_turn : (ts : Trees) (n : ℕ) (a : At) (es : List Piece → Outcome (List Piece) Tree) (set : ℕ → List Piece → Option (List Piece)) (k : ℕ) (out : List Tree) (l : List Piece) (m : Outcome (List Piece) (List Tree × ℕ)) (s : List Piece)
      → ((s l : List Piece) → Ends Tree (λ _. Unit {0}) s l (es s) (es l))
      → Ends (List Tree × ℕ) (λ _. Unit {0}) s l m (turn es set (lists_at a) k out (notes_ranges o ranges ts n a l) l)
  ends_turn ts n a es set (suc k) out l m s p = record { by = λ h. h }
  ends_turn ts n a es set zero out l m s p = ends_given ts n a es set out l m s p (ranges a.place n)

  abbrev rest_run : Trees → ℕ → At → (List Tree × ℕ) × List Piece → Outcome (List Piece) (List Tree)
  rest_run ts n a v = items_over o (notes_ranges o ranges) keeps_each ts v.0.1 (suc n) a v.0.0 v.1

  abbrev as_array : List Tree × List Piece → Outcome (List Piece) Tree
  as_array v = Ok (array (trees_of v.0), v.1)

  ends_rules : Rules o (notes_ranges o ranges) keeps_each (notes_ranges o ranges) keeps_each AnyValues AnyRegions Ends Items (λ p t. Unit {0}) (λ p n ts. Unit {0}) (λ p ms. Unit {0})
  ends_rules = record {
    same = λ X x. tt;
    weaken = λ X Q Q′ s l m m′ h p. record { by = p.by };
    tells = λ X Y Z Q s l g x x′ y y′ e h. ends_here Z Q s l (g x y) (g x′ y′);
    both = ends_both;
    bind = λ X Y x₀ Q R s l m m′ g g′ d p q. record { by = (ends_bind X Y Q R s l m m′ g g′ p (λ x x′ s l. q x x′ tt s l)).by };
    no_items = λ n a k out s l. ends_here (List Tree) _ s l (Ok out) (Ok out);
    next_item = λ t ts n a known p q k out s l.
        ends_bind (List Tree × ℕ) (List Tree) (λ _. Unit {0}) (λ _. Unit {0}) s l (turn_over o (notes_ranges o ranges) keeps_each (tree t ts) t k n a out s) (turn_over o (notes_ranges o ranges) keeps_each (tree t ts) t k n a out l) (rest_run ts n a) (rest_run ts n a)
        (ends_turn (tree t ts) n a (element_over o (notes_ranges o ranges) keeps_each t (item_at n a)) (keeps_each (tree t ts) n a) k out l (turn_over o (notes_ranges o ranges) keeps_each (tree t ts) t k n a out s) s (λ s l. record { by = (p s l).by }))
        (λ x x′ s l. record { by = (q x′.1 x′.0 s l).by });
    arrays = λ ts a s l known p. record { by = (ends_bind (List Tree) Tree (λ _. Unit {0}) (λ _. Unit {0}) s l (items_over o (notes_ranges o ranges) keeps_each ts 0 0 a [] s) (items_over o (notes_ranges o ranges) keeps_each ts 0 0 a [] l) as_array as_array (p 0 [] s l) (λ x x′ s l. ends_here Tree (λ _. Unit {0}) s l (Ok (array (trees_of x))) (Ok (array (trees_of x′))))).by };
    of_array = λ p ts h. tt;
    of_object = λ p ms h. tt;
    of_trees = λ p n t ts h. (tt, tt);
    of_members = λ p k t ms h. (tt, tt);
    nothing_first = λ Q. tt;
    nothing_last = λ Q. tt;
    items_apart = λ p n. tt;
    entry_apart = λ b e k t ms h. tt;
    key_apart = λ p k t ms h. tt;
    nests_apart = λ e ms. tt;
  }

  after_end : {X : Type 0} (m : Outcome (List Piece) X) → After m → AllButLast o (state_of m)
  after_end (Ok v) h = all_fine o v.1 h
  after_end (Err e) h = h

  pub reached_ends : (t : Tree) → AllButLast o (reached_of o ranges t)
  reached_ends t = after_end (document_over o (notes_ranges o ranges) keeps_each t []) ((document_both o (notes_ranges o ranges) keeps_each (notes_ranges o ranges) keeps_each AnyValues AnyRegions Ends Items (λ p t. Unit {0}) (λ p n ts. Unit {0}) (λ p ms. Unit {0}) ends_rules t tt [] []).by tt)
