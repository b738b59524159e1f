-- Where no range begins in a region, expansion of what stands there notes none.
use Rattle.std.proofs.Common.{inl, inr, ℕ, zero, suc, ◌≡◌, ◌+◌, List, [], ◌++◌, Bool, None, Result, Ok, Err, refl, ap, ◌∙◌, arith}
use Rattle.ld_json.specs.declared.location.Step.{Step}
use Rattle.ld_json.specs.declared.location.Step.TheVariants.{Item}
use Rattle.ld_model.specs.Tree.{Tree, Trees, array, tree, trees_of}
use Rattle.expand_model.specs.Scope.{Options, Fault, in_item}
use Rattle.expand_model.specs.Rules.{At, ◌>>=◌, item_at, lists_at, spliced}
use Rattle.expand_model.specs.Over.{Outcome, state_of, here, given, element_over, items_over}
use Rattle.range_laws.specs.Right.{keeps_each}
use Rattle.cut_model.specs.Pieces.{Piece, Ranges}
use Rattle.cut_model.specs.Reached.{right_answer, noted, notes_ranges}
use Rattle.cut_laws.proofs.Regions.{Region, Cone, Every, Is, Later, wider, deeper, itself, all_of}
use Rattle.cut_laws.proofs.TwoRuns.{Rules, element_both, items_both}
use Rattle.cut_laws.proofs.RightAnswers.{AnyRegions}
use Rattle.cut_laws.proofs.LastReached.{AnyValues}

-- No range begins with an item in the region.
abbrev pub Silent : Ranges → Region → Type 0
Silent ranges Q = (p : List Step) (n : ℕ) → Q (in_item n p) → ranges p n ≡ None

-- An item that was expanded comes behind the others, and no item behind it is answered.
abbrev pub put_one : {S : Type 0} → Bool → List Tree → Tree × S → Outcome S (List Tree)
put_one lists out v = Ok (out ++ spliced lists v.0, v.1)

abbrev pub no_more : {S : Type 0} → List Tree × S → Outcome S (List Tree × ℕ)
no_more v = Ok ((v.0, 0), v.1)

module _ (o : Options) (ranges : Ranges) where
  pub record Quiet (X : Type 0) (Q : Region) (s l : List Piece) (m m′ : Outcome (List Piece) X) : Type 0 where
    pub by : Silent ranges Q → state_of m′ ≡ l

  quiet_here : (X : Type 0) (Q : Region) (s l : List Piece) (d d′ : Result X Fault) → Quiet X Q s l (here s d) (here l d′)
  quiet_here X Q s l d (Ok x) = record { by = λ h. refl }
  quiet_here X Q s l d (Err f) = record { by = λ h. refl }

  quiet_both : (X Y : Type 0) (Q : Region) (s l : List Piece) (d : Result X Fault) (g g′ : X × List Piece → Outcome (List Piece) Y) → ((x : X) → d ≡ Ok x → Quiet Y Q s l (g (x, s)) (g′ (x, l))) → Quiet Y Q s l (here s d >>= g) (here l d >>= g′)
  quiet_both X Y Q s l (Ok x) g g′ p = record { by = (p x refl).by }
  quiet_both X Y Q s l (Err f) g g′ p = record { by = λ h. refl }

  quiet_bind : (X Y : Type 0) (Q R : Region) (s l : List Piece) (m m′ : Outcome (List Piece) X) (g g′ : X × List Piece → Outcome (List Piece) Y) → Quiet X Q s l m m′ → ((x x′ : X) (s l : List Piece) → Quiet Y R s l (g (x, s)) (g′ (x′, l))) → Silent ranges Q → Silent ranges R → state_of (m′ >>= g′) ≡ l
  quiet_bind X Y Q R s l m (Ok w) g g′ p q h k = (q w.0 w.0 s w.1).by k ∙ p.by h
  quiet_bind X Y Q R s l m (Err e) g g′ p q h k = p.by h

  abbrev rest_run : Trees → ℕ → At → (List Tree × ℕ) × List Piece → Outcome (List Piece) (List Tree)
  rest_run ts n a v = items_over o (notes_ranges o ranges) keeps_each ts v.0.1 (suc n) a v.0.0 v.1

  abbrev as_array : List Tree × List Piece → Outcome (List Piece) Tree
  as_array v = Ok (array (trees_of v.0), v.1)

  abbrev pub Items : Trees → ℕ → At → Type 0
  Items ts n a = (k : ℕ) (out : List Tree) (l : List Piece) → Silent ranges (Cone a.place (Later (n + k))) → state_of (items_over o (notes_ranges o ranges) keeps_each ts k n a out l) ≡ l

  opened : (m : Outcome (List Piece) Tree) (lists : Bool) (out : List Tree) (l : List Piece) (c : (List Tree × ℕ) × List Piece → Outcome (List Piece) (List Tree)) → state_of m ≡ l → ((out : List Tree) (l : List Piece) → state_of (c ((out, 0), l)) ≡ l)
      → state_of (((m >>= put_one lists out) >>= no_more) >>= c) ≡ l
  opened (Ok v) lists out l c p q = q (out ++ spliced lists v.0) v.1 ∙ p
  opened (Err e) lists out l c p q = p

  quiet_next : (t : Tree) (ts : Trees) (n : ℕ) (a : At) → ((s l : List Piece) → Quiet Tree (Cone (in_item n a.place) Every) s l (element_over o (notes_ranges o ranges) keeps_each t (item_at n a) s) (element_over o (notes_ranges o ranges) keeps_each t (item_at n a) l)) → Items ts (suc n) a → Items (tree t ts) n a
  quiet_next t ts n a p q (suc k) out l silent = q k out l (λ r m h. silent r m (wider a.place (Later (suc n + k)) (Later (n + suc k)) (λ x u. let b = u.1 in (u.0, omega arith, u.2)) (in_item m r) h))
  quiet_next t ts n a p q zero out l silent =
      let none : ranges a.place n ≡ None = silent a.place n (itself a.place (Item n) (Later (n + 0)) (n, omega arith, refl)) in
      ap (λ g. state_of (given (element_over o (notes_ranges o ranges) keeps_each t (item_at n a)) (keeps_each (tree t ts) n a) (lists_at a) out (right_answer o g (tree t ts) n a) (noted g (tree t ts) n a l) >>= rest_run ts n a)) none
      ∙ opened (element_over o (notes_ranges o ranges) keeps_each t (item_at n a) l) (lists_at a) out l (rest_run ts n a)
      ((p l l).by (λ r m h. silent r m (wider a.place (Is (Item n)) (Later (n + 0)) (λ x u. (n, omega arith, u)) (in_item m r) (deeper a.place (Item n) Every (in_item m r) h))))
      (λ out l. q 0 out l (λ r m h. silent r m (wider a.place (Later (suc n + 0)) (Later (n + 0)) (λ x u. let b = u.1 in (u.0, omega arith, u.2)) (in_item m r) h)))

  put_array : (m : Outcome (List Piece) (List Tree)) → state_of (m >>= as_array) ≡ state_of m
  put_array (Ok v) = refl
  put_array (Err e) = refl

  quiet_rules : Rules o (notes_ranges o ranges) keeps_each (notes_ranges o ranges) keeps_each AnyValues AnyRegions Quiet Items (λ p t. Unit {0}) (λ p n ts. Unit {0}) (λ p ms. Unit {0})
  quiet_rules = record {
    same = λ X x. tt;
    weaken = λ X Q Q′ s l m m′ h p. record { by = λ silent. p.by (λ r n k. silent r n (h (in_item n r) k)) };
    tells = λ X Y Z Q s l g x x′ y y′ e h. quiet_here Z Q s l (g x y) (g x′ y′);
    both = quiet_both;
    bind = λ X Y x₀ Q R s l m m′ g g′ d p q. record { by = λ silent. quiet_bind X Y Q R s l m m′ g g′ p (λ x x′ s l. q x x′ tt s l) (λ r n k. silent r n (inl k)) (λ r n k. silent r n (inr k)) };
    no_items = λ n a k out l silent. refl;
    next_item = λ t ts n a known p q. quiet_next t ts n a p q;
    arrays = λ ts a s l known p. record { by = λ silent. put_array (items_over o (notes_ranges o ranges) keeps_each ts 0 0 a [] l) ∙ p 0 [] l (λ r n k. silent r n (all_of a.place (Later 0) (in_item n r) k)) };
    of_array = λ p ts h. tt;
    of_object = λ p ms h. tt;
    of_trees = λ p n t ts h. (tt, tt);
    of_members = λ p k t ms h. (tt, tt);
    nothing_first = λ Q. tt;
    nothing_last = λ Q. tt;
    items_apart = λ p n. tt;
    entry_apart = λ b e k t ms h. tt;
    key_apart = λ p k t ms h. tt;
    nests_apart = λ e ms. tt;
  }

  pub element_quiet : (t : Tree) (a : At) (l : List Piece) → Silent ranges (Cone a.place Every) → state_of (element_over o (notes_ranges o ranges) keeps_each t a l) ≡ l
  element_quiet t a l silent = (element_both o (notes_ranges o ranges) keeps_each (notes_ranges o ranges) keeps_each AnyValues AnyRegions Quiet Items (λ p t. Unit {0}) (λ p n ts. Unit {0}) (λ p ms. Unit {0}) quiet_rules t a tt l l).by silent

  pub items_quiet : (ts : Trees) (n : ℕ) (a : At) → Items ts n a
  items_quiet ts n a = items_both o (notes_ranges o ranges) keeps_each (notes_ranges o ranges) keeps_each AnyValues AnyRegions Quiet Items (λ p t. Unit {0}) (λ p n ts. Unit {0}) (λ p ms. Unit {0}) quiet_rules ts n a tt
