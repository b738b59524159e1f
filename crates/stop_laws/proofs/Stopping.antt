-- Planning that ends once there are too many pieces comes to the same plan where there are few, and else to one with too many.
use Rattle.std.proofs.Common.{inl, inr, ◌⊎◌, ℕ, zero, suc, ◌≡◌, ◌≤◌, ◌<◌, List, [], ◌∷◌, ◌++◌, length, length-append, nat_lt, Bool, true, false, Option, None, Some, Result, Ok, Err, refl, sym, ap, ◌∙◌, subst, arith}
use Rattle.std.specs.Prelude.{if◌then◌else◌}
use Rattle.ld_model.specs.Tree.{Tree, Trees, array, tree, trees_of}
use Rattle.expand_model.specs.Scope.{Options, Fault}
use Rattle.expand_model.specs.Rules.{At, ◌>>=◌, item_at, lists_at, spliced}
use Rattle.expand_model.specs.Over.{answers, Outcome, state_of, here, settled_by, given, turn, element_over, items_over, document_over}
use Rattle.cut_model.specs.Pieces.{Piece}
use Rattle.cut_model.specs.Reached.{piece_of}
use Rattle.cut_model.specs.Planning.{Choice, walks_item, tries_item, passes_array, takes_range, choice, Plan, empty_plan, with_piece, chosen, chooses, opens_or_takes}
use Rattle.cut_model.specs.Cutting.{most_pieces}
use Rattle.cut_laws.proofs.Regions.{Region}
use Rattle.cut_laws.proofs.TwoRuns.{Rules, document_both}
use Rattle.cut_laws.proofs.RightAnswers.{AnyRegions, Equal}
use Rattle.stop_laws.specs.Stopping.{has_many, stop, chooses_or_stops}
use Rattle.stop_laws.specs.Laws.{AgreeWhereFew}

abbrev count_of : Plan → ℕ
count_of plan = length plan.pieces

abbrev Many : Plan → Type 0
Many plan = most_pieces < count_of plan

abbrev Fails : {X : Type 0} → Outcome Plan X → Type 0
Fails (Ok v) = ⊥
Fails (Err e) = Unit {0}

-- The second run has ended, and both have too many.
record Ended {X : Type 0} (m m′ : Outcome Plan X) : Type 0 where
  fails : Fails m′
  first : Many (state_of m)
  second : Many (state_of m′)

-- From one state the runs come to the same, or the second has ended. The first one loses no piece.
record Close (X : Type 0) (Q : Region) (s l : Plan) (m m′ : Outcome Plan X) : Type 0 where
  grows : count_of s ≤ count_of (state_of m)
  by : s ≡ l → (m ≡ m′) ⊎ Ended m m′

abbrev Any : Region
Any p = Unit {0}

state_here : {X : Type 0} (s : Plan) (d : Result X Fault) → state_of (here s d) ≡ s
state_here s (Ok x) = refl
state_here s (Err f) = refl

close_equal : (X : Type 0) (Q : Region) (s l : Plan) (d d′ : Result X Fault) → d ≡ d′ → Close X Q s l (here s d) (here l d′)
close_equal X Q s l d d′ e = record {
  grows = subst (λ p. count_of s ≤ count_of p) (sym (state_here s d)) (omega arith);
  by = λ h. inl (λ i. here (h i) (e i));
}

close_both : (X Y : Type 0) (Q : Region) (s l : Plan) (d : Result X Fault) (g g′ : X × Plan → Outcome Plan Y) → ((x : X) → d ≡ Ok x → Close Y Q s l (g (x, s)) (g′ (x, l))) → Close Y Q s l (here s d >>= g) (here l d >>= g′)
close_both X Y Q s l (Ok x) g g′ p = record { grows = (p x refl).grows; by = (p x refl).by }
close_both X Y Q s l (Err f) g g′ p = record { grows = omega arith; by = λ h. inl (λ i. Err (f, h i)) }

grown : {X Y : Type 0} (m : Outcome Plan X) (g : X × Plan → Outcome Plan Y) → ((x : X) (s : Plan) → count_of s ≤ count_of (state_of (g (x, s)))) → count_of (state_of m) ≤ count_of (state_of (m >>= g))
grown (Ok w) g q = q w.0 w.1
grown (Err e) g q = omega arith

still_fails : {X Y : Type 0} (m : Outcome Plan X) (g : X × Plan → Outcome Plan Y) → Fails m → Fails (m >>= g)
still_fails (Ok w) g fails = absurd fails
still_fails (Err e) g fails = tt

still_there : {X Y : Type 0} (m : Outcome Plan X) (g : X × Plan → Outcome Plan Y) → Fails m → state_of (m >>= g) ≡ state_of m
still_there (Ok w) g fails = absurd fails
still_there (Err e) g fails = refl

after_same : {X Y : Type 0} (m : Outcome Plan X) (g g′ : X × Plan → Outcome Plan Y) → ((x : X) (s : Plan) → (g (x, s) ≡ g′ (x, s)) ⊎ Ended (g (x, s)) (g′ (x, s))) → ((m >>= g) ≡ (m >>= g′)) ⊎ Ended (m >>= g) (m >>= g′)
after_same (Ok w) g g′ q = q w.0 w.1
after_same (Err e) g g′ q = inl refl

after_end : {X Y : Type 0} (m m′ : Outcome Plan X) (g g′ : X × Plan → Outcome Plan Y) → ((x : X) (s : Plan) → count_of s ≤ count_of (state_of (g (x, s)))) → Ended m m′ → Ended (m >>= g) (m′ >>= g′)
after_end m m′ g g′ q end =
    let more = grown m g q in
    let first = end.first in
    record {
      fails = still_fails m′ g′ end.fails;
      first = omega (arith, more, first);
      second = subst Many (sym (still_there m′ g′ end.fails)) end.second;
    }

close_bind : (X Y : Type 0) (Q R T : Region) (s l : Plan) (m m′ : Outcome Plan X) (g g′ : X × Plan → Outcome Plan Y) → Close X Q s l m m′ → ((x x′ : X) → x ≡ x′ → (s l : Plan) → Close Y R s l (g (x, s)) (g′ (x′, l))) → Close Y T s l (m >>= g) (m′ >>= g′)
close_bind X Y Q R T s l m m′ g g′ p q =
    let more : (x : X) (s : Plan) → count_of s ≤ count_of (state_of (g (x, s))) = λ x s. (q x x refl s s).grows in
    record {
      grows = (let one = p.grows in let two = grown m g more in omega (arith, one, two));
      by = λ h. bound more (p.by h);
    }
  where
    bound : ((x : X) (s : Plan) → count_of s ≤ count_of (state_of (g (x, s)))) → (m ≡ m′) ⊎ Ended m m′ → ((m >>= g) ≡ (m′ >>= g′)) ⊎ Ended (m >>= g) (m′ >>= g′)
    bound more (inl same) = subst (λ z. ((m >>= g) ≡ (z >>= g′)) ⊎ Ended (m >>= g) (z >>= g′)) same (after_same m g g′ (λ x s. (q x x refl s s).by refl))
    bound more (inr end) = inr (after_end m m′ g g′ more end)

piece_grows : (x : Piece) (s : Plan) → count_of s ≤ count_of (with_piece x s)
piece_grows x s = let one = length-append s.pieces (x ∷ []) in omega (arith, one)

-- A trial that is kept, and one that is dropped.
abbrev put : Bool → List Tree → Tree × Plan → Outcome Plan (List Tree × ℕ)
put lists out v = Ok ((out ++ spliced lists v.0, 0), v.1)

abbrev opened_by : Trees → ℕ → At → Bool → Plan → Option Plan
opened_by ts n a b plan = if b then None else Some (with_piece (piece_of 0 ts n a) plan)

module _ (ts : Trees) (n : ℕ) (a : At) (lists : Bool) (out : List Tree) where
  settled_grows : (m : Outcome Plan Tree) (b : Bool) → count_of (state_of m) ≤ count_of (state_of (settled_by (opened_by ts n a b (state_of m)) lists out m))
  settled_grows m true = grown m (put lists out) (λ x s. omega arith)
  settled_grows m false = piece_grows (piece_of 0 ts n a) (state_of m)

  settled_ends : (m m′ : Outcome Plan Tree) (b b′ : Bool) → b ≡ true → b′ ≡ true → Ended m m′ → Ended (settled_by (opened_by ts n a b (state_of m)) lists out m) (settled_by (opened_by ts n a b′ (state_of m′)) lists out m′)
  settled_ends m m′ true true is are end = after_end m m′ (put lists out) (put lists out) (λ x s. omega arith) end
  settled_ends m m′ false b′ is are end = absurd (cc)
  settled_ends m m′ true false is are end = absurd (cc)

  module _ (es es′ : Plan → Outcome Plan Tree) (p : (s l : Plan) → Close Tree Any s l (es s) (es′ l)) where
    close_walked : (s l : Plan) → Close (List Tree × ℕ) Any s l (given es (opens_or_takes ts n a) lists out (chosen walks_item ts n a s).answer s) (given es′ (opens_or_takes ts n a) lists out (chosen walks_item ts n a l).answer l)
    close_walked s l =
        close_bind (List Tree) (List Tree × ℕ) Any Any Any s l _ _ (λ v. Ok ((v.0, 0), v.1)) (λ v. Ok ((v.0, 0), v.1))
        (close_bind Tree (List Tree) Any Any Any s l (es s) (es′ l) (λ v. Ok (out ++ spliced lists v.0, v.1)) (λ v. Ok (out ++ spliced lists v.0, v.1)) (p s l)
        (λ x x′ e s l. close_equal (List Tree) Any s l (Ok (out ++ spliced lists x)) (Ok (out ++ spliced lists x′)) (λ i. Ok (out ++ spliced lists (e i)))))
        (λ x x′ e s l. close_equal (List Tree × ℕ) Any s l (Ok (x, 0)) (Ok (x′, 0)) (λ i. Ok (e i, 0)))

    chosen_grows : (c : Choice) (s : Plan) → count_of s ≤ count_of (state_of (given es (opens_or_takes ts n a) lists out (chosen c ts n a s).answer (chosen c ts n a s).state))
    chosen_grows walks_item s = (close_walked s s).grows
    chosen_grows tries_item s =
        let one = (p s s).grows in
        let two = settled_grows (es s) (nat_lt (count_of s) (count_of (state_of (es s)))) in
        omega (arith, one, two)
    chosen_grows (passes_array behind) s = omega arith
    chosen_grows (takes_range behind) s = piece_grows (piece_of behind ts n a) s

    above : (s : Plan) (m : Outcome Plan Tree) → has_many s ≡ false → Many (state_of m) → nat_lt (count_of s) (count_of (state_of m)) ≡ true
    above s m few many = grind (arith, few, many)

    chosen_close : (c : Choice) (s : Plan) → has_many s ≡ false
        → let m = given es (opens_or_takes ts n a) lists out (chosen c ts n a s).answer (chosen c ts n a s).state in
        let m′ = given es′ (opens_or_takes ts n a) lists out (chosen c ts n a s).answer (chosen c ts n a s).state in
        (m ≡ m′) ⊎ Ended m m′
    chosen_close walks_item s few = (close_walked s s).by refl
    chosen_close (passes_array behind) s few = inl refl
    chosen_close (takes_range behind) s few = inl refl
    chosen_close tries_item s few = tried ((p s s).by refl)
      where
        tried : (es s ≡ es′ s) ⊎ Ended (es s) (es′ s)
            → let m = settled_by (opened_by ts n a (nat_lt (count_of s) (count_of (state_of (es s)))) (state_of (es s))) lists out (es s) in
            let m′ = settled_by (opened_by ts n a (nat_lt (count_of s) (count_of (state_of (es′ s)))) (state_of (es′ s))) lists out (es′ s) in
            (m ≡ m′) ⊎ Ended m m′
        tried (inl same) = inl (λ i. settled_by (opened_by ts n a (nat_lt (count_of s) (count_of (state_of (same i)))) (state_of (same i))) lists out (same i))
        tried (inr end) =
            inr (settled_ends (es s) (es′ s) (nat_lt (count_of s) (count_of (state_of (es s)))) (nat_lt (count_of s) (count_of (state_of (es′ s))))
            (above s (es s) few end.first) (above s (es′ s) few end.second) end)

module _ (o : Options) where
  abbrev plain : Trees → ℕ → ℕ → At → List Tree → Plan → Outcome Plan (List Tree)
  plain = items_over o chooses opens_or_takes

  abbrev ending : Trees → ℕ → ℕ → At → List Tree → Plan → Outcome Plan (List Tree)
  ending = items_over o chooses_or_stops opens_or_takes

  abbrev Items : Trees → ℕ → At → Type 0
  Items ts n a = (k : ℕ) (out : List Tree) (s l : Plan) → Close (List Tree) Any s l (plain ts k n a out s) (ending ts k n a out l)

  module _ (t : Tree) (ts : Trees) (n : ℕ) (a : At) (es es′ : Plan → Outcome Plan Tree) (p : (s l : Plan) → Close Tree Any s l (es s) (es′ l)) where
    abbrev asked_by : Bool → List Tree → Plan → Outcome Plan (List Tree × ℕ)
    asked_by b out l =
        let asked = if b then record { answer = answers 0 (Err stop); state = l } else chooses (tree t ts) n a l in
        given es′ (opens_or_takes (tree t ts) n a) (lists_at a) out asked.answer asked.state

    close_asked : (b : Bool) (out : List Tree) (s : Plan) → has_many s ≡ b
        → let m = given es (opens_or_takes (tree t ts) n a) (lists_at a) out (chooses (tree t ts) n a s).answer (chooses (tree t ts) n a s).state in
        (m ≡ asked_by b out s) ⊎ Ended m (asked_by b out s)
    close_asked true out s many =
        let grown = chosen_grows (tree t ts) n a (lists_at a) out es es′ p (choice s.limit t ts n) s in
        let here : Many s = grind (arith, many) in
        inr (record { fails = tt; first = omega (arith, grown, here); second = here })
    close_asked false out s few = chosen_close (tree t ts) n a (lists_at a) out es es′ p (choice s.limit t ts n) s few

    close_turn : (k : ℕ) (out : List Tree) (s l : Plan)
        → Close (List Tree × ℕ) Any s l (turn es (opens_or_takes (tree t ts) n a) (lists_at a) k out (chooses (tree t ts) n a s) s) (turn es′ (opens_or_takes (tree t ts) n a) (lists_at a) k out (chooses_or_stops (tree t ts) n a l) l)
    close_turn (suc k) out s l = close_equal (List Tree × ℕ) Any s l (Ok (out, k)) (Ok (out, k)) refl
    close_turn zero out s l = record {
      grows = chosen_grows (tree t ts) n a (lists_at a) out es es′ p (choice s.limit t ts n) s;
      by = λ h.
          let m = given es (opens_or_takes (tree t ts) n a) (lists_at a) out (chooses (tree t ts) n a s).answer (chooses (tree t ts) n a s).state in
          subst (λ l. (m ≡ asked_by (has_many l) out l) ⊎ Ended m (asked_by (has_many l) out l)) h (close_asked (has_many s) out s refl);
    }

  close_next : (t : Tree) (ts : Trees) (n : ℕ) (a : At) → ((s l : Plan) → Close Tree Any s l (element_over o chooses opens_or_takes t (item_at n a) s) (element_over o chooses_or_stops opens_or_takes t (item_at n a) l)) → Items ts (suc n) a → Items (tree t ts) n a
  close_next t ts n a p q k out s l =
      close_bind (List Tree × ℕ) (List Tree) Any Any Any s l _ _ (λ v. plain ts v.0.1 (suc n) a v.0.0 v.1) (λ v. ending ts v.0.1 (suc n) a v.0.0 v.1)
      (close_turn t ts n a (element_over o chooses opens_or_takes t (item_at n a)) (element_over o chooses_or_stops opens_or_takes t (item_at n a)) p k out s l)
      (λ x x′ e s l. subst (λ z. Close (List Tree) Any s l (plain ts x.1 (suc n) a x.0 s) (ending ts z.1 (suc n) a z.0 l)) e (q x.1 x.0 s l))

  abbrev as_array : List Tree × Plan → Outcome Plan Tree
  as_array v = Ok (array (trees_of v.0), v.1)

  close_rules : Rules o chooses opens_or_takes chooses_or_stops opens_or_takes Equal AnyRegions Close Items (λ p t. Unit {0}) (λ p n ts. Unit {0}) (λ p ms. Unit {0})
  close_rules = record {
    same = λ X x. refl;
    weaken = λ X Q Q′ s l m m′ h p. record { grows = p.grows; by = p.by };
    tells = λ X Y Z Q s l g x x′ y y′ e h. close_equal Z Q s l (g x y) (g x′ y′) (ap (λ z. g z y) e ∙ ap (λ z. g x′ z) h);
    both = close_both;
    bind = λ X Y x₀ Q R s l m m′ g g′ d p q. (let r = close_bind X Y Q R Q s l m m′ g g′ p q in record { grows = r.grows; by = r.by });
    no_items = λ n a k out s l. close_equal (List Tree) Any s l (Ok out) (Ok out) refl;
    next_item = λ t ts n a known p q. close_next t ts n a (λ s l. let r = p s l in record { grows = r.grows; by = r.by }) q;
    arrays = λ ts a s l known p. (let r = close_bind (List Tree) Tree Any Any Any s l _ _ as_array as_array (p 0 [] s l) (λ x x′ e s l. close_equal Tree Any s l (Ok (array (trees_of x))) (Ok (array (trees_of x′))) (λ i. Ok (array (trees_of (e i))))) in record { grows = r.grows; by = r.by });
    of_array = λ p ts h. tt;
    of_object = λ p ms h. tt;
    of_trees = λ p n t ts h. (tt, tt);
    of_members = λ p k t ms h. (tt, tt);
    nothing_first = λ Q. tt;
    nothing_last = λ Q. tt;
    items_apart = λ p n. tt;
    entry_apart = λ b e k t ms h. tt;
    key_apart = λ p k t ms h. tt;
    nests_apart = λ e ms. tt;
  }

  few_or_many : (m m′ : Outcome Plan (List Tree)) → (m ≡ m′) ⊎ Ended m m′ → AgreeWhereFew (state_of m) (state_of m′)
  few_or_many m m′ (inl same) = record { few = λ h. ap state_of same; many = λ h. subst (λ z. has_many (state_of z) ≡ true) (sym same) h }
  few_or_many m m′ (inr end) = record {
    few = λ h. absurd (let many = end.second in grind (arith, h, many));
    many = λ h. (let many = end.first in grind (arith, many));
  }

  pub stopping_finds_the_same_plan : (t : Tree) (limit : ℕ) → AgreeWhereFew (state_of (document_over o chooses opens_or_takes t (empty_plan limit))) (state_of (document_over o chooses_or_stops opens_or_takes t (empty_plan limit)))
  stopping_finds_the_same_plan t limit =
      few_or_many _ _
      ((document_both o chooses opens_or_takes chooses_or_stops opens_or_takes Equal AnyRegions Close Items (λ p t. Unit {0}) (λ p n ts. Unit {0}) (λ p ms. Unit {0}) close_rules t tt (empty_plan limit) (empty_plan limit)).by refl)
