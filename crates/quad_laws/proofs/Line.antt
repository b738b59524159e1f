-- A line stands in the grammar's relation exactly with what it says.
use Rattle.std.proofs.Common.{◌≡◌, ℕ, ◌+◌, ◌<◌, Bool, true, false, cond, eqb, List, [], ◌∷◌, ◌++◌, length, Ok, Err, Option, Some, None, Result, refl, sym, ap, ap₂, ◌∙◌, subst, arith, append_assoc, append-nil}
use Rattle.std.proofs.lemmas.Bool.Decides.{nat_tests}
use Rattle.rdf_terms.specs.declared.term.Term.{Term}
use Rattle.rdf_terms.specs.declared.term.Term.TheVariants.{Iri, Blank, Literal}
use Rattle.rdf_terms.specs.declared.term.Quad.{Quad}
use Rattle.nquads_terminals.specs.Terminals.{label_more}
use Rattle.nquads_text.specs.Statement.{and_then, gap, subject, predicate, object, graph, dot, nothing, ending, quad_of, statement, statement_if_any, said}
use Rattle.nquads_text.specs.Lines.{lines, read_from, with_line, prepended}
use Rattle.nquads_text.specs.Written.{written}
use Rattle.nquads_text.specs.declared.lines.LineError.{LineError}
use Rattle.quad_laws.specs.Grammar.{IsPredicate, IsSpace, IsComment, IsStatement, IsSaid, IsLine, quads_of, AreLines}
use Rattle.quad_laws.specs.Text.{AreGood}
use Rattle.quad_laws.proofs.Whole.{whole_back}
use Rattle.quad_laws.proofs.Inverse.{err_ok, ok_same, then_ok}
use Rattle.quad_laws.proofs.Spaces.{Gap, gap_read, gap_end, gap_of, both_space, starts_begins, space_no_label, angle_no_label, end_no_label}
use Rattle.quad_laws.proofs.Parts.{Follows, node_starts, predicate_starts, object_starts, graph_starts, subject_read, predicate_read, object_read, graph_read, apart_follows}
use Rattle.quad_laws.proofs.Found.{subject_of, predicate_of, object_of, graph_of, apart_of, longer}
use Rattle.quad_laws.proofs.Statements.{from_subject, from_predicate, from_object, from_graph, if_any}

regroup : (a b c d e f g tail : List ℕ) → (a ++ (b ++ (c ++ (d ++ (e ++ (f ++ (g ++ 46 ∷ []))))))) ++ tail ≡ a ++ (b ++ (c ++ (d ++ (e ++ (f ++ (g ++ (46 ∷ tail)))))))
regroup a b c d e f g tail = simp append_assoc

-- ---- a line of the grammar is read

predicate_no_label : (bytes : List ℕ) (t : Term) (rest : List ℕ) → IsPredicate bytes t → label_more 0 (bytes ++ rest) ≡ 0
predicate_no_label bytes (Iri i) rest (body, is, made, good) = ap (λ l. label_more 0 (l ++ rest)) is ∙ angle_no_label ((body ++ 62 ∷ []) ++ rest)
predicate_no_label bytes (Blank l) rest is = absurd is
predicate_no_label bytes (Literal lexical datatype language) rest is = absurd is

statement_read : (bytes : List ℕ) (q : Quad) (space comment : List ℕ) → IsStatement bytes q → IsSpace space → IsComment comment → gap (bytes ++ (space ++ comment)) ≡ Ok (bytes ++ (space ++ comment)) → said (bytes ++ (space ++ comment)) ≡ Ok (Some q)
statement_read bytes q space comment (s, a, p, b, o, c, g, is, hs, ha, hp, hb, ho, hc, hg, apart) blank mark here =
    let tail = space ++ comment in
    let fourth = g ++ (46 ∷ tail) in
    let third = o ++ (c ++ fourth) in
    let second = p ++ (b ++ third) in
    let first = s ++ (a ++ second) in
    let whole : bytes ++ tail ≡ first = ap (λ l. l ++ tail) is ∙ regroup s a p b o c g tail in
    let ends = end_no_label space comment blank mark in
    let begins = node_starts s q.subject (a ++ second) hs in
    let free = space_no_label a second ha (λ e. predicate_no_label p q.predicate (b ++ third) hp) in
    let follows = apart_follows q.object c g q.graph tail hc hg apart ends in
    let all : statement first ≡ Ok q =
    ap (λ r. and_then r from_subject) (subject_read s q.subject a second hs ha (predicate_starts p q.predicate (b ++ third) hp) free)
    ∙ ap (λ r. and_then r (from_predicate q.subject)) (predicate_read p q.predicate b third hp hb (object_starts o q.object (c ++ fourth) ho))
    ∙ ap (λ r. and_then r (from_object q.subject q.predicate)) (object_read o q.object c fourth ho hc (graph_starts g q.graph tail hg) follows)
    ∙ ap (λ r. and_then r (from_graph q.subject q.predicate q.object)) (graph_read g q.graph tail hg ends)
    ∙ ap (λ r. and_then (and_then r nothing) (λ _. Ok (quad_of q.subject q.predicate q.object q.graph))) (gap_end space comment blank mark) in
    ap (λ r. and_then r statement_if_any) here ∙ ap statement_if_any whole ∙ if_any first begins ∙ ap (λ r. and_then r (λ q. Ok (Some q))) all

statement_begins : (bytes : List ℕ) (q : Quad) (front tail : List ℕ) → IsStatement bytes q → IsSpace front → gap (front ++ (bytes ++ tail)) ≡ Ok (bytes ++ tail)
statement_begins bytes q front tail (s, a, p, b, o, c, g, is, hs, ha, hp, hb, ho, hc, hg, apart) all =
    let rest = a ++ (p ++ (b ++ (o ++ (c ++ (g ++ (46 ∷ tail)))))) in
    let whole : bytes ++ tail ≡ s ++ rest = ap (λ l. l ++ tail) is ∙ regroup s a p b o c g tail in
    let begins = starts_begins (s ++ rest) (node_starts s q.subject rest hs) in
    subst (λ l. gap (front ++ l) ≡ Ok l) (sym whole) (gap_read front (s ++ rest) all begins)

pub line_read : (line : List ℕ) (q : Option Quad) → IsLine line q → said line ≡ Ok q
line_read line None (front, body, space, comment, is, all, none, blank, mark) =
    let whole : line ≡ (front ++ space) ++ comment = is ∙ ap (λ l. front ++ (l ++ (space ++ comment))) none ∙ sym (append_assoc front space comment) in
    ap said whole ∙ ap (λ r. and_then r statement_if_any) (gap_end (front ++ space) comment (both_space front space all blank) mark)
line_read line (Some q) (front, body, space, comment, is, all, stated, blank, mark) =
    let tail = space ++ comment in
    let nothing_before = statement_begins body q [] tail stated refl in
    ap said is
    ∙ ap (λ r. and_then r statement_if_any) (statement_begins body q front tail stated all ∙ sym nothing_before)
    ∙ statement_read body q space comment stated blank mark nothing_before

-- ---- a line that was read is one of the grammar

abbrev Ended : List ℕ → Type 0
Ended bs = (space : List ℕ) × (comment : List ℕ) × (bs ≡ 46 ∷ (space ++ comment)) × IsSpace space × IsComment comment

dot_of : (bs rest : List ℕ) → dot bs ≡ Ok rest → (tail : List ℕ) × (bs ≡ 46 ∷ tail) × (gap tail ≡ Ok rest)
dot_of [] rest is = absurd (err_ok [] rest is)
dot_of (b ∷ bs) rest is = by (eqb b 46) refl is
  where
    by : (q : Bool) → eqb b 46 ≡ q → cond q (gap bs) (Err (b ∷ bs)) ≡ Ok rest → (tail : List ℕ) × (b ∷ bs ≡ 46 ∷ tail) × (gap tail ≡ Ok rest)
    by true same read = let here : b ≡ 46 = grind (arith, nat_tests) in (bs, ap (λ x. x ∷ bs) here, read)
    by false other read = absurd (err_ok (b ∷ bs) rest read)

nothing_of : (bs rest : List ℕ) → nothing bs ≡ Ok rest → bs ≡ []
nothing_of [] rest is = refl
nothing_of (b ∷ bs) rest is = absurd (err_ok (b ∷ bs) rest is)

ending_of : (bs rest : List ℕ) → ending bs ≡ Ok rest → Ended bs
ending_of bs rest is =
    let n = then_ok (dot bs) nothing rest is in
    let d = dot_of bs n.0 n.1 in
    let g = gap_of d.0 n.0 d.2 in
    let none = nothing_of n.0 rest n.2 in
    (g.0, g.1, d.1 ∙ ap (λ l. 46 ∷ l) (g.2 ∙ ap (λ r. g.0 ++ (g.1 ++ r)) none ∙ ap (λ l. g.0 ++ l) (append-nil g.1)), g.3, g.4)

abbrev Stated : List ℕ → Quad → Type 0
Stated bs q = (body : List ℕ) × (space : List ℕ) × (comment : List ℕ) × (bs ≡ body ++ (space ++ comment)) × IsStatement body q × IsSpace space × IsComment comment

joined : (bs after_s after_p after_o after_g : List ℕ) (s p o : Term) (g : Option Term) → subject bs ≡ Ok (s, after_s) → predicate after_s ≡ Ok (p, after_p) → object after_p ≡ Ok (o, after_o) → graph after_o ≡ Ok (g, after_g) → Ended after_g → Stated bs (quad_of s p o g)
joined bs after_s after_p after_o after_g s p o g hs hp ho hg (space, comment, is, blank, mark) =
    let some_g : 0 < length after_g = omega (arith, ap length is) in
    let fourth = graph_of after_o g after_g hg some_g in
    let some_o : 0 < length after_o = subst (λ l. 0 < length l) (sym fourth.1) (longer fourth.0 after_g some_g) in
    let third = object_of after_p o after_o ho some_o in
    let some_p : 0 < length after_p = subst (λ l. 0 < length l) (sym third.2) (longer third.0 (third.1 ++ after_o) (longer third.1 after_o some_o)) in
    let second = predicate_of after_s p after_p hp some_p in
    let some_s : 0 < length after_s = subst (λ l. 0 < length l) (sym second.2) (longer second.0 (second.1 ++ after_p) (longer second.1 after_p some_p)) in
    let first = subject_of bs s after_s hs some_s in
    let tail = space ++ comment in
    let body = first.0 ++ (first.1 ++ (second.0 ++ (second.1 ++ (third.0 ++ (third.1 ++ (fourth.0 ++ 46 ∷ [])))))) in
    let from_o : after_o ≡ fourth.0 ++ (46 ∷ tail) = fourth.1 ∙ ap (λ l. fourth.0 ++ l) is in
    let from_p : after_p ≡ third.0 ++ (third.1 ++ (fourth.0 ++ (46 ∷ tail))) = third.2 ∙ ap (λ l. third.0 ++ (third.1 ++ l)) from_o in
    let from_s : after_s ≡ second.0 ++ (second.1 ++ (third.0 ++ (third.1 ++ (fourth.0 ++ (46 ∷ tail))))) = second.2 ∙ ap (λ l. second.0 ++ (second.1 ++ l)) from_p in
    let whole : bs ≡ body ++ tail = first.2 ∙ ap (λ l. first.0 ++ (first.1 ++ l)) from_s ∙ sym (regroup first.0 first.1 second.0 second.1 third.0 third.1 fourth.0 tail) in
    let apart = apart_of o third.1 fourth.0 g after_g fourth.2 (subst (λ l. Follows o (third.1 ++ l)) fourth.1 third.5) in
    (body, space, comment, whole, (first.0, first.1, second.0, second.1, third.0, third.1, fourth.0, refl, first.3, first.4, second.3, second.4, third.3, third.4, fourth.2, apart), blank, mark)

statement_of : (bs : List ℕ) (q : Quad) → statement bs ≡ Ok q → Stated bs q
statement_of bs q is =
    let s = then_ok (subject bs) from_subject q is in
    let p = then_ok (predicate s.0.1) (from_predicate s.0.0) q s.2 in
    let o = then_ok (object p.0.1) (from_object s.0.0 p.0.0) q p.2 in
    let g = then_ok (graph o.0.1) (from_graph s.0.0 p.0.0 o.0.0) q o.2 in
    let e = then_ok (ending g.0.1) (λ _. Ok (quad_of s.0.0 p.0.0 o.0.0 g.0.0)) q g.2 in
    let same : quad_of s.0.0 p.0.0 o.0.0 g.0.0 ≡ q = ok_same (quad_of s.0.0 p.0.0 o.0.0 g.0.0) q e.2 in
    subst (Stated bs) same (joined bs s.0.1 p.0.1 o.0.1 g.0.1 s.0.0 p.0.0 o.0.0 g.0.0 s.1 p.1 o.1 g.1 (ending_of g.0.1 e.0 e.1))

rest_of : (line rest : List ℕ) (q : Option Quad) → Gap line rest → statement_if_any rest ≡ Ok q → IsLine line q
rest_of line [] q (space, comment, is, blank, mark, alone) read =
    (space, [], [], comment, is ∙ ap (λ l. space ++ l) (append-nil comment), blank, subst (IsSaid []) (ok_same {A = Option Quad} None q read) refl, refl, mark)
rest_of line (b ∷ bs) q (space, comment, is, blank, mark, alone) read =
    let x = then_ok (statement (b ∷ bs)) (λ q. Ok (Some q)) q read in
    let st = statement_of (b ∷ bs) x.0 x.1 in
    let none : comment ≡ [] = alone (omega arith) in
    let whole : line ≡ space ++ (st.0 ++ (st.1 ++ st.2)) = is ∙ ap (λ c. space ++ (c ++ (b ∷ bs))) none ∙ ap (λ l. space ++ l) st.3 in
    (space, st.0, st.1, st.2, whole, blank, subst (IsSaid st.0) (ok_same (Some x.0) q x.2) st.4, st.5, st.6)

pub line_of : (line : List ℕ) (q : Option Quad) → said line ≡ Ok q → IsLine line q
line_of line q is =
    let n = then_ok (gap line) statement_if_any q is in
    rest_of line n.0 q (gap_of line n.0 n.1) n.2

pub one_of : (line : List ℕ) (q r : Option Quad) → IsLine line q → IsLine line r → q ≡ r
one_of line q r first second = ok_same {E = List ℕ} q r (sym (line_read line q first) ∙ line_read line r second)

pub bad_of : (line at : List ℕ) (q : Option Quad) → said line ≡ Err at → IsLine line q → ⊥
bad_of line at q is stands = err_ok at q (sym is ∙ line_read line q stands)

-- ---- many lines

pub lines_read : (number : ℕ) (ls : List (List ℕ)) (qs : List Quad) → AreLines ls qs → read_from number ls ≡ Ok qs
lines_read number [] qs is = ap (λ l. Ok l) (sym is)
lines_read number (l ∷ ls) qs (None, more, is, line, others) =
    ap (λ r. with_line number l r (read_from (number + 1) ls)) (line_read l None line) ∙ lines_read (number + 1) ls more others ∙ ap (λ l. Ok l) (sym is)
lines_read number (l ∷ ls) qs (Some q, more, is, line, others) =
    ap (λ r. with_line number l r (read_from (number + 1) ls)) (line_read l (Some q) line) ∙ ap (prepended (q ∷ [])) (lines_read (number + 1) ls more others) ∙ ap (λ l. Ok l) (sym is)

line_step : (number : ℕ) (l : List ℕ) (ls : List (List ℕ)) (qs : List Quad) (r : Result (Option Quad) (List ℕ)) (others : Result (List Quad) LineError) → said l ≡ r → ((more : List Quad) → others ≡ Ok more → AreLines ls more) → with_line number l r others ≡ Ok qs → AreLines (l ∷ ls) qs
line_step number l ls qs (Ok None) others says rest is = (None, qs, refl, line_of l None says, rest qs is)
line_step number l ls qs (Ok (Some q)) (Ok more) says rest is = (Some q, more, sym (ok_same (q ∷ more) qs is), line_of l (Some q) says, rest more refl)
line_step number l ls qs (Ok (Some q)) (Err e) says rest is = absurd (err_ok e qs is)
line_step number l ls qs (Err at) others says rest is = absurd (err_ok _ qs is)

pub lines_of : (number : ℕ) (ls : List (List ℕ)) (qs : List Quad) → read_from number ls ≡ Ok qs → AreLines ls qs
lines_of number [] qs is = sym (ok_same [] qs is)
lines_of number (l ∷ ls) qs is = line_step number l ls qs (said l) (read_from (number + 1) ls) refl (λ more h. lines_of (number + 1) ls more h) is

pub written_lines : (qs : List Quad) → AreGood qs → AreLines (lines (written qs)) qs
written_lines qs good = lines_of 1 (lines (written qs)) qs (whole_back 1 qs good)
