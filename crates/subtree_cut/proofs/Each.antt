-- The results of pieces, one after another.
use Rattle.std.proofs.Common.{◌≡◌, List, [], ◌∷◌, ◌++◌, Result, Ok, Err, refl, sym, ap, ◌∙◌, subst}
use Rattle.ld_model.specs.Tree.{Tree}
use Rattle.expand_model.specs.Scope.{Options, Fault}
use Rattle.cut_model.specs.Pieces.{Piece}
use Rattle.cut_model.specs.Grafting.{piece_outcome}
use Rattle.cut_laws.proofs.Lists.{append_assoc, append_nil}
use Rattle.tree_expand.specs.Outcomes.{ComesTo}
use Rattle.tree_expand.specs.declared.stop.ExpandStop.{ExpandStop}
use Rattle.subtree_cut.specs.Results.{AreResults}

-- Whatever the pieces that are left come to, those so far and it are the results of all.
abbrev pub LeadsOn : Options → List Piece → List Piece → List (Result (List Tree) ExpandStop) → Type 0
LeadsOn o all left results = (rest : List (Result (List Tree) ExpandStop)) → AreResults o left rest → AreResults o all (results ++ rest)

pub none_yet : (o : Options) (all : List Piece) → LeadsOn o all all []
none_yet o all rest h = h

-- One more, that of the next piece.
pub one_on : (o : Options) (all left : List Piece) (x : Piece) (results now : List (Result (List Tree) ExpandStop)) (ts : List Tree) → LeadsOn o all (x ∷ left) results → now ≡ results ++ Ok ts ∷ [] → piece_outcome o x ≡ Ok ts → LeadsOn o all left now
one_on o all left x results now ts leads is outcome rest h =
    subst (AreResults o all) (sym (append_assoc results (Ok ts ∷ []) rest) ∙ ap (λ rs. rs ++ rest) (sym is)) (leads (Ok ts ∷ rest) (outcome, h))

-- The last one, which has no outcome; and none more.
pub ends_there : (o : Options) (all left : List Piece) (x : Piece) (results now : List (Result (List Tree) ExpandStop)) (e : ExpandStop) → LeadsOn o all (x ∷ left) results → now ≡ results ++ Err e ∷ [] → ComesTo (Err e) (λ (ts : List Tree). ts) (piece_outcome o x) → AreResults o all now
ends_there o all left x results now e leads is refused = subst (AreResults o all) (sym is) (leads (Err e ∷ []) (refused, refl))

pub all_there : (o : Options) (all : List Piece) (results : List (Result (List Tree) ExpandStop)) → LeadsOn o all [] results → AreResults o all results
all_there o all results leads = subst (AreResults o all) (append_nil results) (leads [] tt)
