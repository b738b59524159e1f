-- Maps of whose keys none may be a keyword but `@id`.
use Rattle.std.proofs.Common.{◌≡◌, [], ◌∷◌, Bool, true, false, not, ◌&&◌, ◌||◌, Option, None, Some, Result, Ok, refl, ap, ◌∙◌}
use Rattle.std.specs.Prelude.{codes, is_some, if◌then◌else◌}
use Rattle.std.specs.List.{list_all}
use Rattle.std.specs.Str.{bytes_eq}
use Rattle.ld_model.specs.Tree.{Tree, Pairs, object, members_of, member_list-members_of, member_at, is_empty}
use Rattle.ld_model.proofs.Puts.{at_later, bytes_eq-exact}
use Rattle.case_tables.specs.declared.code.Code.{Code}
use Rattle.case_tables.specs.declared.code.Code.TheVariants as code
use Rattle.ctx_types.specs.Context.{Text}
use Rattle.ctx_model.specs.Outcome.{◌>>=◌, unless}
use Rattle.expand_model.specs.Scope.{has, is_top}
use Rattle.expand_model.specs.Finish.{by_value, node_finished, types_array, are_set_entries, set_taken, is_lone, is_free, unless_dropped, finish_map}
use Rattle.expand_entries.specs.Finish.{is_plain, unless_nothing}

both : (a b : Bool) → (a && b) ≡ true → (a ≡ true) × (b ≡ true)
both true b is = (refl, is)
both false b is = absurd (cc)

-- A word that isn't plain is another key than one that is.
other_key : (k : Text) (e : Text × Tree) → is_plain (k, e.1) ≡ false → is_plain e ≡ true → bytes_eq k e.0 ≡ false
other_key k e word plain = by (bytes_eq k e.0) refl
  where
    by : (b : Bool) → bytes_eq k e.0 ≡ b → b ≡ false
    by true is = let same : is_plain (k, e.1) ≡ is_plain e = ap (λ x. is_plain (x, e.1)) (bytes_eq-exact k e.0 is) in absurd (cc)
    by false is = refl

lacks : (k : Text) (r : Pairs) → ((t : Tree) → is_plain (k, t) ≡ false) → list_all is_plain r ≡ true → member_at k r ≡ None
lacks k [] word plain = refl
lacks k (e ∷ es) word plain =
    let each = both (is_plain e) (list_all is_plain es) plain in
    at_later k e es (other_key k e (word e.1) each.0) ∙ lacks k es word each.1

-- A map without `@set` and `@list` stays.
abbrev node_of : Pairs → Option Tree → Option Tree → Result (Option Tree) Code
node_of r s l = do
  _ ← unless (not (is_some s || is_some l) || are_set_entries r) code.InvalidSetOrListObject
  Ok (set_taken s r)

node_stays : (r : Pairs) → member_at (codes "@set") r ≡ None → member_at (codes "@list") r ≡ None → node_finished r ≡ Ok (Some (object (members_of r)))
node_stays r set list = ap (λ s. node_of r s (member_at (codes "@list") r)) set ∙ ap (λ l. node_of r None l) list

plain_stays : (r : Pairs) → list_all is_plain r ≡ true → by_value (member_at (codes "@value") r) r ≡ Ok (Some (object (members_of r)))
plain_stays r plain =
    ap (λ o. by_value o r) (lacks (codes "@value") r (λ t. refl) plain)
    ∙ ap (λ o. node_finished (types_array o r)) (lacks (codes "@type") r (λ t. refl) plain)
    ∙ node_stays r (lacks (codes "@set") r (λ t. refl) plain) (lacks (codes "@list") r (λ t. refl) plain)

-- It has no language alone, and is free where it is empty or has just an id.
no_language : (r : Pairs) → list_all is_plain r ≡ true → is_lone (codes "@language") r ≡ false
no_language [] plain = refl
no_language (e ∷ []) plain = by (bytes_eq e.0 (codes "@language")) refl
  where
    by : (b : Bool) → bytes_eq e.0 (codes "@language") ≡ b → b ≡ false
    by true is =
        let word : is_plain e ≡ false = ap (λ x. is_plain (x, e.1)) (bytes_eq-exact e.0 (codes "@language") is) in
        let each = both (is_plain e) true plain in
        absurd (cc)
    by false is = refl
no_language (e ∷ f ∷ es) plain = refl

free_is : (r : Pairs) → list_all is_plain r ≡ true → is_free r ≡ (is_empty r || is_lone (codes "@id") r)
free_is [] plain = refl
free_is (e ∷ es) plain =
    ap (λ (v : Option Tree). false || is_some v || has (codes "@list") (e ∷ es) || is_lone (codes "@id") (e ∷ es)) (lacks (codes "@value") (e ∷ es) (λ t. refl) plain)
    ∙ ap (λ (l : Option Tree). is_some l || is_lone (codes "@id") (e ∷ es)) (lacks (codes "@list") (e ∷ es) (λ t. refl) plain)

-- So it is what it is, and nothing where it says nothing at the top of a graph.
pub plain_finishes : (r : Pairs) (p : Option Text) → list_all is_plain r ≡ true → finish_map r p ≡ Ok (unless_nothing p r)
unfolding finish_map
plain_finishes r p plain =
    ap (λ d. d >>= (λ t. Ok (unless_dropped p t))) (plain_stays r plain)
    ∙ ap (λ (ms : Pairs). Ok (if is_lone (codes "@language") ms || (is_top p && is_free ms) then None else Some (object (members_of r)))) (member_list-members_of r)
    ∙ ap (λ (b : Bool). Ok (if b || (is_top p && is_free r) then None else Some (object (members_of r)))) (no_language r plain)
    ∙ ap (λ (b : Bool). Ok (if is_top p && b then None else Some (object (members_of r)))) (free_is r plain)
