-- What reads has no bad token.
use Rattle.std.proofs.Common.{◌≡◌, ℕ, zero, suc, List, [], ◌∷◌, length, Bool, true, Option, Some, None, option_and_then, refl}
use Rattle.std.specs.Prelude.{⊤}
use Rattle.std.specs.List.{list_all}
use Rattle.json.specs.Token.{Token, begin_object, end_object, begin_array, end_array, key, string, number, boolean, null, bad}
use Rattle.json.specs.Lex.{tokens}
use Rattle.json.specs.Json.{Json, array, object, Items, item, Members, member, Parse, parse_map, after_end_array, read_key, items_step, members_step, items, members, value_with, value, if_last}
use Rattle.json.specs.Align.{is_good}
use Rattle.serde_json.specs.Data.{Data}
use Rattle.serde_json.specs.Read.{read, of_json, max_depth}

abbrev pub all_good : List Token → Bool
all_good ts = list_all is_good ts

-- Where what is left has no bad token, there was none.
abbrev Passes : {A : Type 0} → List Token → Option (A × List Token) → Type 0
Passes ts None = ⊤
Passes ts (Some p) = all_good p.1 ≡ true → all_good ts ≡ true

abbrev Keeps : {A : Type 0} → Parse A → Type 0
Keeps p = (ts : List Token) → Passes ts (p ts)

mapped : {A B : Type 0} (f : A → B) (ts : List Token) (o : Option (A × List Token)) → Passes ts o → Passes ts (parse_map f o)
mapped f ts None h = tt
mapped f ts (Some p) h = h

longer : {A : Type 0} (ts us : List Token) → (all_good us ≡ true → all_good ts ≡ true) → (o : Option (A × List Token)) → Passes us o → Passes ts o
longer ts us f None h = tt
longer ts us f (Some p) h = λ e. f (h e)

and_more : {B : Type 0} (f : Json → B → B) (more : Parse B) → Keeps more → (ts : List Token) (o : Option (Json × List Token)) → Passes ts o → Passes ts (option_and_then (λ q. parse_map (f q.0) (more q.1)) o)
and_more f more keeps ts None h = tt
and_more f more keeps ts (Some q) h = longer ts q.1 h (parse_map (f q.0) (more q.1)) (mapped (f q.0) q.1 (more q.1) (keeps q.1))

abbrev Rest : List Token → Option (List Token) → Type 0
Rest ts None = ⊤
Rest ts (Some r) = all_good r ≡ true → all_good ts ≡ true

closing : (ts : List Token) → Rest ts (after_end_array ts)
closing [] = tt
closing (begin_object ∷ ts) = tt
closing (end_object ∷ ts) = tt
closing (begin_array ∷ ts) = tt
closing (end_array ∷ ts) = λ e. e
closing (key s ∷ ts) = tt
closing (string s ∷ ts) = tt
closing (number s ∷ ts) = tt
closing (boolean v ∷ ts) = tt
closing (null ∷ ts) = tt
closing (bad ∷ ts) = tt

naming : Keeps read_key
naming [] = tt
naming (begin_object ∷ ts) = tt
naming (end_object ∷ ts) = λ e. e
naming (begin_array ∷ ts) = tt
naming (end_array ∷ ts) = tt
naming (key s ∷ ts) = λ e. e
naming (string s ∷ ts) = tt
naming (number s ∷ ts) = tt
naming (boolean v ∷ ts) = tt
naming (null ∷ ts) = tt
naming (bad ∷ ts) = tt

module _ (p : Parse Json) (keeps : Keeps p) where
  item_turn : (more : Parse Items) → Keeps more → (ts : List Token) (o : Option (List Token)) → Rest ts o → Passes ts (items_step p more ts o)
  item_turn more again ts (Some r) q = q
  item_turn more again ts None q = and_more item more again ts (p ts) (keeps ts)

  keeps_items : (n : ℕ) → Keeps (items p n)
  unfolding items
  keeps_items zero ts = tt
  keeps_items (suc n) ts = item_turn (items p n) (keeps_items n) ts (after_end_array ts) (closing ts)

  member_turn : (more : Parse Members) → Keeps more → (ts : List Token) (o : Option (Option (List ℕ) × List Token)) → Passes ts o → Passes ts (option_and_then (λ q. members_step p more q.0 q.1) o)
  member_turn more again ts None h = tt
  member_turn more again ts (Some (None, s)) h = h
  member_turn more again ts (Some (Some k, s)) h = longer ts s h (members_step p more (Some k) s) (and_more (member k) more again s (p s) (keeps s))

  keeps_members : (n : ℕ) → Keeps (members p n)
  unfolding members
  keeps_members zero ts = tt
  keeps_members (suc n) ts = member_turn (members p n) (keeps_members n) ts (read_key ts) (naming ts)

keeps_value_with : (a : Parse Items) (o : Parse Members) → Keeps a → Keeps o → Keeps (value_with a o)
keeps_value_with a o p q [] = tt
keeps_value_with a o p q (begin_object ∷ ts) = mapped object (begin_object ∷ ts) (o ts) (longer (begin_object ∷ ts) ts (λ e. e) (o ts) (q ts))
keeps_value_with a o p q (end_object ∷ ts) = tt
keeps_value_with a o p q (begin_array ∷ ts) = mapped array (begin_array ∷ ts) (a ts) (longer (begin_array ∷ ts) ts (λ e. e) (a ts) (p ts))
keeps_value_with a o p q (end_array ∷ ts) = tt
keeps_value_with a o p q (key s ∷ ts) = tt
keeps_value_with a o p q (string s ∷ ts) = λ e. e
keeps_value_with a o p q (number s ∷ ts) = λ e. e
keeps_value_with a o p q (boolean v ∷ ts) = λ e. e
keeps_value_with a o p q (null ∷ ts) = λ e. e
keeps_value_with a o p q (bad ∷ ts) = tt

keeps_value : (depth : ℕ) → Keeps (value depth)
unfolding value
keeps_value zero = keeps_value_with (λ ts. None) (λ ts. None) (λ ts. tt) (λ ts. tt)
keeps_value (suc d) =
    keeps_value_with (λ ts. items (value d) (length ts) ts) (λ ts. members (value d) (length ts) ts) (λ ts. keeps_items (value d) (keeps_value d) (length ts) ts)
    (λ ts. keeps_members (value d) (keeps_value d) (length ts) ts)

last : (ts : List Token) (o : Option (Json × List Token)) (d : Data) → Passes ts o → option_and_then of_json (option_and_then (λ p. if_last p.0 p.1) o) ≡ Some d → all_good ts ≡ true
last ts None d h e = cc
last ts (Some (j, [])) d h e = h refl
last ts (Some (j, t ∷ us)) d h e = cc

pub no_bad_token : (bytes : List ℕ) (d : Data) → read bytes ≡ Some d → all_good (tokens bytes) ≡ true
no_bad_token bytes d e = last (tokens bytes) (value max_depth (tokens bytes)) d (keeps_value max_depth (tokens bytes)) e
