-- What one try to enter a part leaves.
use Rattle.std.proofs.Common.{◌≡◌, ℕ, List, [], ◌∷◌, ◌++◌, sym, subst, ◌∙◌}
use Rattle.std.specs.Prelude.{Contains}
use Rattle.std.proofs.lemmas.List.Elements.{Contains-append_left, Contains-append_right}
use Rattle.shard_map.specs.declared.entering.Entering.{Entering}
use Rattle.shard_map.specs.declared.entering.Entering.TheVariants.{Entered, Filled, Busy}
use Rattle.shard_map.specs.Seats.{Shared, Seen, IsSeatOf, MatchEntering, HasEntered, WasFilled, WasBusy}
use Rattle.shard_map.specs.Views.{whole}
use Rattle.phase_enter.specs.Entries.{Has, Grows}
use Rattle.phase_enter.proofs.Elements.{Contains-first}

-- a seat that grew is a seat of the same map
pub seat_grows : {J : Type 0} (m : Shared J) (s t : Seen J) → IsSeatOf m s → Grows s t → IsSeatOf m t
seat_grows m s t at g = (g.which ∙ at.0, g.job ∙ at.1)

module _ {J P : Type 0} (m : Shared J) (s t : Seen J) (j p : ℕ) (part : P) where
  grew : (new : List (ℕ × ℕ)) → IsSeatOf m s → IsSeatOf m t → t.view.share ≡ s.view.share → t.view.pairs ≡ new ++ s.view.pairs → Grows s t
  grew new at at' share pairs = record {
    which = at'.0 ∙ sym at.0;
    job = at'.1 ∙ sym at.1;
    share = share;
    pairs = λ shard piece has. subst (λ (l : List (ℕ × ℕ)). Contains l (shard, piece)) (sym pairs) (Contains-append_right new s.view.pairs (shard, piece) has);
  }

  abbrev Tried : Entering P → Type 0
  Tried e = MatchEntering e (HasEntered s.view t.view j p) (λ kept. (kept ≡ part) × WasFilled s.view t.view j p) (λ kept n. (kept ≡ part) × WasBusy s.view t.view j n)

  pub enter_grows : (e : Entering P) → IsSeatOf m s → IsSeatOf m t → Tried e → Grows s t
  enter_grows Entered at at' h = grew ((j, p) ∷ []) at at' h.turn.rest.share h.turn.pairs
  enter_grows (Filled x) at at' h = grew [] at at' h.1.turn.rest.share h.1.turn.pairs
  enter_grows (Busy x n) at at' h = grew [] at at' h.1.rest.share h.1.pairs

  abbrev Came : Entering P → Type 0
  Came e = MatchEntering e (Has t j p) (λ kept. (kept ≡ part) × (s.view.share ≡ whole → Has t j p)) (λ kept n. (kept ≡ part) × (s.view.share ≡ whole → ⊥))

  pub enter_came : (e : Entering P) → Tried e → Came e
  enter_came Entered h = subst (λ (l : List (ℕ × ℕ)). Contains l (j, p)) (sym h.turn.pairs) (Contains-append_left ((j, p) ∷ []) s.view.pairs (j, p) (Contains-first (j, p) []))
  enter_came (Filled x) h = (h.0, λ w. subst (λ (l : List (ℕ × ℕ)). Contains l (j, p)) (sym h.1.turn.pairs) (h.1.known w))
  enter_came (Busy x n) h = (h.0, h.1.part)

  -- a whole seat has the pair after one try
  pub whole_has : (e : Entering P) → s.view.share ≡ whole → Came e → Has t j p
  whole_has Entered w h = h
  whole_has (Filled x) w h = h.1 w
  whole_has (Busy x n) w h = absurd (h.1 w)
