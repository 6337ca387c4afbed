-- Facts on a plan that has one call more, or the same calls.
use Rattle.std.proofs.Common.{◌≡◌, ℕ, ◌+◌, ◌-◌, ◌≤◌, List, [], ◌∷◌, ◌++◌, inl, inr, length, take, drop, subst, refl, sym, ap, ◌∙◌, arith, length-take, Result, Ok, Err, OnOk, OnErr}
use Rattle.luks_area.specs.Device.{IsSettled, Touches}
use Rattle.luks_area.specs.Ranges.{part, written, IsAt, IsOfEither, SameBut}
use Rattle.luks_area.proofs.RangeFacts.{same_but-equal, same_but-same_outside, same_but-wider, same_outside-written}
use Rattle.luks_given.specs.declared.given.Given.{Ghosts as OfGiven}
use Rattle.luks_given.specs.declared.planned_writes.PlannedCall.{PlannedCall}
use Rattle.luks_given.specs.declared.planned_writes.PlannedWrites.{PlannedWrites}
use Rattle.luks_given.specs.Plan.{played, IsUnflushed}
use Rattle.luks_given.specs.PlanProps.{length-planned}
use Rattle.luks_given.specs.Planned.{planned_bytes, planned_size, planned_unsettled, HasMore, HasPlanOf}
use Rattle.luks_given.proofs.PlanFacts.{played-flush, unflushed-flush, unflushed-write}
use Rattle.luks_given.proofs.PlayFacts.{played-front_more}

-- what follows of a success and of a failure
pub either-way : {T E A B C : Type 0} (r : Result T E) → OnOk r A → OnErr r B → (A → C) → (B → C) → C
either-way (Ok v) a b f g = f a
either-way (Err e) a b f g = g b

-- a flush leaves the same bytes
pub flushed-same : {K : Type 0} {given : OfGiven K} (old new : PlannedWrites K given) → HasMore 0 [] old new → planned_bytes new ≡ planned_bytes old
flushed-same {given = given} old new more =
    ap (λ calls. played calls new.bytes.items given.bytes) more.calls
    ∙ ap (λ bytes. played (old.calls.items ++ record { at = 0; len = 0 } ∷ []) bytes given.bytes) more.written
    ∙ played-flush old.calls.items old.bytes.items given.bytes old.planned

-- and no place unsettled
pub flushed-settled : {K : Type 0} {given : OfGiven K} (old new : PlannedWrites K given) → HasMore 0 [] old new → IsSettled planned_unsettled new
flushed-settled old new more =
    record { none = λ p is. unflushed-flush old.calls.items (record { at = 0; len = 0 }) p refl (subst (λ calls. IsUnflushed calls p) more.calls is) }

-- and touches none
pub flushed-touches : {K : Type 0} {given : OfGiven K} (places : ℕ → Type 0) (old new : PlannedWrites K given) → HasMore 0 [] old new
    → Touches planned_bytes planned_unsettled places old new
flushed-touches places old new more = record {
  bytes = same_but-equal _ (flushed-same old new more);
  unsettled = λ p is. absurd ((flushed-settled old new more).none p is);
}

-- nor do the same calls
pub unplanned-touches : {K : Type 0} {given : OfGiven K} (places : ℕ → Type 0) (old new : PlannedWrites K given) → HasPlanOf old new
    → Touches planned_bytes planned_unsettled places old new
unplanned-touches {given = given} places old new same = record {
  bytes = same_but-equal _ (ap (λ calls. played calls new.bytes.items given.bytes) same.calls ∙ ap (λ bytes. played old.calls.items bytes given.bytes) same.written);
  unsettled = λ p is. inl (subst (λ calls. IsUnflushed calls p) same.calls is);
}

-- the volume has as many bytes as it says
pub length-told : {K : Type 0} {given : OfGiven K} (old : PlannedWrites K given) → length (planned_bytes old) ≡ planned_size old
length-told {given = given} old = length-planned old.calls.items old.bytes.items old.total given.bytes old.whole old.last old.planned

-- a write of the first bytes of these, behind which the others stand, leaves all of these
pub written-front_more : {K : Type 0} {given : OfGiven K} (at n : ℕ) (from : List ℕ) (old new : PlannedWrites K given) → at + length from ≤ planned_size old → n ≤ length from
    → drop n from ≡ part (planned_bytes old) (at + n) (length from - n) → HasMore at (take n from) old new → planned_bytes new ≡ written (planned_bytes old) at from
written-front_more {given = given} at n from old new within most rest more =
    let call : PlannedCall = record { at = at; len = length (take n from) } in
    let long = length-told old in
    ap (λ calls. played calls new.bytes.items given.bytes) more.calls
    ∙ ap (λ bytes. played (old.calls.items ++ call ∷ []) bytes given.bytes) more.written
    ∙ played-front_more old.calls.items at n old.bytes.items from given.bytes old.planned (omega (arith, long, within)) most rest

-- and touches these places
pub written-touches : {K : Type 0} {given : OfGiven K} (at n : ℕ) (from : List ℕ) (old new : PlannedWrites K given) → at + length from ≤ planned_size old → n ≤ length from
    → drop n from ≡ part (planned_bytes old) (at + n) (length from - n) → HasMore at (take n from) old new
    → Touches planned_bytes planned_unsettled (IsAt at (length from)) old new
written-touches at n from old new within most rest more =
    let call : PlannedCall = record { at = at; len = length (take n from) } in
    let long = length-told old in
    let short = length-take n from in
    record {
      bytes = subst (SameBut (IsOfEither (planned_unsettled old) (IsAt at (length from))) (planned_bytes old)) (sym (written-front_more at n from old new within most rest more))
          (same_but-wider (λ p is. inr is) (same_but-same_outside (same_outside-written (planned_bytes old) at from (omega (arith, long, within)))));
      unsettled = λ p is. elim (unflushed-write old.calls.items call p (subst (λ calls. IsUnflushed calls p) more.calls is)) [
        | inl earlier ↦ inl earlier
        | inr here ↦ (let high = here.1 in inr (here.0, omega (arith, high, most, short)))
      ];
    }
