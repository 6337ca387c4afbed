-- Facts on what calls of a device touch, for the proofs of every crate that depends on this one.
use Rattle.std.proofs.Common.{◌≡◌, ℕ, ◌+◌, ◌≤◌, List, inl, inr, arith}
use Rattle.luks_area.specs.Device.{IsSettled, IsUnchanged, Touches, no_place}
use Rattle.luks_area.proofs.RangeFacts.{at-inside, same_but-then, same_but-wider}
use Rattle.luks_area.specs.Ranges.{IsAt, IsOfEither, SameBut}

-- a device of which nothing changed is settled as before
pub settled_unchanged : {D : Type 0} {tells : Type 0} {size_of : D → ℕ} {bytes_of : D → List ℕ} {unsettled_of : D → ℕ → Type 0} {old new : D}
    → tells → IsUnchanged tells size_of bytes_of unsettled_of old new → IsSettled unsettled_of old → IsSettled unsettled_of new
settled_unchanged told same settled = record { none = λ p is. settled.none p (same.unsettled told p is) }

-- calls that touch some places touch these and more
pub touches-wider : {D : Type 0} {bytes_of : D → List ℕ} {unsettled_of : D → ℕ → Type 0} {P Q : ℕ → Type 0} {old new : D}
    → ((p : ℕ) → P p → Q p) → Touches bytes_of unsettled_of P old new → Touches bytes_of unsettled_of Q old new
touches-wider {D} {bytes_of} {unsettled_of} {P} {Q} {old} wider touches =
    let either : (p : ℕ) → IsOfEither (unsettled_of old) P p → IsOfEither (unsettled_of old) Q p = λ p is. elim is [
      | inl before ↦ inl before
      | inr there ↦ inr (wider p there)
    ] in
    record {
      bytes = same_but-wider either touches.bytes;
      unsettled = λ p is. either p (touches.unsettled p is);
    }

-- calls in turn
pub touches-then : {D : Type 0} {bytes_of : D → List ℕ} {unsettled_of : D → ℕ → Type 0} {places : ℕ → Type 0} {first mid last : D}
    → Touches bytes_of unsettled_of places first mid → Touches bytes_of unsettled_of places mid last → Touches bytes_of unsettled_of places first last
touches-then {D} {bytes_of} {unsettled_of} {places} {first} {mid} before after =
    let either : (p : ℕ) → IsOfEither (unsettled_of mid) places p → IsOfEither (unsettled_of first) places p = λ p is. elim is [
      | inl pending ↦ before.unsettled p pending
      | inr there ↦ inr there
    ] in
    record {
      bytes = same_but-then before.bytes (same_but-wider either after.bytes);
      unsettled = λ p is. either p (after.unsettled p is);
    }

-- a flush after them, failed or not
pub touches-flush : {D : Type 0} {bytes_of : D → List ℕ} {unsettled_of : D → ℕ → Type 0} {places : ℕ → Type 0} {first mid last : D}
    → Touches bytes_of unsettled_of places first mid → Touches bytes_of unsettled_of no_place mid last → Touches bytes_of unsettled_of places first last
touches-flush before after = touches-then before (touches-wider (λ p is. absurd is) after)

-- of a device on which nothing was unsettled they change these places alone
pub touches-settled : {D : Type 0} {bytes_of : D → List ℕ} {unsettled_of : D → ℕ → Type 0} {places : ℕ → Type 0} {old new : D}
    → IsSettled unsettled_of old → Touches bytes_of unsettled_of places old new → SameBut places (bytes_of old) (bytes_of new)
touches-settled settled touches = same_but-wider (λ p is. elim is [
  | inl before ↦ absurd (settled.none p before)
  | inr there ↦ there
]) touches.bytes

-- the same by another length
pub touches-range : {D : Type 0} {bytes_of : D → List ℕ} {unsettled_of : D → ℕ → Type 0} {at m n : ℕ} {old new : D}
    → m ≡ n → Touches bytes_of unsettled_of (IsAt at m) old new → Touches bytes_of unsettled_of (IsAt at n) old new
touches-range {at = at} is touches = touches-wider (λ p here. (here.0, let high = here.1 in omega (arith, is, high))) touches

-- a range that lies in another
pub touches-inside : {D : Type 0} {bytes_of : D → List ℕ} {unsettled_of : D → ℕ → Type 0} (at len i n : ℕ) {old new : D}
    → i + n ≤ len → Touches bytes_of unsettled_of (IsAt (at + i) n) old new → Touches bytes_of unsettled_of (IsAt at len) old new
touches-inside at len i n inside touches = touches-wider (λ p here. at-inside at len i n p inside here) touches
