-- Facts on the plans of calls that write.
use Rattle.std.proofs.Common.{◌≡◌, ◌≢◌, ◌⊎◌, inl, inr, ℕ, ◌≤◌, List, length, refl, sym, subst, arith}
use Rattle.luks_given.specs.declared.parts.Part.{Part}
use Rattle.luks_given.specs.declared.planned_writes.PlannedCall.{PlannedCall}
use Rattle.luks_given.specs.Plan.{IsFlushed}
use Rattle.luks_c_answers.specs.declared.plans.LuksPlan.{LuksPlan}
use Rattle.luks_c_answers.specs.Plans.{AnswersPlan, Buffers, IsPlan, IsPlanGiven, IsPlanned}

-- the volume that a call left is what its plan leaves
pub planned_of : (such : List ℕ → Type 0) (parts : List Part) (v w : List ℕ) (calls : List PlannedCall) (bytes : List ℕ) (old new : Buffers) (told : LuksPlan) (number : ℕ)
    → such w → IsPlan parts v w calls bytes → IsFlushed calls → told.calls ≡ length calls → told.bytes ≡ length bytes
    → IsPlanGiven calls bytes old new number → IsPlanned parts v such old new told number
planned_of such parts v w calls bytes old new told number so plan flushed calls_are bytes_are given = record {
  calls = calls;
  bytes = bytes;
  leaves = record {
    leaves = subst such (sym plan.plays) so;
    inside = plan.inside;
    given = plan.given;
    counted = plan.counted;
    flushed = flushed;
  };
  calls_count = calls_are;
  bytes_count = bytes_are;
  given = given;
}

-- a plan is given, or there is no room
pub given_or_room : (calls : List PlannedCall) (bytes : List ℕ) (old new : Buffers) (number : ℕ) → IsPlanGiven calls bytes old new number → (number ≡ 0) ⊎ (number ≡ 106)
given_or_room calls bytes old new number given = elim given [
  | inl done ↦ inl done.0
  | inr room ↦ inr room.0
]

-- where it isn't given, the buffers are as they were
pub room_keeps : (calls : List PlannedCall) (bytes : List ℕ) (old new : Buffers) (number : ℕ) → IsPlanGiven calls bytes old new number → number ≢ 0 → new ≡ old
room_keeps calls bytes old new number given other = elim given [
  | inl done ↦ absurd (other done.0)
  | inr room ↦ room.1
]

-- what was done is answered with its plan
pub plan_answered : (parts : List Part) (v w : List ℕ) (faultless : Type 0) (refusal : ℕ → Type 0) (such : List ℕ → Type 0) (calls : List PlannedCall) (bytes : List ℕ)
    (old new : Buffers) (told : LuksPlan) (number : ℕ) → faultless → such w → IsPlan parts v w calls bytes → IsFlushed calls
    → told.calls ≡ length calls → told.bytes ≡ length bytes → IsPlanGiven calls bytes old new number → AnswersPlan parts v faultless refusal such old new told number
plan_answered parts v w faultless refusal such calls bytes old new told number none so plan flushed calls_are bytes_are given =
    let planned : IsPlanned parts v such old new told number = planned_of such parts v w calls bytes old new told number so plan flushed calls_are bytes_are given in
    record {
      planned = λ zero. (none, planned);
      room = λ six. (none, planned);
      refused = λ zero six beyond memory. absurd (elim (given_or_room calls bytes old new number given) [ inl is ↦ zero is | inr is ↦ six is ]);
      kept = λ other. room_keeps calls bytes old new number given other;
    }

-- what is refused, by a number of 1 to 103
pub refusal_answered : (parts : List Part) (v : List ℕ) (faultless : Type 0) (refusal : ℕ → Type 0) (such : List ℕ → Type 0) (old : Buffers) (told : LuksPlan) (number : ℕ)
    → 1 ≤ number → number ≤ 103 → (number ≢ 103 → refusal number) → AnswersPlan parts v faultless refusal such old old told number
refusal_answered parts v faultless refusal such old told number low high so = record {
  planned = λ zero. absurd (omega (arith, zero, low));
  room = λ six. absurd (omega (arith, six, high));
  refused = λ zero six beyond memory. so memory;
  kept = λ other. refl;
}
