-- Which steps of a list of edits have a reply, and how often the device failed in them.
use Rattle.std.proofs.Common.{◌≡◌, ℕ, ◌+◌, ◌<◌, List, [], ◌∷◌, ◌++◌, length, Err, Ok, refl, sym, ap, ◌∙◌, subst, append_assoc, append-nil, length-append, inr, arith}
use Rattle.luks_edit.specs.declared.edit_fault.EditFault.TheVariants as fault
use Rattle.luks_area.specs.Device.{CountsFailure}
use Rattle.luks_edit.specs.EditFaults.{is_edit_failure}
use Rattle.luks_edit.specs.Ran.{HasNoFailure, IsFailure, Reply}
use Rattle.luks_volume.specs.Running.{CountsRun}

-- the first `k` steps have their replies, and the device failed in none
pub record AreRepliedSoFar (k : ℕ) (before now : List Reply) : Type 0 where
  pub replies : List Reply
  pub appended : now ≡ before ++ replies
  pub each : length replies ≡ k
  pub fine : HasNoFailure replies

-- the device's failure is one reply
pub the_failure : (r : Reply) → IsFailure r → r ≡ Err fault.Device
the_failure (Ok done) x = absurd x
the_failure (Err fault.Device) x = refl
the_failure (Err f) x = absurd x

-- no failure among them, and none behind them
pub none_then : (rs : List Reply) (r : Reply) → HasNoFailure rs → (IsFailure r → ⊥) → HasNoFailure (rs ++ r ∷ [])
none_then [] r fine last = (last, tt)
none_then (q ∷ rs) r fine last = (fine.0, none_then rs r fine.1 last)

pub replied_none : (before : List Reply) → AreRepliedSoFar 0 before before
replied_none before = record { replies = []; appended = sym (append-nil before); each = refl; fine = tt }

pub replied_more : (k : ℕ) (before now : List Reply) (r : Reply) → (IsFailure r → ⊥) → AreRepliedSoFar k before now → AreRepliedSoFar (k + 1) before (now ++ r ∷ [])
replied_more k before now r fine x = record {
  replies = x.replies ++ r ∷ [];
  appended = ap (λ rs. rs ++ r ∷ []) x.appended ∙ append_assoc before x.replies (r ∷ []);
  each = let long = length-append x.replies (r ∷ []) in let each = x.each in omega arith;
  fine = none_then x.replies r x.fine fine;
}

pub counts_failure : (count k : ℕ) (before now : List Reply) (r : Reply) (failures : ℕ) → k < count → IsFailure r → AreRepliedSoFar k before now
    → CountsRun count before (now ++ r ∷ []) failures (failures + 1)
counts_failure count k before now r failures lt failed x = record {
  replies = x.replies ++ r ∷ [];
  appended = ap (λ rs. rs ++ r ∷ []) x.appended ∙ append_assoc before x.replies (r ∷ []);
  counted = inr (
    record {
      others = x.replies;
      last = ap (λ q. x.replies ++ q ∷ []) (the_failure r failed);
      fine = x.fine;
      within = let long = length-append x.replies (r ∷ []) in let each = x.each in omega arith;
    },
    refl,
  );
}

-- ---- the count of failures after a reply

pub failure_counted : (r : Reply) (old new : ℕ) → IsFailure r → CountsFailure is_edit_failure r old new → new ≡ old + 1
failure_counted r old new failed x = subst (λ q. CountsFailure is_edit_failure q old new) (the_failure r failed) x

pub no_failure_counted : (r : Reply) (old new : ℕ) → (IsFailure r → ⊥) → CountsFailure is_edit_failure r old new → new ≡ old
no_failure_counted (Ok done) old new fine x = x
no_failure_counted (Err fault.Device) old new fine x = absurd (fine tt)
no_failure_counted (Err f) old new fine x = x
