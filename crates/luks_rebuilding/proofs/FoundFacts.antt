-- Which candidate is found, and why none is.
use Rattle.std.proofs.Common.{◌≡◌, List, ℕ, inl, Some, None, Result, Ok, Err, IfOk, IfErr, OnOk}
use Rattle.luks2_header.specs.Selection.{nothing, Chosen}
use Rattle.luks_rebuilding.specs.Found.{source_of, FindsFirst, FindsVouchedFirst, IsFoundIn, IsNotPlain}
use Rattle.luks_rebuilding.specs.Outcome.{IsNotFound, PassesCounts}
use Rattle.luks_rebuilding.specs.declared.candidate.Candidate.{Candidate}
use Rattle.luks_rebuilding.specs.declared.place.Which.{Which}
use Rattle.luks_rebuilding.specs.declared.rebuild_fault.RebuildFault.{RebuildFault}
use Rattle.luks_rebuilding.proofs.FaultFacts.{plain_not_found}
use Rattle.luks_rebuilding.proofs.SourceFacts.{plain_taken, vouched_taken}

module _ (v : List ℕ) (which : Which) where
  -- where nothing counts, the call passes
  pub passes_so : {A F : Type 0} (r : Result A F) → OnOk r (Chosen v nothing) → OnOk r (PassesCounts v which)
  passes_so (Ok a) x = inl x
  passes_so (Err f) x = tt

  -- what is vouched for is found
  pub vouched_found : (c : Candidate) → PassesCounts v which → FindsVouchedFirst v which (Some c) → IsFoundIn v which c
  vouched_found c passes x = record { passes = passes; taken = vouched_taken v which (source_of c) x }

  module _ (passes : PassesCounts v which) (none : FindsVouchedFirst v which None) where
    -- or else the first that is whole
    pub plain_found : {F : Type 0} (r : Result Candidate F) → IfOk r (λ c. c.vouch ≡ None) → IfOk r (λ c. FindsFirst v which.copies (Some c)) → IfOk r (IsFoundIn v which)
    plain_found (Ok c) plain x = record { passes = passes; taken = plain_taken v which c plain x.1 none x.0 }
    plain_found (Err f) plain x = tt

    pub plain_refused : {A : Type 0} (r : Result A RebuildFault) → IfErr r (IsNotPlain v which.copies) → IfErr r (IsNotFound v which)
    plain_refused (Ok a) x = tt
    plain_refused (Err f) x = plain_not_found v which f passes none x
