-- What is answered of a backup that isn't restored.
use Rattle.std.proofs.Common.{◌≡◌, ℕ, List, length, true, Result, Ok, Err, IfErr, OnOk, ap, subst, ◌∙◌}
use Rattle.luks_writing.specs.TwoDevices.{IsOneFailure}
use Rattle.luks_reading.specs.declared.report.Data.{Data}
use Rattle.luks_reading.specs.declared.report.Data.TheVariants.{Elsewhere}
use Rattle.luks_keeping.specs.declared.restore_fault.RestoreFault.TheVariants as restore
use Rattle.luks_wide_reading.specs.declared.copy.UnderwayCopy.{UnderwayCopy}
use Rattle.luks_wide_reading.specs.Headers.{IsUnderwayCopy}
use Rattle.luks_wide_keeping.specs.Restored.{is_over, CanRestoreUnderway, FitsBoth, HasNoFault, IsBarred, IsBarredBy, IsUnderwayUnrestored, IsUnfitEither}
use Rattle.luks_wide_keeping.specs.Standings.{StandsSo}
use Rattle.luks_wide_keeping.specs.declared.over.OverUnderway.{OverUnderway}
use Rattle.luks_wide_keeping.specs.declared.restore_fault.UnderwayRestoreFault.{UnderwayRestoreFault}
use Rattle.luks_wide_keeping.specs.declared.restore_fault.UnderwayRestoreFault.TheVariants.{Restore, Progressed}
use Rattle.luks_wide_keeping.specs.declared.standing.Standing.{Standing}
use Rattle.luks_wide_keeping.proofs.CopyFacts.{fits, least_fault}
use Rattle.luks_wide_keeping.proofs.StandingFacts.{one_standing}

-- ---- the header that counts

-- what bars one that stands so bars the one that counts
pub barred_there : (b t : List ℕ) (over : OverUnderway) (so : Standing) (r : Result Unit UnderwayRestoreFault) → StandsSo b t so → IfErr r (IsBarredBy over so) → IfErr r (IsBarred b t over)
barred_there b t over so (Ok done) stands x = tt
barred_there b t over so (Err (Restore restore.OtherVolume)) stands x = (subst (StandsSo b t) x.0 stands, x.1)
barred_there b t over so (Err Progressed) stands x = (subst (StandsSo b t) x.0 stands, x.1)
barred_there b t over so (Err other) stands x = absurd x

pub clear_there : (b t : List ℕ) (over : OverUnderway) (so : Standing) (r : Result Unit UnderwayRestoreFault) → StandsSo b t so → OnOk r (is_over over so ≡ true)
    → OnOk r ((other : Standing) → StandsSo b t other → is_over over other ≡ true)
clear_there b t over so (Ok done) stands x = λ other y. ap (is_over over) (one_standing b t so other stands y) ∙ x
clear_there b t over so (Err f) stands x = tt

-- ---- the answers

module _ (b t : List ℕ) (c : UnderwayCopy) (is : IsUnderwayCopy b c) (payload : Data) (over : OverUnderway) where
  pub unfit : (f : UnderwayRestoreFault) → IsUnfitEither c payload (length b) (length t) f → IsUnderwayUnrestored b t payload over f
  unfit (Restore (restore.NotAccepted f)) x = least_fault b c is Elsewhere (length b) f x
  unfit (Restore (restore.DoesNotFit f)) x = (fits b c is Elsewhere (length b) x.0.none, least_fault b c is payload (length t) f x.1)
  unfit other x = absurd x

  pub fit_both : HasNoFault c Elsewhere (length b) → HasNoFault c payload (length t) → FitsBoth b payload (length t)
  fit_both own there = record { own = fits b c is Elsewhere (length b) own.none; there = fits b c is payload (length t) there.none }

  pub barred : (f : UnderwayRestoreFault) → FitsBoth b payload (length t) → IsBarred b t over f → IsUnderwayUnrestored b t payload over f
  barred (Restore restore.OtherVolume) both x = record { fits = both; stands = x.0; kept_from = x.1 }
  barred (Restore restore.Device) both x = tt
  barred Progressed both x = record { fits = both; stands = x.0; kept_from = x.1 }
  barred other both x = absurd x

-- a failure after calls that met none
pub failed_after : (s t u w x y : ℕ) → x ≡ s → y ≡ u → IsOneFailure x t y w → IsOneFailure s t u w
failed_after s t u w x y one two f = subst (λ (n : ℕ). IsOneFailure n t u w) one (subst (λ (n : ℕ). IsOneFailure x t n w) two f)

pub can_restore : (b t : List ℕ) (payload : Data) (over : OverUnderway) → FitsBoth b payload (length t) → ((so : Standing) → StandsSo b t so → is_over over so ≡ true) → CanRestoreUnderway b t payload over
can_restore b t payload over both clear = record { fits = both; over_it = clear }
