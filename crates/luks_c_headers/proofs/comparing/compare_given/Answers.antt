use Rattle.std.proofs.Common.{◌≡◌, ◌≢◌, ◌<◌, inl, inr, length, ℕ, List, None, IsTrue, false, refl, ◌∙◌, arith, rules, subst, sym}
use Rattle.luks_given.specs.Given.{given_bytes}
use Rattle.luks_keeping.specs.Compared.{IsComparedInFull}
use Rattle.luks_keeping.specs.Outlines.{Outlines}
use Rattle.luks_keeping.specs.SameVolume.{IsOtherVolume}
use Rattle.luks_reading.specs.Checked.{IsCheckRefusal, WellFormed}
use Rattle.luks_reading.specs.Failures.{is_check_failure}
use Rattle.luks_reading.specs.declared.report.Data.TheVariants.{Elsewhere}
use Rattle.luks_c_answers.proofs.NumberFacts.{check_number_other, check_number_range, check_number_usage, restore_number_range}
use Rattle.luks_c_answers.specs.Numbers.{restore_number}
use Rattle.luks_keeping.specs.RestoreFaults.{checked_restore}
use Rattle.luks_c_headers.proofs.HeaderFacts.{checked_other, none_still}
use Rattle.luks_c_headers.proofs.comparing.compare_given.Goals as goal

pub returns-in-Err-Device-read_outline-clause-wanted : goal.returns-in-Err-Device-read_outline-clause-wanted
returns-in-Err-Device-read_outline-clause-wanted g c =
    let e = c.in-Err-Device-read_outline.ensures in
    let unwritten : c.read_outline-2.new.device.refused ≡ None = none_still _ _ c.new-device.ensures.unwritten (e.unchanged.unsettled tt) in
    let failed : c.read_outline-2.new.device.failures ≢ 0 = search rules in
    let w = c.wanted-told-in-Err-Device-read_outline.ensures in
    let inside = w.inside in
    let size = e.unchanged.size in
    let whole = c.new-device.ensures.size in
    λ asked. inr (record { missing = w.missing unwritten failed; some = w.some unwritten failed; inside = omega (arith, inside, size, whole) }, c.requires.backup_told)

pub returns-in-Err-read_outline : goal.returns-in-Err-read_outline
returns-in-Err-read_outline g c =
    let f = c.in-Err-read_outline.fault in
    let is = c.check_number.ensures in
    let own : is_check_failure f ≡ false = search rules in
    let low = (check_number_range f).0 in
    let kept = subst (λ (v : List ℕ). WellFormed v Elsewhere) c.new-kept.ensures.bytes (c.in-Ok.ensures.formed tt) in
    let refusal = subst (λ (v : List ℕ). IsCheckRefusal v c.args.payload f) c.new-device.ensures.bytes (c.in-Err-read_outline.ensures.refused tt) in
    record {
      own = λ usage. check_number_usage f (sym is ∙ usage);
      answers = record {
        told = λ zero. absurd (omega (arith, is, zero, low));
        untold = λ other. inr (inl (record { kept = kept; fault = f; refusal = refusal; is = is }));
        kept = λ other. refl;
      };
      wanted = λ asked. absurd (check_number_other f own (sym is ∙ asked));
    }

pub returns-clause-answers : goal.returns-clause-answers
returns-clause-answers g c =
    let b : List ℕ = g.S.Given.bytes in
    let t : List ℕ = g.K.Given.bytes in
    let here = subst (λ (v : List ℕ). Outlines v c.in-Ok.found) c.new-kept.ensures.bytes (c.in-Ok.ensures.read tt) in
    let there = subst (λ (v : List ℕ). Outlines v c.in-Ok-read_outline.found) c.new-device.ensures.bytes (c.in-Ok-read_outline.ensures.read tt) in
    let kept = subst (λ (v : List ℕ). WellFormed v Elsewhere) c.new-kept.ensures.bytes (c.in-Ok.ensures.formed tt) in
    let formed = subst (λ (v : List ℕ). WellFormed v c.args.payload) c.new-device.ensures.bytes (c.in-Ok-read_outline.ensures.formed tt) in
    let none : IsTrue c.is_other_volume.result → ⊥ = search rules in
    let backup = c.in-Ok.ensures.unchanged.same tt in
    let volume_ = c.in-Ok-read_outline.ensures.unchanged.same tt in
    let compared : IsComparedInFull b t c.in-Ok-compare_areas.found =
    subst (λ (v : List ℕ). IsComparedInFull v t c.in-Ok-compare_areas.found) (backup ∙ c.new-kept.ensures.bytes)
    (subst (λ (v : List ℕ). IsComparedInFull (given_bytes c.read_outline.new.device) v c.in-Ok-compare_areas.found) (volume_ ∙ c.new-device.ensures.bytes)
    (c.in-Ok-compare_areas.ensures.compared tt tt
    (subst (λ (v : List ℕ). Outlines v c.in-Ok.found) (sym backup) (c.in-Ok.ensures.read tt))
    (subst (λ (v : List ℕ). Outlines v c.in-Ok-read_outline.found) (sym volume_) (c.in-Ok-read_outline.ensures.read tt)))) in
    record {
      told = λ zero. record {
        kept = kept;
        formed = formed;
        own = λ other. none ((c.is_other_volume.ensures b t here there).1 other);
        comparison = c.in-Ok-compare_areas.found;
        compared = compared;
        key = c.number_of_key-told.ensures;
        keyslots = c.tell_keyslots.ensures;
      };
      untold = λ other. absurd (other refl);
      kept = λ other. absurd (other refl);
    }

-- ---- a key area wasn't given

pub returns-then-failures-gt0-clause-wanted : goal.returns-then-failures-gt0-clause-wanted
returns-then-failures-gt0-clause-wanted g c =
    let e = c.in-Err-compare_areas.ensures in
    let unwritten : c.compare_areas.new.backup.refused ≡ None =
    none_still _ _ (none_still _ _ c.new-kept.ensures.unwritten (c.in-Ok.ensures.unchanged.unsettled tt)) (e.kept.unsettled tt) in
    let some = c.if-failures-gt0.true in
    let is = c.failures.ensures in
    let failed : c.compare_areas.new.backup.failures ≢ 0 = λ (z : c.compare_areas.new.backup.failures ≡ 0). omega (arith, some, is, z) in
    let w = c.wanted-told-then-failures-gt0.ensures in
    let inside = w.inside in
    let last = e.kept.size in
    let size = c.in-Ok.ensures.unchanged.size in
    let whole = c.new-kept.ensures.size in
    λ asked. inl (record { missing = w.missing unwritten failed; some = w.some unwritten failed; inside = omega (arith, inside, last, size, whole) }, c.requires.volume_told)

pub returns-else-failures-gt0-clause-wanted : goal.returns-else-failures-gt0-clause-wanted
returns-else-failures-gt0-clause-wanted g c =
    let e = c.in-Err-compare_areas.ensures in
    let unwritten : c.compare_areas.new.target.refused ≡ None =
    none_still _ _ (none_still _ _ c.new-device.ensures.unwritten (c.in-Ok-read_outline.ensures.unchanged.unsettled tt)) (e.unchanged.unsettled tt) in
    let no = c.if-failures-gt0.false in
    let is = c.failures.ensures in
    let failed : c.compare_areas.new.target.failures ≢ 0 = λ (z : c.compare_areas.new.target.failures ≡ 0). elim e.count [
      | inl first ↦ (let grown = first.0 in omega (arith, no, is, grown))
      | inr second ↦ (let grown = second.1 in omega (arith, grown, z))
    ] in
    let w = c.wanted-told-else-failures-gt0.ensures in
    let inside = w.inside in
    let last = e.unchanged.size in
    let size = c.in-Ok-read_outline.ensures.unchanged.size in
    let whole = c.new-device.ensures.size in
    λ asked. inr (record { missing = w.missing unwritten failed; some = w.some unwritten failed; inside = omega (arith, inside, last, size, whole) }, c.requires.backup_told)

-- ---- the backup isn't accepted

pub returns-in-Err-clause-wanted : goal.returns-in-Err-clause-wanted
returns-in-Err-clause-wanted g c =
    let f = c.in-Err.fault in
    let own : is_check_failure f ≡ false = search rules in
    let is : c.restore_number.result ≡ restore_number (checked_restore f) = search rules in
    λ asked. absurd (checked_other f own (sym is ∙ asked))

pub returns-in-Err-clause-answers : goal.returns-in-Err-clause-answers
returns-in-Err-clause-answers g c =
    let f = c.in-Err.fault in
    let is : c.restore_number.result ≡ restore_number (checked_restore f) = search rules in
    let low = (restore_number_range (checked_restore f)).0 in
    record {
      told = λ zero. absurd (omega (arith, is, zero, low));
      untold = λ other. inl (record { fault = f; refusal = c.in-Err.ensures.refused tt; is = is });
      kept = λ other. refl;
    }
