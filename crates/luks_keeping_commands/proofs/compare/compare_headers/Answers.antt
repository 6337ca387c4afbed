use Rattle.std.proofs.Common.{rules, ℕ, List, IsTrue, inl, refl, sym, subst, ap, ◌∙◌}
use Rattle.luks_area.specs.Device.{count_after, unchanged-then}
use Rattle.luks_reading.specs.Failures.{is_check_failure}
use Rattle.luks_reading.specs.declared.check_fault.CheckFault.TheVariants as check
use Rattle.luks_reading.specs.declared.report.Data.TheVariants.{Elsewhere}
use Rattle.luks_keeping.specs.Compared.{IsComparedInFull}
use Rattle.luks_keeping.specs.Outlines.{Outlines}
use Rattle.luks_keeping_commands.specs.Comparing.{IsComparedAnswer}
use Rattle.luks_keeping_commands.specs.TwoFiles.{pair_of, Pair}
use Rattle.luks_keeping_commands.proofs.CompareFacts.{compared_after, compared_fault, volume_fault}
use Rattle.luks_keeping_commands.proofs.Lifted.{after_source}
use Rattle.luks_keeping_commands.proofs.NarrowFacts.{formed_other}
use Rattle.luks_keeping_commands.proofs.compare.compare_headers.Goals as goal

-- ---- the backup isn't accepted

pub returns-in-Err-Meta-clause-answers : goal.returns-in-Err-Meta-clause-answers
returns-in-Err-Meta-clause-answers g c =
    compared_after g.D.Device.tells c.args.comparing.now.payload _ _
    (after_source g.D.Device.tells g.D.Device.size g.D.Device.bytes g.D.Device.failed c.args.backup.now c.read_outline.new.device c.compare_wide.new.backup
    c.args.volume.now c.compare_wide.new.volume c.in-Err-Meta.ensures.unchanged.same
    (c.in-Err-Meta.ensures.count ∙ ap (λ f. count_after (is_check_failure f) (g.D.Device.failed c.args.backup.now)) c.in-Err-Meta.field-0-is))
    _ c.compare_wide.ensures.answers

pub returns-in-Err-Head-clause-answers : goal.returns-in-Err-Head-clause-answers
returns-in-Err-Head-clause-answers g c =
    let d : Pair = pair_of g.D.Device.size g.D.Device.bytes g.D.Device.failed c.args.backup.now c.read_outline.new.device c.args.volume.now c.args.volume.now in
    subst (IsComparedAnswer g.D.Device.tells c.args.comparing.now.payload d) (sym c.refused_backup.ensures)
    (compared_fault g.D.Device.tells c.args.comparing.now.payload d _ (check.Head c.in-Err-Head.fault) c.in-Err-Head.field-0-is c.in-Err-Head.ensures.count refl c.in-Err-Head.ensures.refused (λ m e. cc))

pub returns-in-Err-Area-clause-answers : goal.returns-in-Err-Area-clause-answers
returns-in-Err-Area-clause-answers g c =
    let d : Pair = pair_of g.D.Device.size g.D.Device.bytes g.D.Device.failed c.args.backup.now c.read_outline.new.device c.args.volume.now c.args.volume.now in
    subst (IsComparedAnswer g.D.Device.tells c.args.comparing.now.payload d) (sym c.refused_backup-in-Err-Area.ensures)
    (compared_fault g.D.Device.tells c.args.comparing.now.payload d _ (check.Area c.in-Err-Area.fault) c.in-Err-Area.field-0-is c.in-Err-Area.ensures.count refl c.in-Err-Area.ensures.refused (λ m e. cc))

pub returns-in-Err-Device-clause-answers : goal.returns-in-Err-Device-clause-answers
returns-in-Err-Device-clause-answers g c =
    let d : Pair = pair_of g.D.Device.size g.D.Device.bytes g.D.Device.failed c.args.backup.now c.read_outline.new.device c.args.volume.now c.args.volume.now in
    subst (IsComparedAnswer g.D.Device.tells c.args.comparing.now.payload d) (sym c.device_fault.ensures)
    (compared_fault g.D.Device.tells c.args.comparing.now.payload d _ check.Device c.in-Err-Device.field-0-is c.in-Err-Device.ensures.count refl c.in-Err-Device.ensures.refused (λ m e. cc))

pub returns-in-Err-Memory-clause-answers : goal.returns-in-Err-Memory-clause-answers
returns-in-Err-Memory-clause-answers g c =
    let d : Pair = pair_of g.D.Device.size g.D.Device.bytes g.D.Device.failed c.args.backup.now c.read_outline.new.device c.args.volume.now c.args.volume.now in
    compared_fault g.D.Device.tells c.args.comparing.now.payload d _ check.Memory c.in-Err-Memory.field-0-is c.in-Err-Memory.ensures.count refl c.in-Err-Memory.ensures.refused (λ m e. cc)

-- ---- the volume isn't, or is another one's

pub returns-in-Err-clause-answers : goal.returns-in-Err-clause-answers
returns-in-Err-clause-answers g c =
    let d : Pair = pair_of g.D.Device.size g.D.Device.bytes g.D.Device.failed c.args.backup.now c.read_outline.new.device c.args.volume.now c.read_outline-2.new.device in
    subst (IsComparedAnswer g.D.Device.tells c.args.comparing.now.payload d) (sym c.refused.ensures.answer)
    (volume_fault g.D.Device.tells c.args.comparing.now.payload d c.in-Err.fault c.in-Ok.ensures.count c.in-Err.ensures.count c.in-Ok.ensures.formed c.in-Err.ensures.refused)

pub returns-then-is_other_volume-clause-answers : goal.returns-then-is_other_volume-clause-answers
returns-then-is_other_volume-clause-answers g c = inl (
  (
    (c.in-Ok.ensures.count, c.in-Ok-read_outline.ensures.count),
    λ told. record { backup = c.in-Ok.ensures.formed told; volume = c.in-Ok-read_outline.ensures.formed told },
    λ told. (c.is_other_volume.ensures (g.D.Device.bytes c.args.backup.now) (g.D.Device.bytes c.args.volume.now)
        (c.in-Ok.ensures.read told) (c.in-Ok-read_outline.ensures.read told)).0 c.if-is_other_volume.true,
  ),
  λ told u. absurd (formed_other (g.D.Device.bytes c.args.backup.now) Elsewhere (c.in-Ok.ensures.formed told) u),
)

-- ---- the areas were read

pub returns-in-Ok-compare_areas-clause-kept : goal.returns-in-Ok-compare_areas-clause-kept
returns-in-Ok-compare_areas-clause-kept g c = unchanged-then c.in-Ok.ensures.unchanged c.in-Ok-compare_areas.ensures.kept

pub returns-in-Ok-compare_areas-clause-unchanged : goal.returns-in-Ok-compare_areas-clause-unchanged
returns-in-Ok-compare_areas-clause-unchanged g c = unchanged-then c.in-Ok-read_outline.ensures.unchanged c.in-Ok-compare_areas.ensures.unchanged

pub returns-in-Ok-compare_areas-clause-answers : goal.returns-in-Ok-compare_areas-clause-answers
returns-in-Ok-compare_areas-clause-answers g c =
    let b : List ℕ = g.D.Device.bytes c.args.backup.now in
    let t : List ℕ = g.D.Device.bytes c.args.volume.now in
    let none : IsTrue c.is_other_volume.result → ⊥ = search rules in
    inl (
      (
        (c.in-Ok-compare_areas.ensures.count.0 ∙ c.in-Ok.ensures.count, c.in-Ok-compare_areas.ensures.count.1 ∙ c.in-Ok-read_outline.ensures.count),
        λ told. record { backup = c.in-Ok.ensures.formed told; volume = c.in-Ok-read_outline.ensures.formed told },
        λ told other. none ((c.is_other_volume.ensures b t (c.in-Ok.ensures.read told) (c.in-Ok-read_outline.ensures.read told)).1 other),
        λ told.
            subst (λ (v : List ℕ). IsComparedInFull v t c.in-Ok-compare_areas.comparison) (c.in-Ok.ensures.unchanged.same told)
            (subst (λ (v : List ℕ). IsComparedInFull (g.D.Device.bytes c.read_outline.new.device) v c.in-Ok-compare_areas.comparison) (c.in-Ok-read_outline.ensures.unchanged.same told)
            (c.in-Ok-compare_areas.ensures.compared told told
            (subst (λ (v : List ℕ). Outlines v c.in-Ok.found) (sym (c.in-Ok.ensures.unchanged.same told)) (c.in-Ok.ensures.read told))
            (subst (λ (v : List ℕ). Outlines v c.in-Ok-read_outline.found) (sym (c.in-Ok-read_outline.ensures.unchanged.same told)) (c.in-Ok-read_outline.ensures.read told)))),
      ),
      λ told u. absurd (formed_other b Elsewhere (c.in-Ok.ensures.formed told) u),
    )
