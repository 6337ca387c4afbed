use Rattle.std.proofs.Common.{sym, ◌∙◌}
use Rattle.luks_area.specs.declared.area.AreaFault.TheVariants.{Outside}
use Rattle.luks_area.proofs.Scans.{least_outside, none_outside, least_pair, fits, no_fault}
use Rattle.luks_area.proofs.fitting.fit_entries.Goals as goal

pub returns-in-Some-clause-fault : goal.returns-in-Some-clause-fault
returns-in-Some-clause-fault c = least_outside _ _ _ c.requires (sym c.first_outside.ensures ∙ c.in-Some.is)

pub returns-in-Some-clause-only : goal.returns-in-Some-clause-only
returns-in-Some-clause-only c = λ fit.
    absurd (no_fault _ _ (Outside c.in-Some.name) fit (least_outside _ _ _ c.requires (sym c.first_outside.ensures ∙ c.in-Some.is)).0)

pub returns-in-Some-first_overlap-clause-fault : goal.returns-in-Some-first_overlap-clause-fault
returns-in-Some-first_overlap-clause-fault c =
    least_pair _ _ _ c.requires
    (none_outside _ _ c.requires (sym c.first_outside.ensures ∙ c.in-None.is))
    (sym c.first_overlap.ensures ∙ c.in-Some-first_overlap.is)

pub returns-in-Some-first_overlap-clause-only : goal.returns-in-Some-first_overlap-clause-only
returns-in-Some-first_overlap-clause-only c = λ fit.
    absurd (no_fault _ _ c.in-Some-first_overlap.fault fit (least_pair _ _ _ c.requires
    (none_outside _ _ c.requires (sym c.first_outside.ensures ∙ c.in-None.is))
    (sym c.first_overlap.ensures ∙ c.in-Some-first_overlap.is)).0)

pub returns-in-None-first_overlap-clause-fits : goal.returns-in-None-first_overlap-clause-fits
returns-in-None-first_overlap-clause-fits c =
    fits _ _ c.requires
    (none_outside _ _ c.requires (sym c.first_outside.ensures ∙ c.in-None.is))
    (sym c.first_overlap.ensures ∙ c.in-None-first_overlap.is)
