use Rattle.luks_wide_keeping.proofs.restoring.judge_there.Goals as goal

pub returns-in-Ok-clause-fits : goal.returns-in-Ok-clause-fits
returns-in-Ok-clause-fits c = record { none = c.in-Ok.ensures.fits }
