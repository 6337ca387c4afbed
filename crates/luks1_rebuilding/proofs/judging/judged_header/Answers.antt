use Rattle.std.proofs.Common.{inl, inr, arith, rules, sym, subst}
use Rattle.luks_area.specs.First.{IsLeast}
use Rattle.luks1_rebuilding.proofs.FaultFacts.{err_so, field_first, fitting_faultless, unfit_first}
use Rattle.luks1_rebuilding.specs.Judged.{IsUnfit}
use Rattle.luks1_rebuilding.specs.Outcome.{IsMakingFault}
use Rattle.luks1_rebuilding.specs.RebuildFaults.{rebuild_key}
use Rattle.luks1_rebuilding.proofs.judging.judged_header.Goals as goal

pub returns-in-Ok-clause-fault : goal.returns-in-Ok-clause-fault
returns-in-Ok-clause-fault c =
    err_so c.fitting_header.result (IsUnfit c.in-Ok.fields c.args.total) (IsLeast rebuild_key (IsMakingFault c.args.header.now c.args.source c.args.given.now c.args.total))
    (λ f x. unfit_first c.args.header.now c.args.source c.args.given.now c.args.total
    (λ still. (let yes = c.is_reencrypting.ensures.1 still.1 in let no = c.if-is_reencrypting.false in absurd (cc)))
    (λ lacks. elim lacks [ inl small ↦ (let room = c.requires.room in omega (arith, small, room)) | inr none ↦ none (c.has_signs.ensures.0 (search rules)) ])
    c.in-Ok.ensures.faultless c.in-Ok.fields c.in-Ok.ensures.made f x)
    c.fitting_header.ensures.refused

pub returns-in-Ok-clause-faultless : goal.returns-in-Ok-clause-faultless
returns-in-Ok-clause-faultless c =
    fitting_faultless c.args.header.now c.args.source c.args.given.now c.args.total
    (λ still. (let yes = c.is_reencrypting.ensures.1 still.1 in let no = c.if-is_reencrypting.false in absurd (cc)))
    (λ lacks. elim lacks [ inl small ↦ (let room = c.requires.room in omega (arith, small, room)) | inr none ↦ none (c.has_signs.ensures.0 (search rules)) ])
    c.in-Ok.ensures.faultless c.in-Ok.fields c.in-Ok.ensures.made
    c.fitting_header.result c.fitting_header.ensures.fields c.fitting_header.ensures.written c.fitting_header.ensures.fits c.fitting_header.ensures.large

pub returns-in-Err-clause-fault : goal.returns-in-Err-clause-fault
returns-in-Err-clause-fault c =
    subst (IsLeast rebuild_key (IsMakingFault c.args.header.now c.args.source c.args.given.now c.args.total)) (sym c.from.ensures)
    (field_first c.args.header.now c.args.source c.args.given.now c.args.total
    (λ still. (let yes = c.is_reencrypting.ensures.1 still.1 in let no = c.if-is_reencrypting.false in absurd (cc)))
    (λ lacks. elim lacks [ inl small ↦ (let room = c.requires.room in omega (arith, small, room)) | inr none ↦ none (c.has_signs.ensures.0 (search rules)) ])
    c.in-Err.fault c.in-Err.ensures.fault)
