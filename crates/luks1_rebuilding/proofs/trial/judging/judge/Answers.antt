use Rattle.std.proofs.Common.{inl, inr, arith, rules, sym, subst}
use Rattle.luks_area.specs.First.{IsLeast}
use Rattle.luks1_rebuilding.specs.RebuildFaults.{rebuild_key}
use Rattle.luks1_rebuilding.specs.TrialFaults.{IsFaultOfAll}
use Rattle.luks1_rebuilding.proofs.JudgingFacts.{first, none}
use Rattle.luks1_rebuilding.proofs.trial.judging.judge.Goals as goal

pub returns-in-Ok-clause-faultless : goal.returns-in-Ok-clause-faultless
returns-in-Ok-clause-faultless c =
    none c.args.header.now c.args.total 0 c.args.given.now c.usable.result c.usable.ensures
    (λ still. (let yes = c.is_reencrypting.ensures.1 still.1 in let no = c.if-is_reencrypting.false in absurd (cc)))
    (λ lacks. elim lacks [ inl small ↦ (let room = c.requires.room in omega (arith, small, room)) | inr lacking ↦ lacking (c.has_signs.ensures.0 (search rules)) ])
    c.in-Ok.ensures.faultless

pub returns-in-Err-clause-fault : goal.returns-in-Err-clause-fault
returns-in-Err-clause-fault c =
    subst (IsLeast rebuild_key (IsFaultOfAll c.args.header.now c.args.total c.args.given.now)) (sym c.from.ensures)
    (first c.args.header.now c.args.total 0 c.args.given.now c.usable.result c.usable.ensures
    (λ still. (let yes = c.is_reencrypting.ensures.1 still.1 in let no = c.if-is_reencrypting.false in absurd (cc)))
    (λ lacks. elim lacks [ inl small ↦ (let room = c.requires.room in omega (arith, small, room)) | inr lacking ↦ lacking (c.has_signs.ensures.0 (search rules)) ])
    c.in-Err.fault c.in-Err.ensures.fault)
