use Rattle.std.proofs.Common.{ℕ, ◌+◌, List, inr, length, take, subst, sym, ap, ◌∙◌, arith, length-take}
use Rattle.std.proofs.lemmas.Result.{on_err_weaker, on_ok_weaker}
use Rattle.luks_area.specs.Ranges.{written, IsAt}
use Rattle.luks_area.proofs.RangeFacts.{written-none}
use Rattle.luks_given.specs.Parts.{HasPlace, IsPlaced}
use Rattle.luks_given.specs.Planned.{planned_bytes}
use Rattle.luks_given.proofs.PartFacts.{placed-has}
use Rattle.luks_given.proofs.PlannedFacts.{either-way, length-told, unplanned-touches, written-front_more, written-touches}
use Rattle.luks_given.proofs.PlayFacts.{written-front}
use Rattle.luks_given.proofs.planned_writes.PlannedWritesDevice.write_at.Goals as goal

pub changing-len-requires : goal.changing-len-requires
changing-len-requires g c =
    let self = c.args.self.now in
    subst (λ rs. IsPlaced rs 0 c.args.at (c.args.at + length c.args.from.now) c.in-Ok.k) self.same c.in-Ok.ensures.there

pub returns-then-len-eq0-clause-wrote : goal.returns-then-len-eq0-clause-wrote
returns-then-len-eq0-clause-wrote g c = λ t.
    let self = c.args.self.now in
    let from : List ℕ = c.args.from.now in
    let w : List ℕ = planned_bytes self in
    let within = c.requires.within in
    let long = length-told self in
    sym (written-none w c.args.at)
    ∙ sym (ap (λ n. written w c.args.at (take n from)) c.if-len-eq0.true)
    ∙ written-front w c.args.at from c.changing-len.result (omega (arith, long, within)) c.changing-len.ensures.most c.changing-len.ensures.rest

pub plan-requires-clause-within : goal.plan-requires-clause-within
plan-requires-clause-within g c =
    let within = c.requires.within in
    let most = c.changing-len.ensures.most in
    let short = length-take c.changing-len.result c.args.from.now in
    omega (arith, within, most, short)

pub plan-requires-clause-given : goal.plan-requires-clause-given
plan-requires-clause-given g c = λ p is.
    let self = c.args.self.now in
    let from : List ℕ = c.args.from.now in
    let high = is.1 in
    let most = c.changing-len.ensures.most in
    let short = length-take c.changing-len.result from in
    subst (λ l. HasPlace l p) self.same (placed-has self.parts.now 0 c.args.at (c.args.at + length from) c.in-Ok.k p c.in-Ok.ensures.there is.0 (omega (arith, high, most, short)))

pub returns-else-len-eq0-clause-wrote : goal.returns-else-len-eq0-clause-wrote
returns-else-len-eq0-clause-wrote g c = λ t.
    on_ok_weaker c.plan.result
    (written-front_more c.args.at c.changing-len.result c.args.from.now c.args.self.now c.plan.new.self c.requires.within c.changing-len.ensures.most c.changing-len.ensures.rest)
    c.plan.ensures.more

pub returns-else-len-eq0-clause-touches : goal.returns-else-len-eq0-clause-touches
returns-else-len-eq0-clause-touches g c = λ t.
    let from : List ℕ = c.args.from.now in
    either-way c.plan.result c.plan.ensures.more c.plan.ensures.same
    (written-touches c.args.at c.changing-len.result from c.args.self.now c.plan.new.self c.requires.within c.changing-len.ensures.most c.changing-len.ensures.rest)
    (unplanned-touches (IsAt c.args.at (length from)) c.args.self.now c.plan.new.self)

pub returns-else-len-eq0-clause-wants : goal.returns-else-len-eq0-clause-wants
returns-else-len-eq0-clause-wants g c =
    let self = c.args.self.now in
    let from : List ℕ = c.args.from.now in
    on_err_weaker c.plan.result
    (λ lacks. inr ((λ p is. subst (λ l. HasPlace l p) self.same (placed-has self.parts.now 0 c.args.at (c.args.at + length from) c.in-Ok.k p c.in-Ok.ensures.there is.0 is.1)), lacks))
    c.plan.ensures.lacks
