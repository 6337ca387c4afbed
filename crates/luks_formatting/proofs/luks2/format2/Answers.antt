use Rattle.std.proofs.Common.{true, false, None, arith, ◌^◌}
use Rattle.std.proofs.lemmas.Bool.{false≢true}
use Rattle.std.proofs.lemmas.Result.{on_ok_weaker, IfErr-weaker}
use Rattle.luks_slot.specs.Allowance.{none_allowed}
use Rattle.luks_formatting.specs.FormatFaults.{IsAnsweredFaultOrMemory, IsFormat2Fault, IsFormat2FaultAs}
use Rattle.luks_formatting.specs.Given.{nothing_given}
use Rattle.luks_formatting.proofs.FaultFacts.{answered_or_memory, anywhere, here}
use Rattle.luks_formatting.proofs.luks2.format2.Goals as goal

pub returns-clause-fault : goal.returns-clause-fault
returns-clause-fault g c =
    let total = g.D.Device.size c.args.device.now in
    let format = c.args.format.now in
    let random = c.args.random.now in
    IfErr-weaker c.make.result (IsAnsweredFaultOrMemory (IsFormat2FaultAs (nothing_given c.args.payload) false None 0 total format random)) (IsAnsweredFaultOrMemory (IsFormat2Fault total format random))
    (answered_or_memory (anywhere (2 ^ 55) 16777216 true c.args.payload false None 0 total format random) (here (2 ^ 55) 16777216 true c.args.payload false None 0 total format random))
    c.make.ensures.fault

pub returns-clause-faultless : goal.returns-clause-faultless
returns-clause-faultless g c =
    let total = g.D.Device.size c.args.device.now in
    on_ok_weaker c.make.result (λ none f x. none f (here (2 ^ 55) 16777216 true c.args.payload false None 0 total c.args.format.now c.args.random.now f x)) c.make.ensures.faultless

pub returns-clause-same : goal.returns-clause-same
returns-clause-same g c tells f x =
    let total = g.D.Device.size c.args.device.now in
    c.make.ensures.same tells f (here (2 ^ 55) 16777216 true c.args.payload false None 0 total c.args.format.now c.args.random.now f x)

pub returns-clause-opens : goal.returns-clause-opens
returns-clause-opens g c tells = on_ok_weaker c.make.result (λ opened. opened none_allowed (omega arith) (λ is. absurd (false≢true is))) (c.make.ensures.opens tells)
