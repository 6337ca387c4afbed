use Rattle.std.proofs.Common.{false, None, ◌^◌}
use Rattle.std.proofs.lemmas.Bool.{false≢true}
use Rattle.std.proofs.lemmas.Result.{on_ok_weaker, IfErr-weaker}
use Rattle.luks_slot.specs.Allowance.{none_allowed}
use Rattle.luks_formatting.specs.FormatFaults.{IsAnsweredFault, IsFormat1Fault, IsFormat1FaultAs}
use Rattle.luks_formatting.specs.Given.{nothing_given}
use Rattle.luks_formatting.proofs.FaultFacts.{answered, anywhere, here}
use Rattle.luks_formatting.proofs.luks1.format1.Goals as goal

pub returns-clause-fault : goal.returns-clause-fault
returns-clause-fault g c =
    let total = g.D.Device.size c.args.device.now in
    let format = c.args.format.now in
    let random = c.args.random.now in
    IfErr-weaker c.format1_as.result (IsAnsweredFault (IsFormat1FaultAs (nothing_given c.args.payload) false total format random)) (IsAnsweredFault (IsFormat1Fault total format random))
    (answered (anywhere (2 ^ 32) 2097152 false c.args.payload false None 0 total format random) (here (2 ^ 32) 2097152 false c.args.payload false None 0 total format random))
    c.format1_as.ensures.fault

pub returns-clause-faultless : goal.returns-clause-faultless
returns-clause-faultless g c =
    let total = g.D.Device.size c.args.device.now in
    on_ok_weaker c.format1_as.result (λ none f x. none f (here (2 ^ 32) 2097152 false c.args.payload false None 0 total c.args.format.now c.args.random.now f x)) c.format1_as.ensures.faultless

pub returns-clause-same : goal.returns-clause-same
returns-clause-same g c tells f x =
    let total = g.D.Device.size c.args.device.now in
    c.format1_as.ensures.same tells f (here (2 ^ 32) 2097152 false c.args.payload false None 0 total c.args.format.now c.args.random.now f x)

pub returns-clause-opens : goal.returns-clause-opens
returns-clause-opens g c tells = on_ok_weaker c.format1_as.result (λ opened. opened none_allowed (λ is. absurd (false≢true is))) (c.format1_as.ensures.opens tells)
