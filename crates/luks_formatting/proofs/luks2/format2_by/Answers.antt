use Rattle.std.proofs.Common.{true, ◌^◌}
use Rattle.std.proofs.lemmas.Bool.{false≢true}
use Rattle.std.proofs.lemmas.Result.{on_ok_weaker, IfErr-weaker}
use Rattle.luks_formatting.specs.Deriving.{allowed_for}
use Rattle.luks_formatting.specs.FormatFaults.{IsAnsweredFaultOrMemory, IsFormat2FaultAs, IsFormat2FaultBy}
use Rattle.luks_formatting.specs.Given.{nothing_given}
use Rattle.luks_formatting.proofs.FaultFacts.{answered_or_memory, anywhere, here}
use Rattle.luks_formatting.proofs.luks2.format2_by.Goals as goal

pub returns-clause-fault : goal.returns-clause-fault
returns-clause-fault g c =
    let total = g.D.Device.size c.args.device.now in
    let format = c.args.format.now in
    let random = c.args.random.now in
    let allowed = allowed_for c.args.passphrase.now.allowed.memory c.args.passphrase.now.bytes.now in
    IfErr-weaker c.format2_as.result (IsAnsweredFaultOrMemory (IsFormat2FaultAs (nothing_given c.args.payload) c.args.passphrase.now.allowed.older c.args.chosen allowed total format random)) (IsAnsweredFaultOrMemory (IsFormat2FaultBy c.args.chosen allowed total format random))
    (answered_or_memory (anywhere (2 ^ 55) 16777216 true c.args.payload c.args.passphrase.now.allowed.older c.args.chosen allowed total format random) (here (2 ^ 55) 16777216 true c.args.payload c.args.passphrase.now.allowed.older c.args.chosen allowed total format random))
    c.format2_as.ensures.fault

pub returns-clause-faultless : goal.returns-clause-faultless
returns-clause-faultless g c =
    let total = g.D.Device.size c.args.device.now in
    let allowed = allowed_for c.args.passphrase.now.allowed.memory c.args.passphrase.now.bytes.now in
    on_ok_weaker c.format2_as.result (λ none f x. none f (here (2 ^ 55) 16777216 true c.args.payload c.args.passphrase.now.allowed.older c.args.chosen allowed total c.args.format.now c.args.random.now f x)) c.format2_as.ensures.faultless

pub returns-clause-same : goal.returns-clause-same
returns-clause-same g c tells f x =
    let total = g.D.Device.size c.args.device.now in
    let allowed = allowed_for c.args.passphrase.now.allowed.memory c.args.passphrase.now.bytes.now in
    c.format2_as.ensures.same tells f (here (2 ^ 55) 16777216 true c.args.payload c.args.passphrase.now.allowed.older c.args.chosen allowed total c.args.format.now c.args.random.now f x)

pub returns-clause-opens : goal.returns-clause-opens
returns-clause-opens g c tells = on_ok_weaker c.format2_as.result (λ opened allowed enough. opened allowed enough (λ is. absurd (false≢true is))) (c.format2_as.ensures.opens tells)
