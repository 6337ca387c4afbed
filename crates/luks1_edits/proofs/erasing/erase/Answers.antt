use Rattle.luks1_edits.proofs.ErasureFacts.{erasure_done, erasure_refused, erasure_torn}
use Rattle.luks1_edits.proofs.erasing.erase.Goals as goal

pub returns-then-random-ne0-clause-replies : goal.returns-then-random-ne0-clause-replies
returns-then-random-ne0-clause-replies g c = λ tells e is x.
    erasure_refused (g.D.Device.bytes c.args.device.now) c.args.header.now.payload c.args.random.now x.faultless e is c.if-random-ne0.true

pub returns-in-Ok-clause-replies : goal.returns-in-Ok-clause-replies
returns-in-Ok-clause-replies g c = λ tells e is x.
    erasure_done (g.D.Device.bytes c.args.device.now) c.args.header.now.payload c.args.random.now x.faultless e is c.if-random-ne0.false (g.D.Device.bytes c.free_all.new.device)
    (c.in-Ok.ensures.removed tells x)

pub returns-in-Err-clause-replies : goal.returns-in-Err-clause-replies
returns-in-Err-clause-replies g c = λ tells e is x.
    erasure_torn (g.D.Device.bytes c.args.device.now) c.args.header.now.payload c.args.random.now x.faultless e is c.if-random-ne0.false (g.D.Device.bytes c.free_all.new.device)
    (c.in-Err.ensures.torn tells x)
