use Rattle.std.proofs.Common.{arith, refl}
use Rattle.luks1_edits.proofs.KeyslotChoice.{least_of, none_free}
use Rattle.luks1_edits.proofs.keyslots.least_free.Goals as goal

pub returns-then-not-is_used-clause-least : goal.returns-then-not-is_used-clause-least
returns-then-not-is_used-clause-least c = λ v holds. least_of c.args.header.now.slots c.loop-n.n c.loop-n.invariant v holds (c.if-not-is_used.ensures.free refl v holds)

pub returns-clause-least : goal.returns-clause-least
returns-clause-least c = λ v holds. none_free c.args.header.now.slots c.loop-n.n (omega arith) c.loop-n.invariant v holds
