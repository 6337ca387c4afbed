use Rattle.std.proofs.Common.{arith}
use Rattle.luks1_edits.proofs.KeyslotChoice.{only_in_use}
use Rattle.luks1_edits.proofs.keyslots.is_last.Goals as goal

pub returns-clause-last : goal.returns-clause-last
returns-clause-last c = λ _ v holds. only_in_use c.args.header.now.slots c.args.n c.loop-m.m (omega arith) c.loop-m.invariant v holds
