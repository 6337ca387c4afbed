use Rattle.std.proofs.Common.{subst}
use Rattle.luks1_header.specs.Written.{WritesEntry}
use Rattle.luks1_edits.proofs.SlotSetFacts.{set_own}
use Rattle.luks1_edits.proofs.freeing.entry_bytes.Goals as goal

pub returns : goal.returns
returns c = subst (WritesEntry c.slot_bytes.result) (set_own c.args.header.now.slots c.args.n c.args.slot) (c.slot_bytes.ensures c.args.slot)
