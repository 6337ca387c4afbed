use Rattle.std.proofs.Common.{◌∙◌, ap₂, slice_index}
use Rattle.std.specs.Int.Bits.{bit_xor}
use Rattle.luks_aes.proofs.BlockFacts.{two_times}
use Rattle.luks_aes.proofs.block.doubled.Goals as goal

pub returns-clause-bytes : goal.returns-clause-bytes
returns-clause-bytes c = λ k h.
    c.sum.ensures.bytes k h
    ∙ ap₂ bit_xor (c.moved_up-twice.ensures k h) (c.carried-carried.ensures.bytes k h)
    ∙ two_times (slice_index c.args.x k) (c.carried-carried.ensures.given.bytes k h)
