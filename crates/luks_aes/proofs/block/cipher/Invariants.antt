use Rattle.std.proofs.Common.{◌≡◌}
use Rattle.luks_aes.specs.Aes.{state_after}
use Rattle.luks_aes.proofs.block.cipher.Given as goal

abbrev pub invariant-loop-i : goal.invariant-loop-i
invariant-loop-i l = l.state ≡ state_after l.words l.i l.fn.block
