use Rattle.std.proofs.Common.{◌≡◌, ◌-◌}
use Rattle.luks_aes.specs.Aes.{state_before}
use Rattle.luks_aes.proofs.block.inverse_cipher.Given as goal

abbrev pub invariant-loop-i : goal.invariant-loop-i
invariant-loop-i l = state_before l.words (l.rounds - l.i) l.state ≡ state_before l.words l.rounds l.initial.state
