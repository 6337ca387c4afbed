use Rattle.std.proofs.Common.{◌≡◌, ◌*◌, [], take}
use Rattle.std.specs.Prelude.{slice_index_or}
use Rattle.luks_modes.specs.Xts.{joined}
use Rattle.luks_modes.proofs.eights.put_blocks.Given as goal

abbrev pub invariant-loop-i : goal.invariant-loop-i
invariant-loop-i l = take (16 * l.i) l.bytes ≡ joined (λ b. slice_index_or l.blocks b []) l.i
