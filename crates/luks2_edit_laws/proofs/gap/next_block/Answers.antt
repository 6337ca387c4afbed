use Rattle.std.proofs.Common.{◌/◌, ◌+◌, arith}
use Rattle.luks2_edit_laws.proofs.gap.next_block.Goals as goal

pub returns-then-place-eq0 : goal.returns-then-place-eq0
returns-then-place-eq0 c = record { block = c.args.place / 4096; aligned = omega (arith, c.if-place-eq0.true); from = omega arith; near = omega arith }

pub returns-else-place-eq0 : goal.returns-else-place-eq0
returns-else-place-eq0 c = record { block = c.args.place / 4096 + 1; aligned = omega arith; from = omega arith; near = omega (arith, c.if-place-eq0.false) }
