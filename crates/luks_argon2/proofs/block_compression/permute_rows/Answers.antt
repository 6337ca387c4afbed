use Rattle.std.proofs.Common.{arith, ap, ◌∙◌}
use Rattle.luks_argon2.specs.BlockCompression.{columns_mixed, diagonals_mixed}
use Rattle.luks_argon2.proofs.BlockFacts.{rows_done, rows_next}
use Rattle.luks_argon2.proofs.block_compression.permute_rows.Goals as goal

pub all-preserved : goal.all-preserved
all-preserved c = (
  omega arith,
  rows_next c.args.sum.now c.all.turned c.put_row.new.b c.diagonals_mixed.result c.all.i (c.diagonals_mixed.ensures ∙ ap diagonals_mixed (c.columns_mixed.ensures ∙ ap columns_mixed c.row-v.ensures))
      c.all.invariant.1 c.put_row.ensures.done c.put_row.ensures.kept,
)

pub returns : goal.returns
returns c = rows_done c.all.turned c.args.sum.now c.all.invariant.0 (λ h n lt small. c.all.invariant.1 h n (omega arith) small)
