use Rattle.std.proofs.Common.{arith, ap, ◌∙◌}
use Rattle.luks_argon2.specs.BlockCompression.{columns_mixed, diagonals_mixed}
use Rattle.luks_argon2.proofs.BlockFacts.{columns_done, columns_next}
use Rattle.luks_argon2.proofs.block_compression.permute_columns.Goals as goal

pub all-preserved : goal.all-preserved
all-preserved c =
    let next =
    columns_next c.args.b.now c.all.b c.put_column.new.b c.diagonals_mixed.result c.all.j (omega arith) (c.diagonals_mixed.ensures ∙ ap diagonals_mixed (c.columns_mixed.ensures ∙ ap columns_mixed c.column-v.ensures))
    c.all.invariant.1 c.all.invariant.2 c.put_column.ensures.done c.put_column.ensures.kept in
    (omega arith, next.0, next.1)

pub returns : goal.returns
returns c = columns_done c.all.b c.args.b.now c.all.invariant.0 (λ h n lt small. c.all.invariant.1 h n (omega arith) small)
