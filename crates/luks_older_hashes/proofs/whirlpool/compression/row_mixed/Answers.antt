use Rattle.luks_older_hashes.proofs.WhirlpoolStateFacts.{row_is, sums_of_products}
use Rattle.luks_older_hashes.proofs.whirlpool.compression.row_mixed.Goals as goal

pub returns : goal.returns
unfolding sums_of_products
returns c =
    row_is c.args.row.now _ _ _ _ _ _ _ _ c.multiples-a.ensures c.multiples-b.ensures c.multiples-c.ensures c.multiples-d.ensures
    c.multiples-e.ensures c.multiples-f.ensures c.multiples-g.ensures c.multiples-h.ensures
