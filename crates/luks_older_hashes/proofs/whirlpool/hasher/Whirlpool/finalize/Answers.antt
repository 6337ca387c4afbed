use Rattle.std.proofs.Common.{◌≡◌, ◌*◌, ◌/◌, ◌%◌, ◌^◌, arith, length}
use Rattle.luks_older_hashes.proofs.WhirlpoolHoldingFacts.{Holds_padded, Holds_total}
use Rattle.luks_older_hashes.proofs.whirlpool.hasher.Whirlpool.finalize.Goals as goal

pub returns : goal.returns
returns c = λ m held.
    let total = Holds_total c.args.self m held in
    let used : c.args.self.total % 64 ≡ length m % 64 = omega (arith, total) in
    let taken = c.update-3.ensures _ (c.update-2.ensures _ (c.update.ensures m held)) in
    Holds_padded _ m _ _ _ taken (rw used at c.padding-zeros.ensures) (rw total at c.to_be_bytes.ensures) (rw total at c.to_be_bytes-2.ensures)
