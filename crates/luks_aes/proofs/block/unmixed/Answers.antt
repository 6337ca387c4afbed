use Rattle.std.proofs.Common.{ℕ, ◌∙◌, ap, slice_index}
use Rattle.std.specs.Int.Bits.{bit_xor}
use Rattle.luks_aes.specs.Field.{gmul}
use Rattle.luks_aes.proofs.BlockFacts.{unmixed_vector}
use Rattle.luks_aes.proofs.block.unmixed.Goals as goal

pub returns-clause-value : goal.returns-clause-value
returns-clause-value c =
    let f : ℕ → ℕ = slice_index c.args.x in
    c.mixed.ensures.value
    ∙ unmixed_vector c.args.x c.sum-before.result c.requires c.sum-before.ensures.plane (λ k h.
    c.sum-before.ensures.bytes k h
    ∙ ap (bit_xor (f k)) (c.doubled-four_times.ensures.bytes k h ∙ ap (gmul 2) (c.doubled-twice.ensures.bytes k h
    ∙ ap (gmul 2) (c.sum-sums.ensures.bytes k h ∙ ap (bit_xor (f k)) (c.rotate_rows_twice-opposite.ensures.bytes k h)))))
