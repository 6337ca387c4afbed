use Rattle.std.proofs.Common.{ℕ, ◌∙◌, ap}
use Rattle.std.specs.Int.Bits.{bit_xor}
use Rattle.luks_aes.specs.Field.{gmul}
use Rattle.luks_aes.specs.Aes as aes
use Rattle.luks_aes.specs.Planes.{byte_of}
use Rattle.luks_aes.proofs.LinearFacts.{byte-lt, same_block, opposed, opposed_is}
use Rattle.luks_aes.proofs.linear.inverse_mix_columns.Goals as goal

pub returns-clause-each : goal.returns-clause-each
returns-clause-each c = λ b.
    let f : ℕ → ℕ = λ k. byte_of k b c.args.x in
    c.mix_columns.ensures.each b
    ∙ ap aes.mix_columns (same_block (λ k. byte_of k b c.added-before.result) (opposed f) (λ k h.
    c.added-before.ensures.bytes k b h
    ∙ ap (bit_xor (f k)) (c.doubled-four_times.ensures.bytes k b h ∙ ap (gmul 2) (c.doubled-twice.ensures.bytes k b h
    ∙ ap (gmul 2) (c.added-sum.ensures.bytes k b h ∙ ap (bit_xor (f k)) (c.rotate_all_rows_twice-opposite.ensures.bytes k b h))))))
    ∙ opposed_is f (λ k. byte-lt k b c.args.x)
