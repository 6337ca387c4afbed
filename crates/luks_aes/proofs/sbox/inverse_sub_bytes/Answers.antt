use Rattle.std.proofs.Common.{◌∙◌, ap}
use Rattle.std.specs.Prelude.{[], slice_index_or}
use Rattle.luks_aes.specs.Circuits.{inverse_factors, middle, inverse_sums}
use Rattle.luks_aes.specs.Field.{number_of_bits, inverse_sbox}
use Rattle.luks_aes.specs.Planes.{bit_of}
use Rattle.luks_aes.proofs.CircuitFacts.{byte_of_bits, computed_is}
use Rattle.luks_aes.proofs.LinearFacts.{bit-lt}
use Rattle.luks_aes.proofs.SboxCircuit.{inverse_sbox_circuit, inverse_sbox_circuit_test}
use Rattle.luks_aes.proofs.sbox.inverse_sub_bytes.Goals as goal

pub returns-clause-bytes : goal.returns-clause-bytes
unfolding number_of_bits
returns-clause-bytes c = λ k b h low.
    ap byte_of_bits
    (c.inverse_sums.ensures.bits k b h low
    ∙ ap inverse_sums (c.middle-z.ensures k b h low
    ∙ ap middle (c.inverse_factors-y.ensures k b h low
    ∙ ap inverse_factors (c.with_constant-v.ensures.bits k b h low))))
    ∙ computed_is inverse_sbox_circuit inverse_sbox inverse_sbox_circuit_test
    (λ i. bit_of k b (slice_index_or c.args.x i [])) (λ i. bit-lt k b (slice_index_or c.args.x i []))
