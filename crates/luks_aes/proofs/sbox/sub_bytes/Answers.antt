use Rattle.std.proofs.Common.{◌∙◌, ap}
use Rattle.std.specs.Prelude.{[], slice_index_or}
use Rattle.luks_aes.specs.Circuits.{with_constant, middle, sums}
use Rattle.luks_aes.specs.Field.{number_of_bits, sbox}
use Rattle.luks_aes.specs.Planes.{bit_of}
use Rattle.luks_aes.proofs.CircuitFacts.{byte_of_bits, computed_is}
use Rattle.luks_aes.proofs.LinearFacts.{bit-lt}
use Rattle.luks_aes.proofs.SboxCircuit.{sbox_circuit, sbox_circuit_test}
use Rattle.luks_aes.proofs.sbox.sub_bytes.Goals as goal

pub returns : goal.returns
unfolding number_of_bits
returns c = record {
  planes = c.with_constant.ensures.planes c.sums-s.ensures.planes;
  bytes = λ k b h low.
      ap byte_of_bits
      (c.with_constant.ensures.bits k b h low
      ∙ ap with_constant (c.sums-s.ensures.bits k b h low
      ∙ ap sums (c.middle-z.ensures k b h low
      ∙ ap middle (c.factors-y.ensures k b h low))))
      ∙ computed_is sbox_circuit sbox sbox_circuit_test
      (λ i. bit_of k b (slice_index_or c.args.x i [])) (λ i. bit-lt k b (slice_index_or c.args.x i []));
}
