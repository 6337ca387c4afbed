use Rattle.std.proofs.Common.{arith}
use Rattle.std.specs.Prelude.{[], ◌∷◌, slice_index_or}
use Rattle.luks_aes.specs.Circuits.{with_constant, with_constant_gates}
use Rattle.luks_aes.specs.Planes.{IsPlane, bit_of, bits_of}
use Rattle.luks_aes.proofs.GateFacts.{below_eight}
use Rattle.luks_aes.proofs.CircuitFacts.{outcome_is}
use Rattle.luks_aes.proofs.circuits.with_constant.Goals as goal

pub returns : goal.returns
unfolding with_constant with_constant_gates
returns c = record {
  planes = λ all. below_eight (λ i. IsPlane (slice_index_or (c.not-n0.result ∷ c.not-n1.result ∷ slice_index_or c.args.x 2 [] ∷ slice_index_or c.args.x 3 [] ∷ slice_index_or c.args.x 4 [] ∷ c.not-n5.result ∷ c.not-n6.result ∷ slice_index_or c.args.x 7 [] ∷ []) i []))
      c.not-n0.ensures.plane c.not-n1.ensures.plane (all 2 (omega arith)) (all 3 (omega arith)) (all 4 (omega arith))
      c.not-n5.ensures.plane c.not-n6.ensures.plane (all 7 (omega arith));
  bits = λ k b h low.
      outcome_is with_constant_gates (3 ∷ 2 ∷ 6 ∷ 7 ∷ 8 ∷ 1 ∷ 0 ∷ 11 ∷ [])
      (bit_of k b c.not-n0.result ∷ bit_of k b c.not-n1.result ∷ bit_of k b c.not-n5.result ∷
      bit_of k b c.not-n6.result ∷ [])
      (bits_of 8 k b c.args.x)
      (c.not-n0.ensures.bits k b h low, (c.not-n1.ensures.bits k b h low, (c.not-n5.ensures.bits k b h low, (c.not-n6.ensures.bits k b h low, tt))));
}
