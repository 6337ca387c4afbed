use Rattle.std.specs.Prelude.{[], ◌∷◌, slice_index_or}
use Rattle.luks_aes.specs.Circuits.{inverse_sums, inverse_sums_gates}
use Rattle.luks_aes.specs.Planes.{IsPlane, bit_of, bits_of}
use Rattle.luks_aes.proofs.GateFacts.{below_eight}
use Rattle.luks_aes.proofs.CircuitFacts.{outcome_is}
use Rattle.luks_aes.proofs.circuits.inverse_sums.Goals as goal

pub returns : goal.returns
unfolding inverse_sums inverse_sums_gates
returns c = record {
  planes = below_eight (λ i. IsPlane (slice_index_or (c.xor-s7.result ∷ c.xor-s6.result ∷ c.xor-s5.result ∷ c.xor-s4.result ∷ c.xor-s3.result ∷ c.xor-s2.result ∷ c.xor-s1.result ∷ c.xor-s0.result ∷ []) i []))
      c.xor-s7.ensures.plane c.xor-s6.ensures.plane c.xor-s5.ensures.plane c.xor-s4.ensures.plane c.xor-s3.ensures.plane
      c.xor-s2.ensures.plane c.xor-s1.ensures.plane c.xor-s0.ensures.plane;
  bits = λ k b h low.
      outcome_is inverse_sums_gates (0 ∷ 2 ∷ 3 ∷ 1 ∷ 4 ∷ 6 ∷ 5 ∷ 7 ∷ [])
      (bit_of k b c.xor-b0.result ∷ bit_of k b c.xor-b1.result ∷ bit_of k b c.xor-b2.result ∷
      bit_of k b c.xor-b3.result ∷ bit_of k b c.xor-b4.result ∷ bit_of k b c.xor-b5.result ∷
      bit_of k b c.xor-b6.result ∷ bit_of k b c.xor-b7.result ∷ bit_of k b c.xor-b8.result ∷
      bit_of k b c.xor-b9.result ∷ bit_of k b c.xor-b10.result ∷ bit_of k b c.xor-b11.result ∷
      bit_of k b c.xor-b12.result ∷ bit_of k b c.xor-b13.result ∷ bit_of k b c.xor-b14.result ∷
      bit_of k b c.xor-b15.result ∷ bit_of k b c.xor-b16.result ∷ bit_of k b c.xor-b17.result ∷
      bit_of k b c.xor-b18.result ∷ bit_of k b c.xor-b19.result ∷ bit_of k b c.xor-b20.result ∷
      bit_of k b c.xor-b21.result ∷ bit_of k b c.xor-s0.result ∷ bit_of k b c.xor-s2.result ∷
      bit_of k b c.xor-s1.result ∷ bit_of k b c.xor-s3.result ∷ bit_of k b c.xor-s5.result ∷
      bit_of k b c.xor-s6.result ∷ bit_of k b c.xor-s4.result ∷ bit_of k b c.xor-s7.result ∷ [])
      (bits_of 18 k b c.args.z)
      (c.xor-b0.ensures.bits k b h, (c.xor-b1.ensures.bits k b h, (c.xor-b2.ensures.bits k b h, (c.xor-b3.ensures.bits k b h, (c.xor-b4.ensures.bits k b h, (c.xor-b5.ensures.bits k b h, (c.xor-b6.ensures.bits k b h, (c.xor-b7.ensures.bits k b h, (c.xor-b8.ensures.bits k b h, (c.xor-b9.ensures.bits k b h, (c.xor-b10.ensures.bits k b h, (c.xor-b11.ensures.bits k b h, (c.xor-b12.ensures.bits k b h, (c.xor-b13.ensures.bits k b h, (c.xor-b14.ensures.bits k b h, (c.xor-b15.ensures.bits k b h, (c.xor-b16.ensures.bits k b h, (c.xor-b17.ensures.bits k b h, (c.xor-b18.ensures.bits k b h, (c.xor-b19.ensures.bits k b h, (c.xor-b20.ensures.bits k b h, (c.xor-b21.ensures.bits k b h, (c.xor-s0.ensures.bits k b h, (c.xor-s2.ensures.bits k b h, (c.xor-s1.ensures.bits k b h, (c.xor-s3.ensures.bits k b h, (c.xor-s5.ensures.bits k b h, (c.xor-s6.ensures.bits k b h, (c.xor-s4.ensures.bits k b h, (c.xor-s7.ensures.bits k b h, tt))))))))))))))))))))))))))))));
}
