use Rattle.std.specs.Prelude.{[], ◌∷◌, slice_index_or}
use Rattle.luks_aes.specs.Circuits.{sums, sums_gates}
use Rattle.luks_aes.specs.Planes.{IsPlane, bit_of, bits_of}
use Rattle.luks_aes.proofs.GateFacts.{below_eight}
use Rattle.luks_aes.proofs.CircuitFacts.{outcome_is}
use Rattle.luks_aes.proofs.circuits.sums.Goals as goal

pub returns : goal.returns
unfolding sums sums_gates
returns c = record {
  planes = below_eight (λ i. IsPlane (slice_index_or (c.xor-s7.result ∷ c.xor-s6.result ∷ c.xor-s5.result ∷ c.xor-s4.result ∷ c.xor-s3.result ∷ c.xor-s2.result ∷ c.xor-s1.result ∷ c.xor-s0.result ∷ []) i []))
      c.xor-s7.ensures.plane c.xor-s6.ensures.plane c.xor-s5.ensures.plane c.xor-s4.ensures.plane c.xor-s3.ensures.plane
      c.xor-s2.ensures.plane c.xor-s1.ensures.plane c.xor-s0.ensures.plane;
  bits = λ k b h low.
      outcome_is sums_gates (6 ∷ 7 ∷ 2 ∷ 3 ∷ 4 ∷ 0 ∷ 1 ∷ 8 ∷ [])
      (bit_of k b c.xor-t46.result ∷ bit_of k b c.xor-t47.result ∷ bit_of k b c.xor-t48.result ∷
      bit_of k b c.xor-t49.result ∷ bit_of k b c.xor-t50.result ∷ bit_of k b c.xor-t51.result ∷
      bit_of k b c.xor-t52.result ∷ bit_of k b c.xor-t53.result ∷ bit_of k b c.xor-t54.result ∷
      bit_of k b c.xor-t55.result ∷ bit_of k b c.xor-t56.result ∷ bit_of k b c.xor-t57.result ∷
      bit_of k b c.xor-t58.result ∷ bit_of k b c.xor-t59.result ∷ bit_of k b c.xor-t60.result ∷
      bit_of k b c.xor-t61.result ∷ bit_of k b c.xor-t62.result ∷ bit_of k b c.xor-t63.result ∷
      bit_of k b c.xor-t64.result ∷ bit_of k b c.xor-t65.result ∷ bit_of k b c.xor-t66.result ∷
      bit_of k b c.xor-s0.result ∷ bit_of k b c.xor-s6.result ∷ bit_of k b c.xor-s7.result ∷
      bit_of k b c.xor-t67.result ∷ bit_of k b c.xor-s3.result ∷ bit_of k b c.xor-s4.result ∷
      bit_of k b c.xor-s5.result ∷ bit_of k b c.xor-s1.result ∷ bit_of k b c.xor-s2.result ∷ [])
      (bits_of 18 k b c.args.z)
      (c.xor-t46.ensures.bits k b h, (c.xor-t47.ensures.bits k b h, (c.xor-t48.ensures.bits k b h, (c.xor-t49.ensures.bits k b h, (c.xor-t50.ensures.bits k b h, (c.xor-t51.ensures.bits k b h, (c.xor-t52.ensures.bits k b h, (c.xor-t53.ensures.bits k b h, (c.xor-t54.ensures.bits k b h, (c.xor-t55.ensures.bits k b h, (c.xor-t56.ensures.bits k b h, (c.xor-t57.ensures.bits k b h, (c.xor-t58.ensures.bits k b h, (c.xor-t59.ensures.bits k b h, (c.xor-t60.ensures.bits k b h, (c.xor-t61.ensures.bits k b h, (c.xor-t62.ensures.bits k b h, (c.xor-t63.ensures.bits k b h, (c.xor-t64.ensures.bits k b h, (c.xor-t65.ensures.bits k b h, (c.xor-t66.ensures.bits k b h, (c.xor-s0.ensures.bits k b h, (c.xor-s6.ensures.bits k b h, (c.xor-s7.ensures.bits k b h, (c.xor-t67.ensures.bits k b h, (c.xor-s3.ensures.bits k b h, (c.xor-s4.ensures.bits k b h, (c.xor-s5.ensures.bits k b h, (c.xor-s1.ensures.bits k b h, (c.xor-s2.ensures.bits k b h, tt))))))))))))))))))))))))))))));
}
