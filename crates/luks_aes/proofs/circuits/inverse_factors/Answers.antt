use Rattle.std.specs.Prelude.{[], ◌∷◌}
use Rattle.luks_aes.specs.Circuits.{inverse_factors, inverse_factors_gates}
use Rattle.luks_aes.specs.Planes.{bit_of, bits_of}
use Rattle.luks_aes.proofs.CircuitFacts.{outcome_is}
use Rattle.luks_aes.proofs.circuits.inverse_factors.Goals as goal

pub returns : goal.returns
unfolding inverse_factors inverse_factors_gates
returns c = λ k b h low.
    outcome_is inverse_factors_gates (9 ∷ 7 ∷ 20 ∷ 5 ∷ 24 ∷ 28 ∷ 19 ∷ 18 ∷ 22 ∷ 26 ∷ 4 ∷ 16 ∷ 8 ∷ 14 ∷ 3 ∷ 0 ∷ 10 ∷ 6 ∷ 11 ∷ 1 ∷ 15 ∷ 2 ∷ [])
    (bit_of k b c.xor-y5.result ∷ bit_of k b c.xor-a0.result ∷ bit_of k b c.xor-y9.result ∷ bit_of k b c.xor-a1.result ∷
    bit_of k b c.xor-y4.result ∷ bit_of k b c.xor-a2.result ∷ bit_of k b c.xor-y8.result ∷ bit_of k b c.xor-a3.result ∷
    bit_of k b c.xor-y2.result ∷ bit_of k b c.xor-y6.result ∷ bit_of k b c.xor-y7.result ∷ bit_of k b c.xor-a4.result ∷
    bit_of k b c.xor-y11.result ∷ bit_of k b c.xor-y20.result ∷ bit_of k b c.xor-y13.result ∷
    bit_of k b c.xor-a5.result ∷ bit_of k b c.xor-a6.result ∷ bit_of k b c.xor-y18.result ∷
    bit_of k b c.xor-y16.result ∷ bit_of k b c.xor-b0.result ∷ bit_of k b c.xor-y12.result ∷
    bit_of k b c.xor-y1.result ∷ bit_of k b c.xor-y17.result ∷ bit_of k b c.xor-y3.result ∷
    bit_of k b c.xor-y10.result ∷ bit_of k b c.xor-y14.result ∷ bit_of k b c.xor-y21.result ∷
    bit_of k b c.xor-y19.result ∷ bit_of k b c.xor-y15.result ∷ [])
    (bits_of 8 k b c.args.x)
    (c.xor-y5.ensures.bits k b h, (c.xor-a0.ensures.bits k b h, (c.xor-y9.ensures.bits k b h, (c.xor-a1.ensures.bits k b h, (c.xor-y4.ensures.bits k b h, (c.xor-a2.ensures.bits k b h, (c.xor-y8.ensures.bits k b h, (c.xor-a3.ensures.bits k b h, (c.xor-y2.ensures.bits k b h, (c.xor-y6.ensures.bits k b h, (c.xor-y7.ensures.bits k b h, (c.xor-a4.ensures.bits k b h, (c.xor-y11.ensures.bits k b h, (c.xor-y20.ensures.bits k b h, (c.xor-y13.ensures.bits k b h, (c.xor-a5.ensures.bits k b h, (c.xor-a6.ensures.bits k b h, (c.xor-y18.ensures.bits k b h, (c.xor-y16.ensures.bits k b h, (c.xor-b0.ensures.bits k b h, (c.xor-y12.ensures.bits k b h, (c.xor-y1.ensures.bits k b h, (c.xor-y17.ensures.bits k b h, (c.xor-y3.ensures.bits k b h, (c.xor-y10.ensures.bits k b h, (c.xor-y14.ensures.bits k b h, (c.xor-y21.ensures.bits k b h, (c.xor-y19.ensures.bits k b h, (c.xor-y15.ensures.bits k b h, tt)))))))))))))))))))))))))))))
