use Rattle.std.specs.Prelude.{[], ◌∷◌}
use Rattle.luks_aes.specs.Circuits.{factors, factors_gates}
use Rattle.luks_aes.specs.Planes.{bit_of, bits_of}
use Rattle.luks_aes.proofs.CircuitFacts.{outcome_is}
use Rattle.luks_aes.proofs.circuits.factors.Goals as goal

pub returns : goal.returns
unfolding factors factors_gates
returns c = λ k b h low.
    outcome_is factors_gates (23 ∷ 17 ∷ 14 ∷ 12 ∷ 16 ∷ 13 ∷ 8 ∷ 5 ∷ 19 ∷ 20 ∷ 7 ∷ 6 ∷ 15 ∷ 21 ∷ 22 ∷ 10 ∷ 2 ∷ 4 ∷ 0 ∷ 3 ∷ 9 ∷ 1 ∷ [])
    (bit_of k b c.xor-y14.result ∷ bit_of k b c.xor-y13.result ∷ bit_of k b c.xor-y9.result ∷
    bit_of k b c.xor-y8.result ∷ bit_of k b c.xor-t0.result ∷ bit_of k b c.xor-y1.result ∷ bit_of k b c.xor-y4.result ∷
    bit_of k b c.xor-y12.result ∷ bit_of k b c.xor-y2.result ∷ bit_of k b c.xor-y5.result ∷ bit_of k b c.xor-y3.result ∷
    bit_of k b c.xor-t1.result ∷ bit_of k b c.xor-y15.result ∷ bit_of k b c.xor-y20.result ∷
    bit_of k b c.xor-y6.result ∷ bit_of k b c.xor-y10.result ∷ bit_of k b c.xor-y11.result ∷
    bit_of k b c.xor-y7.result ∷ bit_of k b c.xor-y17.result ∷ bit_of k b c.xor-y19.result ∷
    bit_of k b c.xor-y16.result ∷ bit_of k b c.xor-y21.result ∷ bit_of k b c.xor-y18.result ∷ [])
    (bits_of 8 k b c.args.x)
    (c.xor-y14.ensures.bits k b h, (c.xor-y13.ensures.bits k b h, (c.xor-y9.ensures.bits k b h, (c.xor-y8.ensures.bits k b h, (c.xor-t0.ensures.bits k b h, (c.xor-y1.ensures.bits k b h, (c.xor-y4.ensures.bits k b h, (c.xor-y12.ensures.bits k b h, (c.xor-y2.ensures.bits k b h, (c.xor-y5.ensures.bits k b h, (c.xor-y3.ensures.bits k b h, (c.xor-t1.ensures.bits k b h, (c.xor-y15.ensures.bits k b h, (c.xor-y20.ensures.bits k b h, (c.xor-y6.ensures.bits k b h, (c.xor-y10.ensures.bits k b h, (c.xor-y11.ensures.bits k b h, (c.xor-y7.ensures.bits k b h, (c.xor-y17.ensures.bits k b h, (c.xor-y19.ensures.bits k b h, (c.xor-y16.ensures.bits k b h, (c.xor-y21.ensures.bits k b h, (c.xor-y18.ensures.bits k b h, tt)))))))))))))))))))))))
