use Rattle.std.specs.Prelude.{[], ◌∷◌}
use Rattle.luks_aes.specs.Circuits.{norm, norm_gates}
use Rattle.luks_aes.specs.Planes.{bit_of, bits_of}
use Rattle.luks_aes.proofs.CircuitFacts.{outcome_is}
use Rattle.luks_aes.proofs.circuits.norm.Goals as goal

pub returns : goal.returns
unfolding norm norm_gates
returns c = λ k b h low.
    outcome_is norm_gates (3 ∷ 2 ∷ 1 ∷ 0 ∷ [])
    (bit_of k b c.and-t2.result ∷ bit_of k b c.and-t3.result ∷ bit_of k b c.xor-t4.result ∷ bit_of k b c.and-t5.result ∷
    bit_of k b c.xor-t6.result ∷ bit_of k b c.and-t7.result ∷ bit_of k b c.and-t8.result ∷ bit_of k b c.xor-t9.result ∷
    bit_of k b c.and-t10.result ∷ bit_of k b c.xor-t11.result ∷ bit_of k b c.and-t12.result ∷
    bit_of k b c.and-t13.result ∷ bit_of k b c.xor-t14.result ∷ bit_of k b c.and-t15.result ∷
    bit_of k b c.xor-t16.result ∷ bit_of k b c.xor-t17.result ∷ bit_of k b c.xor-t18.result ∷
    bit_of k b c.xor-t19.result ∷ bit_of k b c.xor-t20.result ∷ bit_of k b c.xor-t21.result ∷
    bit_of k b c.xor-t22.result ∷ bit_of k b c.xor-t23.result ∷ bit_of k b c.xor-t24.result ∷ [])
    (bits_of 22 k b c.args.y)
    (c.and-t2.ensures.bits k b h, (c.and-t3.ensures.bits k b h, (c.xor-t4.ensures.bits k b h, (c.and-t5.ensures.bits k b h, (c.xor-t6.ensures.bits k b h, (c.and-t7.ensures.bits k b h, (c.and-t8.ensures.bits k b h, (c.xor-t9.ensures.bits k b h, (c.and-t10.ensures.bits k b h, (c.xor-t11.ensures.bits k b h, (c.and-t12.ensures.bits k b h, (c.and-t13.ensures.bits k b h, (c.xor-t14.ensures.bits k b h, (c.and-t15.ensures.bits k b h, (c.xor-t16.ensures.bits k b h, (c.xor-t17.ensures.bits k b h, (c.xor-t18.ensures.bits k b h, (c.xor-t19.ensures.bits k b h, (c.xor-t20.ensures.bits k b h, (c.xor-t21.ensures.bits k b h, (c.xor-t22.ensures.bits k b h, (c.xor-t23.ensures.bits k b h, (c.xor-t24.ensures.bits k b h, tt)))))))))))))))))))))))
