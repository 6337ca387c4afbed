use Rattle.std.specs.Prelude.{[], ◌∷◌}
use Rattle.luks_aes.specs.Circuits.{norm_inverse, norm_inverse_gates}
use Rattle.luks_aes.specs.Planes.{bit_of, bits_of}
use Rattle.luks_aes.proofs.CircuitFacts.{outcome_is}
use Rattle.luks_aes.proofs.circuits.norm_inverse.Goals as goal

pub returns : goal.returns
unfolding norm_inverse norm_inverse_gates
returns c = λ k b h low.
    outcome_is norm_inverse_gates (16 ∷ 12 ∷ 8 ∷ 5 ∷ 4 ∷ 3 ∷ 2 ∷ 1 ∷ 0 ∷ [])
    (bit_of k b c.xor-t25.result ∷ bit_of k b c.and-t26.result ∷ bit_of k b c.xor-t27.result ∷
    bit_of k b c.and-t28.result ∷ bit_of k b c.xor-t29.result ∷ bit_of k b c.xor-t30.result ∷
    bit_of k b c.xor-t31.result ∷ bit_of k b c.and-t32.result ∷ bit_of k b c.xor-t33.result ∷
    bit_of k b c.xor-t34.result ∷ bit_of k b c.xor-t35.result ∷ bit_of k b c.and-t36.result ∷
    bit_of k b c.xor-t37.result ∷ bit_of k b c.xor-t38.result ∷ bit_of k b c.and-t39.result ∷
    bit_of k b c.xor-t40.result ∷ bit_of k b c.xor-t41.result ∷ bit_of k b c.xor-t42.result ∷
    bit_of k b c.xor-t43.result ∷ bit_of k b c.xor-t44.result ∷ bit_of k b c.xor-t45.result ∷ [])
    (bits_of 4 k b c.args.t)
    (c.xor-t25.ensures.bits k b h, (c.and-t26.ensures.bits k b h, (c.xor-t27.ensures.bits k b h, (c.and-t28.ensures.bits k b h, (c.xor-t29.ensures.bits k b h, (c.xor-t30.ensures.bits k b h, (c.xor-t31.ensures.bits k b h, (c.and-t32.ensures.bits k b h, (c.xor-t33.ensures.bits k b h, (c.xor-t34.ensures.bits k b h, (c.xor-t35.ensures.bits k b h, (c.and-t36.ensures.bits k b h, (c.xor-t37.ensures.bits k b h, (c.xor-t38.ensures.bits k b h, (c.and-t39.ensures.bits k b h, (c.xor-t40.ensures.bits k b h, (c.xor-t41.ensures.bits k b h, (c.xor-t42.ensures.bits k b h, (c.xor-t43.ensures.bits k b h, (c.xor-t44.ensures.bits k b h, (c.xor-t45.ensures.bits k b h, tt)))))))))))))))))))))
