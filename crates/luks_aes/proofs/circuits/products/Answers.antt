use Rattle.std.specs.Prelude.{[], ◌∷◌, ◌++◌}
use Rattle.luks_aes.specs.Circuits.{products, products_gates}
use Rattle.luks_aes.specs.Planes.{bit_of, bits_of}
use Rattle.luks_aes.proofs.CircuitFacts.{outcome_is}
use Rattle.luks_aes.proofs.circuits.products.Goals as goal

pub returns : goal.returns
unfolding products products_gates
returns c = λ k b h low.
    outcome_is products_gates (17 ∷ 16 ∷ 15 ∷ 14 ∷ 13 ∷ 12 ∷ 11 ∷ 10 ∷ 9 ∷ 8 ∷ 7 ∷ 6 ∷ 5 ∷ 4 ∷ 3 ∷ 2 ∷ 1 ∷ 0 ∷ [])
    (bit_of k b c.and-z0.result ∷ bit_of k b c.and-z1.result ∷ bit_of k b c.and-z2.result ∷ bit_of k b c.and-z3.result ∷
    bit_of k b c.and-z4.result ∷ bit_of k b c.and-z5.result ∷ bit_of k b c.and-z6.result ∷ bit_of k b c.and-z7.result ∷
    bit_of k b c.and-z8.result ∷ bit_of k b c.and-z9.result ∷ bit_of k b c.and-z10.result ∷
    bit_of k b c.and-z11.result ∷ bit_of k b c.and-z12.result ∷ bit_of k b c.and-z13.result ∷
    bit_of k b c.and-z14.result ∷ bit_of k b c.and-z15.result ∷ bit_of k b c.and-z16.result ∷
    bit_of k b c.and-z17.result ∷ [])
    (bits_of 22 k b c.args.y ++ bits_of 9 k b c.args.t)
    (c.and-z0.ensures.bits k b h, (c.and-z1.ensures.bits k b h, (c.and-z2.ensures.bits k b h, (c.and-z3.ensures.bits k b h, (c.and-z4.ensures.bits k b h, (c.and-z5.ensures.bits k b h, (c.and-z6.ensures.bits k b h, (c.and-z7.ensures.bits k b h, (c.and-z8.ensures.bits k b h, (c.and-z9.ensures.bits k b h, (c.and-z10.ensures.bits k b h, (c.and-z11.ensures.bits k b h, (c.and-z12.ensures.bits k b h, (c.and-z13.ensures.bits k b h, (c.and-z14.ensures.bits k b h, (c.and-z15.ensures.bits k b h, (c.and-z16.ensures.bits k b h, (c.and-z17.ensures.bits k b h, tt))))))))))))))))))
