use Rattle.std.proofs.Common.{◌≡◌, [], ◌∷◌}
use Rattle.std.specs.Prelude.{slice_index_or}
use Rattle.std.specs.Int.Bits.{bit_xor}
use Rattle.luks_aes.specs.Planes.{bit_of}
use Rattle.luks_aes.proofs.GateFacts.{below_eight}
use Rattle.luks_aes.proofs.LinearFacts.{sum_byte}
use Rattle.luks_aes.proofs.linear.added.Goals as goal

pub returns-clause-bytes : goal.returns-clause-bytes
returns-clause-bytes c = λ k b h.
    let z = c.xor-s0.result ∷ c.xor-s1.result ∷ c.xor-s2.result ∷ c.xor-s3.result ∷ c.xor-s4.result ∷ c.xor-s5.result ∷ c.xor-s6.result ∷ c.xor-s7.result ∷ [] in
    sum_byte c.args.x c.args.y z k b
    (below_eight (λ i. bit_of k b (slice_index_or z i []) ≡ bit_xor (bit_of k b (slice_index_or c.args.x i [])) (bit_of k b (slice_index_or c.args.y i [])))
    (c.xor-s0.ensures.bits k b h) (c.xor-s1.ensures.bits k b h) (c.xor-s2.ensures.bits k b h) (c.xor-s3.ensures.bits k b h) (c.xor-s4.ensures.bits k b h) (c.xor-s5.ensures.bits k b h) (c.xor-s6.ensures.bits k b h) (c.xor-s7.ensures.bits k b h))
