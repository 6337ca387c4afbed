use Rattle.std.proofs.Common.{◌∙◌, ap, [], ◌∷◌}
use Rattle.std.specs.Prelude.{slice_index_or}
use Rattle.luks_aes.specs.Field.{gmul, number_of_bits}
use Rattle.luks_aes.specs.Gates.{outcome}
use Rattle.luks_aes.specs.Planes.{bit_of, bits_of}
use Rattle.luks_aes.proofs.CircuitFacts.{byte_of_bits, outcome_is, computed_is}
use Rattle.luks_aes.proofs.LinearFacts.{bit-lt, doubled_gates, doubled_ends, doubled_test}
use Rattle.luks_aes.proofs.linear.doubled.Goals as goal

pub returns-clause-bytes : goal.returns-clause-bytes
unfolding number_of_bits
returns-clause-bytes c = λ k b h.
    ap byte_of_bits
    (outcome_is doubled_gates doubled_ends
    (bit_of k b c.xor-s1.result ∷ bit_of k b c.xor-s3.result ∷ bit_of k b c.xor-s4.result ∷ [])
    (bits_of 8 k b c.args.x)
    (c.xor-s1.ensures.bits k b h, (c.xor-s3.ensures.bits k b h, (c.xor-s4.ensures.bits k b h, tt))))
    ∙ computed_is (outcome doubled_gates doubled_ends) (gmul 2) doubled_test
    (λ i. bit_of k b (slice_index_or c.args.x i [])) (λ i. bit-lt k b (slice_index_or c.args.x i []))
