use Rattle.std.proofs.Common.{◌≡◌, ◌+◌, ◌*◌, ◌%◌, [], ◌∷◌}
use Rattle.std.specs.Prelude.{slice_index, slice_index_or}
use Rattle.luks_aes.specs.Aes as aes
use Rattle.luks_aes.specs.Planes.{byte_of}
use Rattle.luks_aes.proofs.GateFacts.{below_eight}
use Rattle.luks_aes.proofs.LinearFacts.{moved_bytes, same_block}
use Rattle.luks_aes.proofs.linear.inverse_shift_rows.Goals as goal

pub returns-clause-each : goal.returns-clause-each
unfolding aes.inverse_shift_rows aes.state_by aes.byte_in
returns-clause-each c = λ b.
    let z = c.shifted_back-s0.result ∷ c.shifted_back-s1.result ∷ c.shifted_back-s2.result ∷ c.shifted_back-s3.result ∷ c.shifted_back-s4.result ∷ c.shifted_back-s5.result ∷ c.shifted_back-s6.result ∷ c.shifted_back-s7.result ∷ [] in
    same_block (λ k. byte_of k b z) (λ k. byte_of ((k + 12 * (k % 4)) % 16) b c.args.x) (λ k h. moved_bytes c.args.x z k ((k + 12 * (k % 4)) % 16)
    (below_eight (λ i. slice_index (slice_index_or z i []) k ≡ slice_index (slice_index_or c.args.x i []) ((k + 12 * (k % 4)) % 16)) (c.shifted_back-s0.ensures.bytes k h) (c.shifted_back-s1.ensures.bytes k h) (c.shifted_back-s2.ensures.bytes k h) (c.shifted_back-s3.ensures.bytes k h) (c.shifted_back-s4.ensures.bytes k h) (c.shifted_back-s5.ensures.bytes k h) (c.shifted_back-s6.ensures.bytes k h) (c.shifted_back-s7.ensures.bytes k h)) b)
