use Rattle.std.proofs.Common.{◌≡◌, ◌+◌, ◌*◌, ◌%◌, [], ◌∷◌}
use Rattle.std.specs.Prelude.{slice_index, slice_index_or}
use Rattle.luks_aes.specs.Aes as aes
use Rattle.luks_aes.specs.Planes.{byte_of}
use Rattle.luks_aes.proofs.GateFacts.{below_eight}
use Rattle.luks_aes.proofs.LinearFacts.{moved_bytes, same_block}
use Rattle.luks_aes.proofs.linear.shift_rows.Goals as goal

pub returns-clause-each : goal.returns-clause-each
unfolding aes.shift_rows aes.state_by aes.byte_in
returns-clause-each c = λ b.
    let z = c.shifted-s0.result ∷ c.shifted-s1.result ∷ c.shifted-s2.result ∷ c.shifted-s3.result ∷ c.shifted-s4.result ∷ c.shifted-s5.result ∷ c.shifted-s6.result ∷ c.shifted-s7.result ∷ [] in
    same_block (λ k. byte_of k b z) (λ k. byte_of ((k + 4 * (k % 4)) % 16) b c.args.x) (λ k h. moved_bytes c.args.x z k ((k + 4 * (k % 4)) % 16)
    (below_eight (λ i. slice_index (slice_index_or z i []) k ≡ slice_index (slice_index_or c.args.x i []) ((k + 4 * (k % 4)) % 16)) (c.shifted-s0.ensures.bytes k h) (c.shifted-s1.ensures.bytes k h) (c.shifted-s2.ensures.bytes k h) (c.shifted-s3.ensures.bytes k h) (c.shifted-s4.ensures.bytes k h) (c.shifted-s5.ensures.bytes k h) (c.shifted-s6.ensures.bytes k h) (c.shifted-s7.ensures.bytes k h)) b)
