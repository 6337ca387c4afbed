use Rattle.std.proofs.Common.{◌≡◌, [], ◌∷◌}
use Rattle.std.specs.Prelude.{slice_index, slice_index_or}
use Rattle.luks_aes.specs.Planes.{rotated_place}
use Rattle.luks_aes.proofs.GateFacts.{below_eight}
use Rattle.luks_aes.proofs.LinearFacts.{moved_bytes}
use Rattle.luks_aes.proofs.linear.rotate_all_rows_twice.Goals as goal

pub returns-clause-bytes : goal.returns-clause-bytes
returns-clause-bytes c = λ k b h.
    let z = c.rotate_rows_twice-s0.result ∷ c.rotate_rows_twice-s1.result ∷ c.rotate_rows_twice-s2.result ∷ c.rotate_rows_twice-s3.result ∷ c.rotate_rows_twice-s4.result ∷ c.rotate_rows_twice-s5.result ∷ c.rotate_rows_twice-s6.result ∷ c.rotate_rows_twice-s7.result ∷ [] in
    moved_bytes c.args.x z k (rotated_place 2 k)
    (below_eight (λ i. slice_index (slice_index_or z i []) k ≡ slice_index (slice_index_or c.args.x i []) (rotated_place 2 k)) (c.rotate_rows_twice-s0.ensures.bytes k h) (c.rotate_rows_twice-s1.ensures.bytes k h) (c.rotate_rows_twice-s2.ensures.bytes k h) (c.rotate_rows_twice-s3.ensures.bytes k h) (c.rotate_rows_twice-s4.ensures.bytes k h) (c.rotate_rows_twice-s5.ensures.bytes k h) (c.rotate_rows_twice-s6.ensures.bytes k h) (c.rotate_rows_twice-s7.ensures.bytes k h)) b
