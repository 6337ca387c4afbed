use Rattle.std.proofs.Common.{◌≡◌, [], ◌∷◌, slice_index}
use Rattle.std.specs.Prelude.{slice_index_or}
use Rattle.std.specs.Int.{w128, from_le_bytes}
use Rattle.luks_aes.proofs.GateFacts.{below_eight}
use Rattle.luks_modes.proofs.eights.polynomials.Goals as goal

pub returns : goal.returns
returns c =
    below_eight (λ b. slice_index (c.polynomial-p0.result ∷ c.polynomial-p1.result ∷ c.polynomial-p2.result ∷ c.polynomial-p3.result ∷ c.polynomial-p4.result ∷ c.polynomial-p5.result ∷ c.polynomial-p6.result ∷ c.polynomial-p7.result ∷ []) b ≡ from_le_bytes w128 (slice_index_or c.args.blocks b []))
    c.polynomial-p0.ensures c.polynomial-p1.ensures c.polynomial-p2.ensures c.polynomial-p3.ensures c.polynomial-p4.ensures c.polynomial-p5.ensures c.polynomial-p6.ensures c.polynomial-p7.ensures
