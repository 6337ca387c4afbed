use Rattle.std.proofs.Common.{◌≡◌, ℕ, ◌∙◌, ap, [], ◌∷◌, take, sym}
use Rattle.std.specs.Prelude.{slice_index_or}
use Rattle.std.proofs.Math.Seq.{take-length}
use Rattle.luks_aes.specs.Planes.{bit_of}
use Rattle.luks_aes.proofs.GateFacts.{below_eight}
use Rattle.luks_aes.proofs.PackingFacts.{block_is, byte_is}
use Rattle.luks_aes.proofs.round_keys.repeated.Goals as goal

pub returns : goal.returns
returns c = λ b low.
    let x = take 16 c.args.block.now in
    let planes = c.spread-p0.result ∷ c.spread-p1.result ∷ c.spread-p2.result ∷ c.spread-p3.result ∷ c.spread-p4.result ∷ c.spread-p5.result ∷ c.spread-p6.result ∷ c.spread-p7.result ∷ [] in
    let p = c.spread-p0.ensures.given in
    block_is planes x p.long b (λ k h. byte_is planes x p k b h
    (below_eight (λ i. bit_of k b (slice_index_or planes i []) ≡ bit_of k i x)
    (c.spread-p0.ensures.bits k b h low) (c.spread-p1.ensures.bits k b h low) (c.spread-p2.ensures.bits k b h low) (c.spread-p3.ensures.bits k b h low)
    (c.spread-p4.ensures.bits k b h low) (c.spread-p5.ensures.bits k b h low) (c.spread-p6.ensures.bits k b h low) (c.spread-p7.ensures.bits k b h low)))
    ∙ ap (λ (n : ℕ). take n c.args.block.now) (sym c.requires) ∙ take-length c.args.block.now
