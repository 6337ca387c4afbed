use Rattle.std.proofs.Common.{[]}
use Rattle.std.specs.Prelude.{slice_index_or}
use Rattle.luks_aes.proofs.PackingFacts.{block_is, byte_is}
use Rattle.luks_aes.proofs.packing.planes_of.Goals as goal

pub returns : goal.returns
returns c = record {
  given = c.transposed.ensures.given;
  planes = c.transposed.ensures.planes;
  each = λ b low.
      let x = slice_index_or c.args.blocks b [] in
      let p = c.transposed.ensures.given b low in
      block_is c.transposed.result x p.long b (λ k h. byte_is c.transposed.result x p k b h (λ i li. c.transposed.ensures.bits k b i h low li));
}
