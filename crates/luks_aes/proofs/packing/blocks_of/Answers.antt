use Rattle.std.proofs.Common.{[], sym}
use Rattle.std.specs.Prelude.{slice_index_or}
use Rattle.luks_aes.proofs.PackingFacts.{block_is, byte_is}
use Rattle.luks_aes.proofs.packing.blocks_of.Goals as goal

pub returns : goal.returns
returns c = record {
  planes = c.transposed.ensures.planes;
  each = λ b low.
      let x = slice_index_or c.transposed.result b [] in
      let p = c.transposed.ensures.planes b low in
      sym (block_is c.args.planes x p.long b (λ k h. byte_is c.args.planes x p k b h (λ i li. sym (c.transposed.ensures.bits k i b h li low))));
}
