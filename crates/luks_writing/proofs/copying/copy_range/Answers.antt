use Rattle.std.proofs.Common.{◌≡◌, ℕ, ◌+◌, ◌≤◌, List, length, sym, ap, ◌∙◌, arith}
use Rattle.luks_area.specs.Device.{unchanged-then}
use Rattle.luks_area.proofs.DeviceFacts.{touches-inside, touches-then}
use Rattle.luks_area.proofs.RangeFacts.{length-part_inside, part-add, written-written}
use Rattle.luks_area.specs.Ranges.{part, written}
use Rattle.luks_writing.proofs.copying.copy_range.Goals as goal

-- a copied front that is copied on: from `u` to `v`, which has become `w` and then `new`
copied_on : (u s v w new : List ℕ) (from at m n : ℕ) → from + m + n ≤ length u → (at + m) + n ≤ length v → s ≡ u
    → w ≡ written v at (part u from m) → new ≡ written w (at + m) (part s (from + m) n) → new ≡ written v at (part u from (m + n))
copied_on u s v w new from at m n there inside same before after =
    let first : length (part u from m) ≡ m = length-part_inside u from m (omega (arith, there)) in
    let second : length (part u (from + m) n) ≡ n = length-part_inside u (from + m) n (omega (arith, there)) in
    after ∙ ap (λ l. written l (at + m) (part s (from + m) n)) before
    ∙ ap (λ l. written (written v at (part u from m)) (at + m) (part l (from + m) n)) same
    ∙ ap (λ k. written (written v at (part u from m)) (at + k) (part u (from + m) n)) (sym first)
    ∙ written-written v at (part u from m) (part u (from + m) n) (omega (arith, first, second, inside))
    ∙ ap (written v at) (sym (part-add u from m n))

pub returns-in_err-copy_piece-clause-touches : goal.returns-in_err-copy_piece-clause-touches
returns-in_err-copy_piece-clause-touches g c = λ tells.
    touches-then (c.loop-done.invariant.touches tells)
    (touches-inside c.args.at c.args.len c.loop-done.done c.min-piece.result (omega arith) (c.copy_piece.ensures.touches tells))

pub loop-done-preserved : goal.loop-done-preserved
loop-done-preserved g c = record {
  below = omega arith;
  kept = unchanged-then c.loop-done.invariant.kept c.in_ok-copy_piece.ensures.copies.kept;
  size = c.in_ok-copy_piece.ensures.copies.size ∙ c.loop-done.invariant.size;
  source_count = c.in_ok-copy_piece.ensures.copies.count.0 ∙ c.loop-done.invariant.source_count;
  count = c.in_ok-copy_piece.ensures.copies.count.1 ∙ c.loop-done.invariant.count;
  copied = λ source tells.
      let u : List ℕ = g.S.Device.bytes c.args.source.now in
      let v : List ℕ = g.T.Device.bytes c.args.target.now in
      let source_size : length u ≡ g.S.Device.size c.args.source.now = g.met.S.Device.sized c.args.source.now source in
      let size : length v ≡ g.T.Device.size c.args.target.now = g.met.T.Device.sized c.args.target.now tells in
      let there = c.requires.there in
      let within = c.requires.within in
      copied_on u _ v _ _ c.args.from c.args.at c.loop-done.done c.min-piece.result (omega (arith, source_size, there)) (omega (arith, size, within))
      (c.loop-done.invariant.kept.same source) (c.loop-done.invariant.copied source tells) (c.in_ok-copy_piece.ensures.copied source tells);
  touches = λ tells.
      touches-then (c.loop-done.invariant.touches tells)
      (touches-inside c.args.at c.args.len c.loop-done.done c.min-piece.result (omega arith) (c.in_ok-copy_piece.ensures.touches tells));
}
