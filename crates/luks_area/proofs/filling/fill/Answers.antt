use Rattle.std.proofs.Common.{◌≡◌, ℕ, ◌+◌, ◌≤◌, List, length, replicate, sym, ap, ◌∙◌, arith}
use Rattle.std.proofs.lemmas.List.{length-replicate, replicate-append-replicate}
use Rattle.luks_area.proofs.DeviceFacts.{touches-then, touches-wider}
use Rattle.luks_area.proofs.RangeFacts.{at-inside, written-written}
use Rattle.luks_area.specs.Ranges.{written}
use Rattle.luks_area.proofs.filling.fill.Goals as goal

-- a filled front that is filled on
filled_on : (v w new : List ℕ) (at m n byte : ℕ) → (at + m) + n ≤ length v → w ≡ written v at (replicate m byte)
    → new ≡ written w (at + m) (replicate n byte) → new ≡ written v at (replicate (m + n) byte)
filled_on v w new at m n byte inside before after =
    let first : length (replicate m byte) ≡ m = length-replicate {A = ℕ} m byte in
    let second : length (replicate n byte) ≡ n = length-replicate {A = ℕ} n byte in
    after ∙ ap (λ l. written l (at + m) (replicate n byte)) before
    ∙ ap (λ k. written (written v at (replicate m byte)) (at + k) (replicate n byte)) (sym first)
    ∙ written-written v at (replicate m byte) (replicate n byte) (omega (arith, first, second, inside))
    ∙ ap (written v at) (replicate-append-replicate {A = ℕ} m n byte)

pub returns-in_err-fill_piece-clause-touches : goal.returns-in_err-fill_piece-clause-touches
returns-in_err-fill_piece-clause-touches g c = λ tells.
    touches-then (c.loop-done.invariant.touches tells)
    (touches-wider (λ p is. at-inside c.args.area.start c.args.area.len c.loop-done.done c.min-len.result p (omega arith) is) (c.fill_piece.ensures.touches tells))

pub loop-done-preserved : goal.loop-done-preserved
loop-done-preserved g c = record {
  below = omega arith;
  size = c.in_ok-fill_piece.ensures.size ∙ c.loop-done.invariant.size;
  count = c.in_ok-fill_piece.ensures.count ∙ c.loop-done.invariant.count;
  filled = λ tells.
      let v : List ℕ = g.D.Device.bytes c.args.device.now in
      let size : length v ≡ g.D.Device.size c.args.device.now = g.met.D.Device.sized c.args.device.now tells in
      let within = c.requires.within in
      filled_on v _ _ c.args.area.start c.loop-done.done c.min-len.result c.args.byte (omega (arith, size, within))
      (c.loop-done.invariant.filled tells) (c.in_ok-fill_piece.ensures.filled tells);
  touches = λ tells.
      touches-then (c.loop-done.invariant.touches tells)
      (touches-wider (λ p is. at-inside c.args.area.start c.args.area.len c.loop-done.done c.min-len.result p (omega arith) is) (c.in_ok-fill_piece.ensures.touches tells));
}
