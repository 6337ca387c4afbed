use Rattle.std.proofs.Common.{◌∙◌, IsTrue, List, ℕ, arith}
use Rattle.luks_area.specs.Device.{unchanged-then}
use Rattle.luks_guarded_files.proofs.Compared.{compared_on}
use Rattle.luks_guarded_files.proofs.beginning.begins_with.Goals as goal

pub loop-done-preserved : goal.loop-done-preserved
loop-done-preserved g c = record {
  below = omega arith;
  unchanged = unchanged-then c.loop-done.invariant.unchanged c.in_ok-holds_piece.ensures.unchanged;
  count = c.in_ok-holds_piece.ensures.count ∙ c.loop-done.invariant.count;
  same = λ tells.
      let v : List ℕ = g.D.Device.bytes c.args.device.now in
      let now : List ℕ = g.D.Device.bytes c.loop-done.device in
      let yes : IsTrue c.in_ok-holds_piece.field-0 = search in
      compared_on v now c.args.bytes.now c.loop-done.done c.min-len.result (c.loop-done.invariant.unchanged.same tells) (omega arith)
      (c.loop-done.invariant.same tells) ((c.in_ok-holds_piece.ensures.same tells).0 yes);
}
