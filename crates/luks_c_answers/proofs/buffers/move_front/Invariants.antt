use Rattle.std.specs.Prelude.{◌≡◌, ◌≤◌, length}
use Rattle.luks_area.specs.Ranges.{written}
use Rattle.luks_c_answers.proofs.buffers.move_front.Given as goal

-- what is left fits, and written over the front it makes what all bytes make of the buffer that was given
abbrev pub invariant-loop-left : goal.invariant-loop-left
invariant-loop-left l = record {
  fits : length l.left.items ≤ length l.buffer;
  leaves : written l.buffer 0 l.left.items ≡ written l.initial.buffer 0 l.fn.bytes.items;
}

abbrev pub decreases-loop-left : goal.decreases-loop-left
decreases-loop-left l = length l.left.items
