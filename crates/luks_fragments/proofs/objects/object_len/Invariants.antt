use Rattle.std.proofs.Common.{◌≡◌, ℕ, ◌+◌, ◌<◌, ◌≤◌}
use Rattle.luks_area.specs.Ranges.{part}
use Rattle.luks_fragments.specs.Objects.{closed, opened}
use Rattle.luks_fragments.proofs.objects.object_len.Given as goal

-- as many braces are open, one at least behind the first byte, and at most two
abbrev pub invariant-loop-done : goal.invariant-loop-done
invariant-loop-done l = record {
  counts : l.level + closed (part l.area l.start l.done) ≡ opened (part l.area l.start l.done);
  unclosed : (k : ℕ) → 1 ≤ k → k ≤ l.done → closed (part l.area l.start k) < opened (part l.area l.start k);
  shallow : (k : ℕ) → k ≤ l.done → opened (part l.area l.start k) ≤ closed (part l.area l.start k) + 2;
}
