use Rattle.std.specs.Prelude.{◌≡◌, ◌≤◌, ℕ, List, ◌+◌, drop, length}
use Rattle.luks_area.specs.Ranges.{part}
use Rattle.luks_given.specs.Plan.{furthest, planned_length, played}
use Rattle.luks_given.proofs.planned_writes.play.Given as goal

-- the bytes are those that the calls before this one leave: what the later ones make of these, all make of the first
abbrev pub invariant-loop-call : goal.invariant-loop-call
invariant-loop-call l = record {
  counted : planned_length (drop l.call-index l.calls) ≡ length l.left;
  ends : furthest (drop l.call-index l.calls) ≤ furthest l.calls;
  long : length l.into ≡ length l.initial.into;
  leaves : (last : List ℕ)
      → ((w : List ℕ) → furthest (drop l.call-index l.calls) ≤ length w → l.at + length l.into ≤ length w → l.into ≡ part w l.at (length l.into)
      → last ≡ part (played (drop l.call-index l.calls) l.left w) l.at (length l.into))
      → (v : List ℕ) → furthest l.calls ≤ length v → l.at + length l.initial.into ≤ length v → l.initial.into ≡ part v l.at (length l.initial.into)
      → last ≡ part (played l.calls l.bytes v) l.at (length l.initial.into);
}
