use Rattle.std.specs.Prelude.{◌≡◌, ◌+◌, ◌↔◌, drop, length}
use Rattle.luks_given.specs.Parts.{parts_length, free_behind, AreApart, AreInside}
use Rattle.luks_given.proofs.parts.are_parts.Given as goal

-- the ranges before this one are good, and so many bytes are left
abbrev pub invariant-loop-part : goal.invariant-loop-part
invariant-loop-part l = record {
  apart : AreApart 0 l.parts ↔ AreApart (free_behind l.last) (drop l.part-index l.parts);
  inside : AreInside l.total l.parts ↔ AreInside l.total (drop l.part-index l.parts);
  counted : l.left + parts_length l.parts ≡ length l.held + parts_length (drop l.part-index l.parts);
}
