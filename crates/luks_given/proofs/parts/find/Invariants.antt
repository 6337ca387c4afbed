use Rattle.std.specs.Prelude.{◌≡◌, ◌≤◌, ℕ, ◌+◌, drop}
use Rattle.luks_given.specs.Parts.{parts_length, AreApart, HasPlace, IsPlaced}
use Rattle.luks_given.proofs.parts.find.Given as goal

-- the ranges before this one end before the place
abbrev pub invariant-loop-part : goal.invariant-loop-part
invariant-loop-part l = record {
  placed : (k : ℕ) → IsPlaced (drop l.part-index l.parts) l.before l.at l.end k → IsPlaced l.parts 0 l.at l.end k;
  apart : AreApart 0 (drop l.part-index l.parts);
  behind : (p : ℕ) → l.at ≤ p → HasPlace l.parts p → HasPlace (drop l.part-index l.parts) p;
  counted : l.before + parts_length (drop l.part-index l.parts) ≡ parts_length l.parts;
}
