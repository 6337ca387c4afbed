-- The part in hand.
use Rattle.std.specs.Prelude.{ℕ, Bool}
use Rattle.serde_json.specs.Data.{Data}
use Rattle.luks_contradictions.specs.Contradictions.{has_marked}
use Rattle.luks_contradictions.specs.declared.marks.Mark.TheVariants.{Hot}

-- the segment with the number is one that data is read by with the flag `in-reencryption`
abbrev pub is_in_hand : Data → ℕ → Bool
is_in_hand j n = has_marked Hot j n
