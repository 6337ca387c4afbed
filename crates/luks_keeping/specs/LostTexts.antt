-- What is printed of a backup that was rescued: a line for each keyslot that it costs, by the word of `compare`, and at
-- last that it was made so.
use Rattle.std.specs.Prelude.{ℕ, ◌+◌, List, [], ◌∷◌, ◌++◌, Bool, true, false, codes}
use Rattle.luks_keeping.specs.ComparisonTexts.{keyslot_line, line}
use Rattle.luks_keeping.specs.declared.comparison.Keeping.{Keeping}
use Rattle.luks_keeping.specs.declared.comparison.Keeping.TheVariants.{Absent, Damaged}
use Rattle.luks_keeping.specs.declared.lost.LostKeyslots.{LostKeyslots}

-- of one that is whole nothing is printed
abbrev pub lost_state : Bool → Keeping
lost_state true = Damaged
lost_state false = Absent

-- those from the number `n` on
abbrev pub lost_lines : ℕ → List Bool → List ℕ
lost_lines n [] = []
lost_lines n (b ∷ bs) = keyslot_line n (lost_state b) ++ lost_lines (n + 1) bs

abbrev pub rescued_text : LostKeyslots → List ℕ
rescued_text lost = lost_lines 0 lost.keyslots ++ line (codes "rescued")
