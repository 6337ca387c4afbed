-- What standard error says before a backup is restored of the keyslots that it changes: the lines of `compare`.
use Rattle.std.specs.Prelude.{ℕ, ◌+◌, List, [], ◌∷◌, ◌++◌, codes}
use Rattle.luks_keeping.specs.ComparisonTexts.{keyslot_line}
use Rattle.luks_keeping.specs.declared.comparison.Keeping.{Keeping}
use Rattle.luks_keeping.specs.declared.comparison.Keeping.TheVariants.{Absent, Same, Older, Missing, Removed, Damaged}

-- the line of `compare` of the keyslot `n`, behind the name of the volume
abbrev pub named_line : List ℕ → ℕ → Keeping → List ℕ
named_line volume n keeping = codes "luks: " ++ volume ++ codes ": " ++ keyslot_line n keeping

-- the same of a keyslot that comes, goes or is another one; of one that stays nothing is said
abbrev pub difference_line : List ℕ → ℕ → Keeping → List ℕ
difference_line volume n Absent = []
difference_line volume n Same = []
difference_line volume n Older = named_line volume n Older
difference_line volume n Missing = named_line volume n Missing
difference_line volume n Removed = named_line volume n Removed
difference_line volume n Damaged = named_line volume n Damaged

-- of those from the number `n` on
abbrev pub difference_lines : List ℕ → ℕ → List Keeping → List ℕ
difference_lines volume n [] = []
difference_lines volume n (k ∷ ks) = difference_line volume n k ++ difference_lines volume (n + 1) ks
