-- What `compare` prints: whether the backup is current, and a line for each keyslot of either.
use Rattle.std.specs.Prelude.{◌≡◌, ◌⊎◌, ℕ, ◌+◌, ◌<◌, List, [], ◌∷◌, ◌++◌, Bool, true, false, ◌&&◌, codes, slice_index_or}
use Rattle.std.specs.Fmt.{decimal}
use Rattle.luks_keeping.specs.declared.comparison.Comparison.{Comparison}
use Rattle.luks_keeping.specs.declared.comparison.Keeping.{Keeping}
use Rattle.luks_keeping.specs.declared.comparison.Keeping.TheVariants.{Absent, Same, Older, Missing, Removed, Damaged}

-- ---- whether the backup is current

-- the keyslot is the same in both, or in neither
abbrev pub is_alike : Keeping → Bool
is_alike Absent = true
is_alike Same = true
is_alike Older = false
is_alike Missing = false
is_alike Removed = false
is_alike Damaged = false

abbrev pub are_alike : List Keeping → Bool
are_alike [] = true
are_alike (k ∷ ks) = is_alike k && are_alike ks

abbrev pub is_current : Comparison → Bool
is_current c = are_alike c.keyslots

-- the backup has each keyslot of the volume, with the same salt, and no other
abbrev pub IsCurrent : Comparison → Type 0
IsCurrent c = (n : ℕ) → n < 32 → (slice_index_or c.keyslots n Absent ≡ Same) ⊎ (slice_index_or c.keyslots n Absent ≡ Absent)

-- ---- the lines

abbrev pub line : List ℕ → List ℕ
line text = text ++ 10 ∷ []

abbrev pub state_text : Bool → List ℕ
state_text true = codes "current"
state_text false = codes "outdated"

-- the keyslot `n`; of one that neither has nothing is printed
abbrev pub keyslot_line : ℕ → Keeping → List ℕ
keyslot_line n Absent = []
keyslot_line n Same = codes "keyslot " ++ decimal n ++ line (codes " same")
keyslot_line n Older = codes "keyslot " ++ decimal n ++ line (codes " older")
keyslot_line n Missing = codes "keyslot " ++ decimal n ++ line (codes " missing")
keyslot_line n Removed = codes "keyslot " ++ decimal n ++ line (codes " removed")
keyslot_line n Damaged = codes "keyslot " ++ decimal n ++ line (codes " damaged")

-- those from the number `n` on
abbrev pub keyslot_lines : ℕ → List Keeping → List ℕ
keyslot_lines n [] = []
keyslot_lines n (k ∷ ks) = keyslot_line n k ++ keyslot_lines (n + 1) ks

abbrev pub comparison_text : Comparison → List ℕ
comparison_text c = line (state_text (is_current c)) ++ keyslot_lines 0 c.keyslots
