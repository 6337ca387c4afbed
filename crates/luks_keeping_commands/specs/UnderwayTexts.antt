-- What standard error says of a backup that is made while a reencryption is under way.
use Rattle.std.specs.Prelude.{◌≡◌, ◌⊎◌, ℕ, ◌<◌, List, [], ◌++◌, codes, true, false}
use Rattle.serde_json.specs.Data.{Data}
use Rattle.luks_keeping.specs.ComparisonTexts.{line}
use Rattle.luks_underway.specs.Kinds.{has_reencrypt}

-- the line of the volume of this name
abbrev pub moment_line : List ℕ → List ℕ
moment_line volume = codes "luks: " ++ volume ++ line (codes ": a reencryption is under way: the backup is of this moment, and once that went on, restoring it destroys data")

-- it is said where a keyslot of the metadata `j` is of the type `reencrypt`, and else nothing is
abbrev pub IsMomentSaid : Data → List ℕ → List ℕ → Type 0
IsMomentSaid j volume text =
    (((n : ℕ) → n < 32 → has_reencrypt j n ≡ false) × (text ≡ []))
    ⊎ ((n : ℕ) × ((n < 32) × (has_reencrypt j n ≡ true) × (text ≡ moment_line volume)))
