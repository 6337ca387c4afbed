-- The metadata with a keyslot that is sealed again.
use Rattle.std.specs.Prelude.{ℕ, List, [], Option, Some, None, codes, decimal}
use Rattle.std.specs.Option.{unwrap_or}
use Rattle.serde_json.specs.Data.{Data, number, string, unsigned}
use Rattle.luks_json.specs.Number.{number_text}
use Rattle.luks_rules.specs.declared.table.Outer.TheVariants as outer
use Rattle.luks_rules.specs.Reading.{text_of}
use Rattle.luks_rules.specs.Sizes.{inside_at}
use Rattle.luks_making.specs.declared.derivation.NewDerivation.{NewDerivation}
use Rattle.luks_making.specs.Changing.{at_member, set_member}
use Rattle.luks_making.specs.Keyslots.{NewMembers, base64_text, derivation_by, kdf_value}

-- the hash of the keyslot's splitter; of a value without one, as no accepted keyslot is, no byte
abbrev pub splitter_hash : Data → List ℕ
splitter_hash d = unwrap_or (text_of (inside_at outer.Af (codes "hash") d)) []

-- the derivation with the new salt, and the new iterations where it has some; all else as it was
abbrev pub resalted_kdf : NewMembers → Data → Data
resalted_kdf f k =
    set_member (codes "iterations") (number (unsigned f.derivation.iterations))
    (set_member (codes "salt") (string (base64_text f.salt)) k)

-- or the one that is chosen in its place, with the new salt
abbrev pub kdf_or : NewMembers → List ℕ → Option NewDerivation → Data → Data
kdf_or f hash None k = resalted_kdf f k
kdf_or f hash (Some c) k = kdf_value (derivation_by hash c) f.salt

-- the derivation of a keyslot whose splitter has the hash
abbrev pub renewed_kdf : NewMembers → List ℕ → Data → Data
renewed_kdf f hash = kdf_or f hash f.derivation.chosen

abbrev pub renewed_area : NewMembers → Data → Data
renewed_area f a =
    set_member (codes "offset") (string (decimal f.offset))
    (set_member (codes "size") (string (decimal f.size)) a)

-- the keyslot with its new derivation and area; all else as it was
abbrev pub renewed_slot : NewMembers → Data → Data
renewed_slot f d =
    at_member (codes "kdf") (renewed_kdf f (splitter_hash d))
    (at_member (codes "area") (renewed_area f) d)

-- the value with the new derivation and area in the keyslot `n`; all else as it was
abbrev pub changed_slot : ℕ → NewMembers → Data → Data
changed_slot n f = at_member (codes "keyslots") (at_member (number_text n) (renewed_slot f))
