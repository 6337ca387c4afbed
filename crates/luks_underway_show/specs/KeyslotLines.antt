-- The lines of keyslots, as the object `d` with the number `n` of the metadata `j` says them: of those that keep a key, and of the one that says what is under
-- way (LUKS2 On-Disk Format 1.1.3, 3.2).
use Rattle.std.specs.Prelude.{ℕ, List, [], ◌++◌, codes, Bool, ◌||◌, if◌then◌else◌}
use Rattle.std.specs.Fmt.{decimal}
use Rattle.std.specs.Option.{option_map_or}
use Rattle.std.specs.Str.{bytes_eq}
use Rattle.serde_json.specs.Data.{Data}
use Rattle.luks_rules.specs.declared.table.Member.TheVariants as name
use Rattle.luks_rules.specs.declared.table.Outer.TheVariants as outer
use Rattle.luks_rules.specs.Faults.{member_at, type_at}
use Rattle.luks_rules.specs.Reading.{bytes_in, decimal_in, number_in, text_of}
use Rattle.luks_rules.specs.Sizes.{inside_at}
use Rattle.luks_meta.specs.Says.{small_at}
use Rattle.luks_show.specs.Digits.{hex}
use Rattle.luks_show.specs.Luks2Lines.{digest_text}
use Rattle.luks_show.specs.Texts.{line}
use Rattle.luks_underway.specs.declared.reencryption.Direction.{Direction}
use Rattle.luks_underway.specs.declared.reencryption.Direction.TheVariants.{Forward, Backward}
use Rattle.luks_underway.specs.declared.reencryption.Mode.{Mode}
use Rattle.luks_underway.specs.declared.reencryption.Mode.TheVariants as mode
use Rattle.luks_underway.specs.Kinds.{is_reencrypt}
use Rattle.luks_underway.specs.Members.{shift_in, unit_in}
use Rattle.luks_underway.specs.Reencryptions.{direction_in, mode_in}
use Rattle.luks_underway_show.specs.Shown.{digest_shown, keyslot_digest, number_shown, text_shown, type_shown}
use Rattle.luks_underway_show.specs.declared.lines.Lines.{Lines}
use Rattle.luks_underway_show.specs.declared.lines.Lines.TheVariants.{Few, All}

-- ---- one that keeps a key

-- where the area of a keyslot lies
abbrev pub place_shown : Data → List ℕ
place_shown d = number_shown (decimal_in (member_at d outer.Area name.Offset)) ++ codes " " ++ number_shown (decimal_in (member_at d outer.Area name.Size))

abbrev pub key_line : Data → ℕ → Data → List ℕ
key_line j n d =
    codes "keyslot " ++ decimal n ++ codes " key-bytes " ++ number_shown (number_in 1 128 (member_at d outer.Top name.KeySize)) ++ codes " kdf "
    ++ type_shown (type_at d outer.Kdf) ++ codes " area " ++ place_shown d ++ codes " " ++ text_shown (text_of (member_at d outer.Area name.Encryption))
    ++ line (digest_text (keyslot_digest j n))

-- with `--all`: what the derivation costs, and its salt
abbrev pub argon2_costs : ℕ → Data → List ℕ
argon2_costs n d =
    codes "costs " ++ decimal n ++ codes " " ++ type_shown (type_at d outer.Kdf) ++ codes " time " ++ number_shown (small_at d outer.Kdf name.Time)
    ++ codes " memory " ++ number_shown (small_at d outer.Kdf name.Memory) ++ codes " cpus " ++ line (number_shown (small_at d outer.Kdf name.Cpus))

abbrev pub pbkdf2_costs : ℕ → Data → List ℕ
pbkdf2_costs n d =
    codes "costs " ++ decimal n ++ codes " pbkdf2 " ++ text_shown (text_of (member_at d outer.Kdf name.Hash)) ++ codes " iterations "
    ++ line (number_shown (small_at d outer.Kdf name.Iterations))

abbrev pub costs_of_type : ℕ → Data → List ℕ → List ℕ
costs_of_type n d kind = if bytes_eq kind (codes "pbkdf2") then pbkdf2_costs n d else argon2_costs n d

abbrev pub costs_listed : ℕ → Data → List ℕ
costs_listed n d = option_map_or (costs_of_type n d) (type_at d outer.Kdf) []

abbrev pub salt_listed : ℕ → Data → List ℕ
salt_listed n d = codes "salt " ++ decimal n ++ codes " " ++ line (option_map_or hex (bytes_in 1 128 (member_at d outer.Kdf name.Salt)) [])

abbrev pub further_key_lines : Lines → ℕ → Data → List ℕ
further_key_lines Few n d = []
further_key_lines All n d = costs_listed n d ++ salt_listed n d

-- ---- the one that says what is under way

abbrev pub mode_text : Mode → List ℕ
mode_text mode.Reencrypt = codes "reencrypt"
mode_text mode.Encrypt = codes "encrypt"
mode_text mode.Decrypt = codes "decrypt"

abbrev pub direction_text : Direction → List ℕ
direction_text Forward = codes "forward"
direction_text Backward = codes "backward"

-- which areas have checksums, and by which data moves
abbrev pub has_checksums : List ℕ → Bool
has_checksums kind = bytes_eq kind (codes "checksum") || bytes_eq kind (codes "datashift-checksum")

abbrev pub has_shift : List ℕ → Bool
has_shift kind = bytes_eq kind (codes "datashift") || (bytes_eq kind (codes "datashift-journal") || bytes_eq kind (codes "datashift-checksum"))

abbrev pub checksums_shown : Data → List ℕ
checksums_shown d =
    codes " " ++ text_shown (text_of (member_at d outer.Area name.Hash)) ++ codes " " ++ number_shown (unit_in (member_at d outer.Area name.SectorSize))

abbrev pub shift_shown : Data → List ℕ
shift_shown d = codes " " ++ number_shown (shift_in (inside_at outer.Area (codes "shift_size") d))

-- the area's type, then the hash and the unit of checksums, then by how many bytes the data moves
abbrev pub resilience_of_type : Data → List ℕ → List ℕ
resilience_of_type d kind = kind ++ (if has_checksums kind then checksums_shown d else []) ++ (if has_shift kind then shift_shown d else [])

abbrev pub resilience_shown : Data → List ℕ
resilience_shown d = option_map_or (resilience_of_type d) (type_at d outer.Area) []

abbrev pub reencryption_line : Data → ℕ → Data → List ℕ
reencryption_line j n d =
    codes "keyslot " ++ decimal n ++ codes " reencrypt " ++ option_map_or mode_text (mode_in d) [] ++ codes " " ++ option_map_or direction_text (direction_in d) []
    ++ codes " area " ++ place_shown d ++ codes " " ++ resilience_shown d ++ codes " digest " ++ line (digest_shown (keyslot_digest j n))

-- ---- each keyslot

abbrev pub keyslot_lines : Lines → Data → ℕ → Data → List ℕ
keyslot_lines lines j n d = if is_reencrypt d then reencryption_line j n d else key_line j n d ++ further_key_lines lines n d
