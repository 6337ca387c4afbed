-- What a new volume whose key has k bytes takes of its random bytes, in their order.
use Rattle.std.specs.Prelude.{ℕ, ◌+◌, ◌*◌, List, Bool, true, false}
use Rattle.luks_area.specs.Ranges.{part}

-- first those of the uuid, the volume key, and the salt of the key's digest
abbrev pub uuid_bytes : List ℕ → List ℕ
uuid_bytes random = part random 0 16

abbrev pub volume_key : ℕ → List ℕ → List ℕ
volume_key k random = part random 16 k

abbrev pub digest_salt : ℕ → List ℕ → List ℕ
digest_salt k random = part random (16 + k) 32

-- then of LUKS2 the salts of the first and the second copy of the header
abbrev pub first_copy_salt : ℕ → List ℕ → List ℕ
first_copy_salt k random = part random (48 + k) 64

abbrev pub second_copy_salt : ℕ → List ℕ → List ℕ
second_copy_salt k random = part random (112 + k) 64

-- then, from the place `at` on, the salt of keyslot 0, and its stripes but the last, 3999 of k bytes
abbrev pub slot_salt : ℕ → List ℕ → List ℕ
slot_salt at random = part random at 32

abbrev pub random_stripes : ℕ → ℕ → List ℕ → List ℕ
random_stripes k at random = part random (at + 32) (3999 * k)

-- which place that is: in LUKS1 behind the salt of the digest, in LUKS2 behind those of the copies
abbrev pub slot_place1 : ℕ → ℕ
slot_place1 k = 48 + k

abbrev pub slot_place2 : ℕ → ℕ
slot_place2 k = 176 + k

-- how many that are, of LUKS1 and of LUKS2
abbrev pub needed_bytes : Bool → ℕ → ℕ
needed_bytes false k = 80 + 4000 * k
needed_bytes true k = 208 + 4000 * k
