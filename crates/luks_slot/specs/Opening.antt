-- What a keyslot opens to, said of its whole area at once (LUKS1 On-Disk Format 1.2.3, 4.3; LUKS2
-- On-Disk Format 1.1, 4.3).
use Rattle.std.specs.Prelude.{ℕ, zero, suc, ◌*◌, ◌≤◌, List, [], ◌++◌, length, take, Option, Some, None, unwrap_or, if◌then◌else◌, Bool, true}
use Rattle.std.specs.Str.{bytes_eq}
use Rattle.luks_area.specs.declared.area.Area.{Area}
use Rattle.luks_area.specs.Ranges.{part}
use Rattle.luks_area.specs.Sectors.{sector_count}
use Rattle.luks_kdf.specs.declared.hash_name.HashName.TheVariants.{Sha1}
use Rattle.luks_kdf.specs.declared.keyslot_hash.KeyslotHash.{KeyslotHash}
use Rattle.luks_kdf.specs.declared.keyslot_hash.KeyslotHash.TheVariants.{Standard}
use Rattle.luks_kdf.specs.Derivation.{pbkdf2}
use Rattle.luks_kdf.specs.KeyslotNames.{keyslot_block_size, keyslot_digest, keyslot_digest_size, keyslot_hash_named}
use Rattle.luks_kdf.specs.Splitter.{merge}
use Rattle.luks_argon2.specs.Argon2.{argon2}
use Rattle.luks_slot.specs.declared.cipher.AreaKey.{AreaKey}
use Rattle.luks_slot.specs.declared.plan.Argon2Kind.{Argon2Kind}
use Rattle.luks_slot.specs.declared.plan.Argon2Kind.TheVariants.{I, Id}
use Rattle.luks_slot.specs.declared.plan.Argon2Plan.{Argon2Plan}
use Rattle.luks_slot.specs.declared.plan.Derivation.{Derivation}
use Rattle.luks_slot.specs.declared.plan.Derivation.TheVariants.{Pbkdf2, Argon2}
use Rattle.luks_slot.specs.declared.plan.DigestPlan.{DigestPlan}
use Rattle.luks_slot.specs.declared.plan.SlotPlan.{SlotPlan}
use Rattle.luks_slot.specs.Ciphers.{cipher_of, keyed, sector_opened}

-- the bytes of a volume's area
abbrev pub area_bytes : List ℕ → Area → List ℕ
area_bytes volume area = part volume area.start area.len

-- the hash of a text that names one, an older one or not (a plan with any other text is refused)
abbrev pub hash_by_name : List ℕ → KeyslotHash
hash_by_name text = unwrap_or (keyslot_hash_named true text) (Standard Sha1)

-- PBKDF2 with the hash that a text names
abbrev pub derived : List ℕ → List ℕ → List ℕ → ℕ → ℕ → List ℕ
derived name password salt iterations n =
    pbkdf2 (keyslot_digest (hash_by_name name)) (keyslot_block_size (hash_by_name name)) password salt iterations n

-- the derivation has at least one iteration, or one pass of Argon2, whose salt has at most 128 bytes
abbrev pub HasIterations : Derivation → Type 0
HasIterations (Pbkdf2 hash iterations salt) = 1 ≤ iterations
HasIterations (Argon2 costs) = (1 ≤ costs.time) × (length costs.salt.now ≤ 128)

-- the variant, y (RFC 9106, 3.1)
abbrev pub variant_of : Argon2Kind → ℕ
variant_of I = 1
variant_of Id = 2

-- Argon2 as a keyslot takes it: a lane for each of its cpus, and neither a secret nor associated data
abbrev pub derived_by_argon2 : Argon2Plan → ℕ → List ℕ → List ℕ
derived_by_argon2 costs n password =
    argon2 (variant_of costs.kind) costs.cpus n costs.memory costs.time password costs.salt.now [] []

-- the bytes of the area's key: as many as the area's cipher wants
abbrev pub area_key_by : Derivation → ℕ → List ℕ → List ℕ
area_key_by (Pbkdf2 hash iterations salt) n passphrase = derived hash.now passphrase salt.now iterations n
area_key_by (Argon2 costs) n passphrase = derived_by_argon2 costs n passphrase

-- the key of the area, of the area's cipher
unfoldable pub area_key : SlotPlan → List ℕ → AreaKey
area_key plan passphrase =
    keyed (cipher_of plan.cipher) (area_key_by plan.derivation plan.area_key_bytes passphrase)

-- sector i of an area, decrypted; the sectors have 512 bytes and are numbered from 0 at the area's
-- start, whatever the cipher makes of the number
unfoldable pub opened_sector : AreaKey → List ℕ → ℕ → List ℕ
opened_sector key area i = sector_opened key i (part area (512 * i) 512)

-- the first n sectors of an area, decrypted and joined
unfoldable pub opened_sectors : AreaKey → List ℕ → ℕ → List ℕ
opened_sectors key area zero = []
opened_sectors key area (suc n) = opened_sectors key area n ++ opened_sector key area n

-- how many bytes all stripes have
abbrev pub stripe_bytes : SlotPlan → ℕ
stripe_bytes plan = plan.key_bytes * plan.stripes

-- n stripes of k bytes, in a row from the front of an area under the area's key
unfoldable pub stripes_from : AreaKey → List ℕ → ℕ → ℕ → List ℕ
stripes_from key area k n = take (k * n) (opened_sectors key area (sector_count (k * n)))

-- the stripes of an area under the area's key
unfoldable pub stripes_in : SlotPlan → AreaKey → List ℕ → List ℕ
stripes_in plan key area = stripes_from key area plan.key_bytes plan.stripes

-- what the stripes hold under a passphrase, the right one or not
unfoldable pub candidate : SlotPlan → List ℕ → List ℕ → List ℕ
candidate plan area passphrase =
    merge (keyslot_digest (hash_by_name plan.splitter_hash.now))
    (keyslot_digest_size (hash_by_name plan.splitter_hash.now))
    plan.key_bytes plan.stripes (stripes_in plan (area_key plan passphrase) area)

-- PBKDF2 of the key gives the stored digest, whole
unfoldable pub meets_digest : DigestPlan → List ℕ → Bool
meets_digest digest key =
    bytes_eq (derived digest.hash.now key digest.salt.now digest.iterations (length digest.stored.now))
    digest.stored.now

-- the volume key that a passphrase opens a keyslot to, where the area has these bytes, or none
unfoldable pub slot_key : SlotPlan → List ℕ → List ℕ → Option (List ℕ)
slot_key plan area passphrase =
    let key = candidate plan area passphrase in if meets_digest plan.digest key then Some key else None
