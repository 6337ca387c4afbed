-- When a keyslot is refused: its plan and what is allowed decide.
use Rattle.std.specs.Prelude.{ℕ, ◌-◌, ◌*◌, ◌^◌, ◌==◌, ◌&&◌, ◌||◌, nat_lt, List, length, not, Bool, true, false, Option, Some, None, is_some, codes, if◌then◌else◌}
use Rattle.std.specs.Str.{bytes_eq}
use Rattle.luks_kdf.specs.KeyslotNames.{older_hash_named}
use Rattle.luks_kdf.specs.Names.{hash_named}
use Rattle.luks_slot.specs.declared.allowed.Allowed.{Allowed}
use Rattle.luks_slot.specs.declared.plan.Derivation.{Derivation}
use Rattle.luks_slot.specs.declared.plan.Derivation.TheVariants.{Pbkdf2, Argon2 as ByArgon2}
use Rattle.luks_slot.specs.declared.plan.AreaCipher.{AreaCipher}
use Rattle.luks_slot.specs.declared.plan.AreaCipher.TheVariants.{Apart, Whole}
use Rattle.luks_slot.specs.declared.plan.SlotPlan.{SlotPlan}
use Rattle.luks_slot.specs.declared.fault.SlotFault.{SlotFault}
use Rattle.luks_slot.specs.declared.fault.SlotFault.TheVariants.{Argon2, Cipher, Hash, KeySize}
use Rattle.luks_slot.specs.Ciphers.{cipher_of, is_size_of, older_ivs}

-- the ciphers that open: aes in xts mode with the sector's number, whole or its low 32 bits (an area
-- has fewer than 2^32 sectors, so that both give the same)
abbrev pub is_open_cipher : AreaCipher → Bool
is_open_cipher (Apart name mode) =
    bytes_eq name.now (codes "aes")
    && (bytes_eq mode.now (codes "xts-plain64") || bytes_eq mode.now (codes "xts-plain"))
is_open_cipher (Whole text) =
    bytes_eq text.now (codes "aes-xts-plain64") || bytes_eq text.now (codes "aes-xts-plain")

-- those of older disks: aes in cbc mode
abbrev pub is_older_cipher : AreaCipher → Bool
is_older_cipher cipher = is_some (older_ivs cipher)

-- a cipher that is accepted, by whether older ones are
abbrev pub is_allowed_cipher : Bool → AreaCipher → Bool
is_allowed_cipher false cipher = is_open_cipher cipher
is_allowed_cipher true cipher = is_open_cipher cipher || is_older_cipher cipher

-- the length in bytes of a key of the cipher
abbrev pub is_key_size : AreaCipher → ℕ → Bool
is_key_size cipher n = is_size_of (cipher_of cipher) n

-- the name of a hash that is accepted, by whether older ones are
abbrev pub is_known_hash : Bool → List ℕ → Bool
is_known_hash false name = is_some (hash_named name)
is_known_hash true name = is_some (hash_named name) || is_some (older_hash_named name)

-- such a hash, or no hash at all
abbrev pub is_known_derivation : Bool → Derivation → Bool
is_known_derivation older (Pbkdf2 hash iterations salt) = is_known_hash older hash.now
is_known_derivation older (ByArgon2 costs) = true

abbrev pub is_argon2 : Derivation → Bool
is_argon2 (Pbkdf2 hash iterations salt) = false
is_argon2 (ByArgon2 costs) = true

-- Argon2 takes more memory than so many KiB, or less than 8 KiB for each lane, or it has not 1 to
-- 2^24 - 1 lanes (RFC 9106, 3.1), or a salt of fewer than 8 bytes
abbrev pub is_argon2_refused : ℕ → Derivation → Bool
is_argon2_refused memory (Pbkdf2 hash iterations salt) = false
is_argon2_refused memory (ByArgon2 costs) =
    nat_lt memory costs.memory
    || nat_lt costs.memory (8 * costs.cpus)
    || nat_lt costs.cpus 1
    || nat_lt (2 ^ 24 - 1) costs.cpus
    || nat_lt (length costs.salt.now) 8

abbrev pub are_known_hashes : Bool → SlotPlan → Bool
are_known_hashes older plan =
    is_known_derivation older plan.derivation
    && is_known_hash older plan.splitter_hash.now
    && is_known_hash older plan.digest.hash.now

-- the first of the refusals that stands, or none, where the test says whether `Argon2` does, and by
-- whether older ciphers and hashes are accepted
abbrev pub first_refusal : Bool → Bool → SlotPlan → Option SlotFault
first_refusal test older plan =
    if test then Some Argon2
    else if not (is_allowed_cipher older plan.cipher) then Some Cipher
    else if not (are_known_hashes older plan) then Some Hash
    else if not (is_key_size plan.cipher plan.area_key_bytes) then Some KeySize
    else None

-- the same where so much is allowed
abbrev pub slot_refusal_within : Allowed → SlotPlan → Option SlotFault
slot_refusal_within allowed plan =
    first_refusal (is_argon2_refused allowed.memory plan.derivation) allowed.older plan

-- the first of the refusals where nothing is allowed
abbrev pub slot_refusal : SlotPlan → Option SlotFault
slot_refusal plan =
    if is_argon2 plan.derivation then Some Argon2
    else if not (is_open_cipher plan.cipher) then Some Cipher
    else if not (are_known_hashes false plan) then Some Hash
    else if not (plan.area_key_bytes == 32 || plan.area_key_bytes == 64) then Some KeySize
    else None
