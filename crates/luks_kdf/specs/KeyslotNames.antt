-- The hash functions of older headers, and all that a keyslot may name.
use Rattle.std.proofs.Common.{◌≡◌, ◌≤◌, ◌&&◌, ap, ℕ, List, Option, Some, None, Bool, true, false, T, codes, leb→le, length, nat_le, refl, subst, sym, if◌then◌else◌}
use Rattle.std.specs.Option.{option_or}
use Rattle.std.specs.Prelude.{option_map}
use Rattle.std.specs.Str.{bytes_eq}
use Rattle.std.proofs.lemmas.Bool.{and_parts}
use Rattle.sha2.specs.Sha256.{sha224}
use Rattle.sha2.specs.Sha512.{sha384}
use Rattle.sha2.proofs.Facts256.{length-sha224}
use Rattle.sha2.proofs.Facts512.{length-sha384}
use Rattle.luks_older_hashes.specs.Ripemd160.{ripemd160}
use Rattle.luks_older_hashes.proofs.Ripemd160DigestFacts.{length-ripemd160}
use Rattle.luks_older_hashes.specs.Whirlpool.{whirlpool}
use Rattle.luks_older_hashes.proofs.WhirlpoolDigestFacts.{length-whirlpool}
use Rattle.luks_argon2.specs.Blake2b.{blake2b}
use Rattle.luks_argon2.proofs.Blake2bFacts.{length-blake2b}
use Rattle.luks_kdf.specs.Names.{HashFunction, function_of, hash_named, length-digest}
use Rattle.luks_kdf.specs.Names as Standards
use Rattle.luks_kdf.specs.declared.hash_name.HashName.{HashName}
use Rattle.luks_kdf.specs.declared.older_hash.OlderHash.{OlderHash}
use Rattle.luks_kdf.specs.declared.older_hash.OlderHash.TheVariants.{Sha224, Sha384, Ripemd160, Whirlpool, Blake2b512}
use Rattle.luks_kdf.specs.declared.keyslot_hash.KeyslotHash.{KeyslotHash}
use Rattle.luks_kdf.specs.declared.keyslot_hash.KeyslotHash.TheVariants.{Standard, Older}

-- ---- the older ones

-- SHA-224 and SHA-384 of FIPS 180-4, RIPEMD-160 and Whirlpool of ISO/IEC 10118-3, BLAKE2b of RFC 7693
abbrev pub older_function_of : OlderHash → HashFunction
older_function_of Sha224 =
    record { name = codes "sha224"; digest = sha224; digest_size = 28; block_size = 64 }
older_function_of Sha384 =
    record { name = codes "sha384"; digest = sha384; digest_size = 48; block_size = 128 }
older_function_of Ripemd160 =
    record { name = codes "ripemd160"; digest = ripemd160; digest_size = 20; block_size = 64 }
older_function_of Whirlpool =
    record { name = codes "whirlpool"; digest = whirlpool; digest_size = 64; block_size = 64 }
older_function_of Blake2b512 =
    record { name = codes "blake2b-512"; digest = blake2b 64; digest_size = 64; block_size = 128 }

-- the text of a header that names the hash
abbrev pub older_name_of : OlderHash → List ℕ
older_name_of hash = (older_function_of hash).name

-- the older hash that a text names, if it names one
abbrev pub older_hash_named : List ℕ → Option OlderHash
older_hash_named text =
    if bytes_eq text (older_name_of Sha224) then Some Sha224
    else if bytes_eq text (older_name_of Sha384) then Some Sha384
    else if bytes_eq text (older_name_of Ripemd160) then Some Ripemd160
    else if bytes_eq text (older_name_of Whirlpool) then Some Whirlpool
    else if bytes_eq text (older_name_of Blake2b512) then Some Blake2b512
    else None

-- each digest has the length that is said
pub length-older_digest : (hash : OlderHash) (m : List ℕ)
    → length ((older_function_of hash).digest m) ≡ (older_function_of hash).digest_size
length-older_digest Sha224 = length-sha224
length-older_digest Sha384 = length-sha384
length-older_digest Ripemd160 = length-ripemd160
length-older_digest Whirlpool = length-whirlpool
length-older_digest Blake2b512 = length-blake2b 64 (leb→le 64 64 tt)

-- each is known by its name
pub older_named : (hash : OlderHash) → older_hash_named (older_name_of hash) ≡ Some hash
older_named Sha224 = refl
older_named Sha384 = refl
older_named Ripemd160 = refl
older_named Whirlpool = refl
older_named Blake2b512 = refl

-- ---- all that a keyslot may name

abbrev pub keyslot_function_of : KeyslotHash → HashFunction
keyslot_function_of (Standard hash) = function_of hash
keyslot_function_of (Older hash) = older_function_of hash

-- the function itself, from a message to its digest
abbrev pub keyslot_digest : KeyslotHash → List ℕ → List ℕ
keyslot_digest hash = (keyslot_function_of hash).digest

-- how many bytes a digest has
abbrev pub keyslot_digest_size : KeyslotHash → ℕ
keyslot_digest_size hash = (keyslot_function_of hash).digest_size

-- how many bytes the hash works on at a time
abbrev pub keyslot_block_size : KeyslotHash → ℕ
keyslot_block_size hash = (keyslot_function_of hash).block_size

-- the hash that a text names, if it names one that is accepted: an older one only where those are
abbrev pub keyslot_hash_named : Bool → List ℕ → Option KeyslotHash
keyslot_hash_named false text = option_map Standard (hash_named text)
keyslot_hash_named true text =
    option_or (option_map Standard (hash_named text)) (option_map Older (older_hash_named text))

-- each digest has the length that is said
pub length-keyslot_digest : (hash : KeyslotHash) (m : List ℕ) → length (keyslot_digest hash m) ≡ keyslot_digest_size hash
length-keyslot_digest (Standard hash) = length-digest hash
length-keyslot_digest (Older hash) = length-older_digest hash

-- what a new header may name is known to both, as itself
pub standard_named : (older : Bool) (text : List ℕ) (hash : HashName) → hash_named text ≡ Some hash
    → keyslot_hash_named older text ≡ Some (Standard hash)
standard_named false text hash is = ap (option_map Standard) is
standard_named true text hash is =
    ap (λ o. option_or (option_map Standard o) (option_map Older (older_hash_named text))) is

-- what is known where older ones are refused is known where they are accepted
kept_by : (o : Option KeyslotHash) (p : Option KeyslotHash) (hash : KeyslotHash) → o ≡ Some hash → option_or o p ≡ Some hash
kept_by (Some h) p hash is = is
kept_by None p hash is = absurd (cc)

pub named_with_older : (text : List ℕ) (hash : KeyslotHash) → keyslot_hash_named false text ≡ Some hash
    → keyslot_hash_named true text ≡ Some hash
named_with_older text hash is =
    kept_by (option_map Standard (hash_named text)) (option_map Older (older_hash_named text)) hash is

-- an older one is known by its name, where older ones are accepted
pub older_one_named : (hash : OlderHash) → keyslot_hash_named true (older_name_of hash) ≡ Some (Older hash)
older_one_named Sha224 = refl
older_one_named Sha384 = refl
older_one_named Ripemd160 = refl
older_one_named Whirlpool = refl
older_one_named Blake2b512 = refl

-- and by no other is it known where they are refused
pub older_one_refused : (hash : OlderHash) → keyslot_hash_named false (older_name_of hash) ≡ None
older_one_refused Sha224 = refl
older_one_refused Sha384 = refl
older_one_refused Ripemd160 = refl
older_one_refused Whirlpool = refl
older_one_refused Blake2b512 = refl

-- ---- what holds of each of them

-- whether each older one passes a test
abbrev pub older_all_pass : (OlderHash → Bool) → Bool
older_all_pass test = test Sha224 && (test Sha384 && (test Ripemd160 && (test Whirlpool && test Blake2b512)))

-- a test by its five answers
of_each : (test : OlderHash → Bool) → test Sha224 ≡ true → test Sha384 ≡ true → test Ripemd160 ≡ true
    → test Whirlpool ≡ true → test Blake2b512 ≡ true → (hash : OlderHash) → test hash ≡ true
of_each test a b c d e Sha224 = a
of_each test a b c d e Sha384 = b
of_each test a b c d e Ripemd160 = c
of_each test a b c d e Whirlpool = d
of_each test a b c d e Blake2b512 = e

-- a test that all of them pass, each one passes
pub each_older_passes : (test : OlderHash → Bool) → older_all_pass test ≡ true → (hash : OlderHash) → test hash ≡ true
each_older_passes test all hash =
    let from_384 = and_parts (test Sha224) (test Sha384 && (test Ripemd160 && (test Whirlpool && test Blake2b512))) all in
    let from_160 = and_parts (test Sha384) (test Ripemd160 && (test Whirlpool && test Blake2b512)) from_384.1 in
    let last_two = and_parts (test Ripemd160) (test Whirlpool && test Blake2b512) from_160.1 in
    let two = and_parts (test Whirlpool) (test Blake2b512) last_two.1 in
    of_each test from_384.0 from_160.0 last_two.0 two.0 two.1 hash

-- whether each that a keyslot may name passes a test
abbrev pub keyslot_all_pass : (KeyslotHash → Bool) → Bool
keyslot_all_pass test = Standards.all_pass (λ h. test (Standard h)) && older_all_pass (λ h. test (Older h))

pub each_keyslot_passes : (test : KeyslotHash → Bool) → keyslot_all_pass test ≡ true → (hash : KeyslotHash) → test hash ≡ true
each_keyslot_passes test all (Standard hash) =
    Standards.each_passes (λ h. test (Standard h))
    (and_parts (Standards.all_pass (λ h. test (Standard h))) (older_all_pass (λ h. test (Older h))) all).0 hash
each_keyslot_passes test all (Older hash) =
    each_older_passes (λ h. test (Older h))
    (and_parts (Standards.all_pass (λ h. test (Standard h))) (older_all_pass (λ h. test (Older h))) all).1 hash

pub each_keyslot_at_least : (bound : ℕ) (size : KeyslotHash → ℕ) → keyslot_all_pass (λ h. nat_le bound (size h)) ≡ true
    → (hash : KeyslotHash) → bound ≤ size hash
each_keyslot_at_least bound size all hash =
    leb→le bound (size hash) (subst T (sym (each_keyslot_passes (λ h. nat_le bound (size h)) all hash)) tt)

pub each_keyslot_at_most : (bound : ℕ) (size : KeyslotHash → ℕ) → keyslot_all_pass (λ h. nat_le (size h) bound) ≡ true
    → (hash : KeyslotHash) → size hash ≤ bound
each_keyslot_at_most bound size all hash =
    leb→le (size hash) bound (subst T (sym (each_keyslot_passes (λ h. nat_le (size h) bound) all hash)) tt)
