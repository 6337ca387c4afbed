-- The hash functions that a header names.
use Rattle.std.proofs.Common.{◌≡◌, ◌≤◌, ◌&&◌, ℕ, List, Option, Some, None, Bool, true, T, codes, leb→le, length, nat_le, refl, subst, sym, if◌then◌else◌}
use Rattle.std.specs.Str.{bytes_eq}
use Rattle.sha1.specs.Sha1.{sha1}
use Rattle.sha2.specs.Sha256.{sha256}
use Rattle.sha2.specs.Sha512.{sha512}
use Rattle.sha2.proofs.Facts256.{length-sha256}
use Rattle.sha2.proofs.Facts512.{length-sha512}
use Rattle.std.proofs.lemmas.Bool.{and_parts}
use Rattle.luks_kdf.specs.Lengths.{length-sha1}
use Rattle.luks_kdf.specs.declared.hash_name.HashName.{HashName}
use Rattle.luks_kdf.specs.declared.hash_name.HashName.TheVariants.{Sha1, Sha256, Sha512}

-- a hash function of FIPS 180-4, section 1: the digest of each message, the lengths of a digest and
-- of the blocks in bytes; and the text that names it in a header
pub record HashFunction : Type 0 where
  pub name : List ℕ
  pub digest : List ℕ → List ℕ
  pub digest_size : ℕ
  pub block_size : ℕ

abbrev pub function_of : HashName → HashFunction
function_of Sha1 =
    record { name = codes "sha1"; digest = sha1; digest_size = 20; block_size = 64 }
function_of Sha256 =
    record { name = codes "sha256"; digest = sha256; digest_size = 32; block_size = 64 }
function_of Sha512 =
    record { name = codes "sha512"; digest = sha512; digest_size = 64; block_size = 128 }

-- the text of a header that names the hash
abbrev pub name_of : HashName → List ℕ
name_of hash = (function_of hash).name

-- the hash that a text names, if it names one
abbrev pub hash_named : List ℕ → Option HashName
hash_named text =
    if bytes_eq text (name_of Sha1) then Some Sha1
    else if bytes_eq text (name_of Sha256) then Some Sha256
    else if bytes_eq text (name_of Sha512) then Some Sha512
    else None

-- the function itself, from a message to its digest
abbrev pub hash_of : HashName → List ℕ → List ℕ
hash_of hash = (function_of hash).digest

-- how many bytes a digest has
abbrev pub digest_size_of : HashName → ℕ
digest_size_of hash = (function_of hash).digest_size

-- how many bytes the hash works on at a time
abbrev pub block_size_of : HashName → ℕ
block_size_of hash = (function_of hash).block_size

-- each digest has the length that is said
pub length-digest : (hash : HashName) (m : List ℕ) → length (hash_of hash m) ≡ digest_size_of hash
length-digest Sha1 = length-sha1
length-digest Sha256 = length-sha256
length-digest Sha512 = length-sha512

-- each is known by its name
pub named : (hash : HashName) → hash_named (name_of hash) ≡ Some hash
named Sha1 = refl
named Sha256 = refl
named Sha512 = refl

-- whether each of them passes a test
abbrev pub all_pass : (HashName → Bool) → Bool
all_pass test = test Sha1 && (test Sha256 && test Sha512)

-- a test that all of them pass, each one passes: by this no proof goes by cases of them
pub each_passes : (test : HashName → Bool) → all_pass test ≡ true → (hash : HashName) → test hash ≡ true
each_passes test all Sha1 = (and_parts (test Sha1) (test Sha256 && test Sha512) all).0
each_passes test all Sha256 =
    (and_parts (test Sha256) (test Sha512) (and_parts (test Sha1) (test Sha256 && test Sha512) all).1).0
each_passes test all Sha512 =
    (and_parts (test Sha256) (test Sha512) (and_parts (test Sha1) (test Sha256 && test Sha512) all).1).1

pub each_at_least : (bound : ℕ) (size : HashName → ℕ) → all_pass (λ h. nat_le bound (size h)) ≡ true
    → (hash : HashName) → bound ≤ size hash
each_at_least bound size all hash =
    leb→le bound (size hash) (subst T (sym (each_passes (λ h. nat_le bound (size h)) all hash)) tt)

pub each_at_most : (bound : ℕ) (size : HashName → ℕ) → all_pass (λ h. nat_le (size h) bound) ≡ true
    → (hash : HashName) → size hash ≤ bound
each_at_most bound size all hash =
    leb→le (size hash) bound (subst T (sym (each_passes (λ h. nat_le (size h) bound) all hash)) tt)
