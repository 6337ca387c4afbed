-- How what is allowed decides whether a plan is refused: where nothing is, it is refused as before, and
-- where more is, it isn't refused where it wasn't.
use Rattle.std.proofs.Common.{◌≡◌, ◌∙◌, ◌≤◌, ℕ, ◌*◌, ◌-◌, ◌^◌, List, ◌++◌, length, true, false, Some, None, inl, inr, refl, ap, arith, codes}
use Rattle.std.specs.Prelude.{◌==◌, ◌&&◌, ◌||◌, nat_lt, not, if◌then◌else◌, Bool, Option, is_some}
use Rattle.std.specs.Str.{bytes_eq}
use Rattle.std.proofs.lemmas.Bool.{and_from, and_parts, cases_Bool, or_left, false≢true}
use Rattle.std.proofs.lemmas.Bool.Decides.{nat_tests}
use Rattle.std.proofs.lemmas.Slice.Eq.{bytes_eq-Decides}
use Rattle.luks_modes.specs.declared.vectors.IvKind.{IvKind}
use Rattle.luks_kdf.specs.KeyslotNames.{older_hash_named}
use Rattle.luks_kdf.specs.Names.{hash_named}
use Rattle.luks_slot.specs.declared.allowed.Allowed.{Allowed}
use Rattle.luks_slot.specs.declared.cipher.SectorCipher.{SectorCipher}
use Rattle.luks_slot.specs.declared.cipher.SectorCipher.TheVariants.{Xts, Cbc}
use Rattle.luks_slot.specs.declared.fault.SlotFault.{SlotFault}
use Rattle.luks_slot.specs.declared.fault.SlotFault.TheVariants as fault
use Rattle.luks_slot.specs.declared.plan.AreaCipher.{AreaCipher}
use Rattle.luks_slot.specs.declared.plan.AreaCipher.TheVariants.{Apart, Whole}
use Rattle.luks_slot.specs.declared.plan.Derivation.{Derivation}
use Rattle.luks_slot.specs.declared.plan.Derivation.TheVariants.{Pbkdf2, Argon2}
use Rattle.luks_slot.specs.declared.plan.SlotPlan.{SlotPlan}
use Rattle.luks_slot.specs.Allowance.{none_allowed}
use Rattle.luks_slot.specs.Ciphers.{cipher_by, cipher_named, cipher_of, is_size_of, ivs_of_mode, ivs_of_text, older_ivs}
use Rattle.luks_slot.specs.Refusal.{are_known_hashes, first_refusal, is_allowed_cipher, is_argon2, is_argon2_refused, is_key_size, is_known_derivation, is_known_hash, is_open_cipher, slot_refusal, slot_refusal_within}

-- where no memory is allowed, Argon2 is refused whatever its costs are
refused_at_zero : (m c salt : ℕ) → (nat_lt 0 m || nat_lt m (8 * c) || nat_lt c 1 || nat_lt (2 ^ 24 - 1) c || nat_lt salt 8) ≡ true
refused_at_zero m c salt = grind (arith, nat_tests)

pub argon2_at_zero : (d : Derivation) → is_argon2_refused 0 d ≡ is_argon2 d
argon2_at_zero (Pbkdf2 h i s) = refl
argon2_at_zero (Argon2 a) = refused_at_zero a.memory a.cpus (length a.salt.now)

-- a text that is one of two, which both name XTS
names_xts : (f : List ℕ → SectorCipher) (t a b : List ℕ) → (bytes_eq t a || bytes_eq t b) ≡ true → f a ≡ Xts → f b ≡ Xts → f t ≡ Xts
names_xts f t a b same first second = elim (cases_Bool (bytes_eq t a)) [
  | inl is ↦ ap f ((bytes_eq-Decides t a).0 is) ∙ first
  | inr other ↦ ap f ((bytes_eq-Decides t b).0 (rw other at same)) ∙ second
]

-- the text of a name and a mode
joined : List ℕ → List ℕ → List ℕ
joined name mode = name ++ codes "-" ++ mode

-- a cipher that is open to everyone is XTS
pub open_is_xts : (c : AreaCipher) → is_open_cipher c ≡ true → cipher_of c ≡ Xts
unfolding joined
open_is_xts (Apart name mode) is =
    let both = and_parts (bytes_eq name.now (codes "aes")) (bytes_eq mode.now (codes "xts-plain64") || bytes_eq mode.now (codes "xts-plain")) is in
    ap (λ n. cipher_named (joined n mode.now)) ((bytes_eq-Decides name.now (codes "aes")).0 both.0)
    ∙ names_xts (λ m. cipher_named (joined (codes "aes") m)) mode.now (codes "xts-plain64") (codes "xts-plain") both.1 refl refl
open_is_xts (Whole text) is =
    names_xts cipher_named text.now (codes "aes-xts-plain64") (codes "aes-xts-plain") is refl refl

-- the IVs of a mode of aes are those of the text
mode_in_text : (mode : List ℕ) → ivs_of_text (joined (codes "aes") mode) ≡ ivs_of_mode mode
unfolding joined
mode_in_text mode = refl

-- the name is aes where there are IVs
named_aes : (test : Bool) (o : Option IvKind) (ivs : IvKind) → (if test then o else None) ≡ Some ivs → (test ≡ true) × (o ≡ Some ivs)
named_aes true o ivs is = (refl, is)
named_aes false o ivs is = absurd (cc)

-- a cipher of older disks is CBC with its IVs
pub older_is_cbc : (c : AreaCipher) (ivs : IvKind) → older_ivs c ≡ Some ivs → cipher_of c ≡ Cbc ivs
unfolding joined
older_is_cbc (Apart name mode) ivs is =
    let both = named_aes (bytes_eq name.now (codes "aes")) (ivs_of_mode mode.now) ivs is in
    ap (λ n. cipher_named (joined n mode.now)) ((bytes_eq-Decides name.now (codes "aes")).0 both.0)
    ∙ ap cipher_by (mode_in_text mode.now ∙ both.1)
older_is_cbc (Whole text) ivs is = ap cipher_by is

-- so the keys of an open cipher have the lengths of XTS
pub open_key_size : (c : AreaCipher) (n : ℕ) → is_open_cipher c ≡ true → is_key_size c n ≡ (n == 32 || n == 64)
open_key_size c n is = ap (λ k. is_size_of k n) (open_is_xts c is)

-- the refusals in their order
abbrev chain : Bool → Bool → Bool → Bool → Option SlotFault
chain test cipher hashes size =
    if test then Some fault.Argon2 else if not cipher then Some fault.Cipher else if not hashes then Some fault.Hash else if not size then Some fault.KeySize else None

-- the size counts only where the cipher is accepted
same_size : (test cipher hashes size other : Bool) → (cipher ≡ true → size ≡ other) → chain test cipher hashes size ≡ chain test cipher hashes other
same_size true cipher hashes size other is = refl
same_size false false hashes size other is = refl
same_size false true hashes size other is = ap (chain false true hashes) (is refl)

-- where nothing is allowed a plan is refused as before
pub refusal_at_none : (plan : SlotPlan) → slot_refusal_within none_allowed plan ≡ slot_refusal plan
refusal_at_none plan =
    ap (λ b. first_refusal b false plan) (argon2_at_zero plan.derivation)
    ∙ same_size (is_argon2 plan.derivation) (is_open_cipher plan.cipher) (are_known_hashes false plan)
    (is_key_size plan.cipher plan.area_key_bytes) (plan.area_key_bytes == 32 || plan.area_key_bytes == 64)
    (open_key_size plan.cipher plan.area_key_bytes)

-- none stands
record Accepted (t c h s : Bool) : Type 0 where
  test : t ≡ false
  cipher : c ≡ true
  hashes : h ≡ true
  size : s ≡ true

parts : (test cipher hashes size : Bool) → chain test cipher hashes size ≡ None → Accepted test cipher hashes size
parts true cipher hashes size is = absurd (cc)
parts false false hashes size is = absurd (cc)
parts false true false size is = absurd (cc)
parts false true true false is = absurd (cc)
parts false true true true is = record { test = refl; cipher = refl; hashes = refl; size = refl }

whole : (test cipher hashes size : Bool) → Accepted test cipher hashes size → chain test cipher hashes size ≡ None
whole test cipher hashes size a =
    ap (λ t. chain t cipher hashes size) a.test ∙ ap (λ c. chain false c hashes size) a.cipher
    ∙ ap (λ h. chain false true h size) a.hashes ∙ ap (chain false true true) a.size

still_within : (allowed more m c salt : ℕ) → allowed ≤ more
    → (nat_lt allowed m || nat_lt m (8 * c) || nat_lt c 1 || nat_lt (2 ^ 24 - 1) c || nat_lt salt 8) ≡ false
    → (nat_lt more m || nat_lt m (8 * c) || nat_lt c 1 || nat_lt (2 ^ 24 - 1) c || nat_lt salt 8) ≡ false
still_within allowed more m c salt le is = grind (arith, nat_tests)

-- Argon2 that isn't refused isn't where more memory is allowed
pub still_allowed : (allowed more : ℕ) (d : Derivation) → allowed ≤ more → is_argon2_refused allowed d ≡ false → is_argon2_refused more d ≡ false
still_allowed allowed more (Pbkdf2 h i s) le is = refl
still_allowed allowed more (Argon2 a) le is = still_within allowed more a.memory a.cpus (length a.salt.now) le is

-- a cipher or a hash that is accepted is also accepted with older ones
pub cipher_still : (older more : Bool) (c : AreaCipher) → (older ≡ true → more ≡ true) → is_allowed_cipher older c ≡ true → is_allowed_cipher more c ≡ true
cipher_still false false c more_too is = is
cipher_still false true c more_too is = or_left (is_open_cipher c) (is_some (older_ivs c)) is
cipher_still true false c more_too is = absurd (false≢true (more_too refl))
cipher_still true true c more_too is = is

pub hash_still : (older more : Bool) (name : List ℕ) → (older ≡ true → more ≡ true) → is_known_hash older name ≡ true → is_known_hash more name ≡ true
hash_still false false name more_too is = is
hash_still false true name more_too is = or_left (is_some (hash_named name)) (is_some (older_hash_named name)) is
hash_still true false name more_too is = absurd (false≢true (more_too refl))
hash_still true true name more_too is = is

derivation_still : (older more : Bool) (d : Derivation) → (older ≡ true → more ≡ true) → is_known_derivation older d ≡ true → is_known_derivation more d ≡ true
derivation_still older more (Pbkdf2 h i s) more_too is = hash_still older more h.now more_too is
derivation_still older more (Argon2 a) more_too is = refl

pub hashes_still : (older more : Bool) (plan : SlotPlan) → (older ≡ true → more ≡ true) → are_known_hashes older plan ≡ true → are_known_hashes more plan ≡ true
hashes_still older more plan more_too is =
    let first = and_parts (is_known_derivation older plan.derivation && is_known_hash older plan.splitter_hash.now)
    (is_known_hash older plan.digest.hash.now) is in
    let front = and_parts (is_known_derivation older plan.derivation) (is_known_hash older plan.splitter_hash.now) first.0 in
    and_from (is_known_derivation more plan.derivation && is_known_hash more plan.splitter_hash.now) (is_known_hash more plan.digest.hash.now)
    (and_from (is_known_derivation more plan.derivation) (is_known_hash more plan.splitter_hash.now)
    (derivation_still older more plan.derivation more_too front.0) (hash_still older more plan.splitter_hash.now more_too front.1))
    (hash_still older more plan.digest.hash.now more_too first.1)

-- where more is allowed, a plan isn't refused where it wasn't
pub still_accepted : (allowed more : Allowed) (plan : SlotPlan) → allowed.memory ≤ more.memory
    → (allowed.older ≡ true → more.older ≡ true) → slot_refusal_within allowed plan ≡ None → slot_refusal_within more plan ≡ None
still_accepted allowed more plan le more_too none =
    let a = parts (is_argon2_refused allowed.memory plan.derivation) (is_allowed_cipher allowed.older plan.cipher)
    (are_known_hashes allowed.older plan) (is_key_size plan.cipher plan.area_key_bytes) none in
    whole (is_argon2_refused more.memory plan.derivation) (is_allowed_cipher more.older plan.cipher)
    (are_known_hashes more.older plan) (is_key_size plan.cipher plan.area_key_bytes) (record {
      test = still_allowed allowed.memory more.memory plan.derivation le a.test;
      cipher = cipher_still allowed.older more.older plan.cipher more_too a.cipher;
      hashes = hashes_still allowed.older more.older plan more_too a.hashes;
      size = a.size;
    })

-- so a plan that isn't refused where nothing is allowed isn't refused where something is
pub accepted_within : (allowed : Allowed) (plan : SlotPlan) → slot_refusal plan ≡ None → slot_refusal_within allowed plan ≡ None
accepted_within allowed plan none =
    still_accepted none_allowed allowed plan (omega arith) (λ is. absurd (false≢true is)) (refusal_at_none plan ∙ none)
