-- How what is allowed decides whether a plan is refused: with nothing it is refused as it is without
-- Argon2 and without older ciphers and hashes, and with more it isn't refused where it wasn't.
use Rattle.std.proofs.Common.{◌≡◌, ◌∙◌, ◌≤◌, ℕ, List, ◌*◌, ◌-◌, ◌^◌, length, true, false, Option, Some, None, refl, ap, arith}
use Rattle.std.specs.Prelude.{◌||◌, ◌&&◌, nat_lt, not, Bool, is_some, if◌then◌else◌}
use Rattle.std.proofs.lemmas.Bool.Decides.{nat_tests}
use Rattle.luks_kdf.specs.KeyslotNames.{older_hash_named}
use Rattle.luks_slot.specs.declared.allowed.Allowed.{Allowed}
use Rattle.luks_slot.specs.declared.fault.SlotFault.TheVariants as fault
use Rattle.luks_slot.specs.declared.plan.AreaCipher.{AreaCipher}
use Rattle.luks_slot.specs.declared.plan.Derivation.{Derivation}
use Rattle.luks_slot.specs.declared.plan.Derivation.TheVariants.{Pbkdf2, Argon2}
use Rattle.luks_slot.specs.declared.plan.SlotPlan.{SlotPlan}
use Rattle.luks_slot.specs.Allowance.{none_allowed}
use Rattle.luks_slot.proofs.DerivationFacts as Slots
use Rattle.luks_slot.specs.Refusal.{are_known_hashes, is_allowed_cipher, is_argon2, is_argon2_refused, is_key_size, is_known_derivation, is_known_hash, is_older_cipher, slot_refusal, slot_refusal_within}

pub refusal_at_zero : (plan : SlotPlan) → slot_refusal_within none_allowed plan ≡ slot_refusal plan
refusal_at_zero = Slots.refusal_at_zero

refused_at_zero : (m c salt : ℕ) → (nat_lt 0 m || nat_lt m (8 * c) || nat_lt c 1 || nat_lt (2 ^ 24 - 1) c || nat_lt salt 8) ≡ true
refused_at_zero m c salt = grind (arith, nat_tests)

-- without memory no derivation is by Argon2 that isn't refused
pub argon2_at_zero : (d : Derivation) → is_argon2 d ≡ true → is_argon2_refused 0 d ≡ true
argon2_at_zero (Pbkdf2 h i s) is = absurd (cc)
argon2_at_zero (Argon2 a) is = refused_at_zero a.memory a.cpus (length a.salt.now)

-- ---- more memory

still_within : (memory more m c salt : ℕ) → memory ≤ more
    → (nat_lt memory m || nat_lt m (8 * c) || nat_lt c 1 || nat_lt (2 ^ 24 - 1) c || nat_lt salt 8) ≡ false
    → (nat_lt more m || nat_lt m (8 * c) || nat_lt c 1 || nat_lt (2 ^ 24 - 1) c || nat_lt salt 8) ≡ false
still_within memory more m c salt le is = grind (arith, nat_tests)

still_derived : (memory more : ℕ) (d : Derivation) → memory ≤ more → is_argon2_refused memory d ≡ false → is_argon2_refused more d ≡ false
still_derived memory more (Pbkdf2 h i s) le is = refl
still_derived memory more (Argon2 a) le is = still_within memory more a.memory a.cpus (length a.salt.now) le is

-- ---- older ciphers and hashes

still_cipher : (less more : Bool) (c : AreaCipher) → (less ≡ true → more ≡ true) → is_allowed_cipher less c ≡ true → is_allowed_cipher more c ≡ true
still_cipher false false c le is = is
still_cipher true true c le is = is
still_cipher false true c le is = ap (λ b. b || is_older_cipher c) is
still_cipher true false c le is = let off = le refl in absurd (cc)

still_hash : (t : List ℕ) → is_known_hash false t ≡ true → is_known_hash true t ≡ true
still_hash t is = ap (λ b. b || is_some (older_hash_named t)) is

still_derivation : (d : Derivation) → is_known_derivation false d ≡ true → is_known_derivation true d ≡ true
still_derivation (Pbkdf2 h i s) is = still_hash h.now is
still_derivation (Argon2 a) is = refl

all_still : (a b c x y z : Bool) → (a ≡ true → x ≡ true) → (b ≡ true → y ≡ true) → (c ≡ true → z ≡ true) → (a && b && c) ≡ true → (x && y && z) ≡ true
all_still true true true x y z f g h is = let one = f refl in let two = g refl in let three = h refl in simp (one, two, three)
all_still true true false x y z f g h is = absurd (cc)
all_still true false c x y z f g h is = absurd (cc)
all_still false b c x y z f g h is = absurd (cc)

still_known : (less more : Bool) (plan : SlotPlan) → (less ≡ true → more ≡ true) → are_known_hashes less plan ≡ true → are_known_hashes more plan ≡ true
still_known false false plan le is = is
still_known true true plan le is = is
still_known false true plan le is =
    all_still (is_known_derivation false plan.derivation) (is_known_hash false plan.splitter_hash.now) (is_known_hash false plan.digest.hash.now)
    (is_known_derivation true plan.derivation) (is_known_hash true plan.splitter_hash.now) (is_known_hash true plan.digest.hash.now)
    (still_derivation plan.derivation) (still_hash plan.splitter_hash.now) (still_hash plan.digest.hash.now) is
still_known true false plan le is = let off = le refl in absurd (cc)

-- ---- so with more

still_none : (a c h b d k size : Bool) → (a ≡ false → b ≡ false) → (c ≡ true → d ≡ true) → (h ≡ true → k ≡ true)
    → (if a then Some fault.Argon2 else if not c then Some fault.Cipher else if not h then Some fault.Hash else if not size then Some fault.KeySize else None) ≡ None
    → (if b then Some fault.Argon2 else if not d then Some fault.Cipher else if not k then Some fault.Hash else if not size then Some fault.KeySize else None) ≡ None
still_none false true true b d k true derived cipher hashes none =
    let one = derived refl in let two = cipher refl in let three = hashes refl in simp (one, two, three)
still_none false true true b d k false derived cipher hashes none = absurd (cc)
still_none false true false b d k size derived cipher hashes none = absurd (cc)
still_none false false h b d k size derived cipher hashes none = absurd (cc)
still_none true c h b d k size derived cipher hashes none = absurd (cc)

pub still_accepted : (allowed more : Allowed) (plan : SlotPlan) → allowed.memory ≤ more.memory → (allowed.older ≡ true → more.older ≡ true)
    → slot_refusal_within allowed plan ≡ None → slot_refusal_within more plan ≡ None
still_accepted allowed more plan le older none =
    still_none (is_argon2_refused allowed.memory plan.derivation) (is_allowed_cipher allowed.older plan.cipher) (are_known_hashes allowed.older plan)
    (is_argon2_refused more.memory plan.derivation) (is_allowed_cipher more.older plan.cipher) (are_known_hashes more.older plan)
    (is_key_size plan.cipher plan.area_key_bytes)
    (still_derived allowed.memory more.memory plan.derivation le) (still_cipher allowed.older more.older plan.cipher older)
    (still_known allowed.older more.older plan older) none

-- so a plan that isn't refused where nothing is allowed isn't refused where something is
pub accepted_within : (allowed : Allowed) (plan : SlotPlan) → slot_refusal plan ≡ None → slot_refusal_within allowed plan ≡ None
accepted_within allowed plan none = still_accepted none_allowed allowed plan (omega arith) (λ is. absurd (cc)) (refusal_at_zero plan ∙ none)
