-- How the key of an area is derived, and which refusals are answered.
use Rattle.std.proofs.Common.{◌≡◌, ℕ, ◌≤◌, List, length, refl, ap, sym, ◌∙◌, subst, true, false, Some, None}
use Rattle.std.specs.Prelude.{◌==◌, ◌||◌, not, if◌then◌else◌, Bool, Result, Ok, Err, IfErr}
use Rattle.luks_area.specs.Device.{count_after}
use Rattle.luks_slot.specs.declared.allowed.Allowed.{Allowed}
use Rattle.luks_slot.specs.declared.cipher.SectorCipher.{SectorCipher}
use Rattle.luks_slot.specs.declared.fault.SlotFault.{SlotFault}
use Rattle.luks_slot.specs.declared.fault.SlotFault.TheVariants as fault
use Rattle.luks_slot.specs.declared.plan.Argon2Plan.{Argon2Plan}
use Rattle.luks_slot.specs.declared.plan.Derivation.{Derivation}
use Rattle.luks_slot.specs.declared.plan.Derivation.TheVariants.{Pbkdf2, Argon2}
use Rattle.luks_slot.specs.declared.plan.SlotPlan.{SlotPlan}
use Rattle.luks_slot.specs.declared.parameters.KeyDerivation.TheVariants as known
use Rattle.luks_slot.specs.declared.parameters.Pbkdf2Costs.{Pbkdf2Costs}
use Rattle.luks_slot.specs.Allowance.{none_allowed}
use Rattle.luks_slot.specs.Fault.{IsAnsweredFault, IsAnsweredWithin, is_device_fault}
use Rattle.luks_slot.specs.Ciphers.{cipher_of, keyed}
use Rattle.luks_slot.specs.Opening.{area_key, area_key_by, derived_by_argon2, HasIterations}
use Rattle.luks_slot.specs.Parameters.{derived_by_pbkdf2, IsDerivation}
use Rattle.luks_slot.specs.Refusal.{are_known_hashes, is_allowed_cipher, is_argon2, is_argon2_refused, is_key_size, is_open_cipher, slot_refusal, slot_refusal_within}
use Rattle.luks_slot.proofs.RefusalFacts.{refusal_at_none}

-- what PBKDF2 derives by the costs of a plan is what the plan derives
by_pbkdf2 : (d : Derivation) (costs : Pbkdf2Costs) (n : ℕ) (p : List ℕ) → IsDerivation d (known.Pbkdf2 costs)
    → derived_by_pbkdf2 costs n p ≡ area_key_by d n p
by_pbkdf2 (Pbkdf2 h i s) costs n p is = simp (is.0, is.1, is.2)
by_pbkdf2 (Argon2 a) costs n p is = absurd is

-- what Argon2 derives by the costs of a plan is what the plan derives
by_argon2 : (d : Derivation) (costs : Argon2Plan) (n : ℕ) (p : List ℕ) → IsDerivation d (known.Argon2 costs)
    → derived_by_argon2 costs n p ≡ area_key_by d n p
by_argon2 (Pbkdf2 h i s) costs n p is = absurd is
by_argon2 (Argon2 a) costs n p is = ap (λ c. derived_by_argon2 c n p) (sym is)

-- so the key that either derives is that of the plan's area
pub keyed_by_pbkdf2 : (plan : SlotPlan) (cipher : SectorCipher) (costs : Pbkdf2Costs) (p : List ℕ) → cipher_of plan.cipher ≡ cipher
    → IsDerivation plan.derivation (known.Pbkdf2 costs) → keyed cipher (derived_by_pbkdf2 costs plan.area_key_bytes p) ≡ area_key plan p
unfolding area_key
keyed_by_pbkdf2 plan cipher costs p is_cipher is =
    ap (keyed cipher) (by_pbkdf2 plan.derivation costs plan.area_key_bytes p is)
    ∙ ap (λ c. keyed c (area_key_by plan.derivation plan.area_key_bytes p)) (sym is_cipher)

pub keyed_by_argon2 : (plan : SlotPlan) (cipher : SectorCipher) (costs : Argon2Plan) (p : List ℕ) → cipher_of plan.cipher ≡ cipher
    → IsDerivation plan.derivation (known.Argon2 costs) → keyed cipher (derived_by_argon2 costs plan.area_key_bytes p) ≡ area_key plan p
unfolding area_key
keyed_by_argon2 plan cipher costs p is_cipher is =
    ap (keyed cipher) (by_argon2 plan.derivation costs plan.area_key_bytes p is)
    ∙ ap (λ c. keyed c (area_key_by plan.derivation plan.area_key_bytes p)) (sym is_cipher)

-- PBKDF2 has the iterations that its plan has
pub iterated : (d : Derivation) (costs : Pbkdf2Costs) → HasIterations d → IsDerivation d (known.Pbkdf2 costs) → 1 ≤ costs.iterations
iterated (Pbkdf2 h i s) costs some is = subst (λ n. 1 ≤ n) is.1 some
iterated (Argon2 a) costs some is = absurd is

-- Argon2 has the passes and the salt that its plan has
pub passed : (d : Derivation) (costs : Argon2Plan) → HasIterations d → IsDerivation d (known.Argon2 costs) → (1 ≤ costs.time) × (length costs.salt.now ≤ 128)
passed (Pbkdf2 h i s) costs some is = absurd is
passed (Argon2 a) costs some is = subst (λ c. (1 ≤ c.time) × (length c.salt.now ≤ 128)) is some

-- a refusal is of the plan, and so neither of these
unfailing : (t cipher hashes size : Bool) (f : SlotFault)
    → (if t then Some fault.Argon2 else if not cipher then Some fault.Cipher else if not hashes then Some fault.Hash else if not size then Some fault.KeySize else None)
    ≡ Some f → (f ≡ fault.Device → ⊥) × (f ≡ fault.Memory → ⊥)
unfailing true cipher hashes size f same = (λ d. cc, λ m. cc)
unfailing false false hashes size f same = (λ d. cc, λ m. cc)
unfailing false true false size f same = (λ d. cc, λ m. cc)
unfailing false true true false f same = (λ d. cc, λ m. cc)
unfailing false true true true f same = absurd (cc)

no_device_refusal : (allowed : Allowed) (plan : SlotPlan) → slot_refusal_within allowed plan ≡ Some fault.Device → ⊥
no_device_refusal allowed plan is = (unfailing (is_argon2_refused allowed.memory plan.derivation) (is_allowed_cipher allowed.older plan.cipher)
    (are_known_hashes allowed.older plan) (is_key_size plan.cipher plan.area_key_bytes) fault.Device is).0 refl

-- a refusal is answered
pub refusal_answered : (allowed : Allowed) (plan : SlotPlan) (f : SlotFault) → slot_refusal_within allowed plan ≡ Some f → IsAnsweredWithin allowed plan f
refusal_answered allowed plan fault.Argon2 is = is
refusal_answered allowed plan fault.Cipher is = is
refusal_answered allowed plan fault.Hash is = is
refusal_answered allowed plan fault.KeySize is = is
refusal_answered allowed plan fault.Device is = absurd (no_device_refusal allowed plan is)
refusal_answered allowed plan fault.Memory is = absurd ((unfailing (is_argon2_refused allowed.memory plan.derivation) (is_allowed_cipher allowed.older plan.cipher)
    (are_known_hashes allowed.older plan) (is_key_size plan.cipher plan.area_key_bytes) fault.Memory is).1 refl)

-- and isn't counted as a failure of the device
pub uncounted : (allowed : Allowed) (plan : SlotPlan) (f : SlotFault) (n : ℕ) → slot_refusal_within allowed plan ≡ Some f
    → n ≡ count_after (is_device_fault f) n
uncounted allowed plan fault.Argon2 n is = refl
uncounted allowed plan fault.Cipher n is = refl
uncounted allowed plan fault.Hash n is = refl
uncounted allowed plan fault.KeySize n is = refl
uncounted allowed plan fault.Device n is = absurd (no_device_refusal allowed plan is)
uncounted allowed plan fault.Memory n is = refl

-- where nothing is allowed, a plan is refused as before
pub refusal_at_zero : (plan : SlotPlan) → slot_refusal_within none_allowed plan ≡ slot_refusal plan
refusal_at_zero = refusal_at_none

-- Argon2 is refused then
argon2_stands : (plan : SlotPlan) → is_argon2 plan.derivation ≡ true → slot_refusal plan ≡ None → ⊥
argon2_stands plan on none =
    let refused : slot_refusal plan ≡ Some fault.Argon2 =
    ap (λ b. if b then Some fault.Argon2 else if not (is_open_cipher plan.cipher) then Some fault.Cipher
    else if not (are_known_hashes false plan) then Some fault.Hash
    else if not (plan.area_key_bytes == 32 || plan.area_key_bytes == 64) then Some fault.KeySize else None) on in
    cc

-- and what is answered is as before
pub answered_before : (plan : SlotPlan) (f : SlotFault) → IsAnsweredWithin none_allowed plan f → IsAnsweredFault plan f
answered_before plan fault.Argon2 is = sym (refusal_at_none plan) ∙ is
answered_before plan fault.Cipher is = sym (refusal_at_none plan) ∙ is
answered_before plan fault.Hash is = sym (refusal_at_none plan) ∙ is
answered_before plan fault.KeySize is = sym (refusal_at_none plan) ∙ is
answered_before plan fault.Device is = sym (refusal_at_none plan) ∙ is
answered_before plan fault.Memory is = argon2_stands plan is.1 (sym (refusal_at_none plan) ∙ is.0)

pub answered_so : {T : Type 0} (plan : SlotPlan) (r : Result T SlotFault) → IfErr r (IsAnsweredWithin none_allowed plan) → IfErr r (IsAnsweredFault plan)
answered_so plan (Ok x) is = is
answered_so plan (Err f) is = answered_before plan f is

-- the refusal where nothing is allowed is the one that stands
pub same_refusal : (plan : SlotPlan) (f g : SlotFault) → slot_refusal_within none_allowed plan ≡ Some g → slot_refusal plan ≡ Some f → g ≡ f
same_refusal plan f g is other =
    let both : Some g ≡ Some f = sym is ∙ refusal_at_none plan ∙ other in
    cc
