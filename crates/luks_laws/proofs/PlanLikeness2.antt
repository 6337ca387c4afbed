-- The plans of a keyslot of LUKS2 are alike.
use Rattle.std.proofs.Common.{◌≡◌, Bool, ℕ, List, true, false, refl, ap, subst, Some}
use Rattle.serde_json.specs.Data.{Data}
use Rattle.luks_json.specs.AreaText.{Json}
use Rattle.luks_making.specs.Naming.{IsDigestOf}
use Rattle.luks_rules.specs.declared.table.Member.TheVariants as name
use Rattle.luks_rules.specs.declared.table.Outer.TheVariants as outer
use Rattle.luks_rules.specs.declared.table.Section.TheVariants.{Digests, Keyslots}
use Rattle.luks_rules.specs.Faults.{member_at, object_at}
use Rattle.luks_rules.specs.Reading.{bytes_in, decimal_in, number_in, text_of}
use Rattle.luks_meta.specs.Says.{small_at}
use Rattle.luks_slot.specs.declared.allowed.Allowed.{Allowed}
use Rattle.luks_slot.specs.declared.plan.AreaCipher.{AreaCipher}
use Rattle.luks_slot.specs.declared.plan.AreaCipher.TheVariants.{Apart, Whole}
use Rattle.luks_slot.specs.declared.plan.Derivation.{Derivation}
use Rattle.luks_slot.specs.declared.plan.Derivation.TheVariants.{Argon2, Pbkdf2}
use Rattle.luks_slot.specs.declared.plan.DigestPlan.{DigestPlan}
use Rattle.luks_slot.specs.declared.plan.SlotPlan.{SlotPlan}
use Rattle.luks_slot.specs.Refusal.{is_allowed_cipher, is_argon2_refused, is_key_size, is_known_derivation, is_known_hash, slot_refusal_within}
use Rattle.luks_reading.proofs.PlanFacts.{no_pbkdf2}
use Rattle.luks_reading.specs.Plans.{HasLuks2Plan, IsLuks2Cipher, IsLuks2Derivation, IsLuks2Digest, IsLuks2Plan}
use Rattle.luks_laws.proofs.DecidedFacts.{some_same}
use Rattle.luks_laws.proofs.PlanDecisions.{AreAlike}

-- ---- the parts of a plan

-- Argon2 is refused of both where so much is allowed, or of neither
same_refused : (d : Data) (a b : Derivation) (allowed : Allowed) → IsLuks2Derivation d a → IsLuks2Derivation d b → is_argon2_refused allowed.memory a ≡ is_argon2_refused allowed.memory b
same_refused d (Pbkdf2 k i s) (Pbkdf2 l j t) allowed x y = refl
same_refused d (Pbkdf2 k i s) (Argon2 c) allowed x y = absurd (no_pbkdf2 d c y x.0)
same_refused d (Argon2 c) (Pbkdf2 k i s) allowed x y = absurd (no_pbkdf2 d c x y.0)
same_refused d (Argon2 c) (Argon2 f) allowed x y =
    let memory = some_same (small_at d outer.Kdf name.Memory) c.memory f.memory x.2 y.2 in
    let cpus = some_same (small_at d outer.Kdf name.Cpus) c.cpus f.cpus x.3 y.3 in
    let salt = some_same (bytes_in 1 128 (member_at d outer.Kdf name.Salt)) c.salt.now f.salt.now x.4 y.4 in
    simp (memory, cpus, salt)

-- the hashes of both derivations are known, or neither is
same_known : (older : Bool) (d : Data) (a b : Derivation) → IsLuks2Derivation d a → IsLuks2Derivation d b → is_known_derivation older a ≡ is_known_derivation older b
same_known older d (Pbkdf2 k i s) (Pbkdf2 l j t) x y = ap (λ name. is_known_hash older name) (some_same (text_of (member_at d outer.Kdf name.Hash)) k.now l.now x.1 y.1)
same_known older d (Pbkdf2 k i s) (Argon2 c) x y = absurd (no_pbkdf2 d c y x.0)
same_known older d (Argon2 c) (Pbkdf2 k i s) x y = absurd (no_pbkdf2 d c x y.0)
same_known older d (Argon2 c) (Argon2 f) x y = refl

-- both ciphers open, or neither does, and keys of one length are of their size
same_cipher : (older : Bool) (n m : ℕ) (d : Data) (a b : AreaCipher) → n ≡ m → IsLuks2Cipher d a → IsLuks2Cipher d b
    → (is_allowed_cipher older a ≡ is_allowed_cipher older b) × (is_key_size a n ≡ is_key_size b m)
same_cipher older n m d (Apart c e) b size x y = absurd x
same_cipher older n m d (Whole t) (Apart c e) size x y = absurd y
same_cipher false n m d (Whole t) (Whole u) size x y = let text = some_same (text_of (member_at d outer.Area name.Encryption)) t.now u.now x y in (simp text, simp (text, size))
same_cipher true n m d (Whole t) (Whole u) size x y = let text = some_same (text_of (member_at d outer.Area name.Encryption)) t.now u.now x y in (simp text, simp (text, size))

-- a keyslot has one digest, and so one name of its hash
same_digest_hash : (j : Data) (n : ℕ) (a b : DigestPlan) → ((m k : ℕ) → IsDigestOf j n m → IsDigestOf j n k → m ≡ k)
    → IsLuks2Digest j n a → IsLuks2Digest j n b → a.hash.now ≡ b.hash.now
same_digest_hash j n a b one x y =
    let there = subst (λ m. object_at j Digests m ≡ Some x.object) (one x.number y.number x.names y.names) x.there in
    let hash = subst (λ o. text_of (member_at o outer.Top name.Hash) ≡ Some a.hash.now) (some_same (object_at j Digests y.number) x.object y.object there y.there) x.hash in
    some_same (text_of (member_at y.object outer.Top name.Hash)) a.hash.now b.hash.now hash y.hash

-- ---- the plans

-- the plans of an object are alike
alike_in : (j : Data) (n : ℕ) (d : Data) (a b : SlotPlan) → ((m k : ℕ) → IsDigestOf j n m → IsDigestOf j n k → m ≡ k)
    → IsLuks2Plan j n d a → IsLuks2Plan j n d b → AreAlike a b
alike_in j n d a b one x y =
    let size = some_same (number_in 1 128 (member_at d outer.Area name.KeySize)) a.area_key_bytes b.area_key_bytes x.area_key_bytes y.area_key_bytes in
    let splitter = some_same (text_of (member_at d outer.Af name.Hash)) a.splitter_hash.now b.splitter_hash.now x.splitter_hash y.splitter_hash in
    let digest = same_digest_hash j n a.digest b.digest one x.digest y.digest in
    let known = λ (older : Bool). same_known older d a.derivation b.derivation x.derivation y.derivation in
    let cipher = λ (older : Bool). same_cipher older a.area_key_bytes b.area_key_bytes d a.cipher b.cipher size x.cipher y.cipher in
    let refusal_within : (allowed : Allowed) → slot_refusal_within allowed a ≡ slot_refusal_within allowed b =
    λ allowed. (
    let refused = same_refused d a.derivation b.derivation allowed x.derivation y.derivation in
    let names = known allowed.older in
    let ciphers = (cipher allowed.older).0 in
    let sizes = (cipher allowed.older).1 in
    simp (refused, names, ciphers, sizes, splitter, digest)) in
    record {
      start = some_same (decimal_in (member_at d outer.Area name.Offset)) a.area.start b.area.start x.start y.start;
      len = some_same (decimal_in (member_at d outer.Area name.Size)) a.area.len b.area.len x.len y.len;
      refusal_within = refusal_within;
    }

-- a JSON area with one value, in which one digest at most names the keyslot
module _ (json : List ℕ) (j : Data) (n : ℕ) (value : (i : Data) → Json json i → i ≡ j) (digest : (m k : ℕ) → IsDigestOf j n m → IsDigestOf j n k → m ≡ k) where
  -- the object of a plan is that of the value
  pub object_of_plan : (plan : SlotPlan) (x : HasLuks2Plan json n plan) → object_at j Keyslots n ≡ Some x.object
  object_of_plan plan x = subst (λ i. object_at i Keyslots n ≡ Some x.object) (value x.value x.holds) x.there

  -- a plan is that of the value's object
  pub plan_of_object : (d : Data) → object_at j Keyslots n ≡ Some d → (plan : SlotPlan) → HasLuks2Plan json n plan → IsLuks2Plan j n d plan
  plan_of_object d there plan x =
      subst (λ o. IsLuks2Plan j n o plan) (some_same (object_at j Keyslots n) x.object d (object_of_plan plan x) there)
      (subst (λ i. IsLuks2Plan i n x.object plan) (value x.value x.holds) x.is)

  -- the plans of a keyslot are alike
  pub alike_plans : (a b : SlotPlan) → HasLuks2Plan json n a → HasLuks2Plan json n b → AreAlike a b
  alike_plans a b x y =
      let there = object_of_plan a x in
      alike_in j n x.object a b digest (plan_of_object x.object there a x) (plan_of_object x.object there b y)
