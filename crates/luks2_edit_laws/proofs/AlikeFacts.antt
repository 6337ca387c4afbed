-- A keyslot that says of its opening what another one says, or derives as is chosen, by a digest of the
-- same hash: its plan is refused where the other is.
use Rattle.std.proofs.Common.{◌≡◌, ◌≤◌, ◌*◌, ◌-◌, ◌^◌, Bool, true, false, List, ℕ, length, codes, Option, Some, None, refl, sym, ap, subst, ◌∙◌, arith}
use Rattle.std.specs.Prelude.{◌&&◌, ◌||◌, if◌then◌else◌, nat_lt, not}
use Rattle.std.proofs.lemmas.Bool.{and_parts}
use Rattle.std.proofs.lemmas.Bool.Decides.{nat_tests}
use Rattle.serde_json.specs.Data.{Data as Value}
use Rattle.luks_rules.specs.declared.table.Member.TheVariants as name
use Rattle.luks_rules.specs.declared.table.Outer.TheVariants as outer
use Rattle.luks_rules.specs.Faults.{member_at, type_at}
use Rattle.luks_rules.specs.Reading.{bytes_in, number_in, text_of}
use Rattle.luks_making.specs.Derivations.{beyond, chosen_beyond, costs_beyond}
use Rattle.luks_making.specs.declared.derivation.Argon2Costs.{Argon2Costs}
use Rattle.luks_making.specs.declared.derivation.NewDerivation.{NewDerivation}
use Rattle.luks_making.specs.declared.derivation.NewDerivation.TheVariants as by
use Rattle.luks_making.specs.Keyslots.{by_argon2i, by_argon2id, by_pbkdf2, derivation_by, Deriving, HasCosts, IsDerivedLike, IsDerivedOr, NewMembers}
use Rattle.luks_making.specs.Unchanged.{KeepsDerivation, SaysArgon2, SaysAsked, SaysDerivation}
use Rattle.luks_slot.specs.declared.allowed.Allowed.{Allowed}
use Rattle.luks_slot.specs.declared.plan.Argon2Kind.{Argon2Kind}
use Rattle.luks_slot.specs.declared.plan.Argon2Kind.TheVariants.{I, Id}
use Rattle.luks_slot.specs.declared.plan.AreaCipher.{AreaCipher}
use Rattle.luks_slot.specs.declared.plan.AreaCipher.TheVariants.{Apart, Whole}
use Rattle.luks_slot.specs.declared.plan.Derivation.{Derivation}
use Rattle.luks_slot.specs.declared.plan.Derivation.TheVariants.{Pbkdf2, Argon2}
use Rattle.luks_slot.specs.declared.plan.SlotPlan.{SlotPlan}
use Rattle.luks_slot.specs.declared.fault.SlotFault.TheVariants as refusal
use Rattle.luks_slot.specs.Refusal.{are_known_hashes, is_allowed_cipher, is_argon2_refused, is_key_size, is_known_derivation, is_known_hash, slot_refusal_within}
use Rattle.luks_reading.specs.Plans.{kind_text, IsLuks2Cipher, IsLuks2Derivation, IsLuks2Plan}
use Rattle.luks2_edit_laws.proofs.MetadataFacts.{some_same}
use Rattle.luks2_edit_laws.proofs.SealFacts.{allowed_derivation}

-- one derivation is as another: both are PBKDF2 with one hash, or Argon2 with one memory and as many
-- lanes, the new one by a salt that is long enough
abbrev IsDerivedAlike : Derivation → Derivation → Type 0
IsDerivedAlike (Pbkdf2 h i s) (Pbkdf2 g k t) = h.now ≡ g.now
IsDerivedAlike (Pbkdf2 h i s) (Argon2 d) = ⊥
IsDerivedAlike (Argon2 c) (Pbkdf2 g k t) = ⊥
IsDerivedAlike (Argon2 c) (Argon2 d) = (c.memory ≡ d.memory) × (c.cpus ≡ d.cpus) × (8 ≤ length d.salt.now)

-- the derivation `b` isn't refused where `a` isn't, beside a splitter of this hash, where so much is
-- allowed
pub record OpensAlike (allowed : Allowed) (splitter : List ℕ) (a b : Derivation) : Type 0 where
  pub argon2 : is_argon2_refused allowed.memory a ≡ false → is_argon2_refused allowed.memory b ≡ false
  pub known : is_known_hash allowed.older splitter ≡ true → is_known_derivation allowed.older a ≡ true → is_known_derivation allowed.older b ≡ true

-- the keyslot `new` says of its opening what the keyslot `old` says, except for how it derives
pub record SaysSealing (old new : Value) : Type 0 where
  pub encryption : text_of (member_at new outer.Area name.Encryption) ≡ text_of (member_at old outer.Area name.Encryption)
  pub area_key : number_in 1 128 (member_at new outer.Area name.KeySize) ≡ number_in 1 128 (member_at old outer.Area name.KeySize)
  pub splitter : text_of (member_at new outer.Af name.Hash) ≡ text_of (member_at old outer.Af name.Hash)

-- and derives so that it isn't refused where `old` isn't
pub record SaysLike (allowed : Allowed) (old new : Value) : Type 0 where
  pub derived : (a b : Derivation) (hash : List ℕ) → IsLuks2Derivation old a → IsLuks2Derivation new b → text_of (member_at old outer.Af name.Hash) ≡ Some hash
      → OpensAlike allowed hash a b
  pub sealing : SaysSealing old new

-- of a type by Argon2, and by PBKDF2
other_kinds : (k : Argon2Kind) → Some (kind_text k) ≡ Some (codes "pbkdf2") → ⊥
other_kinds I same = cc
other_kinds Id same = cc

-- a keyslot that was made with the derivation of another
module _ (d f : Value) (salt : List ℕ) (said : bytes_in 1 128 (member_at f outer.Kdf name.Salt) ≡ Some salt) (long : 8 ≤ length salt) where
  costs_alike : (k : List ℕ) (costs : Argon2Costs) (a b : Derivation) → type_at d outer.Kdf ≡ Some k → (Some k ≡ Some (codes "pbkdf2") → ⊥) → HasCosts d costs → SaysArgon2 k costs f
      → IsLuks2Derivation d a → IsLuks2Derivation f b → IsDerivedAlike a b
  costs_alike k costs (Pbkdf2 h i s) b kind other has says x y = absurd (other (sym kind ∙ x.0))
  costs_alike k costs (Argon2 c) (Pbkdf2 g l t) kind other has says x y = absurd (other (sym says.kind ∙ y.0))
  costs_alike k costs (Argon2 c) (Argon2 e) kind other has says x y = (
    some_same c.memory e.memory (sym x.2 ∙ has.memory ∙ sym says.memory ∙ y.2),
    some_same c.cpus e.cpus (sym x.3 ∙ has.cpus ∙ sym says.cpus ∙ y.3),
    subst (λ s. 8 ≤ length s) (some_same salt e.salt.now (sym said ∙ y.4)) long,
  )

  made_derived : (n : ℕ) (k : Deriving) (a b : Derivation) → IsDerivedLike d n k → SaysDerivation k f → IsLuks2Derivation d a → IsLuks2Derivation f b → IsDerivedAlike a b
  made_derived n (by_pbkdf2 hash iterations) (Pbkdf2 h i s) (Pbkdf2 g l t) like says x y = some_same h.now g.now (sym x.1 ∙ like.1 ∙ sym says.hash ∙ y.1)
  made_derived n (by_pbkdf2 hash iterations) (Pbkdf2 h i s) (Argon2 e) like says x y = absurd (other_kinds e.kind (sym y.0 ∙ says.kind))
  made_derived n (by_pbkdf2 hash iterations) (Argon2 c) b like says x y = absurd (other_kinds c.kind (sym x.0 ∙ like.0))
  made_derived n (by_argon2i costs) a b like says x y = costs_alike (codes "argon2i") costs a b like.0 (other_kinds I) like.1 says x y
  made_derived n (by_argon2id costs) a b like says x y = costs_alike (codes "argon2id") costs a b like.0 (other_kinds Id) like.1 says x y

-- a keyslot that was sealed again, where nothing is chosen
kept_derived : (n : ℕ) (salt : List ℕ) (was now : Value) (a b : Derivation) → KeepsDerivation n was now → bytes_in 1 128 (member_at now outer.Kdf name.Salt) ≡ Some salt → 8 ≤ length salt
    → IsLuks2Derivation was a → IsLuks2Derivation now b → IsDerivedAlike a b
kept_derived n salt was now (Pbkdf2 h i s) (Pbkdf2 g l t) says said long x y = some_same h.now g.now (sym x.1 ∙ sym (ap text_of (says.others (codes "hash") refl)) ∙ y.1)
kept_derived n salt was now (Pbkdf2 h i s) (Argon2 e) says said long x y = absurd (other_kinds e.kind (sym y.0 ∙ ap text_of (says.others (codes "type") refl) ∙ x.0))
kept_derived n salt was now (Argon2 c) (Pbkdf2 g l t) says said long x y = absurd (other_kinds c.kind (sym x.0 ∙ sym (ap text_of (says.others (codes "type") refl)) ∙ y.0))
kept_derived n salt was now (Argon2 c) (Argon2 e) says said long x y = (
  some_same c.memory e.memory (sym x.2 ∙ sym (ap (number_in 1 4294967295) (says.others (codes "memory") refl)) ∙ y.2),
  some_same c.cpus e.cpus (sym x.3 ∙ sym (ap (number_in 1 4294967295) (says.others (codes "cpus") refl)) ∙ y.3),
  subst (λ s. 8 ≤ length s) (some_same salt e.salt.now (sym said ∙ y.4)) long,
)

-- limits that Argon2 keeps it keeps by another salt that is long enough
same_limits : (memory m c salt n k new : ℕ) → m ≡ n → c ≡ k → 8 ≤ new
    → (nat_lt memory m || nat_lt m (8 * c) || nat_lt c 1 || nat_lt (2 ^ 24 - 1) c || nat_lt salt 8) ≡ false
    → (nat_lt memory n || nat_lt n (8 * k) || nat_lt k 1 || nat_lt (2 ^ 24 - 1) k || nat_lt new 8) ≡ false
same_limits memory m c salt n k new one two long is = grind (arith, nat_tests)

argon2_both : (allowed : Allowed) (a b : Derivation) → IsDerivedAlike a b → is_argon2_refused allowed.memory a ≡ false → is_argon2_refused allowed.memory b ≡ false
argon2_both allowed (Pbkdf2 h i s) (Pbkdf2 g k t) alike off = refl
argon2_both allowed (Pbkdf2 h i s) (Argon2 d) alike off = absurd alike
argon2_both allowed (Argon2 c) (Pbkdf2 g k t) alike off = absurd alike
argon2_both allowed (Argon2 c) (Argon2 d) alike off = same_limits allowed.memory c.memory c.cpus (length c.salt.now) d.memory d.cpus (length d.salt.now) alike.0 alike.1 alike.2 off

known_both : (older : Bool) (a b : Derivation) → IsDerivedAlike a b → is_known_derivation older a ≡ is_known_derivation older b
known_both older (Pbkdf2 h i s) (Pbkdf2 g k t) alike = ap (λ name. is_known_hash older name) alike
known_both older (Pbkdf2 h i s) (Argon2 d) alike = absurd alike
known_both older (Argon2 c) (Pbkdf2 g k t) alike = absurd alike
known_both older (Argon2 c) (Argon2 d) alike = refl

-- what is derived alike opens alike
alike_opens : (allowed : Allowed) (splitter : List ℕ) (a b : Derivation) → IsDerivedAlike a b → OpensAlike allowed splitter a b
alike_opens allowed splitter a b alike = record { argon2 = argon2_both allowed a b alike; known = λ other known. sym (known_both allowed.older a b alike) ∙ known }

-- limits that a chosen Argon2 keeps it keeps by a salt that is long enough
chosen_limits : (memory m c salt n k : ℕ) → m ≡ n → c ≡ k → 8 ≤ salt → (nat_lt memory m || nat_lt m (8 * c) || nat_lt c 1 || nat_lt (2 ^ 24 - 1) c) ≡ false
    → (nat_lt memory n || nat_lt n (8 * k) || nat_lt k 1 || nat_lt (2 ^ 24 - 1) k || nat_lt salt 8) ≡ false
chosen_limits memory m c salt n k one two long is = grind (arith, nat_tests)

-- a keyslot that derives as is chosen, within the memory that is allowed, opens
module _ (allowed : Allowed) (hash salt : List ℕ) (f : Value) (said : bytes_in 1 128 (member_at f outer.Kdf name.Salt) ≡ Some salt) (long : 8 ≤ length salt) where
  costs_open : (k : Argon2Kind) (costs : Argon2Costs) (a b : Derivation) → costs_beyond allowed.memory costs ≡ false → SaysArgon2 (kind_text k) costs f → IsLuks2Derivation f b → OpensAlike allowed hash a b
  costs_open k costs a (Pbkdf2 g l t) within says y = absurd (other_kinds k (sym says.kind ∙ y.0))
  costs_open k costs a (Argon2 e) within says y = record {
    argon2 = λ off.
        chosen_limits allowed.memory costs.memory costs.cpus (length e.salt.now) e.memory e.cpus (some_same costs.memory e.memory (sym says.memory ∙ y.2)) (some_same costs.cpus e.cpus (sym says.cpus ∙ y.3))
        (subst (λ s. 8 ≤ length s) (some_same salt e.salt.now (sym said ∙ y.4)) long) within;
    known = λ other known. refl;
  }

  pub chosen_opens : (c : NewDerivation) (a b : Derivation) → beyond allowed.memory c ≡ false → SaysDerivation (derivation_by hash c) f → IsLuks2Derivation f b → OpensAlike allowed hash a b
  chosen_opens (by.Pbkdf2 iterations) a (Pbkdf2 g l t) within says y = record {
    argon2 = λ off. refl;
    known = λ other known. subst (λ h. is_known_hash allowed.older h ≡ true) (some_same hash g.now (sym says.hash ∙ y.1)) other;
  }
  chosen_opens (by.Pbkdf2 iterations) a (Argon2 e) within says y = absurd (other_kinds e.kind (sym y.0 ∙ says.kind))
  chosen_opens (by.Argon2i costs) a b within says y = costs_open I costs a b within says y
  chosen_opens (by.Argon2id costs) a b within says y = costs_open Id costs a b within says y

-- a keyslot that was made with the members of another, or derives as is chosen
pub made_derived_or : (allowed : Allowed) (d f : Value) (hash salt : List ℕ) → bytes_in 1 128 (member_at f outer.Kdf name.Salt) ≡ Some salt → 8 ≤ length salt → (n : ℕ) (chosen : Option NewDerivation)
    (k : Deriving) (a b : Derivation) → chosen_beyond allowed.memory chosen ≡ false → IsDerivedOr d n hash chosen k → SaysDerivation k f → IsLuks2Derivation d a → IsLuks2Derivation f b
    → OpensAlike allowed hash a b
made_derived_or allowed d f hash salt said long n None k a b within is says x y = alike_opens allowed hash a b (made_derived d f salt said long n k a b is says x y)
made_derived_or allowed d f hash salt said long n (Some c) k a b within is says x y =
    chosen_opens allowed hash salt f said long c a b within (subst (λ q. SaysDerivation q f) is says) y

-- and one that was sealed again, whose splitter has the hash
pub changed_derived_or : (allowed : Allowed) (f : NewMembers) (was now : Value) (hash : List ℕ) → bytes_in 1 128 (member_at now outer.Kdf name.Salt) ≡ Some f.salt → 8 ≤ length f.salt
    → text_of (member_at now outer.Af name.Hash) ≡ Some hash → (chosen : Option NewDerivation) (a b : Derivation) → chosen_beyond allowed.memory chosen ≡ false → SaysAsked f chosen was now
    → IsLuks2Derivation was a → IsLuks2Derivation now b → OpensAlike allowed hash a b
changed_derived_or allowed f was now hash said long splitter None a b within says x y = alike_opens allowed hash a b (kept_derived f.derivation.iterations f.salt was now a b says said long x y)
changed_derived_or allowed f was now hash said long splitter (Some c) a b within says x y =
    let own : says.hash ≡ hash = some_same says.hash hash (sym says.splitter ∙ splitter) in
    chosen_opens allowed hash f.salt now said long c a b within (subst (λ h. SaysDerivation (derivation_by h c) now) own says.derivation) y

-- and the cipher of an area that is said alike is allowed alike, for keys of one length
cipher_both : (older : Bool) (n m : ℕ) (d f : Value) (a b : AreaCipher) → n ≡ m → text_of (member_at f outer.Area name.Encryption) ≡ text_of (member_at d outer.Area name.Encryption)
    → IsLuks2Cipher d a → IsLuks2Cipher f b → (is_allowed_cipher older a ≡ is_allowed_cipher older b) × (is_key_size a n ≡ is_key_size b m)
cipher_both older n m d f (Apart c e) b size same x y = absurd x
cipher_both older n m d f (Whole t) (Apart c e) size same x y = absurd y
cipher_both false n m d f (Whole t) (Whole u) size same x y = let text : t.now ≡ u.now = some_same t.now u.now (sym x ∙ sym same ∙ y) in (simp text, simp (text, size))
cipher_both true n m d f (Whole t) (Whole u) size same x y = let text : t.now ≡ u.now = some_same t.now u.now (sym x ∙ sym same ∙ y) in (simp text, simp (text, size))

-- what decides whether two plans are refused is the same
record SameTerms (allowed : Allowed) (a b : SlotPlan) : Type 0 where
  argon2 : is_argon2_refused allowed.memory a.derivation ≡ is_argon2_refused allowed.memory b.derivation
  known : is_known_derivation allowed.older a.derivation ≡ is_known_derivation allowed.older b.derivation
  cipher : is_allowed_cipher allowed.older a.cipher ≡ is_allowed_cipher allowed.older b.cipher
  size : is_key_size a.cipher a.area_key_bytes ≡ is_key_size b.cipher b.area_key_bytes
  splitter_hash : a.splitter_hash.now ≡ b.splitter_hash.now
  digest_hash : a.digest.hash.now ≡ b.digest.hash.now

same_refusal : (allowed : Allowed) (a b : SlotPlan) → SameTerms allowed a b → slot_refusal_within allowed a ≡ slot_refusal_within allowed b
same_refusal allowed a b s = simp (s.argon2, s.known, s.cipher, s.size, s.splitter_hash, s.digest_hash)

-- where a plan isn't refused, its hashes are known
open_hashes : (test cipher known size : Bool)
    → (if test then Some refusal.Argon2 else if not cipher then Some refusal.Cipher else if not known then Some refusal.Hash else if not size then Some refusal.KeySize else None) ≡ None
    → known ≡ true
open_hashes true cipher known size is = absurd cc
open_hashes false false known size is = absurd cc
open_hashes false true false size is = absurd cc
open_hashes false true true size is = refl

-- a plan by an object of the keyslot `old`, whatever it derives by
pub record IsSealedPlan (old : Value) (plan : SlotPlan) : Type 0 where
  pub cipher : IsLuks2Cipher old plan.cipher
  pub area_key_bytes : number_in 1 128 (member_at old outer.Area name.KeySize) ≡ Some plan.area_key_bytes
  pub splitter_hash : text_of (member_at old outer.Af name.Hash) ≡ Some plan.splitter_hash.now

-- its hashes are known where it isn't refused
open_known : (allowed : Allowed) (a : SlotPlan) → slot_refusal_within allowed a ≡ None → are_known_hashes allowed.older a ≡ true
open_known allowed a open_ =
    open_hashes (is_argon2_refused allowed.memory a.derivation) (is_allowed_cipher allowed.older a.cipher) (are_known_hashes allowed.older a) (is_key_size a.cipher a.area_key_bytes) open_

pub sealed_refusal : {k d f : Value} {n : ℕ} (allowed : Allowed) (a b : SlotPlan) → SaysSealing d f → OpensAlike allowed a.splitter_hash.now a.derivation b.derivation
    → slot_refusal_within allowed a ≡ None → IsSealedPlan d a → IsLuks2Plan k n f b → a.digest.hash.now ≡ b.digest.hash.now → slot_refusal_within allowed a ≡ slot_refusal_within allowed b
sealed_refusal {k} {d} {f} {n} allowed a b like alike open_ x y hash =
    let off : is_argon2_refused allowed.memory a.derivation ≡ false = allowed_derivation allowed a open_ (is_argon2_refused allowed.memory a.derivation) refl in
    let both = and_parts (is_known_derivation allowed.older a.derivation && is_known_hash allowed.older a.splitter_hash.now) (is_known_hash allowed.older a.digest.hash.now)
    (open_known allowed a open_) in
    let own = and_parts (is_known_derivation allowed.older a.derivation) (is_known_hash allowed.older a.splitter_hash.now) both.0 in
    let size : a.area_key_bytes ≡ b.area_key_bytes = some_same a.area_key_bytes b.area_key_bytes (sym x.area_key_bytes ∙ sym like.area_key ∙ y.area_key_bytes) in
    let cipher = cipher_both allowed.older a.area_key_bytes b.area_key_bytes d f a.cipher b.cipher size like.encryption x.cipher y.cipher in
    same_refusal allowed a b (record {
      argon2 = off ∙ sym (alike.argon2 off);
      known = own.0 ∙ sym (alike.known own.1 own.0);
      cipher = cipher.0;
      size = cipher.1;
      splitter_hash = some_same a.splitter_hash.now b.splitter_hash.now (sym x.splitter_hash ∙ sym like.splitter ∙ y.splitter_hash);
      digest_hash = hash;
    })

pub alike_refusal : {j k d f : Value} {m n : ℕ} (allowed : Allowed) (a b : SlotPlan) → SaysLike allowed d f → slot_refusal_within allowed a ≡ None → IsLuks2Plan j m d a → IsLuks2Plan k n f b
    → a.digest.hash.now ≡ b.digest.hash.now → slot_refusal_within allowed a ≡ slot_refusal_within allowed b
alike_refusal {j} {k} {d} {f} {m} {n} allowed a b like open_ x y hash =
    sealed_refusal allowed a b like.sealing (like.derived a.derivation b.derivation a.splitter_hash.now x.derivation y.derivation x.splitter_hash) open_
    (record { cipher = x.cipher; area_key_bytes = x.area_key_bytes; splitter_hash = x.splitter_hash }) y hash

-- ---- keyslots of new volumes

-- what they say of their sealing is accepted
fresh_cipher : (older : Bool) (n : ℕ) (f : Value) (c : AreaCipher) → text_of (member_at f outer.Area name.Encryption) ≡ Some (codes "aes-xts-plain64") → n ≡ 64 → IsLuks2Cipher f c
    → (is_allowed_cipher older c ≡ true) × (is_key_size c n ≡ true)
fresh_cipher older n f (Apart a b) says size x = absurd x
fresh_cipher false n f (Whole t) says size x = let text : t.now ≡ codes "aes-xts-plain64" = some_same t.now (codes "aes-xts-plain64") (sym x ∙ says) in (simp text, simp (text, size))
fresh_cipher true n f (Whole t) says size x = let text : t.now ≡ codes "aes-xts-plain64" = some_same t.now (codes "aes-xts-plain64") (sym x ∙ says) in (simp text, simp (text, size))

-- so one isn't refused that derives as is allowed, by a digest whose hash is known
pub fresh_refusal : {k f : Value} {n : ℕ} (allowed : Allowed) (b : SlotPlan) → IsLuks2Plan k n f b → text_of (member_at f outer.Area name.Encryption) ≡ Some (codes "aes-xts-plain64")
    → number_in 1 128 (member_at f outer.Area name.KeySize) ≡ Some 64 → is_argon2_refused allowed.memory b.derivation ≡ false → is_known_derivation allowed.older b.derivation ≡ true
    → is_known_hash allowed.older b.splitter_hash.now ≡ true → is_known_hash allowed.older b.digest.hash.now ≡ true → slot_refusal_within allowed b ≡ None
fresh_refusal {k} {f} {n} allowed b is encryption size off derived splitter digest =
    let long : b.area_key_bytes ≡ 64 = some_same b.area_key_bytes 64 (sym is.area_key_bytes ∙ size) in
    let cipher = fresh_cipher allowed.older b.area_key_bytes f b.cipher encryption long is.cipher in
    simp (off, cipher.0, cipher.1, derived, splitter, digest)
