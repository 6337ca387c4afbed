-- A copied keyslot gives the key that it gave.
use Rattle.std.proofs.Common.{◌≡◌, ℕ, zero, suc, ◌+◌, ◌*◌, ◌≤◌, List, ◌++◌, Bool, true, false, ◌||◌, ◌⊎◌, codes, Some, None, is_some, if◌then◌else◌, bytes_eq, true≢false, refl, sym, ap, subst, ◌∙◌, arith, inl, inr}
use Rattle.std.proofs.lemmas.Bool.{and_parts, cases_Bool}
use Rattle.std.proofs.lemmas.Slice.Eq.{bytes_eq-Decides}
use Rattle.luks_area.specs.Ranges.{part}
use Rattle.luks_area.proofs.RangeFacts.{part-part}
use Rattle.luks_area.specs.Sectors.{sector_count}
use Rattle.luks_slot.specs.declared.allowed.Allowed.{Allowed}
use Rattle.luks_slot.specs.declared.plan.AreaCipher.{AreaCipher}
use Rattle.luks_slot.specs.declared.plan.AreaCipher.TheVariants.{Apart, Whole}
use Rattle.luks_slot.specs.declared.plan.Derivation.{Derivation}
use Rattle.luks_slot.specs.declared.plan.Derivation.TheVariants.{Pbkdf2, Argon2}
use Rattle.luks_slot.specs.declared.plan.SlotPlan.{SlotPlan}
use Rattle.luks_slot.specs.Ciphers.{cipher_named, cipher_of, ivs_of_mode, sector_opened}
use Rattle.luks_slot.specs.Opening.{area_key, area_key_by, candidate, opened_sector, opened_sectors, slot_key, stripes_from, stripes_in}
use Rattle.luks_slot.specs.Refusal.{is_allowed_cipher, is_argon2, is_argon2_refused, is_known_derivation, is_known_hash, is_older_cipher, is_open_cipher, slot_refusal_within}
use Rattle.luks_slot.specs.declared.fault.SlotFault.TheVariants.{Argon2 as Argon2Fault, Cipher}
use Rattle.luks_reading.proofs.SamePlans.{same_key as same_plan_key, same_refusal_within, SameFields}
use Rattle.luks_converting.specs.Copied.{HasSameSectors, IsCopiedPlan, IsJoinedCipher, IsSameDerivation}

-- ---- sectors

-- a part of the front of a list is that part of the list
front_part : (a : List ℕ) (n i len : ℕ) → i + len ≤ n → part (part a 0 n) i len ≡ part a i len
front_part a n i len inside = part-part a 0 n i len inside ∙ ap (λ p. part a p len) (omega arith)

-- what the front of an area decrypts to depends on that front alone
same_sectors : (plan : SlotPlan) (p a b : List ℕ) (n : ℕ) → part a 0 (512 * n) ≡ part b 0 (512 * n) → opened_sectors (area_key plan p) a n ≡ opened_sectors (area_key plan p) b n
unfolding opened_sectors opened_sector
same_sectors plan p a b zero same = refl
same_sectors plan p a b (suc n) same =
    let front : part a 0 (512 * n) ≡ part b 0 (512 * n) =
    sym (front_part a (512 * suc n) 0 (512 * n) (omega arith)) ∙ ap (λ v. part v 0 (512 * n)) same ∙ front_part b (512 * suc n) 0 (512 * n) (omega arith) in
    let last : part a (512 * n) 512 ≡ part b (512 * n) 512 =
    sym (front_part a (512 * suc n) (512 * n) 512 (omega arith)) ∙ ap (λ v. part v (512 * n) 512) same ∙ front_part b (512 * suc n) (512 * n) 512 (omega arith) in
    let before = same_sectors plan p a b n front in
    ap (λ rows. rows ++ sector_opened (area_key plan p) n (part a (512 * n) 512)) before ∙ ap (λ sector. opened_sectors (area_key plan p) b n ++ sector_opened (area_key plan p) n sector) last

-- ---- the key

-- the sectors that a plan takes decide what it gives
same_rows : (a : SlotPlan) (area copy passphrase : List ℕ) → HasSameSectors a area copy → slot_key a area passphrase ≡ slot_key a copy passphrase
unfolding slot_key candidate stripes_in stripes_from
same_rows a area copy passphrase same = rw (same_sectors a passphrase area copy (sector_count (a.key_bytes * a.stripes)) same) refl

-- derivations that say the same
record Alike (a b : Derivation) : Type 0 where
  argon2 : is_argon2 a ≡ is_argon2 b
  argon2_refused : (memory : ℕ) → is_argon2_refused memory a ≡ is_argon2_refused memory b
  known : (older : Bool) → is_known_derivation older a ≡ is_known_derivation older b
  key : (n : ℕ) (p : List ℕ) → area_key_by a n p ≡ area_key_by b n p

alike : (a b : Derivation) → IsSameDerivation a b → Alike a b
alike (Pbkdf2 h i s) (Pbkdf2 k j t) x = record {
  argon2 = refl;
  argon2_refused = λ memory. refl;
  known = λ older. ap (is_known_hash older) x.0;
  key = λ n p. simp (x.0, x.1, x.2);
}
alike (Pbkdf2 h i s) (Argon2 c) x = absurd x
alike (Argon2 c) b x = absurd x

-- the plan `a` with the cipher and the area of the plan `b`
abbrev moved : SlotPlan → SlotPlan → SlotPlan
moved a b = record a { cipher = b.cipher; area = b.area }

same_fields : (a b : SlotPlan) → IsCopiedPlan a b → SameFields (moved a b) b
same_fields a b x =
    let derivation = alike a.derivation b.derivation x.derivation in
    record {
      argon2 = derivation.argon2;
      argon2_refused = derivation.argon2_refused;
      known = derivation.known;
      key = derivation.key;
      cipher = λ older. refl;
      sector_cipher = refl;
      key_size = λ n. refl;
      start = refl;
      len = refl;
      area_key_bytes = x.area_key_bytes;
      key_bytes = x.key_bytes;
      stripes = x.stripes;
      splitter_hash = x.splitter_hash;
      digest_hash = x.digest.hash;
      digest_iterations = x.digest.iterations;
      digest_salt = x.digest.salt;
      digest_stored = x.digest.stored;
    }

-- the joined text names the cipher that the two texts name
joined_cipher : (a b : AreaCipher) → IsJoinedCipher a b → cipher_of a ≡ cipher_of b
joined_cipher (Apart n m) (Whole t) is = ap cipher_named (sym is)
joined_cipher (Apart n m) (Apart k l) is = absurd is
joined_cipher (Whole t) b is = absurd is

-- of cipher and area that cipher alone decides the key
key_moved : (a b : SlotPlan) (area passphrase : List ℕ) → cipher_of a.cipher ≡ cipher_of b.cipher → slot_key a area passphrase ≡ slot_key (moved a b) area passphrase
unfolding slot_key candidate area_key stripes_in
key_moved a b area passphrase same = rw same refl

pub same_key : (a b : SlotPlan) (area copy passphrase : List ℕ) → IsCopiedPlan a b → HasSameSectors a area copy → slot_key a area passphrase ≡ slot_key b copy passphrase
same_key a b area copy passphrase x same =
    same_rows a area copy passphrase same ∙ key_moved a b copy passphrase (joined_cipher a.cipher b.cipher x.cipher) ∙ same_plan_key (moved a b) b copy passphrase (same_fields a b x)

-- ---- refusals

either : (p q : Bool) → (p || q) ≡ true → ((p ≡ true) ⊎ (q ≡ true))
either true q e = inl refl
either false q e = inr e

right : (p q : Bool) → q ≡ true → (p || q) ≡ true
right true q e = refl
right false q e = e

-- a cipher that opens by its two texts does so by the joined one
joined_opens : (a b : AreaCipher) → IsJoinedCipher a b → is_open_cipher a ≡ true → is_open_cipher b ≡ true
joined_opens (Apart n m) (Whole t) is open_ =
    let parts = and_parts _ _ open_ in
    let name : n.now ≡ codes "aes" = (bytes_eq-Decides n.now (codes "aes")).0 parts.0 in
    elim (either _ _ parts.1) [
      | inl e ↦ (let mode : m.now ≡ codes "xts-plain64" = (bytes_eq-Decides m.now (codes "xts-plain64")).0 e in rw (is, name, mode) refl)
      | inr e ↦ (let mode : m.now ≡ codes "xts-plain" = (bytes_eq-Decides m.now (codes "xts-plain")).0 e in rw (is, name, mode) refl)
    ]
joined_opens (Apart n m) (Apart k l) is open_ = absurd is
joined_opens (Whole t) b is open_ = absurd is

-- and so does one of older disks
mode_of : (m : List ℕ) → is_some (ivs_of_mode m) ≡ true → (m ≡ codes "cbc-essiv:sha256") ⊎ ((m ≡ codes "cbc-plain") ⊎ (m ≡ codes "cbc-plain64"))
mode_of m is = elim (cases_Bool (bytes_eq m (codes "cbc-essiv:sha256"))) [
  | inl essiv ↦ inl ((bytes_eq-Decides m (codes "cbc-essiv:sha256")).0 essiv)
  | inr not_essiv ↦ inr (elim (cases_Bool (bytes_eq m (codes "cbc-plain"))) [
    | inl plain ↦ inl ((bytes_eq-Decides m (codes "cbc-plain")).0 plain)
    | inr not_plain ↦ inr (elim (cases_Bool (bytes_eq m (codes "cbc-plain64"))) [
      | inl long ↦ (bytes_eq-Decides m (codes "cbc-plain64")).0 long
      | inr not_long ↦ absurd (let none : is_some (ivs_of_mode m) ≡ false = rw (not_essiv, not_plain, not_long) refl in true≢false (sym is ∙ none))
    ])
  ])
]

joined_older : (a b : AreaCipher) → IsJoinedCipher a b → is_older_cipher a ≡ true → is_older_cipher b ≡ true
joined_older (Apart n m) (Whole t) is older = elim (cases_Bool (bytes_eq n.now (codes "aes"))) [
  | inl aes ↦ (
      let name : n.now ≡ codes "aes" = (bytes_eq-Decides n.now (codes "aes")).0 aes in
      let known : is_some (ivs_of_mode m.now) ≡ true = subst (λ (b : Bool). is_some (if b then ivs_of_mode m.now else None) ≡ true) aes older in
      elim (mode_of m.now known) [
        | inl mode ↦ rw (is, name, mode) refl
        | inr other ↦ elim other [
          | inl mode ↦ rw (is, name, mode) refl
          | inr mode ↦ rw (is, name, mode) refl
        ]
      ])
  | inr other ↦ absurd (let none : is_older_cipher (Apart n m) ≡ false = rw other refl in true≢false (sym older ∙ none))
]
joined_older (Apart n m) (Apart k l) is older = absurd is
joined_older (Whole t) b is older = absurd is

joined_allowed : (older : Bool) (a b : AreaCipher) → IsJoinedCipher a b → is_allowed_cipher older a ≡ true → is_allowed_cipher older b ≡ true
joined_allowed false a b is was = joined_opens a b is was
joined_allowed true a b is was = elim (either _ _ was) [
  | inl e ↦ rw (joined_opens a b is e) refl
  | inr e ↦ right (is_open_cipher b) (is_older_cipher b) (joined_older a b is e)
]

-- a plan that isn't refused: its derivation, and its cipher is allowed
not_argon2 : (allowed : Allowed) (plan : SlotPlan) → slot_refusal_within allowed plan ≡ None → (b : Bool) → is_argon2_refused allowed.memory plan.derivation ≡ b → b ≡ false
not_argon2 allowed plan none false is = refl
not_argon2 allowed plan none true is = let some : slot_refusal_within allowed plan ≡ Some Argon2Fault = rw is refl in absurd (let both : Some Argon2Fault ≡ None = sym some ∙ none in cc)

allowed_cipher : (allowed : Allowed) (plan : SlotPlan) → slot_refusal_within allowed plan ≡ None → is_argon2_refused allowed.memory plan.derivation ≡ false
    → (b : Bool) → is_allowed_cipher allowed.older plan.cipher ≡ b → b ≡ true
allowed_cipher allowed plan none derived true is = refl
allowed_cipher allowed plan none derived false is =
    let some : slot_refusal_within allowed plan ≡ Some Cipher = rw (derived, is) refl in absurd (let both : Some Cipher ≡ None = sym some ∙ none in cc)

-- nor does the area of a refusal, or the cipher where both are allowed
refusal_moved : (allowed : Allowed) (a b : SlotPlan) → is_allowed_cipher allowed.older a.cipher ≡ is_allowed_cipher allowed.older b.cipher → cipher_of a.cipher ≡ cipher_of b.cipher
    → slot_refusal_within allowed a ≡ slot_refusal_within allowed (moved a b)
refusal_moved allowed a b same cipher = simp (same, cipher)

pub still_unrefused : (allowed : Allowed) (a b : SlotPlan) → IsCopiedPlan a b → slot_refusal_within allowed a ≡ None → slot_refusal_within allowed b ≡ None
still_unrefused allowed a b x none =
    let derived = not_argon2 allowed a none (is_argon2_refused allowed.memory a.derivation) refl in
    let was : is_allowed_cipher allowed.older a.cipher ≡ true = allowed_cipher allowed a none derived (is_allowed_cipher allowed.older a.cipher) refl in
    let now : is_allowed_cipher allowed.older b.cipher ≡ true = joined_allowed allowed.older a.cipher b.cipher x.cipher was in
    let cipher = joined_cipher a.cipher b.cipher x.cipher in
    sym (refusal_moved allowed a b (was ∙ sym now) cipher ∙ same_refusal_within allowed (moved a b) b (same_fields a b x)) ∙ none
