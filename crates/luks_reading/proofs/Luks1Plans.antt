-- A keyslot of LUKS1 has one plan.
use Rattle.std.proofs.Common.{◌≡◌, ℕ, List, Bool, true, false, refl, ap, sym, ◌∙◌}
use Rattle.luks1_header.specs.Header1.{entry}
use Rattle.luks_slot.specs.declared.plan.AreaCipher.{AreaCipher}
use Rattle.luks_slot.specs.declared.plan.AreaCipher.TheVariants.{Apart, Whole}
use Rattle.luks_slot.specs.declared.plan.Derivation.{Derivation}
use Rattle.luks_slot.specs.declared.plan.Derivation.TheVariants.{Pbkdf2, Argon2}
use Rattle.luks_slot.specs.declared.plan.SlotPlan.{SlotPlan}
use Rattle.luks_slot.specs.Opening.{area_key_by}
use Rattle.luks_slot.specs.Ciphers.{cipher_of, is_size_of}
use Rattle.luks_slot.specs.Refusal.{is_allowed_cipher, is_argon2, is_argon2_refused, is_key_size, is_known_derivation, is_known_hash}
use Rattle.luks_reading.specs.Plans.{IsLuks1Cipher, IsLuks1Derivation, HasLuks1Plan}
use Rattle.luks_reading.proofs.SamePlans.{SameFields}

argon2_of : (h e : List ℕ) (a b : Derivation) → IsLuks1Derivation h e a → IsLuks1Derivation h e b → is_argon2 a ≡ is_argon2 b
argon2_of h e (Pbkdf2 k i s) (Pbkdf2 l j t) x y = refl
argon2_of h e (Pbkdf2 k i s) (Argon2 c) x y = absurd y
argon2_of h e (Argon2 c) b x y = absurd x

refused_of : (h e : List ℕ) (a b : Derivation) (memory : ℕ) → IsLuks1Derivation h e a → IsLuks1Derivation h e b → is_argon2_refused memory a ≡ is_argon2_refused memory b
refused_of h e (Pbkdf2 k i s) (Pbkdf2 l j t) memory x y = refl
refused_of h e (Pbkdf2 k i s) (Argon2 c) memory x y = absurd y
refused_of h e (Argon2 c) b memory x y = absurd x

known_of : (h e : List ℕ) (a b : Derivation) → IsLuks1Derivation h e a → IsLuks1Derivation h e b → (older : Bool)
    → is_known_derivation older a ≡ is_known_derivation older b
known_of h e (Pbkdf2 k i s) (Pbkdf2 l j t) x y older = ap (is_known_hash older) (x.0 ∙ sym y.0)
known_of h e (Pbkdf2 k i s) (Argon2 c) x y older = absurd y
known_of h e (Argon2 c) b x y older = absurd x

key_of : (h e : List ℕ) (a b : Derivation) → IsLuks1Derivation h e a → IsLuks1Derivation h e b
    → (n : ℕ) (p : List ℕ) → area_key_by a n p ≡ area_key_by b n p
key_of h e (Pbkdf2 k i s) (Pbkdf2 l j t) x y n p =
    let hash = x.0 ∙ sym y.0 in
    let turns = x.1 ∙ sym y.1 in
    let salt = x.2 ∙ sym y.2 in
    simp (hash, turns, salt)
key_of h e (Pbkdf2 k i s) (Argon2 c) x y n p = absurd y
key_of h e (Argon2 c) b x y n p = absurd x

allowed_of : (h : List ℕ) (a b : AreaCipher) → IsLuks1Cipher h a → IsLuks1Cipher h b → (older : Bool) → is_allowed_cipher older a ≡ is_allowed_cipher older b
allowed_of h (Apart n m) (Apart k l) x y false =
    let name = x.0 ∙ sym y.0 in
    let mode = x.1 ∙ sym y.1 in
    simp (name, mode)
allowed_of h (Apart n m) (Apart k l) x y true =
    let name = x.0 ∙ sym y.0 in
    let mode = x.1 ∙ sym y.1 in
    simp (name, mode)
allowed_of h (Apart n m) (Whole t) x y older = absurd y
allowed_of h (Whole t) b x y older = absurd x

sector_cipher_of : (h : List ℕ) (a b : AreaCipher) → IsLuks1Cipher h a → IsLuks1Cipher h b → cipher_of a ≡ cipher_of b
sector_cipher_of h (Apart n m) (Apart k l) x y =
    let name = x.0 ∙ sym y.0 in
    let mode = x.1 ∙ sym y.1 in
    simp (name, mode)
sector_cipher_of h (Apart n m) (Whole t) x y = absurd y
sector_cipher_of h (Whole t) b x y = absurd x

key_size_of : (h : List ℕ) (a b : AreaCipher) → IsLuks1Cipher h a → IsLuks1Cipher h b → (n : ℕ) → is_key_size a n ≡ is_key_size b n
key_size_of h a b x y n = ap (λ c. is_size_of c n) (sector_cipher_of h a b x y)

pub one_luks1_plan : (h : List ℕ) (n : ℕ) (a b : SlotPlan) → HasLuks1Plan h n a → HasLuks1Plan h n b → SameFields a b
one_luks1_plan h n a b x y = record {
  argon2 = argon2_of h (entry h n) a.derivation b.derivation x.is.derivation y.is.derivation;
  argon2_refused = λ memory. refused_of h (entry h n) a.derivation b.derivation memory x.is.derivation y.is.derivation;
  known = known_of h (entry h n) a.derivation b.derivation x.is.derivation y.is.derivation;
  key = key_of h (entry h n) a.derivation b.derivation x.is.derivation y.is.derivation;
  cipher = allowed_of h a.cipher b.cipher x.is.cipher y.is.cipher;
  sector_cipher = sector_cipher_of h a.cipher b.cipher x.is.cipher y.is.cipher;
  key_size = key_size_of h a.cipher b.cipher x.is.cipher y.is.cipher;
  start = x.is.start ∙ sym y.is.start;
  len = x.is.len ∙ sym y.is.len;
  area_key_bytes = x.is.area_key_bytes ∙ sym y.is.area_key_bytes;
  key_bytes = x.is.key_bytes ∙ sym y.is.key_bytes;
  stripes = x.is.stripes ∙ sym y.is.stripes;
  splitter_hash = x.is.splitter_hash ∙ sym y.is.splitter_hash;
  digest_hash = x.is.digest.hash ∙ sym y.is.digest.hash;
  digest_iterations = x.is.digest.iterations ∙ sym y.is.digest.iterations;
  digest_salt = x.is.digest.salt ∙ sym y.is.digest.salt;
  digest_stored = x.is.digest.stored ∙ sym y.is.digest.stored;
}
