-- A keyslot of LUKS2 has one plan.
use Rattle.std.proofs.Common.{◌≡◌, ℕ, List, Bool, true, false, refl, sym, ap, ◌∙◌, subst, Option, Some, unwrap_or}
use Rattle.serde_json.specs.Data.{Data}
use Rattle.luks_rules.specs.declared.table.Member.TheVariants as name
use Rattle.luks_rules.specs.declared.table.Outer.TheVariants as outer
use Rattle.luks_rules.specs.declared.table.Section.TheVariants.{Digests, Keyslots}
use Rattle.luks_meta.specs.Faults.{object_at}
use Rattle.luks_meta.specs.MetaFault.{Json}
use Rattle.luks_meta.specs.Naming.{IsDigestOf}
use Rattle.luks_meta.specs.Reading.{number_in, decimal_in, bytes_in, text_of}
use Rattle.luks_meta.specs.Says.{member_at, small_at}
use Rattle.luks_slot.specs.declared.plan.Argon2Kind.{Argon2Kind}
use Rattle.luks_slot.specs.declared.plan.Argon2Kind.TheVariants.{I, Id}
use Rattle.luks_slot.specs.declared.plan.AreaCipher.{AreaCipher}
use Rattle.luks_slot.specs.declared.plan.AreaCipher.TheVariants.{Apart, Whole}
use Rattle.luks_slot.specs.declared.plan.Derivation.{Derivation}
use Rattle.luks_slot.specs.declared.plan.Derivation.TheVariants.{Pbkdf2, Argon2}
use Rattle.luks_slot.specs.declared.plan.DigestPlan.{DigestPlan}
use Rattle.luks_slot.specs.declared.plan.SlotPlan.{SlotPlan}
use Rattle.luks_slot.specs.Opening.{area_key_by}
use Rattle.luks_slot.specs.Ciphers.{cipher_of, is_size_of}
use Rattle.luks_slot.specs.Refusal.{is_allowed_cipher, is_argon2, is_argon2_refused, is_key_size, is_known_derivation, is_known_hash}
use Rattle.luks_reading.proofs.PlanFacts.{no_pbkdf2}
use Rattle.luks_reading.specs.Plans.{kind_text, IsLuks2Cipher, IsLuks2Derivation, IsLuks2Digest, IsLuks2Plan, HasLuks2Plan}
use Rattle.luks_reading.proofs.SamePlans.{SameFields}

same_text : (o : Option (List ℕ)) (a b : List ℕ) → o ≡ Some a → o ≡ Some b → a ≡ b
same_text o a b p q = ap (λ v. unwrap_or v a) (sym p ∙ q)

same_number : (o : Option ℕ) (a b : ℕ) → o ≡ Some a → o ≡ Some b → a ≡ b
same_number o a b p q = ap (λ v. unwrap_or v a) (sym p ∙ q)

same_object : (o : Option Data) (a b : Data) → o ≡ Some a → o ≡ Some b → a ≡ b
same_object o a b p q = ap (λ v. unwrap_or v a) (sym p ∙ q)

-- a type is that of one kind
same_kind : (a b : Argon2Kind) → Some (kind_text a) ≡ Some (kind_text b) → a ≡ b
same_kind I I same = refl
same_kind Id Id same = refl
same_kind I Id same = absurd (cc)
same_kind Id I same = absurd (cc)

argon2_of : (d : Data) (a b : Derivation) → IsLuks2Derivation d a → IsLuks2Derivation d b → is_argon2 a ≡ is_argon2 b
argon2_of d (Pbkdf2 k i s) (Pbkdf2 l j t) x y = refl
argon2_of d (Pbkdf2 k i s) (Argon2 c) x y = absurd (no_pbkdf2 d c y x.0)
argon2_of d (Argon2 c) (Pbkdf2 k i s) x y = absurd (no_pbkdf2 d c x y.0)
argon2_of d (Argon2 c) (Argon2 f) x y = refl

refused_of : (d : Data) (a b : Derivation) (kib : ℕ) → IsLuks2Derivation d a → IsLuks2Derivation d b → is_argon2_refused kib a ≡ is_argon2_refused kib b
refused_of d (Pbkdf2 k i s) (Pbkdf2 l j t) kib x y = refl
refused_of d (Pbkdf2 k i s) (Argon2 c) kib x y = absurd (no_pbkdf2 d c y x.0)
refused_of d (Argon2 c) (Pbkdf2 k i s) kib x y = absurd (no_pbkdf2 d c x y.0)
refused_of d (Argon2 c) (Argon2 f) kib x y =
    let memory = same_number (small_at d outer.Kdf name.Memory) c.memory f.memory x.2 y.2 in
    let cpus = same_number (small_at d outer.Kdf name.Cpus) c.cpus f.cpus x.3 y.3 in
    let salt = same_text (bytes_in 1 128 (member_at d outer.Kdf name.Salt)) c.salt.now f.salt.now x.4 y.4 in
    simp (memory, cpus, salt)

known_of : (d : Data) (a b : Derivation) → IsLuks2Derivation d a → IsLuks2Derivation d b → (older : Bool) → is_known_derivation older a ≡ is_known_derivation older b
known_of d (Pbkdf2 k i s) (Pbkdf2 l j t) x y older = ap (is_known_hash older) (same_text (text_of (member_at d outer.Kdf name.Hash)) k.now l.now x.1 y.1)
known_of d (Pbkdf2 k i s) (Argon2 c) x y older = absurd (no_pbkdf2 d c y x.0)
known_of d (Argon2 c) (Pbkdf2 k i s) x y older = absurd (no_pbkdf2 d c x y.0)
known_of d (Argon2 c) (Argon2 f) x y older = refl

key_of : (d : Data) (a b : Derivation) → IsLuks2Derivation d a → IsLuks2Derivation d b
    → (n : ℕ) (p : List ℕ) → area_key_by a n p ≡ area_key_by b n p
key_of d (Pbkdf2 k i s) (Pbkdf2 l j t) x y n p =
    let hash = same_text (text_of (member_at d outer.Kdf name.Hash)) k.now l.now x.1 y.1 in
    let turns = same_number (small_at d outer.Kdf name.Iterations) i j x.2 y.2 in
    let salt = same_text (bytes_in 1 128 (member_at d outer.Kdf name.Salt)) s.now t.now x.3 y.3 in
    simp (hash, turns, salt)
key_of d (Pbkdf2 k i s) (Argon2 c) x y n p = absurd (no_pbkdf2 d c y x.0)
key_of d (Argon2 c) (Pbkdf2 k i s) x y n p = absurd (no_pbkdf2 d c x y.0)
key_of d (Argon2 c) (Argon2 f) x y n p =
    let kind = same_kind c.kind f.kind (sym x.0 ∙ y.0) in
    let time = same_number (small_at d outer.Kdf name.Time) c.time f.time x.1 y.1 in
    let memory = same_number (small_at d outer.Kdf name.Memory) c.memory f.memory x.2 y.2 in
    let cpus = same_number (small_at d outer.Kdf name.Cpus) c.cpus f.cpus x.3 y.3 in
    let salt = same_text (bytes_in 1 128 (member_at d outer.Kdf name.Salt)) c.salt.now f.salt.now x.4 y.4 in
    simp (kind, time, memory, cpus, salt)

allowed_of : (d : Data) (a b : AreaCipher) → IsLuks2Cipher d a → IsLuks2Cipher d b → (older : Bool) → is_allowed_cipher older a ≡ is_allowed_cipher older b
allowed_of d (Apart n m) b x y older = absurd x
allowed_of d (Whole t) (Apart n m) x y older = absurd y
allowed_of d (Whole t) (Whole u) x y false = let text = same_text (text_of (member_at d outer.Area name.Encryption)) t.now u.now x y in simp text
allowed_of d (Whole t) (Whole u) x y true = let text = same_text (text_of (member_at d outer.Area name.Encryption)) t.now u.now x y in simp text

sector_cipher_of : (d : Data) (a b : AreaCipher) → IsLuks2Cipher d a → IsLuks2Cipher d b → cipher_of a ≡ cipher_of b
sector_cipher_of d (Apart n m) b x y = absurd x
sector_cipher_of d (Whole t) (Apart n m) x y = absurd y
sector_cipher_of d (Whole t) (Whole u) x y = let text = same_text (text_of (member_at d outer.Area name.Encryption)) t.now u.now x y in simp text

key_size_of : (d : Data) (a b : AreaCipher) → IsLuks2Cipher d a → IsLuks2Cipher d b → (n : ℕ) → is_key_size a n ≡ is_key_size b n
key_size_of d a b x y n = ap (λ c. is_size_of c n) (sector_cipher_of d a b x y)

-- the digest of a keyslot is one
same_digest_object : (j : Data) (n : ℕ) (a b : DigestPlan) → ((m k : ℕ) → IsDigestOf j n m → IsDigestOf j n k → m ≡ k)
    → (x : IsLuks2Digest j n a) (y : IsLuks2Digest j n b) → x.object ≡ y.object
same_digest_object j n a b one x y =
    let number = one x.number y.number x.names y.names in
    same_object (object_at j Digests y.number) x.object y.object (subst (λ m. object_at j Digests m ≡ Some x.object) number x.there) y.there

same_fields : (j : Data) (n : ℕ) (d : Data) (a b : SlotPlan) → ((m k : ℕ) → IsDigestOf j n m → IsDigestOf j n k → m ≡ k)
    → IsLuks2Plan j n d a → IsLuks2Plan j n d b → SameFields a b
same_fields j n d a b one x y =
    let o = x.digest.object in
    let same : y.digest.object ≡ o = sym (same_digest_object j n a.digest b.digest one x.digest y.digest) in
    record {
      argon2 = argon2_of d a.derivation b.derivation x.derivation y.derivation;
      argon2_refused = λ kib. refused_of d a.derivation b.derivation kib x.derivation y.derivation;
      known = known_of d a.derivation b.derivation x.derivation y.derivation;
      key = key_of d a.derivation b.derivation x.derivation y.derivation;
      cipher = allowed_of d a.cipher b.cipher x.cipher y.cipher;
      sector_cipher = sector_cipher_of d a.cipher b.cipher x.cipher y.cipher;
      key_size = key_size_of d a.cipher b.cipher x.cipher y.cipher;
      start = same_number (decimal_in (member_at d outer.Area name.Offset)) a.area.start b.area.start x.start y.start;
      len = same_number (decimal_in (member_at d outer.Area name.Size)) a.area.len b.area.len x.len y.len;
      area_key_bytes = same_number (number_in 1 128 (member_at d outer.Area name.KeySize)) a.area_key_bytes b.area_key_bytes x.area_key_bytes y.area_key_bytes;
      key_bytes = same_number (number_in 1 128 (member_at d outer.Top name.KeySize)) a.key_bytes b.key_bytes x.key_bytes y.key_bytes;
      stripes = same_number (small_at d outer.Af name.Stripes) a.stripes b.stripes x.stripes y.stripes;
      splitter_hash = same_text (text_of (member_at d outer.Af name.Hash)) a.splitter_hash.now b.splitter_hash.now x.splitter_hash y.splitter_hash;
      digest_hash = same_text (text_of (member_at o outer.Top name.Hash)) a.digest.hash.now b.digest.hash.now x.digest.hash
          (subst (λ e. text_of (member_at e outer.Top name.Hash) ≡ Some b.digest.hash.now) same y.digest.hash);
      digest_iterations = same_number (small_at o outer.Top name.Iterations) a.digest.iterations b.digest.iterations x.digest.iterations
          (subst (λ e. small_at e outer.Top name.Iterations ≡ Some b.digest.iterations) same y.digest.iterations);
      digest_salt = same_text (bytes_in 1 128 (member_at o outer.Top name.Salt)) a.digest.salt.now b.digest.salt.now x.digest.salt
          (subst (λ e. bytes_in 1 128 (member_at e outer.Top name.Salt) ≡ Some b.digest.salt.now) same y.digest.salt);
      digest_stored = same_text (bytes_in 20 64 (member_at o outer.Top name.Digest)) a.digest.stored.now b.digest.stored.now x.digest.stored
          (subst (λ e. bytes_in 20 64 (member_at e outer.Top name.Digest) ≡ Some b.digest.stored.now) same y.digest.stored);
    }

-- `j` is the one value of the area, and a keyslot of it has one digest
pub record IsOnly (json : List ℕ) (j : Data) (n : ℕ) : Type 0 where
  pub value : (i : Data) → Json json i → j ≡ i
  pub digest : (m k : ℕ) → IsDigestOf j n m → IsDigestOf j n k → m ≡ k

pub one_luks2_plan : (json : List ℕ) (j : Data) (n : ℕ) (a b : SlotPlan) → IsOnly json j n → HasLuks2Plan json n a → HasLuks2Plan json n b → SameFields a b
one_luks2_plan json j n a b only x y =
    let ex : x.value ≡ j = sym (only.value x.value x.holds) in
    let ey : y.value ≡ j = sym (only.value y.value y.holds) in
    let there_x = subst (λ i. object_at i Keyslots n ≡ Some x.object) ex x.there in
    let there_y = subst (λ i. object_at i Keyslots n ≡ Some y.object) ey y.there in
    let same : y.object ≡ x.object = same_object (object_at j Keyslots n) y.object x.object there_y there_x in
    let plan_x = subst (λ i. IsLuks2Plan i n x.object a) ex x.is in
    let plan_y = subst (λ i. IsLuks2Plan i n y.object b) ey y.is in
    let plan_z = subst (λ o. IsLuks2Plan j n o b) same plan_y in
    same_fields j n x.object a b only.digest plan_x plan_z
