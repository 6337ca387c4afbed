-- Two plans that say the same are refused alike and open alike.
use Rattle.std.proofs.Common.{◌≡◌, ℕ, List, Bool, ap, ◌∙◌}
use Rattle.luks_area.specs.Ranges.{part}
use Rattle.luks_slot.specs.declared.allowed.Allowed.{Allowed}
use Rattle.luks_slot.specs.declared.plan.SlotPlan.{SlotPlan}
use Rattle.luks_slot.specs.Ciphers.{cipher_of, keyed}
use Rattle.luks_slot.specs.Opening.{slot_key, candidate, stripes_in, area_key, area_key_by, meets_digest}
use Rattle.luks_slot.specs.Refusal.{slot_refusal_within, is_allowed_cipher, is_argon2, is_argon2_refused, is_key_size, is_known_derivation}

-- the two plans say the same of what decides
pub record SameFields (a b : SlotPlan) : Type 0 where
  pub argon2 : is_argon2 a.derivation ≡ is_argon2 b.derivation
  pub argon2_refused : (memory : ℕ) → is_argon2_refused memory a.derivation ≡ is_argon2_refused memory b.derivation
  pub known : (older : Bool) → is_known_derivation older a.derivation ≡ is_known_derivation older b.derivation
  pub key : (n : ℕ) (p : List ℕ) → area_key_by a.derivation n p ≡ area_key_by b.derivation n p
  pub cipher : (older : Bool) → is_allowed_cipher older a.cipher ≡ is_allowed_cipher older b.cipher
  pub sector_cipher : cipher_of a.cipher ≡ cipher_of b.cipher
  pub key_size : (n : ℕ) → is_key_size a.cipher n ≡ is_key_size b.cipher n
  pub start : a.area.start ≡ b.area.start
  pub len : a.area.len ≡ b.area.len
  pub area_key_bytes : a.area_key_bytes ≡ b.area_key_bytes
  pub key_bytes : a.key_bytes ≡ b.key_bytes
  pub stripes : a.stripes ≡ b.stripes
  pub splitter_hash : a.splitter_hash.now ≡ b.splitter_hash.now
  pub digest_hash : a.digest.hash.now ≡ b.digest.hash.now
  pub digest_iterations : a.digest.iterations ≡ b.digest.iterations
  pub digest_salt : a.digest.salt.now ≡ b.digest.salt.now
  pub digest_stored : a.digest.stored.now ≡ b.digest.stored.now

pub same_refusal_within : (allowed : Allowed) (a b : SlotPlan) → SameFields a b → slot_refusal_within allowed a ≡ slot_refusal_within allowed b
same_refusal_within allowed a b s =
    let argon2 = s.argon2_refused allowed.memory in
    let known = s.known allowed.older in
    let cipher = s.cipher allowed.older in
    let size = ap (is_key_size a.cipher) s.area_key_bytes ∙ s.key_size b.area_key_bytes in
    simp (argon2, known, cipher, size, s.splitter_hash, s.digest_hash)

same_area_key : (a b : SlotPlan) (p : List ℕ) → SameFields a b → area_key a p ≡ area_key b p
unfolding area_key
same_area_key a b p s =
    ap (λ bytes. keyed (cipher_of a.cipher) bytes) (ap (λ n. area_key_by a.derivation n p) s.area_key_bytes ∙ s.key b.area_key_bytes p)
    ∙ ap (λ cipher. keyed cipher (area_key_by b.derivation b.area_key_bytes p)) s.sector_cipher

same_stripes : (a b : SlotPlan) (p area : List ℕ) → SameFields a b → stripes_in a (area_key b p) area ≡ stripes_in b (area_key b p) area
unfolding stripes_in
same_stripes a b p area s = simp (s.key_bytes, s.stripes)

same_candidate : (a b : SlotPlan) (area p : List ℕ) → SameFields a b → candidate a area p ≡ candidate b area p
unfolding candidate
same_candidate a b area p s =
    let keys = same_area_key a b p s in
    let stripes = same_stripes a b p area s in
    simp (keys, stripes, s.splitter_hash, s.key_bytes, s.stripes)

pub same_digest : (a b : SlotPlan) (key : List ℕ) → SameFields a b → meets_digest a.digest key ≡ meets_digest b.digest key
unfolding meets_digest
same_digest a b key s = simp (s.digest_hash, s.digest_iterations, s.digest_salt, s.digest_stored)

pub same_key : (a b : SlotPlan) (area p : List ℕ) → SameFields a b → slot_key a area p ≡ slot_key b area p
unfolding slot_key
same_key a b area p s =
    let candidates = same_candidate a b area p s in
    let digests = same_digest a b (candidate b area p) s in
    simp (candidates, digests)

-- so they give the same in a volume
pub same_answer : (a b : SlotPlan) (v p : List ℕ) → SameFields a b
    → slot_key a (part v a.area.start a.area.len) p ≡ slot_key b (part v b.area.start b.area.len) p
same_answer a b v p s =
    same_key a b (part v a.area.start a.area.len) p s
    ∙ ap (λ at. slot_key b (part v at a.area.len) p) s.start
    ∙ ap (λ size. slot_key b (part v b.area.start size) p) s.len
