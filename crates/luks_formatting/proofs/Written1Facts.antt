-- What the steps of formatting by LUKS1 leave: the header of a new volume, and its key area.
use Rattle.std.proofs.Common.{◌≡◌, ℕ, ◌+◌, ◌*◌, ◌≤◌, false, List, length, codes, inl, inr, arith, sym, ap, ◌∙◌, subst, lit<}
use Rattle.luks_area.specs.Ranges.{part, written, IsAt, SameBut, SameOutside}
use Rattle.luks_area.proofs.RangeFacts.{part-same_but_at, part-written, same_but-same_outside, same_but-then, same_but-wider}
use Rattle.luks_area.specs.declared.area.Area.{Area}
use Rattle.luks1_header.specs.Bytes.{text_at, IsUuid}
use Rattle.luks1_header.specs.Header1.{entry, entry_iterations}
use Rattle.luks1_header.specs.Written.{WritesLuks1}
use Rattle.luks1_header.specs.declared.luks1.Luks1.{Luks1}
use Rattle.luks_writing.specs.Cleared.{AreCleared, ClearsInTurn, IsOfFirstSectors}
use Rattle.luks_writing.proofs.MadeInOrderFacts.{clearing_widens}
use Rattle.luks_kdf.specs.Names.{name_of}
use Rattle.luks_slot.specs.Opening.{area_bytes}
use Rattle.luks_slot.specs.Sealing.{IsSealed}
use Rattle.luks_slot.specs.declared.plan.AreaCipher.{AreaCipher}
use Rattle.luks_slot.specs.declared.plan.AreaCipher.TheVariants.{Apart, Whole}
use Rattle.luks_slot.specs.declared.plan.Derivation.{Derivation}
use Rattle.luks_slot.specs.declared.plan.Derivation.TheVariants.{Pbkdf2, Argon2}
use Rattle.luks_slot.specs.declared.plan.SlotPlan.{SlotPlan}
use Rattle.luks_reading.specs.Plans.{HasLuks1Plan, IsLuks1Cipher, IsLuks1Derivation}
use Rattle.luks_reading.specs.declared.format.Format.{Format}
use Rattle.luks_formatting.specs.Formatted1.{ClearsFirst1As, IsFormatted1As, IsOfLuks1, WritesInTurn1}
use Rattle.luks_formatting.specs.NewHeader1.{area1, IsNewCipher1, IsNewHeader1}
use Rattle.luks_formatting.specs.NewPlan.{key_digest, HoldsKey, IsNewDerivation, IsNewPlan}
use Rattle.luks_formatting.specs.RandomBytes.{digest_salt, random_stripes, slot_place1, slot_salt}
use Rattle.luks_formatting.specs.declared.new_cipher.NewCipher.{NewCipher}
use Rattle.luks_formatting.specs.Encrypting.{mode_of, used_bytes}
use Rattle.luks_formatting.proofs.EncryptingFacts.{used_least}
use Rattle.luks_formatting.specs.Given.{first_sector, key_of, uuid_of, IsBefore}
use Rattle.luks_formatting.specs.declared.given.Given.{Given}
use Rattle.luks_formatting.proofs.NewHeader1Facts.{fields, first_start, holds, key_size, slot_len, stripes_at}

-- the used sectors of an area by how long the key is
pub key_rest : {u v : List ℕ} {at n k : ℕ} → n ≡ k → SameBut (IsAt at (used_bytes n)) u v → SameBut (IsAt at (used_bytes k)) u v
key_rest {u} {v} {at} {n} {k} long same = subst (λ (m : ℕ). SameBut (IsAt at (used_bytes m)) u v) long same

-- the key area alone
pub sealed_rest : {u v : List ℕ} (k : ℕ) (area : Area) → area ≡ area1 k → SameBut (IsAt area.start (used_bytes k)) u v → SameBut (IsOfLuks1 k) u v
sealed_rest {u} {v} k area is same =
    let first : SameBut (IsAt 4096 (used_bytes k)) u v = subst (λ (a : Area). SameBut (IsAt a.start (used_bytes k)) u v) is same in
    same_but-wider (λ p at. inr at) first

-- then the header
pub both_rest : {u v w : List ℕ} (k : ℕ) (area : Area) (n : ℕ) → area ≡ area1 k → n ≡ 592 → SameBut (IsAt area.start (used_bytes k)) u v → SameOutside v w 0 n → SameBut (IsOfLuks1 k) u w
both_rest {u} {v} {w} k area n is size same outside =
    let second : SameBut (IsOfLuks1 k) v w = same_but-wider (λ p at. inl at) (subst (λ (m : ℕ). SameBut (IsAt 0 m) v w) size (same_but-same_outside outside)) in
    same_but-then (sealed_rest k area is same) second

derivation_by : (h e : List ℕ) (format : Format) (salt : List ℕ) (d : Derivation) → text_at h 72 32 ≡ name_of format.hash → entry_iterations e ≡ format.iterations → part e 8 32 ≡ salt
    → IsNewDerivation format salt d → IsLuks1Derivation h e d
derivation_by h e format salt (Pbkdf2 hash iterations own) name turns is_salt is = (is.0 ∙ sym name, is.1 ∙ sym turns, is.2 ∙ sym is_salt)
derivation_by h e format salt (Argon2 c) name turns is_salt is = absurd is

cipher_by : (c : NewCipher) (h : List ℕ) (cipher : AreaCipher) → text_at h 8 32 ≡ codes "aes" → text_at h 40 32 ≡ mode_of c → IsNewCipher1 c cipher → IsLuks1Cipher h cipher
cipher_by c h (Apart name mode) is_name is_mode is = (is.0 ∙ sym is_name, is.1 ∙ sym is_mode)
cipher_by c h (Whole text) is_name is_mode is = absurd is

module _ (given : Given) (format : Format) (random h : List ℕ) (d : Luks1) (new : IsNewHeader1 given format random d) (put : WritesLuks1 h d) (own : IsUuid (uuid_of given random)) where
  -- the plan that was sealed by is that of the header's keyslot 0
  pub has_plan : (plan : SlotPlan)
      → IsNewPlan format given.key_bytes (slot_salt (slot_place1 given.key_bytes) random) (area1 given.key_bytes) (digest_salt given.key_bytes random) (key_digest given format random 20) plan
      → IsNewCipher1 given.cipher plan.cipher
      → HasLuks1Plan h 0 plan
  has_plan plan is cipher =
      let common_is = fields given format random h d new put own in
      let entry_is = holds given format random h d new put own 0 (lit< tt) in
      let hash : text_at h 72 32 ≡ name_of format.hash = common_is.hash_spec ∙ new.common.hash_spec in
      let key = key_size given format random h d new put own in
      record {
        numbered = lit< tt;
        is = record {
          derivation = derivation_by h (entry h 0) format (slot_salt (slot_place1 given.key_bytes) random) plan.derivation hash entry_is.iterations entry_is.salt is.derivation;
          cipher = cipher_by given.cipher h plan.cipher (common_is.cipher_name ∙ new.common.cipher_name) (common_is.cipher_mode ∙ new.common.cipher_mode) cipher;
          start = ap (λ (a : Area). a.start) is.area ∙ sym (ap (λ s. s * 512) (first_start given format random h d new put own));
          len = ap (λ (a : Area). a.len) is.area ∙ sym (slot_len given format random h d new put own 0 (lit< tt));
          area_key_bytes = is.area_key_bytes ∙ sym key;
          key_bytes = is.key_bytes ∙ sym key;
          stripes = is.stripes ∙ sym (stripes_at given format random h d new put own 0 (lit< tt));
          splitter_hash = is.splitter_hash ∙ sym hash;
          digest = record {
            hash = is.digest.hash ∙ sym hash;
            iterations = is.digest.iterations ∙ sym (common_is.mk_digest_iterations ∙ new.common.mk_digest_iterations);
            salt = is.digest.own_salt ∙ sym (common_is.mk_digest_salt ∙ new.common.mk_digest_salt);
            stored = is.digest.own_stored ∙ sym (common_is.mk_digest ∙ new.common.mk_digest);
          };
        };
      }

-- ---- what stands after each step

-- the first sector lies before the key area
pub first_waits : {u v : List ℕ} (k : ℕ) (area : Area) → area ≡ area1 k → SameBut (IsAt area.start (used_bytes k)) u v → part v 0 512 ≡ part u 0 512
first_waits k area is same = (let start = ap (λ (a : Area). a.start) is in part-same_but_at area.start (used_bytes k) 0 512 same (inl (omega (arith, start))))

module _ (given : Given) (format : Format) (passphrase random v w bytes key stripes : List ℕ) (d : Luks1) (plan : SlotPlan)
    (new : IsNewHeader1 given format random d) (put : WritesLuks1 bytes d) (own : IsUuid (uuid_of given random))
    (is : IsNewPlan format given.key_bytes (slot_salt (slot_place1 given.key_bytes) random) (area1 given.key_bytes) (digest_salt given.key_bytes random) (key_digest given format random 20) plan)
    (cipher : IsNewCipher1 given.cipher plan.cipher)
    (outside : SameOutside v w 0 (length bytes))
    (is_key : key ≡ key_of given random) (are_stripes : stripes ≡ random_stripes given.key_bytes (slot_place1 given.key_bytes) random) (sealed : IsSealed plan (area_bytes v plan.area) passphrase key stripes) where
  area_kept : area_bytes w plan.area ≡ area_bytes v plan.area
  area_kept =
      let behind : SameBut (IsAt 0 592) v w = subst (λ (m : ℕ). SameBut (IsAt 0 m) v w) put.long (same_but-same_outside outside) in
      let start : plan.area.start ≡ 4096 = ap (λ (a : Area). a.start) is.area in
      part-same_but_at 0 592 plan.area.start plan.area.len behind (inr (omega (arith, start)))

  -- the keyslot, by the header's bytes
  slot_by : (h : List ℕ) → WritesLuks1 h d → HoldsKey (HasLuks1Plan h 0) w passphrase (key_of given random) (random_stripes given.key_bytes (slot_place1 given.key_bytes) random)
  slot_by h written = record {
    plan = plan;
    is = has_plan given format random h d new written own plan is cipher;
    sealed = subst (λ (k : List ℕ). IsSealed plan (area_bytes w plan.area) passphrase k (random_stripes given.key_bytes (slot_place1 given.key_bytes) random)) is_key
        (subst (λ (r : List ℕ). IsSealed plan (area_bytes w plan.area) passphrase key r) are_stripes
        (subst (λ (a : List ℕ). IsSealed plan a passphrase key stripes) (sym area_kept) sealed));
  }

  -- the key area, while the header is written
  pub area_stands : (u : List ℕ) → WritesInTurn1 given format passphrase random u w
  area_stands u = inr (record { header = d; fields = new; bytes = bytes; written = put; slot = slot_by bytes put })

  -- the whole volume
  module _ (u : List ℕ) (large : 592 ≤ length v) (wrote : w ≡ written v 0 bytes) (same : SameBut (IsAt plan.area.start (used_bytes given.key_bytes)) u v) where
    there : part w 0 592 ≡ bytes
    there =
        let fits : 0 + length bytes ≤ length v = (let long = put.long in omega (arith, long, large)) in
        ap (λ l. part l 0 592) wrote ∙ ap (λ n. part (written v 0 bytes) 0 n) (sym put.long) ∙ part-written v 0 bytes fits

    header_put : WritesLuks1 (part w 0 592) d
    header_put = subst (λ (b : List ℕ). WritesLuks1 b d) (sym there) put

    pub formatted : IsFormatted1As given format passphrase random u w
    formatted = record {
      header = d;
      fields = new;
      written = header_put;
      slot = slot_by (part w 0 592) header_put;
      rest = both_rest given.key_bytes plan.area (length bytes) is.area put.long same outside;
    }

-- ---- over what was cleared

-- the first sectors lie in the places of the header and of the key area
sectors_there : (k : ℕ) → 16 ≤ k → (p : ℕ) → IsOfFirstSectors 16384 p → IsOfLuks1 k p
sectors_there k least p is = elim is [
  | inl at ↦ inl (let low = at.0 in omega (arith, low), let high = at.1 in omega (arith, high))
  | inr at ↦ inr (let low = at.0 in omega (arith, low), let high = at.1 in let long = used_least k least in omega (arith, high, long))
]

pub cleared_rest : {t u : List ℕ} (k : ℕ) → 16 ≤ k → SameBut (IsOfFirstSectors 16384) t u → SameBut (IsOfLuks1 k) t u
cleared_rest k least same = same_but-wider (sectors_there k least) same

pub over_rest : {t u w : List ℕ} (k : ℕ) → 16 ≤ k → SameBut (IsOfFirstSectors 16384) t u → SameBut (IsOfLuks1 k) u w → SameBut (IsOfLuks1 k) t w
over_rest k least cleared same = clearing_widens 16384 (sectors_there k least) cleared same

-- all that may change lies before the payload
pub before_payload : {t u : List ℕ} (k n : ℕ) → first_sector false k ≤ n → SameBut (IsOfLuks1 k) t u → SameBut (IsBefore (512 * n)) t u
before_payload {t} {u} k n low same = same_but-wider (λ p is. elim is [
  | inl at ↦ (let high = at.1 in omega (arith, high, low))
  | inr at ↦ (let high = at.1 in omega (arith, high, low))
]) same

-- clearing that failed keeps the order
pub clearing_fails : (given : Given) (format : Format) (passphrase random t u : List ℕ) → ClearsInTurn t u → ClearsFirst1As given format passphrase random t u
clearing_fails given format passphrase random t u turn = elim turn [
  | inl first ↦ inl first
  | inr cleared ↦ inr (inl cleared)
]

-- the steps that follow the clearing keep its order
pub over_order : (given : Given) (format : Format) (passphrase random t u w : List ℕ) → AreCleared 16384 u
    → WritesInTurn1 given format passphrase random u w → ClearsFirst1As given format passphrase random t w
over_order given format passphrase random t u w cleared turn = elim turn [
  | inl same ↦ inr (inl (same ∙ cleared.first_copy))
  | inr stands ↦ inr (inr stands)
]

-- a volume that was formatted after the clearing is formatted
pub over_cleared : (given : Given) (format : Format) (passphrase random t u w : List ℕ) → 16 ≤ given.key_bytes → SameBut (IsOfFirstSectors 16384) t u
    → IsFormatted1As given format passphrase random u w → IsFormatted1As given format passphrase random t w
over_cleared given format passphrase random t u w least cleared is = record {
  header = is.header;
  fields = is.fields;
  written = is.written;
  slot = is.slot;
  rest = over_rest given.key_bytes least cleared is.rest;
}
