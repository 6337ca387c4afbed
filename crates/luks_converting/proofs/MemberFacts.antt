-- What is handed on of a LUKS1 header is what its bytes say.
use Rattle.std.proofs.Common.{◌≡◌, ℕ, ◌*◌, ◌<◌, ◌≤◌, ◌++◌, List, codes, Option, Some, None, option_and_then, get_or, refl, sym, ap, ◌∙◌, arith, inl, inr}
use Rattle.std.specs.Prelude.{option_map, slice_get}
use Rattle.std.proofs.Math.Path.{fun_ext}
use Rattle.std.proofs.lemmas.Bool.{cases_Bool, cases_lt}
use Rattle.std.proofs.lemmas.Option.{slice_get-get_or, slice_get_past}
use Rattle.luks1_header.specs.Bytes.{text_at}
use Rattle.luks1_header.specs.Header1.{entry, IsEntry, IsLuks1}
use Rattle.luks1_header.specs.declared.luks1.Luks1.{Luks1}
use Rattle.luks1_header.specs.declared.luks1.Luks1Slot.{Luks1Slot}
use Rattle.luks1_header.specs.declared.luks1.SlotState.TheVariants.{Enabled, Disabled}
use Rattle.luks_making.specs.Converted.{SourceMembers, SourceSlotMembers, source_slot_members}
use Rattle.luks_making.specs.declared.source_volume.SourceSlot.{SourceSlot}
use Rattle.luks_converting.specs.Slots.{AreSlots}
use Rattle.luks_converting.specs.Source.{enabled_slot, encryption_of, header_members, is_enabled, slot_members}
use Rattle.luks_converting.proofs.SourceFacts.{disabled_of, enabled_of, low_of, slot_absent, slot_there}

-- what an entry says
pub entry_members : (e : List ℕ) (s : Luks1Slot) → IsEntry e s → record { iterations = s.iterations; salt = s.salt; stripes = s.stripes } ≡ slot_members e
entry_members e s is = simp (sym is.fields.iterations, sym is.fields.salt, sym is.fields.stripes) refl

-- what is handed on of one keyslot
module _ (h : List ℕ) (n : ℕ) (s : Luks1Slot) (low : n < 8) (is : IsEntry (entry h n) s) where
  pub slot_on : s.state ≡ Enabled → (m : SourceSlotMembers) → m ≡ slot_members (entry h n) → Some m ≡ enabled_slot h n
  slot_on on m same = ap Some same ∙ sym (slot_there h n (enabled_of h n s low is on))

  pub slot_off : s.state ≡ Disabled → None ≡ enabled_slot h n
  slot_off off = sym (slot_absent h n (disabled_of h n s low is off))

-- no keyslot has a higher number
none_past : (h : List ℕ) (n : ℕ) → 8 ≤ n → enabled_slot h n ≡ None
none_past h n high = elim (cases_Bool (is_enabled h n)) [
  | inl on ↦ (let low = low_of h n on in absurd (omega (arith, low, high)))
  | inr off ↦ slot_absent h n off
]

-- of all of them
pub slots_are : (h : List ℕ) (given : List (Option SourceSlot)) → AreSlots h 8 given → (n : ℕ)
    → option_and_then (option_map source_slot_members) (slice_get given n) ≡ enabled_slot h n
slots_are h given are n = elim (cases_lt n 8) [
  | inl low ↦ (
      let eight = are.eight in
      let there : slice_get given n ≡ Some (get_or given n None) = slice_get-get_or given n None (omega (arith, low, eight)) in
      ap (option_and_then (option_map source_slot_members)) there ∙ are.each n None low)
  | inr past ↦ (
      let eight = are.eight in
      ap (option_and_then (option_map source_slot_members)) (slice_get_past given n (omega (arith, past, eight))) ∙ sym (none_past h n (omega (arith, past))))
]

-- the record of what a header says, member by member
abbrev pub members_of : List ℕ → List ℕ → ℕ → ℕ → List ℕ → List ℕ → ℕ → (ℕ → Option SourceSlotMembers) → SourceMembers
members_of hash encryption key_bytes iterations salt digest payload slot = record {
  hash = hash;
  encryption = encryption;
  key_bytes = key_bytes;
  digest_iterations = iterations;
  digest_salt = salt;
  digest = digest;
  payload_offset = payload;
  slot = slot;
}

members_same : (a b c d : List ℕ) (k l i j : ℕ) (s t e f : List ℕ) (p q : ℕ) (m n : ℕ → Option SourceSlotMembers)
    → a ≡ b → c ≡ d → k ≡ l → i ≡ j → s ≡ t → e ≡ f → p ≡ q → m ≡ n → members_of a c k i s e p m ≡ members_of b d l j t f q n
members_same a b c d k l i j s t e f p q m n x y z u v w o r =
    ap (λ x. members_of x c k i s e p m) x ∙ ap (λ x. members_of b x k i s e p m) y ∙ ap (λ x. members_of b d x i s e p m) z ∙ ap (λ x. members_of b d l x s e p m) u
    ∙ ap (λ x. members_of b d l j x e p m) v ∙ ap (λ x. members_of b d l j t x p m) w ∙ ap (λ x. members_of b d l j t f x m) o ∙ ap (λ x. members_of b d l j t f q x) r

-- the volume that is handed on
pub volume_is : (h : List ℕ) (d : Luks1) (hash encryption : List ℕ) (k i : ℕ) (salt digest : List ℕ) (p : ℕ) (slots : List (Option SourceSlot)) → IsLuks1 h d
    → hash ≡ d.common.hash_spec.bytes → encryption ≡ encryption_of h → k ≡ d.common.key_bytes → i ≡ d.common.mk_digest_iterations → salt ≡ d.common.mk_digest_salt
    → digest ≡ d.common.mk_digest → p ≡ d.common.payload_offset * 512 → AreSlots h 8 slots
    → members_of hash encryption k i salt digest p (λ n. option_and_then (option_map source_slot_members) (slice_get slots n)) ≡ header_members h
volume_is h d hash encryption k i salt digest p slots is same_hash same_encryption same_key same_iterations same_salt same_digest same_payload are =
    let f = is.common.fields in
    members_same _ _ _ _ _ _ _ _ _ _ _ _ _ _ _ _ (same_hash ∙ sym f.hash_spec) same_encryption (same_key ∙ sym f.key_bytes) (same_iterations ∙ sym f.mk_digest_iterations)
    (same_salt ∙ sym f.mk_digest_salt) (same_digest ∙ sym f.mk_digest) (same_payload ∙ ap (λ n. n * 512) (sym f.payload_offset)) (fun_ext (slots_are h slots are))

-- the encryption's text
pub encryption_is : (h : List ℕ) (d : Luks1) → IsLuks1 h d → d.common.cipher_name.bytes ++ codes "-" ++ d.common.cipher_mode.bytes ≡ encryption_of h
encryption_is h d is =
    ap (λ n. n ++ codes "-" ++ d.common.cipher_mode.bytes) (sym is.common.fields.cipher_name)
    ∙ ap (λ m. text_at h 8 32 ++ codes "-" ++ m) (sym is.common.fields.cipher_mode)
