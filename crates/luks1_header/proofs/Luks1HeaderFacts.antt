-- A header read from a volume's first bytes is the volume's; a header without faults is one.
use Rattle.std.proofs.Common.{◌≡◌, ℕ, ◌+◌, ◌*◌, ◌==◌, ◌<◌, ◌≤◌, List, [], length, slice_index_or, true, false, if◌then◌else◌, inl, inr, arith, lit≤, refl, sym, ap, ◌∙◌, subst}
use Rattle.std.proofs.lemmas.Bool.{cases_eq, eq-eqb, ne_eqb}
use Rattle.byteorder.specs.Endian.{big_number}
use Rattle.uuid.specs.Text.{by_index}
use Rattle.uuid.proofs.TextLemmas.{by_index_at, by_index_length}
use Rattle.luks_area.specs.Ranges.{part}
use Rattle.luks_area.proofs.RangeFacts.{part-part}
use Rattle.luks_area.specs.Text.{text_of, is_plain}
use Rattle.luks1_header.specs.Bytes.{number_at, text_at, IsUuid}
use Rattle.luks1_header.specs.Faults.{HasUnknownState, IsCommonFault, IsEntryFault, IsLuks1Fault}
use Rattle.luks1_header.specs.Header1.{common_size, field_at, field_len, header_text, payload_offset_of, key_bytes_of, mk_digest_of, mk_digest_salt_of, mk_digest_iterations_of, entry_salt, entry_key_material_offset, active_word, enabled_word, disabled_word, word_of, entry, entry_iterations, entry_stripes, HoldsCommon, HoldsEntry, IsCommon, IsEntry, IsLuks1}
use Rattle.luks1_header.specs.declared.fault.HeadFault.{HeadFault}
use Rattle.luks1_header.specs.declared.fault.HeadFault.TheVariants as fault
use Rattle.luks1_header.specs.declared.fault.TextField.{TextField}
use Rattle.luks1_header.specs.declared.fault.TextField.TheVariants as field
use Rattle.luks1_header.specs.declared.fault.IterationsOf.TheVariants as of
use Rattle.luks1_header.specs.declared.luks1.Luks1.{Luks1}
use Rattle.luks1_header.specs.declared.luks1.Luks1Common.{Luks1Common}
use Rattle.luks1_header.specs.declared.luks1.Luks1Slot.{Luks1Slot}
use Rattle.luks1_header.specs.declared.luks1.SlotState.{SlotState}
use Rattle.luks1_header.specs.declared.luks1.SlotState.TheVariants as state
use Rattle.luks1_header.proofs.Luks1FaultFacts.{accepted, common_accepted, entry_accepted}

-- the two lists have the same first n bytes
pub record SameFirst (n : ℕ) (v w : List ℕ) : Type 0 where
  pub same : (o l : ℕ) → o + l ≤ n → part v o l ≡ part w o l

pub first_of : (v : List ℕ) (n : ℕ) → SameFirst n (part v 0 n) v
first_of v n = record { same = λ o l within. part-part v 0 n o l within ∙ ap (λ a. part v a l) {x = 0 + o} {y = o} (omega arith) }

pub back : (n : ℕ) (v w : List ℕ) → SameFirst n v w → SameFirst n w v
back n v w h = record { same = λ o l within. sym (h.same o l within) }

-- what a field says is the same in both
number_moves : (n : ℕ) (v w : List ℕ) → SameFirst n v w → (o l : ℕ) → o + l ≤ n → number_at v o l ≡ number_at w o l
number_moves n v w h o l within = ap (λ b. big_number l b) (h.same o l within)

text_moves : (n : ℕ) (v w : List ℕ) → SameFirst n v w → (o l : ℕ) → o + l ≤ n → text_at v o l ≡ text_at w o l
text_moves n v w h o l within = ap text_of (h.same o l within)

plain_moves : (n : ℕ) (v w : List ℕ) → SameFirst n v w → (o l : ℕ) → o + l ≤ n → is_plain (text_at v o l) ≡ true → is_plain (text_at w o l) ≡ true
plain_moves n v w h o l within plain = ap is_plain (sym (text_moves n v w h o l within)) ∙ plain

pub entry_moves : (v w : List ℕ) → SameFirst 592 v w → (n : ℕ) → n < 8 → entry v n ≡ entry w n
entry_moves v w h n lt = h.same (208 + 48 * n) 48 (omega arith)

-- the texts come before the key slots
pub text_in : (t : TextField) → field_at t + field_len t ≤ common_size
text_in field.CipherName = lit≤ tt
text_in field.CipherMode = lit≤ tt
text_in field.HashSpec = lit≤ tt
text_in field.Uuid = lit≤ tt

text_within : (m : ℕ) (t : TextField) → common_size ≤ m → field_at t + field_len t ≤ m
text_within m t enough = let room : field_at t + field_len t ≤ common_size = text_in t in omega arith

-- the fields before the key slots say the same
pub fields_move : (m : ℕ) (v w : List ℕ) (c : Luks1Common) → 208 ≤ m → SameFirst m v w → HoldsCommon v c → HoldsCommon w c
fields_move m v w c enough h fields = record {
  cipher_name = sym (text_moves m v w h 8 32 (omega arith)) ∙ fields.cipher_name;
  cipher_mode = sym (text_moves m v w h 40 32 (omega arith)) ∙ fields.cipher_mode;
  hash_spec = sym (text_moves m v w h 72 32 (omega arith)) ∙ fields.hash_spec;
  payload_offset = sym (number_moves m v w h 104 4 (omega arith)) ∙ fields.payload_offset;
  key_bytes = sym (number_moves m v w h 108 4 (omega arith)) ∙ fields.key_bytes;
  mk_digest = sym (h.same 112 20 (omega arith)) ∙ fields.mk_digest;
  mk_digest_salt = sym (h.same 132 32 (omega arith)) ∙ fields.mk_digest_salt;
  mk_digest_iterations = sym (number_moves m v w h 164 4 (omega arith)) ∙ fields.mk_digest_iterations;
  uuid = sym (text_moves m v w h 168 40 (omega arith)) ∙ fields.uuid;
}

-- the fields before the key slots are those of a header
pub common_moves : (m : ℕ) (v w : List ℕ) (c : Luks1Common) → 208 ≤ m → SameFirst m v w → IsCommon v c → IsCommon w c
common_moves m v w c enough h good =
    let U : List ℕ → Type 0 = IsUuid in
    let least : ℕ → Type 0 = λ n. 1 ≤ n in
    let most : ℕ → Type 0 = λ n. n ≤ 128 in
    record {
      magic = sym (h.same 0 6 (omega arith)) ∙ good.magic;
      version = sym (number_moves m v w h 6 2 (omega arith)) ∙ good.version;
      fields = fields_move m v w c enough h good.fields;
      texts = λ t. plain_moves m v w h (field_at t) (field_len t) (text_within m t enough) (good.texts t);
      uuid = subst U (text_moves m v w h 168 40 (omega arith)) good.uuid;
      key_at_least = subst least (number_moves m v w h 108 4 (omega arith)) good.key_at_least;
      key_at_most = subst most (number_moves m v w h 108 4 (omega arith)) good.key_at_most;
      digest_iterated = subst least (number_moves m v w h 164 4 (omega arith)) good.digest_iterated;
    }

-- the whole header
pub header_moves : (v w : List ℕ) (d : Luks1) → 592 ≤ length w → SameFirst 592 v w → IsLuks1 v d → IsLuks1 w d
header_moves v w d long h good = record {
  long = long;
  common = common_moves 592 v w d.common (lit≤ tt) h good.common;
  slots = record {
    eight = good.slots.eight;
    each = λ n s lt. (let E : List ℕ → Type 0 = λ e. IsEntry e (slice_index_or d.slots n s) in subst E (entry_moves v w h n lt) (good.slots.each n s lt));
  };
}

-- the faults before the key slots
pub common_fault_moves : (m : ℕ) (v w : List ℕ) → 208 ≤ m → SameFirst m v w → (f : HeadFault) → IsCommonFault v f → IsCommonFault w f
common_fault_moves m v w enough h fault.NotLuks bad =
    (tt, λ magic. bad.1 (h.same 0 6 (omega arith) ∙ magic))
common_fault_moves m v w enough h fault.Version bad =
    (tt, λ one. bad.1 (number_moves m v w h 6 2 (omega arith) ∙ one))
common_fault_moves m v w enough h (fault.Text t) bad =
    (tt, λ plain. bad.1 (plain_moves m w v (back m v w h) (field_at t) (field_len t) (text_within m t enough) plain))
common_fault_moves m v w enough h fault.Uuid bad =
    let U : List ℕ → Type 0 = IsUuid in
    (tt, λ uuid. bad.1 (subst U (sym (text_moves m v w h 168 40 (omega arith))) uuid))
common_fault_moves m v w enough h fault.KeyBytes bad =
    let K : ℕ → Type 0 = λ k. 1 ≤ k → k ≤ 128 → ⊥ in
    (tt, subst K (number_moves m v w h 108 4 (omega arith)) bad.1)
common_fault_moves m v w enough h (fault.Iterations of.Digest) bad =
    (tt, sym (number_moves m v w h 164 4 (omega arith)) ∙ bad.1)
common_fault_moves m v w enough h _ bad = absurd bad.0

-- the faults of the whole header
pub fault_moves : (v w : List ℕ) → 592 ≤ length v → SameFirst 592 v w → (f : HeadFault) → IsLuks1Fault v f → IsLuks1Fault w f
fault_moves v w long h fault.TooShort bad = absurd (omega arith)
fault_moves v w long h fault.NoSoundCopy bad = absurd bad
fault_moves v w long h (fault.SlotState n) bad = (bad.0, subst HasUnknownState (entry_moves v w h n bad.0) bad.1)
fault_moves v w long h (fault.Stripes n) bad =
    (bad.0, ap entry_stripes (sym (entry_moves v w h n bad.0)) ∙ bad.1)
fault_moves v w long h (fault.Iterations (of.Slot n)) bad =
    let E : List ℕ → Type 0 = λ e. (active_word e ≡ enabled_word) × (entry_iterations e ≡ 0) in
    (bad.0, subst E (entry_moves v w h n bad.0) bad.1)
fault_moves v w long h fault.Device bad = absurd bad
fault_moves v w long h fault.Memory bad = absurd bad
fault_moves v w long h f bad = (common_fault_moves 592 v w (lit≤ tt) h f (tt, bad)).1

-- the record that the bytes say
state_of : ℕ → SlotState
state_of word = if word == enabled_word then state.Enabled else state.Disabled

slot_of : List ℕ → Luks1Slot
slot_of e = record { state = state_of (active_word e); iterations = entry_iterations e; salt = entry_salt e; key_material_offset = entry_key_material_offset e; stripes = entry_stripes e }

common_of : List ℕ → Luks1Common
common_of v = record {
  cipher_name = record { bytes = header_text v field.CipherName; spare = [] };
  cipher_mode = record { bytes = header_text v field.CipherMode; spare = [] };
  hash_spec = record { bytes = header_text v field.HashSpec; spare = [] };
  payload_offset = payload_offset_of v;
  key_bytes = key_bytes_of v;
  mk_digest = mk_digest_of v;
  mk_digest_salt = mk_digest_salt_of v;
  mk_digest_iterations = mk_digest_iterations_of v;
  uuid = record { bytes = header_text v field.Uuid; spare = [] };
}

header_of : List ℕ → Luks1
header_of v = record { common = common_of v; slots = by_index 8 (λ n. slot_of (entry v n)) }

word_said : (word : ℕ) → ((word ≡ enabled_word → ⊥) × (word ≡ disabled_word → ⊥) → ⊥) → word ≡ word_of (state_of word)
unfolding state_of
word_said word known =
    elim (cases_eq word enabled_word) [
      | inl enabled ↦ (let test : (word == enabled_word) ≡ true = eq-eqb word enabled_word enabled in rw test enabled)
      | inr not_enabled ↦ (let test : (word == enabled_word) ≡ false = ne_eqb word enabled_word not_enabled in
          rw test (elim (cases_eq word disabled_word) [ inl disabled ↦ disabled | inr neither ↦ absurd (known (not_enabled, neither)) ]))
    ]

slot_said : (e : List ℕ) → (HasUnknownState e → ⊥) → HoldsEntry e (slot_of e)
unfolding slot_of
slot_said e known = record { state = word_said (active_word e) known; iterations = refl; salt = refl; key_material_offset = refl; stripes = refl }

common_said : (v : List ℕ) → HoldsCommon v (common_of v)
unfolding common_of
common_said v = record { cipher_name = refl; cipher_mode = refl; hash_spec = refl; payload_offset = refl; key_bytes = refl; mk_digest = refl; mk_digest_salt = refl; mk_digest_iterations = refl; uuid = refl }

-- without faults there is a header
pub header_found : (v : List ℕ) → ((f : HeadFault) → IsLuks1Fault v f → ⊥) → (d : Luks1) × IsLuks1 v d
unfolding header_of
header_found v none = (
  header_of v,
  accepted v (header_of v) none (common_said v) (by_index_length 8 (λ n. slot_of (entry v n)))
      (λ n s lt. (let E : Luks1Slot → Type 0 = HoldsEntry (entry v n) in
      subst E (sym (by_index_at 8 (λ k. slot_of (entry v k)) n s lt)) (slot_said (entry v n) (λ bad. none (fault.SlotState n) (lt, bad))))),
)

pub common_found : (v : List ℕ) → ((f : HeadFault) → IsCommonFault v f → ⊥) → (c : Luks1Common) × IsCommon v c
common_found v none = (common_of v, common_accepted v (common_of v) none (common_said v))

pub entry_found : (n : ℕ) (e : List ℕ) → ((f : HeadFault) → IsEntryFault n e f → ⊥) → (s : Luks1Slot) × IsEntry e s
entry_found n e none = (slot_of e, entry_accepted n e (slot_of e) none (slot_said e (λ bad. none (fault.SlotState n) (refl, bad))))
