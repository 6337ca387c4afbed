-- A header without faults is one that its relation accepts, and the other way round.
use Rattle.std.proofs.Common.{◌≡◌, List, ℕ, ◌<◌, ◌≤◌, length, slice_index_or, [], ◌∷◌, arith, refl, sym, ◌∙◌, true≢false, inl, inr}
use Rattle.std.proofs.lemmas.Bool.{cases_lt, cases_eq, true_from_ne_false}
use Rattle.luks_area.specs.Ranges.{part}
use Rattle.luks1_header.specs.Bytes.{HoldsText}
use Rattle.luks1_header.specs.Faults.{field_key, HasBadText, head_row, head_place, IsCommonFault, IsEntryFault, IsLuks1Fault, HasBadKeyBytes, HasUnknownState}
use Rattle.luks1_header.specs.Header1.{luks1_size, version_of, field_at, field_len, header_text, mk_digest_iterations_of, active_word, entry_iterations, entry_stripes, word_of, entry, luks_magic, HoldsTexts, HoldsCommon, HoldsEntry, IsCommon, IsEntry, IsLuks1}
use Rattle.luks1_header.specs.declared.fault.HeadFault.{HeadFault}
use Rattle.luks1_header.specs.declared.fault.HeadFault.TheVariants as fault
use Rattle.luks1_header.specs.declared.fault.TextField.{TextField}
use Rattle.luks1_header.specs.declared.fault.TextField.TheVariants as field
use Rattle.luks_area.specs.First.{NotAfter}
use Rattle.luks1_header.specs.declared.fault.IterationsOf.TheVariants as of
use Rattle.luks1_header.specs.declared.luks1.Luks1.{Luks1}
use Rattle.luks1_header.specs.declared.luks1.Luks1Common.{Luks1Common}
use Rattle.luks1_header.specs.declared.luks1.Luks1Slot.{Luks1Slot}
use Rattle.luks1_header.specs.declared.luks1.SlotState.{SlotState}
use Rattle.luks1_header.specs.declared.luks1.SlotState.TheVariants as state
use Rattle.luks1_header.proofs.DecidableFacts.{held, same_or_not, uuid_or_not}

-- numbers that aren't too small or too large
at_least : (m n : ℕ) → (n < m → ⊥) → m ≤ n
at_least m n small = elim (cases_lt n m) [ inl under ↦ absurd (small under) | inr over ↦ over ]

at_least_one : (n : ℕ) → (n ≡ 0 → ⊥) → 1 ≤ n
at_least_one n none = at_least 1 n (λ small. none (omega arith))

at_most : (n m : ℕ) → (m < n → ⊥) → n ≤ m
at_most n m over = at_least n m over

-- a text that isn't bad is plain
pub text_held : (v : List ℕ) (o l : ℕ) → ((HoldsText v o l → ⊥) → ⊥) → HoldsText v o l
text_held v o l good = true_from_ne_false _ (λ fails. good (λ holds. true≢false (sym holds ∙ fails)))

-- the word of a state is one of the two
pub stated : (e : List ℕ) (s : SlotState) → active_word e ≡ word_of s → HasUnknownState e → ⊥
stated e state.Enabled is none = none.0 is
stated e state.Disabled is none = none.1 is

-- any record of a key slot
pub slot_default : Luks1Slot
slot_default = record { state = state.Disabled; iterations = 0; salt = []; key_material_offset = 0; stripes = 0 }

-- a header without faults has none before its key slots
pub none_in_common : (v : List ℕ) → ((g : HeadFault) → IsLuks1Fault v g → ⊥) → (g : HeadFault) → IsCommonFault v g → ⊥
none_in_common v none g bad = none g bad.1

-- a header without faults has none in its key slots
pub none_in_entry : (v : List ℕ) → ((g : HeadFault) → IsLuks1Fault v g → ⊥) → (n : ℕ) → n < 8 → (g : HeadFault) → IsEntryFault n (entry v n) g → ⊥
none_in_entry v none n lt (fault.SlotState m) bad = none (fault.SlotState n) (lt, bad.1)
none_in_entry v none n lt (fault.Stripes m) bad = none (fault.Stripes n) (lt, bad.1)
none_in_entry v none n lt (fault.Iterations (of.Slot m)) bad = none (fault.Iterations (of.Slot n)) (lt, bad.1)
none_in_entry v none n lt _ bad = bad

-- the texts of a header without faults
pub texts_accepted : (v : List ℕ) → ((g : HeadFault) → IsCommonFault v g → ⊥) → HoldsTexts v
texts_accepted v none = λ t. text_held v (field_at t) (field_len t) (λ bad. none (fault.Text t) (tt, bad))

-- the bytes before the key slots, without faults
pub common_accepted : (v : List ℕ) (c : Luks1Common) → ((g : HeadFault) → IsCommonFault v g → ⊥) → HoldsCommon v c → IsCommon v c
common_accepted v c none fields = record {
  magic = held (same_or_not (part v 0 6) luks_magic) (λ bad. none fault.NotLuks (tt, bad));
  version = held (cases_eq (version_of v) 1) (λ bad. none fault.Version (tt, bad));
  fields = fields;
  texts = texts_accepted v none;
  uuid = held (uuid_or_not (header_text v field.Uuid)) (λ bad. none fault.Uuid (tt, bad));
  key_at_least = (let small : HasBadKeyBytes v → ⊥ = λ bad. none fault.KeyBytes (tt, bad) in at_least_one _ (λ zero_. small (λ a b. omega arith)));
  key_at_most = (let small : HasBadKeyBytes v → ⊥ = λ bad. none fault.KeyBytes (tt, bad) in at_most _ 128 (λ over. small (λ a b. omega arith)));
  digest_iterated = at_least_one _ (λ bad. none (fault.Iterations of.Digest) (tt, bad));
}

-- a key slot without faults
pub entry_accepted : (n : ℕ) (e : List ℕ) (s : Luks1Slot) → ((g : HeadFault) → IsEntryFault n e g → ⊥) → HoldsEntry e s → IsEntry e s
entry_accepted n e s none fields = record {
  fields = fields;
  striped = at_least_one _ (λ zero_. none (fault.Stripes n) (refl, zero_));
  iterated = λ enabled. at_least_one _ (λ zero_. none (fault.Iterations (of.Slot n)) (refl, (enabled, zero_)));
}

-- a header without faults
pub accepted : (v : List ℕ) (d : Luks1) → ((g : HeadFault) → IsLuks1Fault v g → ⊥) → HoldsCommon v d.common → length d.slots ≡ 8
    → ((n : ℕ) (s : Luks1Slot) → n < 8 → HoldsEntry (entry v n) (slice_index_or d.slots n s)) → IsLuks1 v d
accepted v d none common eight each = record {
  long = at_least luks1_size (length v) (none fault.TooShort);
  common = common_accepted v d.common (none_in_common v none) common;
  slots = record {
    eight = eight;
    each = λ n s lt. entry_accepted n (entry v n) _ (none_in_entry v none n lt) (each n s lt);
  };
}

-- what the relation accepts has no fault before its key slots
pub common_sound : (v : List ℕ) (c : Luks1Common) → IsCommon v c → (g : HeadFault) → IsCommonFault v g → ⊥
common_sound v c good fault.NotLuks bad = bad.1 good.magic
common_sound v c good fault.Version bad = bad.1 good.version
common_sound v c good (fault.Text t) bad = bad.1 (good.texts t)
common_sound v c good fault.Uuid bad = bad.1 good.uuid
common_sound v c good fault.KeyBytes bad = bad.1 good.key_at_least good.key_at_most
common_sound v c good (fault.Iterations of.Digest) bad =
    let some : 1 ≤ mk_digest_iterations_of v = good.digest_iterated in omega (arith, bad.1)
common_sound v c good _ bad = absurd bad.0

-- what the relation accepts of a key slot has no fault
pub entry_sound : (n : ℕ) (e : List ℕ) (s : Luks1Slot) → IsEntry e s → (g : HeadFault) → IsEntryFault n e g → ⊥
entry_sound n e s good (fault.SlotState m) bad = stated e s.state good.fields.state bad.1
entry_sound n e s good (fault.Stripes m) bad =
    let some : 1 ≤ entry_stripes e = good.striped in omega (arith, bad.1)
entry_sound n e s good (fault.Iterations (of.Slot m)) bad =
    let some : 1 ≤ entry_iterations e = good.iterated bad.1.0 in omega (arith, bad.1.1)
entry_sound n e s good _ bad = bad

-- what the relation accepts has no fault
pub sound : (v : List ℕ) (d : Luks1) → IsLuks1 v d → (g : HeadFault) → IsLuks1Fault v g → ⊥
sound v d good fault.TooShort bad = (let long : luks1_size ≤ length v = good.long in omega arith)
sound v d good fault.NoSoundCopy bad = bad
sound v d good (fault.SlotState n) bad =
    entry_sound n (entry v n) _ (good.slots.each n slot_default bad.0) (fault.SlotState n) (refl, bad.1)
sound v d good (fault.Stripes n) bad =
    entry_sound n (entry v n) _ (good.slots.each n slot_default bad.0) (fault.Stripes n) (refl, bad.1)
sound v d good (fault.Iterations (of.Slot n)) bad =
    entry_sound n (entry v n) _ (good.slots.each n slot_default bad.0) (fault.Iterations (of.Slot n)) (refl, bad.1)
sound v d good fault.Device bad = bad
sound v d good fault.Memory bad = bad
sound v d good f bad = common_sound v d.common good.common f (tt, bad)

-- the least of the texts that are bad is the least fault of its row
pub least_text : (v : List ℕ) (t : TextField) → ((s : TextField) → HasBadText v s → field_key t ≤ field_key s)
    → (g : HeadFault) → IsLuks1Fault v g → head_row g ≡ 5 → NotAfter (field_key t ∷ []) (head_place g)
least_text v t least (fault.Text s) bad row = (least s bad, λ same. tt)
least_text v t least _ bad row = absurd (omega arith)
