-- A LUKS1 header has a fault or none, and so has a volume with one.
use Rattle.std.proofs.Common.{◌≡◌, ◌⊎◌, ℕ, ◌-◌, ◌*◌, ◌≤◌, ◌<◌, true, List, [], ◌∷◌, ◌++◌, length, map, slice_index, refl, sym, ap, ◌∙◌, inl, inr}
use Rattle.std.proofs.lemmas.Bool.{cases_eq}
use Rattle.luks_area.specs.declared.area.Area.{Area as TheArea}
use Rattle.luks_area.specs.declared.area.AreaName.{AreaName}
use Rattle.luks_area.specs.declared.area.AreaName.TheVariants.{Head1, Head2, Segment, Slot}
use Rattle.luks_area.specs.Ranges.{part}
use Rattle.luks_area.specs.Sectors.{rounded_to_sectors}
use Rattle.luks_area.specs.Text.{is_plain}
use Rattle.luks1_header.specs.declared.fault.HeadFault.{HeadFault}
use Rattle.luks1_header.specs.declared.fault.HeadFault.TheVariants as head
use Rattle.luks1_header.specs.declared.fault.IterationsOf.TheVariants as of
use Rattle.luks1_header.specs.declared.fault.TextField.{TextField}
use Rattle.luks1_header.specs.declared.fault.TextField.TheVariants as field
use Rattle.luks1_header.specs.Bytes.{is_uuid_byte, IsUuid, number_at, text_at}
use Rattle.luks1_header.specs.Faults.{HasUnknownState, IsLuks1Fault as IsHeadFault, LacksIterations}
use Rattle.luks1_header.specs.Header1.{active_word, disabled_word, enabled_word, entry, entry_iterations, entry_stripes, field_at, field_len, HasMagic, header_text, key_bytes_of, luks1_size, luks_magic, mk_digest_iterations_of, version_of}
use Rattle.luks_rules.specs.Faults.{Among}
use Rattle.luks_reading.specs.declared.check_fault.CheckFault.{CheckFault}
use Rattle.luks_reading.specs.declared.check_fault.CheckFault.TheVariants as check
use Rattle.luks_reading.specs.declared.report.Data.{Data}
use Rattle.luks_reading.specs.declared.report.Data.TheVariants.{Elsewhere, Here}
use Rattle.luks_reading.specs.Checked.{check_key, IsLuks1Fault}
use Rattle.luks_reading.specs.Layout1.{Luks1Area}
use Rattle.luks_laws.proofs.AreaDecisions.{among_areas, area_candidates, area_fault_decided}
use Rattle.luks_laws.proofs.DecidedFacts.{among_each, among_left, among_map, among_right, at_most_decided, both_decided, Decided, each, LeastOrNone, least_or_none, less_decided, not_decided, same_list_decided, some_below_decided, true_decided}

-- ---- the header

pub uuid_decided : (text : List ℕ) → Decided (IsUuid text)
uuid_decided text = elim (cases_eq (length text) 36) [
  | inl long ↦ elim (some_below_decided (λ k. is_uuid_byte k (slice_index text k) ≡ true → ⊥) (λ k. not_decided (is_uuid_byte k (slice_index text k) ≡ true) (true_decided (is_uuid_byte k (slice_index text k)))) 36) [
    | inl bad ↦ inr (λ u. bad.2 (u.digits bad.0 bad.1))
    | inr none ↦ inl (record {
      long = long;
      digits = λ k low. elim (true_decided (is_uuid_byte k (slice_index text k))) [
        | inl good ↦ good
        | inr bad ↦ absurd (none (k, low, bad))
      ];
    })
  ]
  | inr short ↦ inr (λ u. short u.long)
]

pub unknown_state_decided : (e : List ℕ) → Decided (HasUnknownState e)
unknown_state_decided e = both_decided _ _ (not_decided _ (cases_eq (active_word e) enabled_word)) (not_decided _ (cases_eq (active_word e) disabled_word))

pub lacks_iterations_decided : (e : List ℕ) → Decided (LacksIterations e)
lacks_iterations_decided e = both_decided _ _ (cases_eq (active_word e) enabled_word) (cases_eq (entry_iterations e) 0)

key_bytes_decided : (k : ℕ) → Decided (1 ≤ k → k ≤ 128 → ⊥)
key_bytes_decided k = elim (both_decided (1 ≤ k) (k ≤ 128) (at_most_decided 1 k) (at_most_decided k 128)) [
  | inl good ↦ inr (λ bad. bad good.0 good.1)
  | inr bad ↦ inl (λ low high. bad (low, high))
]

pub head_fault_decided : (h : List ℕ) (f : HeadFault) → Decided (IsHeadFault h f)
head_fault_decided h head.TooShort = less_decided (length h) luks1_size
head_fault_decided h head.NotLuks = not_decided (HasMagic h) (same_list_decided (part h 0 6) luks_magic)
head_fault_decided h head.Version = not_decided (version_of h ≡ 1) (cases_eq (version_of h) 1)
head_fault_decided h head.NoSoundCopy = inr (λ bad. bad)
head_fault_decided h (head.Text t) = not_decided _ (true_decided (is_plain (text_at h (field_at t) (field_len t))))
head_fault_decided h head.Uuid = not_decided _ (uuid_decided (header_text h field.Uuid))
head_fault_decided h (head.SlotState n) = both_decided _ _ (less_decided n 8) (unknown_state_decided (entry h n))
head_fault_decided h head.KeyBytes = key_bytes_decided (key_bytes_of h)
head_fault_decided h (head.Stripes n) = both_decided _ _ (less_decided n 8) (cases_eq (entry_stripes (entry h n)) 0)
head_fault_decided h (head.Iterations (of.Slot n)) = both_decided _ _ (less_decided n 8) (lacks_iterations_decided (entry h n))
head_fault_decided h (head.Iterations of.Digest) = cases_eq (mk_digest_iterations_of h) 0
head_fault_decided h head.Device = inr (λ bad. bad)
head_fault_decided h head.Memory = inr (λ bad. bad)

-- the faults that may stand: those of the whole header, and those of each entry
unfoldable pub whole_faults : List HeadFault
whole_faults =
    head.TooShort ∷ head.NotLuks ∷ head.Version
    ∷ head.Text field.CipherName ∷ head.Text field.CipherMode ∷ head.Text field.HashSpec ∷ head.Text field.Uuid
    ∷ head.Uuid ∷ head.KeyBytes ∷ head.Iterations of.Digest ∷ []

iterations_of : ℕ → HeadFault
iterations_of n = head.Iterations (of.Slot n)

entry_faults : List HeadFault
entry_faults = each head.SlotState 8 ++ (each head.Stripes 8 ++ each iterations_of 8)

head_candidates : List HeadFault
head_candidates = whole_faults ++ entry_faults

among_whole : (f : HeadFault) → Among f whole_faults → Among f head_candidates
unfolding head_candidates
among_whole f at = among_left f whole_faults entry_faults at

among_entries : (f : HeadFault) → Among f entry_faults → Among f head_candidates
unfolding head_candidates
among_entries f at = among_right f whole_faults entry_faults at

pub among_texts : (t : TextField) → Among (head.Text t) whole_faults
unfolding whole_faults
among_texts field.CipherName = inr (inr (inr (inl refl)))
among_texts field.CipherMode = inr (inr (inr (inr (inl refl))))
among_texts field.HashSpec = inr (inr (inr (inr (inr (inl refl)))))
among_texts field.Uuid = inr (inr (inr (inr (inr (inr (inl refl))))))

among_states : (n : ℕ) → n < 8 → Among (head.SlotState n) entry_faults
unfolding entry_faults
among_states n low = among_left _ (each head.SlotState 8) (each head.Stripes 8 ++ each iterations_of 8) (among_each head.SlotState 8 n low)

among_stripes : (n : ℕ) → n < 8 → Among (head.Stripes n) entry_faults
unfolding entry_faults
among_stripes n low = among_right _ (each head.SlotState 8) (each head.Stripes 8 ++ each iterations_of 8)
    (among_left _ (each head.Stripes 8) (each iterations_of 8) (among_each head.Stripes 8 n low))

among_iterations : (n : ℕ) → n < 8 → Among (head.Iterations (of.Slot n)) entry_faults
unfolding entry_faults iterations_of
among_iterations n low = among_right _ (each head.SlotState 8) (each head.Stripes 8 ++ each iterations_of 8)
    (among_right _ (each head.Stripes 8) (each iterations_of 8) (among_each iterations_of 8 n low))

among_heads : (h : List ℕ) (f : HeadFault) → IsHeadFault h f → Among f head_candidates
unfolding whole_faults
among_heads h head.TooShort bad = among_whole _ (inl refl)
among_heads h head.NotLuks bad = among_whole _ (inr (inl refl))
among_heads h head.Version bad = among_whole _ (inr (inr (inl refl)))
among_heads h head.NoSoundCopy bad = absurd bad
among_heads h (head.Text t) bad = among_whole _ (among_texts t)
among_heads h head.Uuid bad = among_whole _ (inr (inr (inr (inr (inr (inr (inr (inl refl))))))))
among_heads h (head.SlotState n) bad = among_entries _ (among_states n bad.0)
among_heads h head.KeyBytes bad = among_whole _ (inr (inr (inr (inr (inr (inr (inr (inr (inl refl)))))))))
among_heads h (head.Stripes n) bad = among_entries _ (among_stripes n bad.0)
among_heads h (head.Iterations (of.Slot n)) bad = among_entries _ (among_iterations n bad.0)
among_heads h (head.Iterations of.Digest) bad = among_whole _ (inr (inr (inr (inr (inr (inr (inr (inr (inr (inl refl))))))))))
among_heads h head.Device bad = absurd bad
among_heads h head.Memory bad = absurd bad

-- ---- the areas

pub same_area : (a b : TheArea) → a.start ≡ b.start → a.len ≡ b.len → a ≡ b
same_area a b starts lens = let P : ℕ → TheArea = λ s. record { start = s; len = a.len } in let Q : ℕ → TheArea = λ l. record { start = b.start; len = l } in ap P starts ∙ ap Q lens

module _ (h : List ℕ) (payload : Data) (total : ℕ) where
  find_segment : (n : ℕ) (payload : Data) → ((a : TheArea) × Luks1Area h payload total (Segment n) a) ⊎ ((a : TheArea) → Luks1Area h payload total (Segment n) a → ⊥)
  find_segment n Here = elim (cases_eq n 0) [
    | inl first ↦ inl (record { start = number_at h 104 4 * 512; len = total - number_at h 104 4 * 512 }, (first, refl, refl, refl))
    | inr other ↦ inr (λ a x. other x.0)
  ]
  find_segment n Elsewhere = inr (λ a x. let e = x.1 in absurd (cc))

  find_area : (n : AreaName) → ((a : TheArea) × Luks1Area h payload total n a) ⊎ ((a : TheArea) → Luks1Area h payload total n a → ⊥)
  find_area Head1 = inl (record { start = 0; len = 592 }, (refl, refl))
  find_area Head2 = inr (λ a x. x)
  find_area (Slot n) = elim (less_decided n 8) [
    | inl low ↦ inl (record { start = number_at (entry h n) 40 4 * 512; len = rounded_to_sectors (number_at h 108 4 * entry_stripes (entry h n)) }, (low, refl, refl))
    | inr high ↦ inr (λ a x. high x.0)
  ]
  find_area (Segment n) = find_segment n payload

  one_area : (n : AreaName) (a b : TheArea) → Luks1Area h payload total n a → Luks1Area h payload total n b → a ≡ b
  one_area Head1 a b x y = same_area a b (x.0 ∙ sym y.0) (x.1 ∙ sym y.1)
  one_area Head2 a b x y = absurd x
  one_area (Slot n) a b x y = same_area a b (x.1 ∙ sym y.1) (x.2 ∙ sym y.2)
  one_area (Segment n) a b x y = let starts : a.start ≡ b.start = x.2 ∙ sym y.2 in same_area a b starts (x.3 ∙ ap (λ s. total - s) starts ∙ sym y.3)

names : List AreaName
names = Head1 ∷ (each Slot 8 ++ Segment 0 ∷ [])

among_names : (h : List ℕ) (payload : Data) (total : ℕ) (n : AreaName) (a : TheArea) → Luks1Area h payload total n a → Among n names
unfolding names
among_names h payload total Head1 a x = inl refl
among_names h payload total Head2 a x = absurd x
among_names h payload total (Slot n) a x = inr (among_left (Slot n) (each Slot 8) (Segment 0 ∷ []) (among_each Slot 8 n x.0))
among_names h payload total (Segment n) a x = inr (among_right (Segment n) (each Slot 8) (Segment 0 ∷ []) (inl (ap Segment x.0)))

-- ---- the volume

luks1_fault_decided : (h : List ℕ) (payload : Data) (total : ℕ) (f : CheckFault) → Decided (IsLuks1Fault h payload total f)
luks1_fault_decided h payload total (check.Head f) = head_fault_decided h f
luks1_fault_decided h payload total (check.Meta f) = inr (λ bad. bad)
luks1_fault_decided h payload total (check.Area f) = area_fault_decided (Luks1Area h payload total) total (find_area h payload total) (one_area h payload total) f
luks1_fault_decided h payload total check.Device = inr (λ bad. bad)
luks1_fault_decided h payload total check.Memory = inr (λ bad. bad)

check_candidates : List CheckFault
check_candidates = map check.Head head_candidates ++ map check.Area (area_candidates names)

among_checks : (h : List ℕ) (payload : Data) (total : ℕ) (f : CheckFault) → IsLuks1Fault h payload total f → Among f check_candidates
unfolding check_candidates
among_checks h payload total (check.Head f) bad =
    among_left _ (map check.Head head_candidates) (map check.Area (area_candidates names)) (among_map check.Head f head_candidates (among_heads h f bad))
among_checks h payload total (check.Meta f) bad = absurd bad
among_checks h payload total (check.Area f) bad =
    among_right _ (map check.Head head_candidates) (map check.Area (area_candidates names))
    (among_map check.Area f (area_candidates names) (among_areas (Luks1Area h payload total) total names (among_names h payload total) f bad))
among_checks h payload total check.Device bad = absurd bad
among_checks h payload total check.Memory bad = absurd bad

pub luks1_least_or_none : (h : List ℕ) (payload : Data) (total : ℕ) → LeastOrNone CheckFault check_key (IsLuks1Fault h payload total)
luks1_least_or_none h payload total =
    least_or_none CheckFault check_key (IsLuks1Fault h payload total) (luks1_fault_decided h payload total) check_candidates (among_checks h payload total)
