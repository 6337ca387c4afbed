-- Whether the header that counts on a target is another volume's.
use Rattle.std.proofs.Common.{◌≡◌, ◌≢◌, ◌↔◌, ◌&&◌, ℕ, List, Bool, true, false, refl, sym, ap, ◌∙◌, not, IsTrue, ◌⊎◌, inl, inr}
use Rattle.std.proofs.lemmas.Bool.{false≢true}
use Rattle.luks_area.specs.Ranges.{part}
use Rattle.luks1_header.specs.Faults.{is_device_fault}
use Rattle.luks1_header.specs.declared.fault.HeadFault.{HeadFault}
use Rattle.luks1_header.specs.declared.fault.HeadFault.TheVariants as head
use Rattle.luks2_header.proofs.ChoiceFacts.{choices_agree}
use Rattle.luks2_header.specs.Selection.{luks1, luks2, nothing, Chosen, IsRefused, IsSelected}
use Rattle.luks2_header.specs.declared.selection.Selected.{Selected}
use Rattle.luks2_header.specs.declared.selection.Selected.TheVariants.{V1, V2}
use Rattle.luks_rules.specs.declared.fault.MetaFault.{MetaFault}
use Rattle.luks_reading.proofs.ReadFaults.{nothing_counts}
use Rattle.luks_reading.specs.Conversions.{head_unread}
use Rattle.luks_reading.specs.Header.{IsHeader}
use Rattle.luks_reading.specs.declared.header.Header.{Header}
use Rattle.luks_reading.specs.declared.header.Header.TheVariants.{Luks1, Luks2}
use Rattle.luks_reading.specs.declared.read_fault.ReadFault.{ReadFault}
use Rattle.luks_reading.specs.declared.read_fault.ReadFault.TheVariants as read
use Rattle.luks_keeping.specs.Laid.{choice_of}
use Rattle.luks_keeping.specs.OtherHeaders.{read_uuid, selected_choice, selected_uuid, TellsOther}
use Rattle.luks_keeping.specs.SameKey.{SharesDigest}
use Rattle.luks_keeping.specs.SameVolume.{uuid_bytes, HasOtherUuid, IsOtherVolume}
use Rattle.luks_keeping.proofs.LaidFacts.{chosen_of}

-- ---- nothing counts

-- what isn't a failure
pub not_device : (r : ReadFault) → ((x : HeadFault) × (r ≡ read.Head x)) ⊎ (((m : MetaFault) × (r ≡ read.Meta m)) ⊎ (r ≡ read.Memory)) → r ≢ read.Device
not_device r (inl x) e = (let no : read.Head x.0 ≡ read.Device = sym x.1 ∙ e in cc)
not_device r (inr (inl x)) e = (let no : read.Meta x.0 ≡ read.Device = sym x.1 ∙ e in cc)
not_device r (inr (inr x)) e = (let no : read.Memory ≡ read.Device = sym x ∙ e in cc)

-- a selection's own fault says so
pub unselected : (v : List ℕ) (f : HeadFault) → head_unread f ≢ read.Device → IsRefused v f → Chosen v nothing
unselected v head.TooShort e x = nothing_counts v head.TooShort x.0
unselected v head.NotLuks e x = nothing_counts v head.NotLuks x.0
unselected v head.Version e x = nothing_counts v head.Version x.0
unselected v head.NoSoundCopy e x = nothing_counts v head.NoSoundCopy x.0
unselected v (head.Text t) e x = nothing_counts v (head.Text t) x.0
unselected v head.Uuid e x = nothing_counts v head.Uuid x.0
unselected v (head.SlotState m) e x = nothing_counts v (head.SlotState m) x.0
unselected v head.KeyBytes e x = nothing_counts v head.KeyBytes x.0
unselected v (head.Stripes m) e x = nothing_counts v (head.Stripes m) x.0
unselected v (head.Iterations o) e x = nothing_counts v (head.Iterations o) x.0
unselected v head.Device e x = absurd (e refl)
unselected v head.Memory e x = nothing_counts v head.Memory x.0

-- and no call failed
pub no_call_failed : (f : HeadFault) → head_unread f ≢ read.Device → is_device_fault f ≡ false
no_call_failed head.Device e = absurd (e refl)
no_call_failed other e = refl

pub none_other : (b t : List ℕ) → Chosen t nothing → HasOtherUuid b t → ⊥
none_other b t none x = x.some (choices_agree t x.other nothing x.counts none)

-- ---- a header counts

uuid_of_selected : (t : List ℕ) (s : Selected) → IsSelected t s → selected_uuid s ≡ uuid_bytes t (selected_choice s)
uuid_of_selected t (V1 bytes) x = ap (λ l. part l 168 40) x.1
uuid_of_selected t (V2 header copies) x = sym x.1.uuid

uuid_of_header : (b : List ℕ) (h : Header) → IsHeader b h → read_uuid h ≡ uuid_bytes b (choice_of h)
uuid_of_header b (Luks1 bytes) is = ap (λ l. part l 168 40) is.1
uuid_of_header b (Luks2 copy) is = sym is.header.uuid

chosen_selected : (t : List ℕ) (s : Selected) → IsSelected t s → Chosen t (selected_choice s)
chosen_selected t (V1 bytes) x = x.0
chosen_selected t (V2 header copies) x = x.0

selected_some : (s : Selected) → selected_choice s ≢ nothing
selected_some (V1 bytes) e = (let no : luks1 ≡ nothing = e in cc)
selected_some (V2 header copies) e = (let no : luks2 header.hdr_offset copies ≡ nothing = e in cc)

module _ (b t : List ℕ) (h : Header) (is : IsHeader b h) (s : Selected) (x : IsSelected t s) where
  -- one with another uuid is another volume's
  pub other_uuid : (selected_uuid s ≡ read_uuid h → ⊥) → HasOtherUuid b t
  other_uuid differ = record {
    choice = choice_of h;
    chosen = chosen_of b h is;
    other = selected_choice s;
    counts = chosen_selected t s x;
    some = selected_some s;
    uuid = λ e. differ (uuid_of_selected t s x ∙ e ∙ sym (uuid_of_header b h is));
  }

  -- one with the same isn't
  pub same_uuid : selected_uuid s ≡ read_uuid h → HasOtherUuid b t → ⊥
  same_uuid e y = y.uuid (
      ap (uuid_bytes t) (choices_agree t y.other (selected_choice s) y.counts (chosen_selected t s x)) ∙ sym (uuid_of_selected t s x)
      ∙ e ∙ uuid_of_header b h is ∙ ap (uuid_bytes b) (choices_agree b (choice_of h) y.choice (chosen_of b h is) y.chosen))

  pub told_by : (same : Bool) → (IsTrue same ↔ (selected_uuid s ≡ read_uuid h)) → TellsOther b t (not same)
  told_by true e = same_uuid (e.0 refl)
  told_by false e = other_uuid (λ q. false≢true (e.1 q))

-- ---- of two headers that were read

header_some : (h : Header) → choice_of h ≢ nothing
header_some (Luks1 bytes) e = (let no : luks1 ≡ nothing = e in cc)
header_some (Luks2 copy) e = (let no : luks2 copy.header.hdr_offset copy.copies ≡ nothing = e in cc)

module _ (b t : List ℕ) (h k : Header) (is : IsHeader b h) (other : IsHeader t k) where
  pub uuid_differs : (read_uuid k ≡ read_uuid h → ⊥) → HasOtherUuid b t
  uuid_differs differ = record {
    choice = choice_of h;
    chosen = chosen_of b h is;
    other = choice_of k;
    counts = chosen_of t k other;
    some = header_some k;
    uuid = λ e. differ (uuid_of_header t k other ∙ e ∙ sym (uuid_of_header b h is));
  }

  pub uuid_agrees : read_uuid k ≡ read_uuid h → HasOtherUuid b t → ⊥
  uuid_agrees e y = y.uuid (
      ap (uuid_bytes t) (choices_agree t y.other (choice_of k) y.counts (chosen_of t k other)) ∙ sym (uuid_of_header t k other)
      ∙ e ∙ uuid_of_header b h is ∙ ap (uuid_bytes b) (choices_agree b (choice_of h) y.choice (chosen_of b h is) y.chosen))

  -- one uuid
  pub one_uuid : (same : Bool) → same ≡ true → (IsTrue same ↔ (read_uuid k ≡ read_uuid h)) → IsTrue (not same) ↔ IsOtherVolume b t
  one_uuid true on e = (λ q. absurd (false≢true q), λ x. absurd (uuid_agrees (e.0 refl) x.uuid))
  one_uuid false on e = absurd (false≢true on)

  -- another uuid, and no digest in common
  pub is_other : (same shares : Bool) → (IsTrue same ↔ (read_uuid k ≡ read_uuid h)) → (IsTrue shares ↔ SharesDigest b t)
      → IsTrue (not same && not shares) ↔ IsOtherVolume b t
  is_other true shares e s = (λ q. absurd (false≢true q), λ x. absurd (uuid_agrees (e.0 refl) x.uuid))
  is_other false true e s = (λ q. absurd (false≢true q), λ x. absurd (x.key (s.0 refl)))
  is_other false false e s = (
    λ q. record { uuid = uuid_differs (λ p. false≢true (e.1 p)); key = λ d. false≢true (s.1 d) },
    λ x. refl,
  )
