-- The key areas that are found of a header.
use Rattle.std.proofs.Common.{◌≡◌, ℕ, ◌<◌, List, codes, min, Option, Some, None, option_and_then, sym, ap, subst, ◌∙◌, arith}
use Rattle.serde_json.specs.Data.{Data as Value}
use Rattle.serde_json.specs.Find.{get}
use Rattle.luks_area.specs.declared.area.Area.{Area}
use Rattle.luks_area.specs.declared.area.AreaName.TheVariants.{Slot}
use Rattle.luks_meta.specs.Content.{content}
use Rattle.luks_meta.specs.Faults.{object_at}
use Rattle.luks_meta.specs.Reading.{decimal_in}
use Rattle.luks_rules.specs.declared.table.Section.TheVariants.{Keyslots}
use Rattle.luks_reading.proofs.Luks2AreaFacts.{luks2_area-unique}
use Rattle.luks_reading.specs.Layout2.{slot_number}
use Rattle.luks_reading.specs.declared.header.ChosenCopy.{ChosenCopy}
use Rattle.luks_reading.specs.declared.header.Header.{Header}
use Rattle.luks_reading.specs.declared.header.Header.TheVariants.{Luks1, Luks2}
use Rattle.luks_reading.specs.declared.report.Data.TheVariants.{Elsewhere}
use Rattle.luks_keeping.specs.Kept.{lead_of}
use Rattle.luks_keeping.specs.Laid.{header_lead, first_size, second_size, FindsSlot, HasSlot, HasSlot2, HoldsSlots, IsLaidOut}
use Rattle.luks_keeping.specs.declared.places.Places.{Places}

-- ---- one keyslot of LUKS2

pub no_slot : (j : Value) (n : ℕ) (a : Area) → object_at j Keyslots n ≡ None → HasSlot2 j n a → ⊥
no_slot j n a gone is =
    let none : slot_number j n (codes "offset") ≡ None =
    ap (λ o. decimal_in (option_and_then (get (codes "offset")) (option_and_then (get (codes "area")) o))) gone in
    let some = is.1 in
    absurd (cc)

-- ---- the list of them

some_same : {A : Type 0} (x y : A) → Some x ≡ Some y → x ≡ y
some_same x y e = cc

found_is : (slot : Area → Type 0) (o : Option Area) → ((a b : Area) → slot a → slot b → a ≡ b) → FindsSlot slot o → (a : Area) → slot a → o ≡ Some a
found_is slot None one x a is = absurd (x a is)
found_is slot (Some b) one x a is = ap Some (one b a x is)

found_only : (slot : Area → Type 0) (o : Option Area) → FindsSlot slot o → (a : Area) → o ≡ Some a → slot a
found_only slot None x a e = absurd (cc)
found_only slot (Some b) x a e = subst slot (some_same b a e) x

area_same : (a b : Area) → a.start ≡ b.start → a.len ≡ b.len → a ≡ b
area_same a b start len = ap (λ s. record { start = s; len = a.len }) start ∙ ap (λ l. record { start = b.start; len = l }) len

one_slot : (header : Header) (n : ℕ) (a b : Area) → HasSlot header n a → HasSlot header n b → a ≡ b
one_slot (Luks1 bytes) n a b x y = area_same a b (x.area.1 ∙ sym y.area.1) (x.area.2 ∙ sym y.area.2)
one_slot (Luks2 copy) n a b x y = luks2_area-unique (content copy.meta) 0 Elsewhere 0 (Slot n) a b x y

low_slot : (header : Header) (n : ℕ) (a : Area) → HasSlot header n a → n < 32
low_slot (Luks1 bytes) n a x = (let low = x.area.0 in omega (arith, low))
low_slot (Luks2 copy) n a x = x.0

module _ (header : Header) (places : Places) (held : HoldsSlots header 32 places.areas) where
  pub laid_out : places.lead ≡ min (header_lead header) (first_size header) → places.first ≡ first_size header → places.second ≡ second_size header → IsLaidOut header places
  laid_out lead first second = record {
    lead = lead;
    first = first;
    second = second;
    all = λ n a is. (let low = low_slot header n a is in (low, found_is (HasSlot header n) _ (one_slot header n) (held.each n low) a is));
    only = λ n a is. found_only (HasSlot header n) _ (held.each n is.0) a is.1;
  }

pub laid1 : (header : Header) (bytes : List ℕ) (areas : List (Option Area)) → header ≡ Luks1 bytes → HoldsSlots header 32 areas
    → IsLaidOut header (record { lead = 0; first = 592; second = 0; areas = areas })
laid1 header bytes areas is held =
    laid_out header (record { lead = 0; first = 592; second = 0; areas = areas }) held (sym (ap (λ h. min (header_lead h) (first_size h)) is)) (sym (ap first_size is)) (sym (ap second_size is))

pub laid2 : (header : Header) (copy : ChosenCopy) (areas : List (Option Area)) (l : ℕ) → header ≡ Luks2 copy → l ≡ min (lead_of copy.copies) copy.header.hdr_size → HoldsSlots header 32 areas
    → IsLaidOut header (record { lead = l; first = copy.header.hdr_size; second = copy.header.hdr_size; areas = areas })
laid2 header copy areas l is lead held =
    laid_out header (record { lead = l; first = copy.header.hdr_size; second = copy.header.hdr_size; areas = areas }) held (lead ∙ sym (ap (λ h. min (header_lead h) (first_size h)) is)) (sym (ap first_size is)) (sym (ap second_size is))
