-- What is said of a copy that was read is said of its volume; and a volume that has its header reads the same.
use Rattle.std.proofs.Common.{◌≡◌, ℕ, ◌+◌, ◌*◌, ◌-◌, ◌≤◌, List, length, sym, ap, subst, ◌∙◌, arith}
use Rattle.serde_json.specs.Data.{Data as Value}
use Rattle.luks_area.specs.First.{IsLeast}
use Rattle.luks2_header.proofs.ChoiceFacts.{choices_agree, chosen_is_sound}
use Rattle.luks2_header.proofs.CopyFacts.{listed_at_least}
use Rattle.luks2_header.specs.Header2.{hdr_size, header_at, uuid_field, HoldsBin2, IsUuidFault, IsUuidField}
use Rattle.luks2_header.specs.Selection.{luks2, nothing, Chosen}
use Rattle.luks_json.specs.AreaText.{Json}
use Rattle.luks_rules.proofs.AreaFaults.{one_value}
use Rattle.luks_reading.specs.Checked.{check_key}
use Rattle.luks_reading.specs.Header.{json_at, read_key, IsReadFaultAs, IsUnread}
use Rattle.luks_reading.specs.declared.check_fault.CheckFault.{CheckFault}
use Rattle.luks_reading.specs.declared.read_fault.ReadFault.{ReadFault}
use Rattle.luks_reading.specs.declared.read_fault.ReadFault.TheVariants as reading
use Rattle.luks_reading.specs.declared.report.Data.{Data}
use Rattle.luks_reading.proofs.ReadFaults.{as_unread, unread_as}
use Rattle.luks_rules.specs.MetaFault.{IsMetaFault}
use Rattle.luks_keeping.specs.Backup.{IsBackupSize, IsLuks2Size}
use Rattle.luks_keeping.specs.Kept.{HasHeader}
use Rattle.luks_keeping.proofs.KeptFacts.{chosen_there, header_same, json_same}
use Rattle.luks_wider.specs.Underways.{area_len, content}
use Rattle.luks_wider.specs.Wide.{IsWiderOf}
use Rattle.luks_wider.specs.declared.wider.Wider.TheVariants as wider
use Rattle.luks_wide_reading.specs.declared.copy.UnderwayCopy.{UnderwayCopy}
use Rattle.luks_wide_reading.specs.Headers.{IsUnderwayCopy}
use Rattle.luks_wide_keeping.specs.Layout.{FitsUnderway, IsLayoutFault, IsUnderwayFault}
use Rattle.luks_wide_keeping.specs.Whole.{IsWholeSize}

module _ (v : List ℕ) (c : UnderwayCopy) (is : IsUnderwayCopy v c) where
  pub bytes_are : hdr_size (header_at v c.header.hdr_offset) ≡ c.header.hdr_size
  bytes_are = is.header.hdr_size

  -- a header has at least so many
  pub large : 16384 ≤ c.header.hdr_size
  large =
      let listed = listed_at_least (hdr_size (header_at v c.header.hdr_offset)) (chosen_is_sound v c.header.hdr_offset c.copies is.chosen.1).form.listed in
      let same = bytes_are in
      omega (arith, listed, same)

  -- ---- the layout

  pub to_fault : (payload : Data) (total : ℕ) (f : CheckFault) → IsLayoutFault c.header.hdr_size (content c.meta) payload total f → IsUnderwayFault v payload total f
  to_fault payload total f x = record {
    place = c.header.hdr_offset;
    copies = c.copies;
    chosen = is.chosen;
    value = content c.meta;
    holds = is.metadata.0;
    fault = subst (λ (n : ℕ). IsLayoutFault n (content c.meta) payload total f) (sym bytes_are) x;
  }

  pub from_fault : (payload : Data) (total : ℕ) (f : CheckFault) → IsUnderwayFault v payload total f → IsLayoutFault c.header.hdr_size (content c.meta) payload total f
  from_fault payload total f x =
      let same : luks2 x.place x.copies ≡ luks2 c.header.hdr_offset c.copies = choices_agree v (luks2 x.place x.copies) (luks2 c.header.hdr_offset c.copies) x.chosen is.chosen in
      let place : x.place ≡ c.header.hdr_offset = cc in
      let value : x.value ≡ content c.meta = one_value (json_at v c.header.hdr_offset) x.value (content c.meta) (subst (λ (o : ℕ). Json (json_at v o) x.value) place x.holds) is.metadata.0 in
      let bytes : hdr_size (header_at v x.place) ≡ c.header.hdr_size = ap (λ (o : ℕ). hdr_size (header_at v o)) place ∙ bytes_are in
      subst (λ (n : ℕ). IsLayoutFault n (content c.meta) payload total f) bytes (subst (λ (j : Value). IsLayoutFault (hdr_size (header_at v x.place)) j payload total f) value x.fault)

  pub least_fault : (payload : Data) (total : ℕ) (f : CheckFault) → IsLeast check_key (IsLayoutFault c.header.hdr_size (content c.meta) payload total) f
      → IsLeast check_key (IsUnderwayFault v payload total) f
  least_fault payload total f x = (to_fault payload total f x.0, λ g y. x.1 g (from_fault payload total g y))

  pub fits : (payload : Data) (total : ℕ) → ((f : CheckFault) → IsLayoutFault c.header.hdr_size (content c.meta) payload total f → ⊥) → FitsUnderway v payload total
  fits payload total none = record { none = λ f x. none f (from_fault payload total f x) }

  -- ---- the size

  pub size_there : (size : ℕ) → IsWholeSize c size → IsLuks2Size (hdr_size (header_at v c.header.hdr_offset)) (json_at v c.header.hdr_offset) size
  size_there size x = record {
    value = content c.meta;
    holds = is.metadata.0;
    region = x.region;
    says = x.says;
    is = x.is ∙ ap (λ (n : ℕ). 2 * n + x.region) (sym bytes_are);
  }

  pub backup_size : (payload : Data) (size : ℕ) → IsWholeSize c size → IsBackupSize v payload size
  backup_size payload size x = record { choice = luks2 c.header.hdr_offset c.copies; chosen = is.chosen; is = size_there size x }

  -- ---- a volume that has its header

  module _ (w : List ℕ) (has : HasHeader v (luks2 c.header.hdr_offset c.copies) w) (here : 2 * c.header.hdr_size ≤ length v) (there : 2 * c.header.hdr_size ≤ length w) where
    counts : Chosen w (luks2 c.header.hdr_offset c.copies)
    counts =
        let same = bytes_are in
        chosen_there v w (luks2 c.header.hdr_offset c.copies) is.chosen has (omega (arith, same, here)) (omega (arith, same, there))
        (λ e. (let no : luks2 c.header.hdr_offset c.copies ≡ nothing = e in cc))

    head : header_at w c.header.hdr_offset ≡ header_at v c.header.hdr_offset
    head = header_same v w c.header.hdr_offset c.copies is.chosen.1 has

    json : json_at w c.header.hdr_offset ≡ json_at v c.header.hdr_offset
    json = json_same v w c.header.hdr_offset c.copies is.chosen.1 has

    fault_there : (f : ReadFault) → IsReadFaultAs w (luks2 c.header.hdr_offset c.copies) f → IsReadFaultAs v (luks2 c.header.hdr_offset c.copies) f
    fault_there (reading.Head f) x = subst (λ (b : List ℕ). IsUuidFault (uuid_field b) f) head x
    fault_there (reading.Meta f) x = subst (λ (a : List ℕ). IsMetaFault a f) json x
    fault_there reading.Device x = x
    fault_there reading.Memory x = x

    unread_there : IsUnread w (reading.Meta c.narrow_fault)
    unread_there =
        let was = as_unread v (reading.Meta c.narrow_fault) is.narrow in
        let same = choices_agree v was.choice (luks2 c.header.hdr_offset c.copies) was.chosen is.chosen in
        let least = subst (λ k. IsLeast read_key (IsReadFaultAs v k) (reading.Meta c.narrow_fault)) same was.least in
        unread_as w (luks2 c.header.hdr_offset c.copies) (reading.Meta c.narrow_fault) counts (
          subst (λ (a : List ℕ). IsMetaFault a c.narrow_fault) (sym json) least.0,
          λ g x. least.1 g (fault_there g x),
        )

    -- what was read of the one is read of the other
    pub copy_there : IsUnderwayCopy w c
    copy_there = record {
      chosen = counts;
      header = subst (λ (b : List ℕ). HoldsBin2 b c.header) (sym head) is.header;
      uuid = subst (λ (b : List ℕ). IsUuidField (uuid_field b)) (sym head) is.uuid;
      metadata = subst (λ (a : List ℕ). IsWiderOf a (wider.Underway c.meta)) (sym json) is.metadata;
      area_len = is.area_len ∙ ap length (sym json);
      narrow = unread_there;
    }
