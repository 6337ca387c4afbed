-- The areas of a volume that was accepted.
use Rattle.std.proofs.Common.{◌≡◌, ℕ, ◌+◌, ◌-◌, ◌≤◌, List, length, ◌∙◌, subst, arith}
use Rattle.luks_area.specs.declared.area.Area.{Area}
use Rattle.luks_area.specs.declared.area.AreaName.{AreaName}
use Rattle.luks_area.specs.declared.areas.Entry.{Entry}
use Rattle.luks_area.proofs.RangeFacts.{length-part_inside}
use Rattle.luks2_header.specs.Header2.{hdr_size, header_at, IsSound}
use Rattle.luks2_header.specs.Selection.{luks2}
use Rattle.luks2_header.proofs.CopyFacts.{listed_at_least}
use Rattle.luks2_header.proofs.ChoiceFacts.{choices_agree}
use Rattle.luks_rules.proofs.AreaFaults.{one_value}
use Rattle.luks_meta.specs.Content.{area_len, content}
use Rattle.luks_reading.specs.declared.header.ChosenCopy.{ChosenCopy}
use Rattle.luks_reading.specs.declared.report.Data.{Data}
use Rattle.luks_reading.specs.Checked.{AreaOf, HasAreaAs}
use Rattle.luks_reading.specs.Header.{json_at, IsChosenCopy}
use Rattle.luks_reading.specs.Layout2.{Luks2Area}
use Rattle.luks_reading.specs.Listing.{Lists}
use Rattle.luks2_edit_laws.proofs.SoundCopyFacts.{copy_sound}

-- ---- the copy that counts

module _ (v : List ℕ) (copy : ChosenCopy) (x : IsChosenCopy v copy) where
  -- its binary header and its JSON area make up its size
  pub copy_long : IsSound v copy.header.hdr_offset → area_len copy.meta + 4096 ≡ hdr_size (header_at v copy.header.hdr_offset)
  copy_long sound =
      let o : ℕ = copy.header.hdr_offset in
      let h : ℕ = hdr_size (header_at v o) in
      let least : 16384 ≤ h = listed_at_least h sound.form.listed in
      let inside : o + h ≤ length v = sound.form.inside in
      let len : area_len copy.meta ≡ h - 4096 = x.area_len ∙ length-part_inside v (o + 4096) (h - 4096) (omega (arith, least, inside)) in
      omega (arith, least, len)

  -- its metadata names the volume's areas
  named_here : (payload : Data) (n : AreaName) (a : Area) → AreaOf v payload n a
      → Luks2Area (content copy.meta) (hdr_size (header_at v copy.header.hdr_offset)) payload (length v) n a
  named_here payload n a y =
      let there = subst (λ c. HasAreaAs v payload c n a) (choices_agree v y.choice (luks2 copy.header.hdr_offset copy.copies) y.chosen x.chosen) y.area in
      let same : there.value ≡ content copy.meta = one_value (json_at v copy.header.hdr_offset) there.value (content copy.meta) there.holds x.metadata.json in
      subst (λ j. Luks2Area j (hdr_size (header_at v copy.header.hdr_offset)) payload (length v) n a) same there.area

  pub lists_here : (entries : List Entry) (payload : Data) (h total : ℕ) → h ≡ hdr_size (header_at v copy.header.hdr_offset) → length v ≡ total
      → Lists entries (AreaOf v payload) → Lists entries (Luks2Area (content copy.meta) h payload total)
  lists_here entries payload h total size long lists = rw (size, ← long) (record {
    only = λ n a there. named_here payload n a (lists.only n a there);
    all = λ n a there. lists.all n a (record {
      choice = luks2 copy.header.hdr_offset copy.copies;
      chosen = x.chosen;
      area = record { value = content copy.meta; holds = x.metadata.json; area = there };
    });
  })

-- ---- the row `NoRoom`, of the areas that were listed in a volume of `total` bytes

module _ (v : List ℕ) (copy : ChosenCopy) (x : IsChosenCopy v copy) where
  pub header_long : area_len copy.meta + 4096 ≡ hdr_size (header_at v copy.header.hdr_offset)
  header_long = copy_long v copy x (copy_sound v copy.header.hdr_offset copy.copies x.chosen)

  pub listed_here : (payload : Data) (total : ℕ) → length v ≡ total → (entries : List Entry) → Lists entries (AreaOf v payload)
      → Lists entries (Luks2Area (content copy.meta) (area_len copy.meta + 4096) payload total)
  listed_here payload total size entries lists = lists_here v copy x entries payload (area_len copy.meta + 4096) total header_long size lists
