-- The end of the key areas of a LUKS1 header.
use Rattle.std.proofs.Common.{◌≡◌, ℕ, ◌+◌, ◌*◌, ◌<◌, ◌≤◌, List, max, refl, sym, ap, subst, ◌∙◌, arith, inl, inr}
use Rattle.std.proofs.Math.Nat.{mul-le-mul_left}
use Rattle.std.proofs.lemmas.Bool.{cases_eq}
use Rattle.luks_area.specs.Sectors.{rounded_to_sectors}
use Rattle.luks_area.specs.declared.area.Area.{Area}
use Rattle.luks_area.specs.declared.area.AreaName.TheVariants.{Slot}
use Rattle.luks1_header.specs.Header1.{entry, entry_stripes, key_bytes_of, payload_offset_of, IsEntry, IsLuks1}
use Rattle.luks1_header.specs.declared.luks1.Luks1.{Luks1}
use Rattle.luks1_header.specs.declared.luks1.Luks1Slot.{Luks1Slot}
use Rattle.luks_reading.specs.Layout1.{Luks1Area}
use Rattle.luks_reading.specs.declared.report.Data.TheVariants.{Here, Elsewhere}
use Rattle.luks_keeping.specs.Backup.{IsLuks1Size}
use Rattle.luks_keeping.specs.Laid.{HoldsBelow}

-- a key area ends below 2^64
pub end_fits : (offset key stripes start len : ℕ) → offset < 4294967296 → key ≤ 128 → stripes < 4294967296 → start ≡ offset * 512 → len ≡ rounded_to_sectors (key * stripes)
    → start + len < 18446744073709551616
end_fits offset key stripes start len low small few at is =
    let within : key * stripes ≤ key * 4294967296 = mul-le-mul_left key (omega (arith, few)) in
    omega (arith, low, small, within, at, is)

-- the end of an area by the fields that were read
module _ (h : List ℕ) (d : Luks1) (is : IsLuks1 h d) (n : ℕ) (low : n < 8) (s : Luks1Slot) (own : IsEntry (entry h n) s) (end_ : ℕ)
    (at : end_ ≡ s.key_material_offset * 512 + rounded_to_sectors (d.common.key_bytes * s.stripes)) where
  area_ends : (a : Area) → Luks1Area h Elsewhere 0 (Slot n) a → a.start + a.len ≡ end_
  area_ends a x =
      let start : a.start ≡ s.key_material_offset * 512 = x.1 ∙ ap (λ k. k * 512) own.fields.key_material_offset in
      let len : a.len ≡ rounded_to_sectors (d.common.key_bytes * s.stripes) =
      x.2 ∙ ap (λ k. rounded_to_sectors (k * entry_stripes (entry h n))) is.common.fields.key_bytes ∙ ap (λ k. rounded_to_sectors (d.common.key_bytes * k)) own.fields.stripes in
      ap (λ k. k + a.len) start ∙ ap (λ k. s.key_material_offset * 512 + k) len ∙ sym at

  there : Area
  there = record { start = s.key_material_offset * 512; len = rounded_to_sectors (d.common.key_bytes * s.stripes) }

  there_is : Luks1Area h Elsewhere 0 (Slot n) there
  unfolding there
  there_is = (
    low,
    ap (λ k. k * 512) (sym own.fields.key_material_offset),
    ap (λ k. rounded_to_sectors (k * s.stripes)) (sym is.common.fields.key_bytes) ∙ ap (λ k. rounded_to_sectors (key_bytes_of h * k)) (sym own.fields.stripes),
  )

  there_ends : (other : ℕ) → ((a : Area) → Luks1Area h Elsewhere 0 (Slot n) a → a.start + a.len ≤ other) → end_ ≤ other
  unfolding there
  there_ends other all = (let inside = all there there_is in omega (arith, inside, at))

  pub next_below : (old new : ℕ) → HoldsBelow h n old → new ≡ max old end_ → HoldsBelow h (n + 1) new
  next_below old new below most = record {
    header = (let header = below.header in omega (arith, header, most));
    areas = λ k a lt x. elim (cases_eq k n) [
      | inl same ↦ (
          let ends : a.start + a.len ≡ end_ = area_ends a (subst_slot k a same x) in
          omega (arith, ends, most))
      | inr other ↦ (let inside = below.areas k a (omega (arith, lt, other)) x in omega (arith, inside, most))
    ];
    least = λ other header all. (
        let before = below.least other header (λ k a lt x. all k a (omega (arith, lt)) x) in
        let this = there_ends other (λ a x. all n a (omega arith) x) in
        omega (arith, before, this, most));
  }
    where
      subst_slot : (k : ℕ) (a : Area) → k ≡ n → Luks1Area h Elsewhere 0 (Slot k) a → Luks1Area h Elsewhere 0 (Slot n) a
      subst_slot k a same x = subst (λ (m : ℕ). Luks1Area h Elsewhere 0 (Slot m) a) same x

-- none yet
pub none_below : (h : List ℕ) → HoldsBelow h 0 592
none_below h = record {
  header = omega arith;
  areas = λ k a lt x. absurd (omega (arith, lt));
  least = λ other header all. header;
}

-- all eight
pub size_elsewhere : (h : List ℕ) (end_ : ℕ) → HoldsBelow h 8 end_ → IsLuks1Size h Elsewhere end_
size_elsewhere h end_ below = record {
  holds = record {
    header = below.header;
    areas = λ n a x. below.areas n a x.0 x;
    payload_follows = λ here. absurd (let is : Elsewhere ≡ Here = here in cc);
  };
  least = λ other x. below.least other x.header (λ k a lt at. x.areas k a at);
}

pub size_here : (h : List ℕ) (end_ size payload : ℕ) → HoldsBelow h 8 end_ → payload ≡ payload_offset_of h * 512 → size ≡ max end_ payload → IsLuks1Size h Here size
size_here h end_ size payload below at most = record {
  holds = record {
    header = (let header = below.header in omega (arith, header, most));
    areas = λ n a x. (let inside = below.areas n a x.0 x in omega (arith, inside, most));
    payload_follows = λ here. omega (arith, at, most);
  };
  least = λ other x. (
      let before = below.least other x.header (λ k a lt is. x.areas k a is) in
      let behind = x.payload_follows refl in
      omega (arith, before, behind, at, most));
}
