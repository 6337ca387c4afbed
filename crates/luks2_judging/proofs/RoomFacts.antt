-- The least gap of the key areas' region.
use Rattle.std.proofs.Common.{◌≡◌, ℕ, ◌+◌, ◌-◌, ◌*◌, ◌^◌, ◌<◌, ◌≤◌, List, sym, ap, ◌∙◌, min, arith, subst}
use Rattle.std.proofs.lemmas.Option.{same_Some}
use Rattle.serde_json.specs.Data.{Data as Value}
use Rattle.luks_area.specs.declared.area.Area.{Area}
use Rattle.luks_area.specs.declared.areas.Entry.{Entry}
use Rattle.luks_area.specs.Names.{HasArea}
use Rattle.luks_reading.specs.declared.report.Data.{Data}
use Rattle.luks_reading.specs.Layout2.{Luks2Area}
use Rattle.luks_reading.specs.Listing.{Lists}
use Rattle.luks2_edit_laws.specs.declared.like.Like.{Like}
use Rattle.luks2_edit_laws.specs.Gap.{HasNoGap, IsGap, IsLeastGap}
use Rattle.luks2_edit_laws.specs.Places.{HasNoNewArea, IsNewArea, key_areas_end, rounded_to_blocks}
use Rattle.luks2_edit_laws.proofs.ToldFacts.{same_stripes_like}
use Rattle.luks2_judging.specs.Room.{IsPlaced, IsRegion, TakesBlocks}

module _ (entries : List Entry) (len : ℕ) (j : Value) (total low high : ℕ) (x : IsRegion len j total low high) (small : total < 2 ^ 64)
    (like : Like) (size : ℕ) (blocks : TakesBlocks j like size) where
  -- a gap that was found begins in the region, whose numbers 64 bits hold
  low_of : (at : ℕ) → low ≤ at → at + size ≤ high → low ≡ 2 * (len + 4096)
  low_of at from to =
      let l : low ≡ min (2 * (len + 4096)) (2 ^ 64 - 1) = x.low_is in
      let h : high ≡ min (min (low + x.bytes) (2 ^ 64 - 1)) total = x.high_is in
      let some : 4096 ≤ size = blocks.some in
      omega (arith, l, h, some, small, from, to)

  high_of : (at : ℕ) → low ≤ at → at + size ≤ high → high ≡ min (2 * (len + 4096) + x.bytes) total
  high_of at from to =
      let l : low ≡ 2 * (len + 4096) = low_of at from to in
      let h : high ≡ min (min (low + x.bytes) (2 ^ 64 - 1)) total = x.high_is in
      omega (arith, l, h, small)

  low_back : (at : ℕ) → 2 * (len + 4096) ≤ at → at + size ≤ min (2 * (len + 4096) + x.bytes) total → low ≤ at
  low_back at from to = let l : low ≡ min (2 * (len + 4096)) (2 ^ 64 - 1) = x.low_is in omega (arith, l, from)

  high_back : (at : ℕ) → 2 * (len + 4096) ≤ at → at + size ≤ min (2 * (len + 4096) + x.bytes) total → at + size ≤ high
  high_back at from to =
      let l : low ≡ min (2 * (len + 4096)) (2 ^ 64 - 1) = x.low_is in
      let h : high ≡ min (min (low + x.bytes) (2 ^ 64 - 1)) total = x.high_is in
      let some : 4096 ≤ size = blocks.some in
      omega (arith, l, h, some, small, from, to)

  module _ (payload : Data) (lists : Lists entries (Luks2Area j (len + 4096) payload total)) where
    gap_in : (at : ℕ) → IsGap (HasArea entries) low high size at
        → IsGap (Luks2Area j (len + 4096) payload total) (2 * (len + 4096)) (key_areas_end (len + 4096) total x.bytes) size at
    gap_in at g = record {
      block = g.block;
      aligned = g.aligned;
      from = subst (λ k. k ≤ at) (low_of at g.from g.to) g.from;
      to = subst (λ k. at + size ≤ k) (high_of at g.from g.to) g.to;
      free = λ m a there. g.free m a (lists.all m a there);
    }

    gap_back : (at : ℕ) → IsGap (Luks2Area j (len + 4096) payload total) (2 * (len + 4096)) (key_areas_end (len + 4096) total x.bytes) size at
        → IsGap (HasArea entries) low high size at
    gap_back at g = record {
      block = g.block;
      aligned = g.aligned;
      from = low_back at g.from g.to;
      to = high_back at g.from g.to;
      free = λ m a there. g.free m a (lists.only m a there);
    }

    -- there is an area
    pub area_found : (at : ℕ) → IsLeastGap (HasArea entries) low high size at
        → IsNewArea (len + 4096) total payload j like (record { start = at; len = size })
    area_found at least = record {
      key_bytes = blocks.key_bytes;
      stripes = blocks.stripes;
      slot = blocks.slot;
      region = x.bytes;
      region_is = x.bytes_are;
      len = blocks.is;
      gap = record { gap = gap_in at least.gap; least = λ p g. least.least p (gap_back p g) };
    }

    -- there is none
    pub no_area : HasNoGap (HasArea entries) low high size → HasNoNewArea (len + 4096) total payload j like
    no_area none = record {
      key_bytes = blocks.key_bytes;
      stripes = blocks.stripes;
      slot = blocks.slot;
      region = x.bytes;
      region_is = x.bytes_are;
      none = λ p g. none p (gap_back p (subst (λ k. IsGap (Luks2Area j (len + 4096) payload total) (2 * (len + 4096)) (key_areas_end (len + 4096) total x.bytes) k p) (sym blocks.is) g));
    }

  -- on any device
  pub area_placed : (at : ℕ) → IsLeastGap (HasArea entries) low high size at → IsPlaced len j total like (record { start = at; len = size })
  area_placed at least =
      let from : low ≤ at = least.gap.from in
      let to : at + size ≤ high = least.gap.to in
      let l : low ≡ 2 * (len + 4096) = low_of at from to in
      let h : high ≡ min (2 * (len + 4096) + x.bytes) total = high_of at from to in
      record {
        blocks = blocks;
        bytes = x.bytes;
        bytes_are = x.bytes_are;
        from = omega (arith, l, from);
        to = omega (arith, h, to);
        inside = omega (arith, h, to);
      }

-- where there is an area, there isn't none
pub area_excludes : (h total : ℕ) (payload : Data) (j : Value) (like : Like) (a : Area) → IsNewArea h total payload j like a → HasNoNewArea h total payload j like → ⊥
area_excludes h total payload j like a x y =
    let s = same_stripes_like j like x.key_bytes x.stripes y.key_bytes y.stripes x.slot y.slot in
    let region : x.region ≡ y.region = same_Some x.region y.region (sym x.region_is ∙ y.region_is) in
    let len : a.len ≡ rounded_to_blocks (y.key_bytes * y.stripes) =
    x.len ∙ ap (λ k. rounded_to_blocks (k * x.stripes)) s.key_bytes ∙ ap (λ k. rounded_to_blocks (y.key_bytes * k)) s.stripes in
    y.none a.start
    (subst (λ k. IsGap (Luks2Area j h payload total) (2 * h) (key_areas_end h total y.region) k a.start) len
    (subst (λ r. IsGap (Luks2Area j h payload total) (2 * h) (key_areas_end h total r) a.len a.start) region x.gap.gap))
