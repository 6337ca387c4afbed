-- Where a volume's header stands byte by byte, what it says is the same: which key areas there are, and
-- whether a volume of that length is well formed.
use Rattle.std.proofs.Common.{◌≡◌, ℕ, ◌+◌, ◌-◌, ◌*◌, ◌≤◌, List, length, refl, sym, ap, subst, ◌∙◌, arith}
use Rattle.luks_area.specs.Ranges.{part}
use Rattle.luks_area.specs.declared.area.Area.{Area}
use Rattle.luks_area.specs.declared.area.AreaName.TheVariants.{Slot}
use Rattle.luks2_header.specs.Header2.{hdr_size, header_at, IsSound}
use Rattle.luks2_header.specs.Selection.{luks1, luks2, nothing, Choice, Chosen, IsChosenCopy, IsNotVersion1, second_place}
use Rattle.luks2_header.specs.declared.selection.Copies.{Copies}
use Rattle.luks2_header.specs.declared.selection.Copies.TheVariants.{InStep, FirstNewer, SecondNewer, FirstOnly, SecondOnly}
use Rattle.luks_reading.specs.Checked.{HasLuks2Area, IsLuks1Volume, IsLuks2Volume}
use Rattle.luks_reading.specs.Header.{json_at}
use Rattle.luks_reading.specs.declared.report.Data.{Data}
use Rattle.luks_reading.specs.declared.report.Data.TheVariants.{Elsewhere}
use Rattle.luks_keeping.specs.Judged.{IsFormedOnAs}
use Rattle.luks_keeping.specs.Kept.{header_size, lead_of, lead_size, HasHeader, HasKept, IsUsedArea, KeptArea}
use Rattle.luks_keeping.proofs.ChosenFacts.{alone_there, both_there, first_number, inside_same, large_of, least_large, not_version1_there, other_there, place, second_alone_there, second_number, second_size, version1_there}

-- ---- where the chosen copy stands

-- the chosen copy lies in the header's places, behind what isn't kept
pub record IsPlaced (v : List ℕ) (o : ℕ) (copies : Copies) : Type 0 where
  pub low : lead_of copies ≤ o
  pub high : o ≤ hdr_size (header_at v o)
  pub large : 16384 ≤ hdr_size (header_at v o)

first_placed : (v : List ℕ) (o : ℕ) → o ≡ 0 → IsSound v 0 → 16384 ≤ hdr_size (header_at v o)
first_placed v o zero sound = subst (λ (p : ℕ). 16384 ≤ hdr_size (header_at v p)) (sym zero) (large_of v 0 sound)

pub is_placed : (v : List ℕ) (o : ℕ) (copies : Copies) → IsChosenCopy v o copies → IsPlaced v o copies
is_placed v o SecondNewer x =
    let first = large_of v 0 x.0.first in
    let there : IsSound v o = subst (IsSound v) (sym x.2) x.0.second in
    let at = x.2 in
    let size = second_size v o (omega (arith, first, at)) there in
    record { low = omega arith; high = omega (arith, size); large = large_of v o there }
is_placed v o FirstOnly x = record { low = omega arith; high = (let zero = x.1 in omega (arith, zero)); large = first_placed v o x.1 x.0.first }
is_placed v o SecondOnly x =
    let large = large_of v o x.sound in
    let low = least_large v o x in
    let size = second_size v o low x.sound in
    record { low = omega (arith, low); high = omega (arith, size); large = large }
is_placed v o other x = record { low = omega arith; high = (let zero = x.2 in omega (arith, zero)); large = first_placed v o x.2 x.0.first }

-- ---- what counts

module _ (v w : List ℕ) (o : ℕ) (other : IsNotVersion1 v) (long_v : 2 * hdr_size (header_at v o) ≤ length v) (long_w : 2 * hdr_size (header_at v o) ≤ length w) where
  -- where the first copy is sound, its size is that of the chosen one
  both_chosen : (copies : Copies) → lead_of copies ≡ 0 → hdr_size (header_at v o) ≡ second_place v → part w 0 (2 * hdr_size (header_at v o) - 0) ≡ part v 0 (2 * hdr_size (header_at v o) - 0)
      → part w 0 (2 * second_place v - 0) ≡ part v 0 (2 * second_place v - 0)
  both_chosen copies none size same = subst (λ (n : ℕ). part w 0 (2 * n - 0) ≡ part v 0 (2 * n - 0)) size same

  copy_there : (copies : Copies) → IsChosenCopy v o copies → HasHeader v (luks2 o copies) w → Chosen w (luks2 o copies)
  copy_there InStep x h =
      let size : hdr_size (header_at v o) ≡ second_place v = ap (λ p. hdr_size (header_at v p)) x.2 in
      let same = both_chosen InStep refl size h.behind in
      let lv : 2 * second_place v ≤ length v = omega (arith, long_v, size) in
      let lw : 2 * second_place v ≤ length w = omega (arith, long_w, size) in
      (other_there v w x.0.first same lv lw other, (both_there v w x.0.first same lv lw x.0, first_number v w x.0.first same lv lw ∙ x.1 ∙ sym (second_number v w x.0.first same lv lw), x.2))
  copy_there FirstNewer x h =
      let size : hdr_size (header_at v o) ≡ second_place v = ap (λ p. hdr_size (header_at v p)) x.2 in
      let same = both_chosen FirstNewer refl size h.behind in
      let lv : 2 * second_place v ≤ length v = omega (arith, long_v, size) in
      let lw : 2 * second_place v ≤ length w = omega (arith, long_w, size) in
      let a = first_number v w x.0.first same lv lw in
      let b = second_number v w x.0.first same lv lw in
      let less = x.1 in
      (other_there v w x.0.first same lv lw other, (both_there v w x.0.first same lv lw x.0, omega (arith, a, b, less), x.2))
  copy_there SecondNewer x h =
      let first = large_of v 0 x.0.first in
      let at = x.2 in
      let there : IsSound v o = subst (IsSound v) (sym x.2) x.0.second in
      let size : hdr_size (header_at v o) ≡ second_place v = second_size v o (omega (arith, first, at)) there ∙ x.2 in
      let same = both_chosen SecondNewer refl size h.behind in
      let lv : 2 * second_place v ≤ length v = omega (arith, long_v, size) in
      let lw : 2 * second_place v ≤ length w = omega (arith, long_w, size) in
      let a = first_number v w x.0.first same lv lw in
      let b = second_number v w x.0.first same lv lw in
      let less = x.1 in
      (other_there v w x.0.first same lv lw other, (both_there v w x.0.first same lv lw x.0, omega (arith, a, b, less), x.2 ∙ sym (place v w x.0.first same lv lw)))
  copy_there FirstOnly x h =
      let size : hdr_size (header_at v o) ≡ second_place v = ap (λ p. hdr_size (header_at v p)) x.1 in
      let same = both_chosen FirstOnly refl size h.behind in
      let lv : 2 * second_place v ≤ length v = omega (arith, long_v, size) in
      let lw : 2 * second_place v ≤ length w = omega (arith, long_w, size) in
      (other_there v w x.0.first same lv lw other, (alone_there v w x.0.first same lv lw x.0, x.1))
  copy_there SecondOnly x h =
      let low = least_large v o x in
      let size : hdr_size (header_at v o) ≡ o = second_size v o low x.sound in
      let same : part w 512 (2 * o - 512) ≡ part v 512 (2 * o - 512) = subst (λ (n : ℕ). part w 512 (2 * n - 512) ≡ part v 512 (2 * n - 512)) size h.behind in
      let lv : 2 * o ≤ length v = omega (arith, long_v, size) in
      let lw : 2 * o ≤ length w = omega (arith, long_w, size) in
      (not_version1_there v w o x h.lead same lv lw, second_alone_there v w o x h.lead same lv lw)

-- the same counts
pub chosen_there : (v w : List ℕ) (c : Choice) → Chosen v c → HasHeader v c w → header_size v c ≤ length v → header_size v c ≤ length w → (c ≡ nothing → ⊥) → Chosen w c
chosen_there v w luks1 x h long_v long_w some = version1_there v w x h.behind long_w
chosen_there v w (luks2 o copies) x h long_v long_w some = copy_there v w o x.0 long_v long_w copies x.1 h
chosen_there v w nothing x h long_v long_w some = absurd (some refl)

-- ---- what it says

module _ (v w : List ℕ) (o : ℕ) (copies : Copies) (x : IsChosenCopy v o copies) (h : HasHeader v (luks2 o copies) w) where
  copy_same : (at n : ℕ) → o ≤ at → at + n ≤ o + hdr_size (header_at v o) → part w at n ≡ part v at n
  copy_same at n low high =
      let p = is_placed v o copies x in
      let a = p.low in
      let b = p.high in
      inside_same v w (lead_of copies) (2 * hdr_size (header_at v o)) at n (omega (arith, a, low)) (omega (arith, b, high)) h.behind

  pub header_same : header_at w o ≡ header_at v o
  header_same = (let large = (is_placed v o copies x).large in copy_same o 4096 (omega arith) (omega (arith, large)))

  pub json_same : json_at w o ≡ json_at v o
  json_same =
      let large = (is_placed v o copies x).large in
      ap (λ b. part w (o + 4096) (hdr_size b - 4096)) header_same
      ∙ copy_same (o + 4096) (hdr_size (header_at v o) - 4096) (omega arith) (omega (arith, large))

pub fields_same : (v w : List ℕ) → HasHeader v luks1 w → part w 0 592 ≡ part v 0 592
fields_same v w h = inside_same v w 0 592 0 592 (omega arith) (omega arith) h.behind

pub size_same : (v w : List ℕ) (c : Choice) → Chosen v c → HasHeader v c w → header_size w c ≡ header_size v c
size_same v w (luks2 o copies) x h = ap (λ b. 2 * hdr_size b) (header_same v w o copies x.1 h)
size_same v w other x h = refl

-- a volume of any length with that header is well formed where it would be
pub formed_there : (v w : List ℕ) (payload : Data) (total : ℕ) (c : Choice) → Chosen v c → HasHeader v c w → IsFormedOnAs v payload total c → IsFormedOnAs w payload total c
formed_there v w payload total luks1 x h formed = subst (λ (b : List ℕ). IsLuks1Volume b payload total) (sym (fields_same v w h)) formed
formed_there v w payload total (luks2 o copies) x h formed =
    subst (λ (b : List ℕ). IsLuks2Volume b (json_at w o) payload total) (sym (header_same v w o copies x.1 h))
    (subst (λ (j : List ℕ). IsLuks2Volume (header_at v o) j payload total) (sym (json_same v w o copies x.1 h)) formed)
formed_there v w payload total nothing x h formed = formed

-- it has the same key areas
pub area_there : (v w : List ℕ) (c : Choice) → Chosen v c → HasHeader v c w → (n : ℕ) (a : Area) → KeptArea v c n a → KeptArea w c n a
area_there v w luks1 x h n a is = subst (λ (b : List ℕ). IsUsedArea b n a) (sym (fields_same v w h)) is
area_there v w (luks2 o copies) x h n a is =
    subst (λ (b : List ℕ). HasLuks2Area b (json_at w o) Elsewhere 0 (Slot n) a) (sym (header_same v w o copies x.1 h))
    (subst (λ (j : List ℕ). HasLuks2Area (header_at v o) j Elsewhere 0 (Slot n) a) (sym (json_same v w o copies x.1 h)) is)
area_there v w nothing x h n a is = is

-- ---- back again

-- what has the header of the one has that of the other
header_then : (v b w : List ℕ) (c : Choice) → Chosen v c → HasHeader v c b → HasHeader b c w → HasHeader v c w
header_then v b w c x first second = record {
  lead = second.lead;
  behind = subst (λ (n : ℕ). part w (lead_size c) (n - lead_size c) ≡ part b (lead_size c) (n - lead_size c)) (size_same v b c x first) second.behind ∙ first.behind;
}

-- so of header and key areas: what has all of a backup has all of the volume
pub kept_then : (v b w : List ℕ) (c : Choice) → Chosen v c → HasKept v c b → HasKept b c w → HasKept v c w
kept_then v b w c x first second = record {
  header = header_then v b w c x first.header second.header;
  areas = λ n a is. second.areas n a (area_there v b c x first.header n a is) ∙ first.areas n a is;
}
