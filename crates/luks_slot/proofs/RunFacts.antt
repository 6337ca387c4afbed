-- Runs of eight sectors of an area.
use Rattle.std.proofs.Common.{◌≡◌, ℕ, ◌+◌, ◌*◌, ◌/◌, ◌%◌, ◌≤◌, List, length, take, drop, get_or, ap, sym, ◌∙◌, arith}
use Rattle.std.proofs.lemmas.List.{get_or-take, get_or-drop}
use Rattle.luks_area.specs.declared.area.Area.{Area}
use Rattle.luks_area.proofs.RangeFacts.{length-part_inside, part-part}
use Rattle.luks_area.specs.Ranges.{part}
use Rattle.luks_modes.specs.Units.{unit_at, AreMade}
use Rattle.luks_slot.specs.declared.cipher.AreaKey.{AreaKey}
use Rattle.luks_slot.specs.Ciphers.{sector_opened}
use Rattle.luks_slot.specs.Opening.{area_bytes, opened_sector}
use Rattle.luks_slot.specs.Reading.{plain_byte, run_length, HoldsRun}

-- a byte of a run that is held
pub plain_in_run : (key : AreaKey) (area run : List ℕ) (len place : ℕ) → HoldsRun key area len (place / 4096) run → 512 * (place / 512 + 1) ≤ len
    → get_or run (place % 4096) 0 ≡ plain_byte key area place
unfolding plain_byte
plain_in_run key area run len place holds room =
    let i = place % 4096 / 512 in
    let inner : place % 4096 ≡ 512 * i + place % 512 = omega arith in
    let number : 8 * (place / 4096) + i ≡ place / 512 = omega arith in
    ap (λ (k : ℕ). get_or run k 0) inner
    ∙ sym (get_or-drop (512 * i) run (place % 512) 0)
    ∙ sym (get_or-take 512 (drop (512 * i) run) (place % 512) 0 (omega arith))
    ∙ ap (λ (s : List ℕ). get_or s (place % 512) 0) (holds.each i (omega arith) (omega (arith, room)))
    ∙ ap (λ (n : ℕ). get_or (opened_sector key area n) (place % 512) 0) number

-- a sector in the front of a run
part-front : (run : List ℕ) (n i : ℕ) → 512 * i + 512 ≤ n → part run (512 * i) 512 ≡ part (take n run) (512 * i) 512
part-front run n i room =
    let here : 0 + 512 * i ≡ 512 * i = omega arith in
    sym (part-part run 0 n (512 * i) 512 room ∙ ap (λ (k : ℕ). part run k 512) here)

-- the sectors of a run that were read and opened
pub run_opened : (key : AreaKey) (v run : List ℕ) (area : Area) (number : ℕ) → 4096 * number + 512 ≤ area.len → area.start + area.len ≤ length v
    → (let n = run_length area.len number in AreMade (sector_opened key) (8 * number) (part v (area.start + 4096 * number) n) (take n run))
    → HoldsRun key (area_bytes v area) area.len number run
unfolding opened_sector unit_at
run_opened key v run area number room within opened = record {
  each = λ i low fits.
      let m = 8 * number + i in
      let len = run_length area.len number in
      let at = area.start + 4096 * number in
      let inside : 512 * i + 512 ≤ len = omega (arith, fits) in
      let long : length (part v at len) ≡ len = length-part_inside v at len (omega (arith, room, within)) in
      let whole : part (area_bytes v area) (512 * m) 512 ≡ part v (area.start + 512 * m) 512 = part-part v area.start area.len (512 * m) 512 (omega (arith, fits)) in
      let place : at + 512 * i ≡ area.start + 512 * m = omega arith in
      part-front run len i inside
      ∙ opened.each i (omega (arith, inside, long))
      ∙ ap (sector_opened key m) (part-part v at len (512 * i) 512 inside ∙ ap (λ (k : ℕ). part v k 512) place ∙ sym whole);
}
