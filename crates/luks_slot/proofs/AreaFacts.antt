-- The places of the decrypted bytes of an area.
use Rattle.std.proofs.Common.{◌≡◌, ℕ, zero, suc, ◌+◌, ◌-◌, ◌*◌, ◌/◌, ◌%◌, ◌<◌, ◌≤◌, inl, inr, List, ◌++◌, length, take, drop, get_or, refl, ap, sym, ◌∙◌, subst, arith, length-append, length-drop}
use Rattle.std.proofs.lemmas.Bool.{cases_lt}
use Rattle.std.proofs.Math.Nat.{mul-le-mul_right}
use Rattle.std.proofs.lemmas.List.{ext_get_or, get_or-take, get_or-drop, length-take-le, get_or-append_right, get_or_append_left}
use Rattle.luks_area.specs.declared.area.Area.{Area}
use Rattle.luks_area.proofs.RangeFacts.{length-part_inside, part-part}
use Rattle.luks_area.specs.Ranges.{part}
use Rattle.luks_area.specs.Sectors.{sector_count, rounded_to_sectors}
use Rattle.luks_kdf.specs.Splitter.{stripe_at, block_at}
use Rattle.luks_slot.specs.declared.cipher.AreaKey.{AreaKey}
use Rattle.luks_slot.specs.Ciphers.{sector_opened}
use Rattle.luks_slot.specs.Opening.{area_bytes, opened_sector, opened_sectors, stripes_from}
use Rattle.luks_slot.specs.Reading.{plain_byte, ArePlain}
use Rattle.luks_slot.proofs.SectorFacts.{length-sector_opened}

-- a decrypted sector is as long as the sector
length-opened_sector : (key : AreaKey) (area : List ℕ) (i : ℕ) → 512 * i + 512 ≤ length area → length (opened_sector key area i) ≡ 512
unfolding opened_sector
length-opened_sector key area i fits = length-sector_opened key i _ (length-part_inside area (512 * i) 512 fits)

-- the joined sectors have their whole length
pub length-opened_sectors : (key : AreaKey) (area : List ℕ) (n : ℕ) → 512 * n ≤ length area → length (opened_sectors key area n) ≡ 512 * n
unfolding opened_sectors
length-opened_sectors key area zero fits = refl
length-opened_sectors key area (suc n) fits =
    let before = length-opened_sectors key area n (omega arith) in
    let last = length-opened_sector key area n (omega arith) in
    let both = length-append (opened_sectors key area n) (opened_sector key area n) in
    omega (arith, before, last, both)

-- the joined sectors have each decrypted byte at its place
pub plain_at : (key : AreaKey) (area : List ℕ) (n place : ℕ) → 512 * n ≤ length area → place < 512 * n
    → get_or (opened_sectors key area n) place 0 ≡ plain_byte key area place
unfolding opened_sectors plain_byte
plain_at key area zero place fits below = absurd (omega arith)
plain_at key area (suc n) place fits below =
    let shorter : 512 * n ≤ length area = omega arith in
    let len = length-opened_sectors key area n shorter in
    elim (cases_lt place (512 * n)) [
      | inl h ↦ get_or_append_left (opened_sectors key area n) (opened_sector key area n) 0 place (omega (arith, len, h)) ∙ plain_at key area n place shorter h
      | inr h ↦
          let inner : place - 512 * n ≡ place % 512 = omega arith in
          let number : n ≡ place / 512 = omega arith in
          get_or-append_right _ _ (512 * n) place 0 len h
          ∙ ap (λ i. get_or (opened_sector key area n) i 0) inner
          ∙ ap (λ i. get_or (opened_sector key area i) (place % 512) 0) number
    ]

-- the first sectors of a shorter area
pub opened_sectors-shorter : (key : AreaKey) (v : List ℕ) (start short len m : ℕ) → short ≤ len → 512 * m ≤ short
    → opened_sectors key (part v start short) m ≡ opened_sectors key (part v start len) m
unfolding opened_sectors opened_sector
opened_sectors-shorter key v start short len zero less fits = refl
opened_sectors-shorter key v start short len (suc m) less fits =
    let before = opened_sectors-shorter key v start short len m less (omega (arith, fits)) in
    let one : part (part v start short) (512 * m) 512 ≡ part v (start + 512 * m) 512 = part-part v start short (512 * m) 512 (omega (arith, fits)) in
    let other : part (part v start len) (512 * m) 512 ≡ part v (start + 512 * m) 512 = part-part v start len (512 * m) 512 (omega (arith, fits, less)) in
    let last : sector_opened key m (part (part v start short) (512 * m) 512) ≡ sector_opened key m (part (part v start len) (512 * m) 512) = ap (sector_opened key m) (one ∙ sym other) in
    ap (λ l. l ++ sector_opened key m (part (part v start short) (512 * m) 512)) before
    ∙ ap (λ l. opened_sectors key (part v start len) m ++ l) last

-- the stripes of a shorter area that has them all
pub stripes_from-shorter : (key : AreaKey) (v : List ℕ) (start short len k n : ℕ) → rounded_to_sectors (k * n) ≤ short → short ≤ len
    → stripes_from key (part v start short) k n ≡ stripes_from key (part v start len) k n
unfolding stripes_from
stripes_from-shorter key v start short len k n fits less =
    ap (take (k * n)) (opened_sectors-shorter key v start short len (sector_count (k * n)) less (omega (arith, fits)))

-- a stripe that was read from its place is that stripe of the area
stripe_read : (key : AreaKey) (area : List ℕ) (k n i : ℕ) (stripe : List ℕ)
    → length stripe ≡ k → i < n → rounded_to_sectors (k * n) ≤ length area → ArePlain key area (i * k) stripe
    → stripe ≡ stripe_at k (stripes_from key area k n) i
unfolding stripe_at block_at stripes_from
stripe_read key area k n i stripe len below fits plain =
    let sectors = opened_sectors key area (sector_count (k * n)) in
    let row = take (k * n) sectors in
    let room : 512 * sector_count (k * n) ≤ length area = omega (arith, fits) in
    let whole = length-opened_sectors key area (sector_count (k * n)) room in
    let enough : k * n ≤ length sectors = omega (arith, whole) in
    let row_length : length row ≡ k * n = length-take-le (k * n) sectors enough in
    let product : (i + 1) * k ≤ n * k = mul-le-mul_right k (omega arith) in
    let left : k ≤ length (drop (i * k) row) = omega (arith, length-drop (i * k) row, row_length, product) in
    let same_length : length stripe ≡ length (take k (drop (i * k) row)) = len ∙ sym (length-take-le k _ left) in
    ext_get_or 0 stripe (take k (drop (i * k) row)) same_length
    (λ j h.
    let inner : j < k = omega arith in
    let used : i * k + j < k * n = omega (arith, product) in
    let first : get_or stripe j 0 ≡ plain_byte key area (i * k + j) = plain.each j h in
    let second : get_or sectors (i * k + j) 0 ≡ plain_byte key area (i * k + j) =
    plain_at key area (sector_count (k * n)) (i * k + j) room (omega (arith, used)) in
    first ∙ sym second ∙ sym (get_or-take (k * n) sectors (i * k + j) 0 used)
    ∙ sym (get_or-drop (i * k) row j 0) ∙ sym (get_or-take k (drop (i * k) row) j 0 inner))

-- the same for a reader that stays at its area with its key, on a volume that stays
pub stripe_on : (v w : List ℕ) (key now : AreaKey) (area at : Area) (k n i from : ℕ) (stripe : List ℕ)
    → w ≡ v → now ≡ key → at ≡ area → from ≡ i * k → length stripe ≡ k → i < n
    → rounded_to_sectors (k * n) ≤ area.len → area.start + area.len ≤ length v
    → ArePlain now (area_bytes w at) from stripe
    → stripe ≡ stripe_at k (stripes_from key (area_bytes v area) k n) i
stripe_on v w key now area at k n i from stripe same_volume same_key same_area at_stripe len below fits within plain =
    let whole = length-part_inside v area.start area.len within in
    let InVolume : List ℕ → Type 0 = λ u. ArePlain now (area_bytes u at) from stripe in
    let UnderKey : AreaKey → Type 0 = λ u. ArePlain u (area_bytes v at) from stripe in
    let OfArea : Area → Type 0 = λ a. ArePlain key (area_bytes v a) from stripe in
    let AtPlace : ℕ → Type 0 = λ p. ArePlain key (area_bytes v area) p stripe in
    let there = subst AtPlace at_stripe (subst OfArea same_area (subst UnderKey same_key (subst InVolume same_volume plain))) in
    stripe_read key (area_bytes v area) k n i stripe len below (omega (arith, whole, fits)) there
