-- What a block of a disk tells of the disk.
use Rattle.std.proofs.Common.{◌≡◌, ℕ, ◌+◌, ◌*◌, ◌-◌, ◌<◌, ◌≤◌, ◌⊎◌, List, [], inl, inr, length, min, sym, subst, arith, None}
use Rattle.std.proofs.lemmas.Bool.{cases_lt}
use Rattle.luks_area.specs.Ranges.{part}
use Rattle.luks_area.proofs.RangeFacts.{length-part, part-part}
use Rattle.luks_finding.specs.Blocks.{BeginsAt, BeginsFields, BeginsSign, FindsIn, IsFirstIn, MayBegin}
use Rattle.luks_finding.specs.Finding.{step_of, AreStartsBetween, TellsNext}
use Rattle.luks_finding.specs.Starts.{IsSign}
use Rattle.luks_finding.specs.Telling.{starts_of, AreToldAt}
use Rattle.luks_finding.specs.declared.told.Told.{Told}
use Rattle.luks_finding.specs.declared.told.Told.TheVariants.{Nothing, One, Two}
use Rattle.luks_finding.proofs.ListFacts.{none-between, told-between}
use Rattle.luks_finding.proofs.SignFacts.{sign-begins}

-- what begins a sign has 8 bytes
begins-long : (b : List ℕ) → BeginsSign b → length b ≡ 8
begins-long b (inl (inl header)) = header.long
begins-long b (inl (inr header)) = header.long
begins-long b (inr (inl second)) = second.long
begins-long b (inr (inr text)) = text.long

-- a part of the whole length lies inside the bytes
pub part-inside : (v : List ℕ) (at len : ℕ) → 0 < len → length (part v at len) ≡ len → at + len ≤ length v
part-inside v at len some whole =
    let long : length (part v at len) ≡ min len (length v - at) = length-part v at len in
    omega (arith, long, whole, some)

-- a sign's beginning lies inside the bytes
pub begins-inside : (v : List ℕ) (at : ℕ) → MayBegin v at → at + 8 ≤ length v
begins-inside v at (inl begins) = part-inside v at 8 (omega arith) (begins-long (part v at 8) begins)
begins-inside v at (inr fields) = let inside : at + 112 ≤ length v = part-inside v at 112 (omega arith) fields.long in omega (arith, inside)

-- what lies inside the disk lies in the block, where the block has the whole sector or ends with the disk
room-block : (v : List ℕ) (sector len k n : ℕ) → n ≤ 512 → (512 * k + 512 ≤ len) ⊎ (512 * sector + len ≡ length v) → 512 * (sector + k) + n ≤ length v
    → 512 * k + n ≤ len
room-block v sector len k n small (inl whole) inside = omega (arith, whole, small)
room-block v sector len k n small (inr ends) inside = omega (arith, ends, inside)

-- a sign that may begin on the disk may begin in the block
into-block : (v : List ℕ) (sector len k : ℕ) → (512 * k + 512 ≤ len) ⊎ (512 * sector + len ≡ length v) → MayBegin v (512 * (sector + k))
    → BeginsAt (part v (512 * sector) len) k
into-block v sector len k room (inl begins) =
    let there : 512 * sector + 512 * k ≡ 512 * (sector + k) = omega arith in
    let inside : 512 * (sector + k) + 8 ≤ length v = begins-inside v (512 * (sector + k)) (inl begins) in
    inl (subst BeginsSign (sym (part-part v (512 * sector) len (512 * k) 8 (room-block v sector len k 8 (omega arith) room inside)))
    (subst (λ (p : ℕ). BeginsSign (part v p 8)) (sym there) begins))
into-block v sector len k room (inr fields) =
    let there : 512 * sector + 512 * k ≡ 512 * (sector + k) = omega arith in
    let inside : 512 * (sector + k) + 112 ≤ length v = part-inside v (512 * (sector + k)) 112 (omega arith) fields.long in
    inr (subst BeginsFields (sym (part-part v (512 * sector) len (512 * k) 112 (room-block v sector len k 112 (omega arith) room inside)))
    (subst (λ (p : ℕ). BeginsFields (part v p 112)) (sym there) fields))

-- so a sign on the disk is seen in the block, if that is long enough
pub sign-seen : (v : List ℕ) (sector len k s : ℕ) → sector ≤ k → (512 * (k - sector) + 512 ≤ len) ⊎ (512 * sector + len ≡ length v) → IsSign v s (512 * k)
    → BeginsAt (part v (512 * sector) len) (k - sector)
sign-seen v sector len k s low room sign =
    let back : k ≡ sector + (k - sector) = omega (arith, low) in
    into-block v sector len (k - sector) room (subst (λ (n : ℕ). MayBegin v (512 * n)) back (sign-begins v s (512 * k) sign))

-- a block ends with a sector or with the disk
pub block-room : (v : List ℕ) (sector sectors len count k : ℕ) → len ≡ min (length v - 512 * sector) (512 * sectors) → 512 * count < len + 512
    → 512 * k + 8 ≤ length v → sector ≤ k → k < sector + count → (512 * (k - sector) + 512 ≤ len) ⊎ (512 * sector + len ≡ length v)
block-room v sector sectors len count k is fewest inside low high = elim (cases_lt (512 * sectors) (length v - 512 * sector)) [
  | inl short ↦ inl (omega (arith, is, fewest, low, high, short))
  | inr all ↦ inr (omega (arith, is, inside, low, all))
]

-- a block in which nothing begins
pub none-block : (v : List ℕ) (sector sectors len count : ℕ) → len ≡ min (length v - 512 * sector) (512 * sectors)
    → 512 * count < len + 512 → FindsIn (part v (512 * sector) len) None → AreStartsBetween v sector (sector + count) []
none-block v sector sectors len count is fewest none = none-between v sector (sector + count) (λ k s low high sign.
    let inside : 512 * k + 8 ≤ length v = begins-inside v (512 * k) (sign-begins v s (512 * k) sign) in
    none (k - sector) (sign-seen v sector len k s low (block-room v sector sectors len count k is fewest inside low high) sign))

-- before the first sign that begins in a block
pub before-first : (v : List ℕ) (sector len index : ℕ) → IsFirstIn (part v (512 * sector) len) index → (k s : ℕ) → sector ≤ k → k < sector + index → IsSign v s (512 * k) → ⊥
before-first v sector len index first k s low high sign =
    let long : length (part v (512 * sector) len) ≡ min len (length v - 512 * sector) = length-part v (512 * sector) len in
    let inside : 512 * index + 8 ≤ length (part v (512 * sector) len) = begins-inside (part v (512 * sector) len) (512 * index) first.begins in
    first.before (k - sector) (omega (arith, low, high)) (sign-seen v sector len k s low (inl (omega (arith, long, inside, low, high))) sign)

-- the starts that this sign tells are the next ones
pub next-told : (v : List ℕ) (sector len index : ℕ) (list : List ℕ) → IsFirstIn (part v (512 * sector) len) index → AreToldAt v (512 * (sector + index)) list
    → AreStartsBetween v sector (sector + index + 1) list
next-told v sector len index list first told = told-between v sector (sector + index) list (omega arith) (before-first v sector len index first) told

-- as a step says it
pub tells-step : (v : List ℕ) (from next : ℕ) (told : Told) → AreStartsBetween v from next (starts_of told) → TellsNext v from next (step_of told)
tells-step v from next Nothing between = between
tells-step v from next (One s) between = between
tells-step v from next (Two s t) between = between
