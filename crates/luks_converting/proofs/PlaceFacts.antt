-- The place of the new areas.
use Rattle.std.proofs.Common.{◌≡◌, ℕ, zero, suc, ◌+◌, ◌-◌, ◌<◌, ◌≤◌, List, true, subst, ap, arith}
use Rattle.luks_making.specs.Converted.{area_start, taken_size}
use Rattle.luks_converting.specs.Converted.{new_size, new_start}
use Rattle.luks_converting.specs.Source.{header_members, is_enabled, source_size, HasRoom}
use Rattle.luks_converting.proofs.SourceFacts.{low_of, slot_there}

-- the places rise
pub rises : (h : List ℕ) (n k : ℕ) → new_start h n ≤ new_start h (n + k)
unfolding area_start
rises h n zero = subst (λ k. new_start h n ≤ new_start h k) (let same : n ≡ n + 0 = omega arith in same) (omega arith)
rises h n (suc k) =
    let before = rises h n k in
    let next : new_start h n ≤ new_start h (suc (n + k)) = omega (arith, before) in
    subst (λ k. new_start h n ≤ new_start h k) (let same : suc (n + k) ≡ n + suc k = omega arith in same) next

pub rises_to : (h : List ℕ) (m n : ℕ) → m ≤ n → new_start h m ≤ new_start h n
rises_to h m n le =
    let up = rises h m (n - m) in
    subst (λ k. new_start h m ≤ new_start h k) (let same : m + (n - m) ≡ n = omega (arith, le) in same) up

pub from_region : (h : List ℕ) (n : ℕ) → 32768 ≤ new_start h n
unfolding area_start
from_region h zero = omega arith
from_region h (suc n) = let before = from_region h n in omega (arith, before)

-- where the area of an enabled keyslot ends
pub next_start : (h : List ℕ) (n : ℕ) → is_enabled h n ≡ true → new_start h (suc n) ≡ new_start h n + new_size h n
unfolding area_start
next_start h n on = ap (λ o. new_start h n + taken_size (header_members h) o) (slot_there h n on)

pub ends_by : (h : List ℕ) (m n : ℕ) → m < n → is_enabled h m ≡ true → new_start h m + new_size h m ≤ new_start h n
ends_by h m n less on =
    let next = next_start h m on in
    let up = rises_to h (suc m) n (omega (arith, less)) in
    omega (arith, next, up)

pub ends : (h : List ℕ) (n : ℕ) → is_enabled h n ≡ true → HasRoom h → new_start h n + new_size h n ≤ 16777216
ends h n on room = let last = ends_by h n 8 (low_of h n on) on in omega (arith, last, room)

-- the area holds the sectors of the old one
pub holds_sectors : (h : List ℕ) (n : ℕ) → source_size h n ≤ new_size h n
holds_sectors h n = omega arith
