-- Ranges of bytes of disks and files, and which have a byte in common.
use Rattle.std.specs.Prelude.{◌≡◌, ◌⊎◌, ◌+◌, ◌<◌, ◌≤◌, ℕ, true, min}
use Rattle.luks_guarded_files.specs.declared.extent.Extent.{Extent}
use Rattle.luks_guarded_files.specs.declared.extent.Holder.{Holder}

-- the byte at this place of its holder lies in the range
abbrev pub Covers : Extent → ℕ → Type 0
Covers extent at = (extent.start ≤ at) × (at < extent.end)

-- some byte of their holder lies in both
pub record HaveCommonByte (one other : Extent) : Type 0 where
  pub at : ℕ
  pub of_one : Covers one at
  pub of_other : Covers other at

-- Both are of one disk or file, and have a byte in common. If a name stands for some bytes of a range, and it isn't told for which,
-- it is taken to stand for all of them; but two such ranges, as of two mappings over one disk, tell nothing of each other.
abbrev pub Meet : Extent → Extent → Type 0
Meet one other = (one.holder ≡ other.holder) × ((one.is_exact ≡ true) ⊎ (other.is_exact ≡ true)) × HaveCommonByte one other

-- a sum of places, which are numbers of 64 bits
abbrev pub place_sum : ℕ → ℕ → ℕ
place_sum a b = min (a + b) 18446744073709551615

-- The bytes of a range of a partition or of a loop device, as bytes of what lies beneath: the same ones, so many further on.
abbrev pub moved : Extent → Holder → ℕ → Extent
moved extent holder by =
    record { holder = holder; start = place_sum extent.start by; end = place_sum extent.end by; is_exact = extent.is_exact }

-- of a range the bytes from `start` on and before `end`, both counted from its first byte
abbrev pub cut_extent : Extent → ℕ → ℕ → Extent
cut_extent extent start end =
    record { holder = extent.holder; start = place_sum extent.start start; end = min extent.end (place_sum extent.start end); is_exact = extent.is_exact }
