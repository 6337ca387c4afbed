-- What is left on a volume where a header was made (LUKS2 On-Disk Format 1.1, 2.1; the signatures are those of the
-- file systems ext2, ext3 and ext4, and of swap on pages of 4096 bytes).
use Rattle.std.specs.Prelude.{◌≡◌, ℕ, ◌≤◌, List, [], ◌∷◌, codes}
use Rattle.luks_area.specs.Ranges.{part}
use Rattle.luks2_header.specs.Header2.{IsSound}
use Rattle.luks_notes.specs.declared.leftover.Leftover.{Leftover}
use Rattle.luks_notes.specs.declared.leftover.Leftover.TheVariants.{SecondCopy, Ext, Swap}

-- on a volume that begins with the bytes `v`, the first `own` of which are of the header that was made: a sound second
-- copy that is none of it, or a signature
abbrev pub IsLeft : List ℕ → ℕ → Leftover → Type 0
IsLeft v own (SecondCopy place) = (own ≤ place) × IsSound v place
IsLeft v own Ext = (own ≤ 1080) × (part v 1080 2 ≡ 0x53 ∷ 0xEF ∷ [])
IsLeft v own Swap = (own ≤ 4086) × (part v 4086 10 ≡ codes "SWAPSPACE2")
