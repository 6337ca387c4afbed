-- Where a new keyslot's area goes, by the numbers of the metadata `j` of a JSON area of `len` bytes in
-- a volume of `total` bytes.
use Rattle.std.specs.Prelude.{◌≡◌, ℕ, ◌+◌, ◌-◌, ◌*◌, ◌^◌, ◌≤◌, true, false, Some, min}
use Rattle.serde_json.specs.Data.{Data as Value}
use Rattle.luks_area.specs.declared.area.Area.{Area}
use Rattle.luks_rules.specs.Sizes.{keyslots_size, region_start}
use Rattle.luks_making.specs.Derivations.{asked_beyond, asked_few_turns}
use Rattle.luks_making.specs.declared.derivation.AskedDerivation.{AskedDerivation}
use Rattle.luks_reading.specs.declared.report.Data.{Data}
use Rattle.luks_edit.specs.declared.edit_fault.EditFault.{EditFault}
use Rattle.luks_edit.specs.declared.edit_fault.EditFault.TheVariants as fault
use Rattle.luks2_edit_laws.specs.declared.like.Like.{Like}
use Rattle.luks2_edit_laws.specs.declared.like.Like.TheVariants.{Keyslot, Digest}
use Rattle.luks2_edit_laws.specs.Likes.{HasStripesLike}
use Rattle.luks2_edit_laws.specs.Metadata.{IsInUse}
use Rattle.luks2_edit_laws.specs.Places.{rounded_to_blocks, HasNoNewArea}

-- there is such a keyslot, or its key has 1 to 128 bytes
abbrev pub IsSealableLike : Value → Like → Type 0
IsSealableLike j (Keyslot n) = IsInUse j n
IsSealableLike j (Digest number len) = (1 ≤ len) × (len ≤ 128)

-- the stripes of a keyslot that is made like this one take `bytes` bytes of whole blocks
pub record TakesBlocks (j : Value) (like : Like) (bytes : ℕ) : Type 0 where
  pub can : IsSealableLike j like
  pub key_bytes : ℕ
  pub stripes : ℕ
  pub slot : HasStripesLike j like key_bytes stripes
  pub is : bytes ≡ rounded_to_blocks (key_bytes * stripes)
  pub some : 4096 ≤ bytes

-- the region of the key areas begins at `low` and ends at `high`, or the volume before it; numbers
-- that 64 bits don't hold are the greatest one
pub record IsRegion (len : ℕ) (j : Value) (total low high : ℕ) : Type 0 where
  pub bytes : ℕ
  pub bytes_are : keyslots_size j ≡ Some bytes
  pub low_is : low ≡ min (region_start len) (2 ^ 64 - 1)
  pub high_is : high ≡ min (min (low + bytes) (2 ^ 64 - 1)) total

-- the area holds the stripes of a keyslot that is made like this one, and lies in the region and the volume
pub record IsPlaced (len : ℕ) (j : Value) (total : ℕ) (like : Like) (area : Area) : Type 0 where
  pub blocks : TakesBlocks j like area.len
  pub bytes : ℕ
  pub bytes_are : keyslots_size j ≡ Some bytes
  pub from : region_start len ≤ area.start
  pub to : area.start + area.len ≤ region_start len + bytes
  pub inside : area.start + area.len ≤ total

-- what is asked has enough iterations or passes, and Argon2 that is chosen takes no more than so many
-- KiB, in its bounds
pub record IsAllowed (memory : ℕ) (asked : AskedDerivation) : Type 0 where
  pub turns : asked_few_turns asked ≡ false
  pub within : asked_beyond memory asked ≡ false

-- there is room for the area of a keyslot that is sealed like this one, but its key would be
-- derived with too few iterations or passes
pub record IsTooQuick (h total : ℕ) (payload : Data) (j : Value) (like : Like) (asked : AskedDerivation) : Type 0 where
  pub room : HasNoNewArea h total payload j like → ⊥
  pub turns : asked_few_turns asked ≡ true

-- it wouldn't, except by an Argon2 that takes too much memory, or is outside its bounds
pub record IsTooLarge (h total : ℕ) (payload : Data) (j : Value) (like : Like) (memory : ℕ) (asked : AskedDerivation) : Type 0 where
  pub room : HasNoNewArea h total payload j like → ⊥
  pub turns : asked_few_turns asked ≡ false
  pub beyond : asked_beyond memory asked ≡ true

-- why no keyslot is sealed like this one that derives as is asked, where Argon2 may take so many KiB
abbrev pub IsUnsealable : ℕ → ℕ → Data → Value → Like → ℕ → AskedDerivation → EditFault → Type 0
IsUnsealable h total payload j like memory asked fault.NoRoom = HasNoNewArea h total payload j like
IsUnsealable h total payload j like memory asked fault.Iterations = IsTooQuick h total payload j like asked
IsUnsealable h total payload j like memory asked fault.Argon2 = IsTooLarge h total payload j like memory asked
IsUnsealable h total payload j like memory asked f = ⊥
