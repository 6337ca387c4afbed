-- What is judged of an edit of a LUKS2 volume last, before its first write: words of private
-- contracts.
use Rattle.std.specs.Prelude.{◌≡◌, ◌≢◌, ℕ, ◌+◌, ◌*◌, ◌^◌, ◌<◌, ◌≤◌, List, length, ⊤}
use Rattle.serde_json.specs.Data.{Data as Value}
use Rattle.serde_json.specs.Written.{compact_text}
use Rattle.luks2_header.specs.Header2.{binary_header_size}
use Rattle.luks2_header.specs.declared.bin2.Bin2.{Bin2}
use Rattle.luks_edit.specs.declared.edit_fault.EditFault.{EditFault}
use Rattle.luks_edit.specs.declared.edit_fault.EditFault.TheVariants as fault

-- the binary header is of a copy with a JSON area of `len` bytes; both copies lie inside a volume of
-- `total` bytes
pub record AreCopiesWithin (header : Bin2) (len total : ℕ) : Type 0 where
  pub size : binary_header_size + len ≡ header.hdr_size
  pub place : header.hdr_offset ≤ header.hdr_size
  pub within : 2 * header.hdr_size ≤ total

-- there is a next sequence number, the metadata leaves a zero byte in the JSON area, and the random
-- bytes are as many as are needed
pub record IsPrepared (number len : ℕ) (j : Value) (random : List ℕ) (need : ℕ) : Type 0 where
  pub numbered : number + 1 < 2 ^ 64
  pub room : length (compact_text j) < len
  pub counted : length random ≡ need

-- the first of these that fails: the room, or the number of random bytes
pub record IsFullArea (number len : ℕ) (j : Value) : Type 0 where
  pub numbered : number + 1 < 2 ^ 64
  pub full : len ≤ length (compact_text j)

pub record IsMiscountedRandom (number len : ℕ) (j : Value) (random : List ℕ) (need : ℕ) : Type 0 where
  pub numbered : number + 1 < 2 ^ 64
  pub room : length (compact_text j) < len
  pub other : length random ≢ need

-- the metadata has no written area
abbrev pub IsAreaFault : ℕ → Value → EditFault → Type 0
IsAreaFault len j fault.MetadataFull = len ≤ length (compact_text j)
IsAreaFault len j fault.Memory = ⊤
IsAreaFault len j f = ⊥

-- why nothing is written
abbrev pub IsUnprepared : ℕ → ℕ → Value → List ℕ → ℕ → EditFault → Type 0
IsUnprepared number len j random need fault.SeqExhausted = number + 1 ≡ 2 ^ 64
IsUnprepared number len j random need fault.MetadataFull = IsFullArea number len j
IsUnprepared number len j random need fault.RandomLength = IsMiscountedRandom number len j random need
IsUnprepared number len j random need fault.Memory = ⊤
IsUnprepared number len j random need f = ⊥

-- why not all was written: all was prepared where the device failed
abbrev pub IsUnwritten : ℕ → ℕ → Value → List ℕ → ℕ → EditFault → Type 0
IsUnwritten number len j random need fault.Device = IsPrepared number len j random need
IsUnwritten number len j random need f = IsUnprepared number len j random need f
