-- The segment of LUKS2 metadata that the words of a command line give, where none is whole (LUKS2 On-Disk Format 1.1, 3.3).
use Rattle.std.specs.Prelude.{◌≡◌, ℕ, ◌*◌, ◌≤◌, List, ◌∷◌, ◌++◌, length, Option, Some, None, option_map}
use Rattle.arrayvec.specs.ArrayString.{ArrayString}
use Rattle.luks_piecing.specs.declared.given.GivenSegment.{GivenSegment}
use Rattle.luks_request.specs.declared.rebuilding.Luks1Fields.{Luks1Fields}
use Rattle.luks_request.specs.declared.rebuilding.Rebuilding.{Rebuilding}

-- the cipher that is given: its name and its mode, with a hyphen between them
pub record HasCipher (fields : Luks1Fields) (text : List ℕ) : Type 0 where
  pub name : List ℕ
  pub named : option_map (λ t. t.now) fields.cipher_name ≡ Some name
  pub mode : List ℕ
  pub in_mode : option_map (λ t. t.now) fields.cipher_mode ≡ Some mode
  pub is : text ≡ name ++ 0x2D ∷ mode

-- a cipher has no more bytes
abbrev pub longest_cipher : ℕ
longest_cipher = 64

-- it begins at a sector of 512 bytes
pub record IsSegment (r : Rebuilding) (g : GivenSegment) : Type 0 where
  pub cipher : HasCipher r.luks1 g.cipher.now
  pub sector : ℕ
  pub begins : r.luks1.payload ≡ Some sector
  pub offset : g.offset ≡ 512 * sector
  pub sectors : r.sector_size ≡ Some g.sector_size

-- the segment that is given, or none, where one of its three isn't
abbrev pub IsGivenSegment : Rebuilding → Option GivenSegment → Type 0
IsGivenSegment r (Some g) = IsSegment r g
IsGivenSegment r None = (g : GivenSegment) → IsSegment r g → length g.cipher.now ≤ longest_cipher → ⊥

-- ---- of the cipher alone: words of private contracts

abbrev pub IsGivenCipher : Luks1Fields → Option ArrayString → Type 0
IsGivenCipher fields (Some cipher) = HasCipher fields cipher.bytes
IsGivenCipher fields None = (text : List ℕ) → HasCipher fields text → length text ≤ longest_cipher → ⊥
