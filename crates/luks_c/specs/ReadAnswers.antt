-- What `luks_read_bytes` answers.
use Rattle.std.specs.Prelude.{◌≡◌, ℕ, ◌≤◌, ◌<◌, List, ◌⊎◌, length}
use Rattle.luks_area.specs.First.{IsLeast}
use Rattle.luks_area.specs.Ranges.{part}
use Rattle.luks1_header.specs.declared.fault.HeadFault.{HeadFault}
use Rattle.luks1_header.specs.Faults.{head_key, IsLuks1Fault}
use Rattle.luks1_header.specs.Header1.{IsLuks1}
use Rattle.luks2_header.specs.Selection.{luks1, Chosen}
use Rattle.luks_reading.specs.declared.read_fault.ReadFault.{ReadFault}
use Rattle.luks_reading.specs.Conversions.{head_unread}
use Rattle.luks_reading.specs.Header.{IsChosenCopy, IsUnread}
use Rattle.luks_show.specs.declared.listing.Listing.{Listing}
use Rattle.luks_show.specs.declared.listing.Listing.TheVariants.{Luks1, Luks2}
use Rattle.luks_show.specs.JsonText.{IsJsonText}
use Rattle.luks_c.specs.declared.reading.LuksRead.{LuksRead}
use Rattle.luks_c_answers.specs.Buffers.{filled}
use Rattle.luks_c_answers.specs.Numbers.{read_number}

-- what the header says that counts of the volume `v`
abbrev pub IsListing : List ℕ → Listing → Type 0
IsListing v (Luks1 header) = Chosen v luks1 × IsLuks1 (part v 0 592) header
IsListing v (Luks2 copy) = IsChosenCopy v copy

-- the text of the listing is in the front of the buffer; or the buffer is too short for it, and as it was
pub record IsTextGiven (listing : Listing) (old new : List ℕ) (told : LuksRead) (number : ℕ) : Type 0 where
  pub text : List ℕ
  pub is : IsJsonText listing text
  pub json_bytes : told.json_bytes ≡ length text
  pub given : ((number ≡ 0) × (new ≡ filled old text) × (length text ≤ length old)) ⊎ ((number ≡ 106) × (new ≡ old) × (length old < length text))

-- the same, or memory was refused
abbrev pub IsJsonGiven : Listing → List ℕ → List ℕ → LuksRead → ℕ → Type 0
IsJsonGiven listing old new told number = IsTextGiven listing old new told number ⊎ ((number ≡ 103) × (new ≡ old))

-- the header isn't read, by a fault of this number: the first, unless another range has to be given or memory was
-- refused
pub record IsUnreadBy (v : List ℕ) (number : ℕ) : Type 0 where
  pub fault : ReadFault
  pub unread : IsUnread v fault
  pub is : number ≡ read_number fault

-- it is a header of LUKS1, and its first fault has this number
pub record IsFaulty1 (v : List ℕ) (number : ℕ) : Type 0 where
  pub chosen : Chosen v luks1
  pub fault : HeadFault
  pub first : IsLeast head_key (IsLuks1Fault (part v 0 592)) fault
  pub is : number ≡ read_number (head_unread fault)

-- the header is told
pub record IsListed (v old new : List ℕ) (told : LuksRead) (number : ℕ) : Type 0 where
  pub listing : Listing
  pub listed : IsListing v listing
  pub given : IsJsonGiven listing old new told number

-- the header is told, or isn't by a fault, and then the buffer is as it was
abbrev pub AnswersRead : List ℕ → List ℕ → List ℕ → LuksRead → ℕ → Type 0
AnswersRead v old new told number = IsListed v old new told number ⊎ ((IsUnreadBy v number ⊎ IsFaulty1 v number) × (new ≡ old))
