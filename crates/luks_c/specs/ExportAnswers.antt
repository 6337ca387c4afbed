-- What `luks_token_bytes` answers.
use Rattle.std.specs.Prelude.{◌≡◌, ℕ, ◌≤◌, ◌<◌, List, ◌⊎◌, length, Some, None}
use Rattle.luks_show.specs.declared.listing.Listing.{Listing}
use Rattle.luks_show.specs.TokenText.{IsShownToken}
use Rattle.luks_c.specs.declared.reading.LuksRead.{LuksRead}
use Rattle.luks_c.specs.ReadAnswers.{IsFaulty1, IsListing, IsUnreadBy}
use Rattle.luks_c_answers.specs.Buffers.{filled}

-- the text of the token `n` is in the front of the buffer; or the buffer is too short for it, and as it was
pub record IsTokenGiven (listing : Listing) (n : ℕ) (old new : List ℕ) (told : LuksRead) (number : ℕ) : Type 0 where
  pub text : List ℕ
  pub shown : IsShownToken listing n (Some text)
  pub text_bytes : told.json_bytes ≡ length text
  pub given : ((number ≡ 0) × (new ≡ filled old text) × (length text ≤ length old)) ⊎ ((number ≡ 106) × (new ≡ old) × (length old < length text))

-- it isn't there, or memory was refused; the buffer is as it was
pub record IsTokenUntold (listing : Listing) (n : ℕ) (old new : List ℕ) (number : ℕ) : Type 0 where
  pub why : ((number ≡ 59) × IsShownToken listing n None) ⊎ (number ≡ 103)
  pub kept : new ≡ old

abbrev pub IsTokenTold : Listing → ℕ → List ℕ → List ℕ → LuksRead → ℕ → Type 0
IsTokenTold listing n old new told number = IsTokenGiven listing n old new told number ⊎ IsTokenUntold listing n old new number

-- of what the header says that counts of the volume `v`
pub record IsExported (v : List ℕ) (n : ℕ) (old new : List ℕ) (told : LuksRead) (number : ℕ) : Type 0 where
  pub listing : Listing
  pub listed : IsListing v listing
  pub given : IsTokenTold listing n old new told number

-- the same, or the header isn't read by a fault, and then the buffer is as it was
abbrev pub AnswersExport : List ℕ → ℕ → List ℕ → List ℕ → LuksRead → ℕ → Type 0
AnswersExport v n old new told number = IsExported v n old new told number ⊎ ((IsUnreadBy v number ⊎ IsFaulty1 v number) × (new ≡ old))
