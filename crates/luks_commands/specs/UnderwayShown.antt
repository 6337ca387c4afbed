-- What `show` answers of a volume in whose metadata something is under way.
use Rattle.std.specs.Prelude.{◌≡◌, ◌⊎◌, ℕ, ◌<◌, List, length, Some, None, ⊤, string_bytes}
use Rattle.luks_edit.specs.declared.edit_fault.EditFault.TheVariants.{NoSuchToken}
use Rattle.luks_map.specs.Map.{IsUnderwayMap}
use Rattle.luks_request.specs.declared.request.ShowAs.{ShowAs}
use Rattle.luks_request.specs.declared.request.ShowAs.TheVariants as form
use Rattle.luks_underway_show.specs.declared.lines.Lines.{Lines}
use Rattle.luks_underway_show.specs.declared.lines.Lines.TheVariants.{Few, All}
use Rattle.luks_underway_show.specs.declared.listing.UnderwayListing.{UnderwayListing}
use Rattle.luks_underway_show.specs.Tokens.{IsTokenShown}
use Rattle.luks_underway_show.specs.UnderwayJson.{IsUnderwayJson}
use Rattle.luks_wide_reading.specs.declared.copy.UnderwayCopy.{UnderwayCopy}
use Rattle.luks_wide_reading.specs.Headers.{IsUnderwayCopy}
use Rattle.luks_wider.specs.Underways.{content}
use Rattle.luks_commands.specs.declared.answers.Answer.{Answer}
use Rattle.luks_commands.specs.declared.answers.Answer.TheVariants.{Mapped, Json, Underway, Refused, NoMemory}
use Rattle.luks_commands.specs.declared.answers.Refusal.TheVariants.{Edit}
use Rattle.luks_commands.specs.declared.underway_shown.UnderwayShown.TheVariants.{Listed, Tokens, Tables}
use Rattle.luks_commands.specs.UnderwayAnswers.{IsRefusedUnderway}

-- the listing is that of the copy, with the lines that are asked for
pub record IsListingOf (copy : UnderwayCopy) (asked : Lines) (listing : UnderwayListing) : Type 0 where
  pub header : listing.header ≡ copy.header
  pub copies : listing.copies ≡ copy.copies
  pub meta : listing.meta ≡ copy.meta
  pub lines : listing.lines ≡ asked

-- ---- the forms, of the copy that counts

abbrev pub IsCopyListed : Lines → UnderwayCopy → Answer → Type 0
IsCopyListed asked copy (Underway (Listed listing)) = IsListingOf copy asked listing
IsCopyListed asked copy a = ⊥

abbrev pub AreTokensListed : UnderwayCopy → Answer → Type 0
AreTokensListed copy (Underway (Tokens tokens)) = tokens.0 ≡ copy.meta
AreTokensListed copy a = ⊥

-- the text of the token with the number `n`, or that there is none; the text takes memory
abbrev pub IsTokenGiven : ℕ → UnderwayCopy → Answer → Type 0
IsTokenGiven n copy (Json text) = IsTokenShown (content copy.meta) n (Some (string_bytes text))
IsTokenGiven n copy (Refused (Edit NoSuchToken)) = (31 < n) ⊎ IsTokenShown (content copy.meta) n None
IsTokenGiven n copy NoMemory = ⊤
IsTokenGiven n copy a = ⊥

-- of a volume of `total` bytes
abbrev pub IsCopyMapped : UnderwayCopy → ℕ → Answer → Type 0
IsCopyMapped copy total (Mapped m) = IsUnderwayMap copy.header.hdr_size (content copy.meta) total m
IsCopyMapped copy total a = ⊥

-- the data ends where the volume does
abbrev pub IsTableGiven : UnderwayCopy → ℕ → Answer → Type 0
IsTableGiven copy total (Underway (Tables table)) = (table.meta ≡ copy.meta) × (table.end ≡ total)
IsTableGiven copy total a = ⊥

-- the object takes memory
abbrev pub IsCopyAsJson : UnderwayCopy → Answer → Type 0
IsCopyAsJson copy (Json text) = IsUnderwayJson copy.header copy.copies (content copy.meta) (string_bytes text)
IsCopyAsJson copy NoMemory = ⊤
IsCopyAsJson copy a = ⊥

abbrev pub IsCopyShown : ShowAs → UnderwayCopy → ℕ → Answer → Type 0
IsCopyShown form.Lines copy total a = IsCopyListed Few copy a
IsCopyShown form.All copy total a = IsCopyListed All copy a
IsCopyShown form.Tokens copy total a = AreTokensListed copy a
IsCopyShown (form.Token n) copy total a = IsTokenGiven n copy a
IsCopyShown form.Map copy total a = IsCopyMapped copy total a
IsCopyShown form.Tables copy total a = IsTableGiven copy total a
IsCopyShown form.Json copy total a = IsCopyAsJson copy a

-- ---- of a volume

-- that is the answer, of the copy that counts of the volume `v`
pub record IsUnderwayShown (shown_as : ShowAs) (tells : Type 0) (v : List ℕ) (a : Answer) : Type 0 where
  pub copy : UnderwayCopy
  pub total : ℕ
  pub shown : IsCopyShown shown_as copy total a
  pub is : tells → IsUnderwayCopy v copy
  pub long : tells → length v ≡ total

-- while the device's count of failures stayed
abbrev pub IsUnderwayShowAnswer : ShowAs → Type 0 → List ℕ → ℕ → ℕ → Answer → Type 0
IsUnderwayShowAnswer shown_as tells v before after a = (after ≡ before) × (IsUnderwayShown shown_as tells v a ⊎ IsRefusedUnderway tells v a)
