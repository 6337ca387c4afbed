-- What `show` may answer.
use Rattle.std.specs.Prelude.{◌≡◌, ◌⊎◌, ℕ, ◌+◌, List, length, Option, Some, None, Result, Ok, Err, ⊤, string_bytes}
use Rattle.luks_area.specs.First.{IsLeast}
use Rattle.luks_area.specs.Ranges.{part}
use Rattle.luks1_header.specs.Header1.{IsLuks1}
use Rattle.luks2_header.specs.Selection.{luks1, Chosen}
use Rattle.luks_reading.specs.declared.check_fault.CheckFault.{CheckFault}
use Rattle.luks_reading.specs.declared.check_fault.CheckFault.TheVariants as fault
use Rattle.luks_reading.specs.declared.report.Data.TheVariants.{Elsewhere}
use Rattle.luks_reading.specs.Checked.{check_key, IsFault}
use Rattle.luks_reading.specs.declared.header.Header.{Header}
use Rattle.luks_reading.specs.Header.{IsChosenCopy, IsHeader, NeedsMetadata}
use Rattle.luks_request.specs.declared.request.ShowAs.{ShowAs}
use Rattle.luks_request.specs.declared.request.ShowAs.TheVariants as form
use Rattle.luks_commands.specs.declared.answers.Answer.{Answer}
use Rattle.luks_commands.specs.declared.answers.Answer.TheVariants.{Listed, ListedFully, Mapped, Tokens, Json, Refused, DeviceFault, NoMemory}
use Rattle.luks_commands.specs.declared.answers.Refusal.TheVariants.{Check, Edit, NotUnderWay}
use Rattle.luks_edit.specs.declared.edit_fault.EditFault.TheVariants.{NoSuchToken}
use Rattle.luks_commands.specs.declared.inputs.InputFault.{InputFault}
use Rattle.luks_show.specs.declared.listing.FullListing.{FullListing}
use Rattle.luks_show.specs.declared.listing.Listing.{Listing}
use Rattle.luks_show.specs.declared.listing.Listing.TheVariants.{Luks1, Luks2}
use Rattle.luks_map.specs.declared.map.HeaderMap.{HeaderMap}
use Rattle.luks_map.specs.Map.{IsMap}
use Rattle.luks_show.specs.JsonText.{IsJsonText}
use Rattle.luks_show.specs.TokenText.{IsShownToken}
use Rattle.luks_show.specs.declared.tokens.TokenListing.{TokenListing}
use Rattle.luks_commands.specs.Answer.{unread_answer}
use Rattle.luks_commands.specs.Lost.{IsLost}
use Rattle.luks_commands.specs.UnderwayShown.{IsUnderwayShowAnswer}
use Rattle.luks_wide_reading.specs.Headers.{IsUnderWayVolume}

-- ---- what refuses it

-- the fault is of the header or of the metadata, and not of the areas
abbrev pub IsBeforeAreas : CheckFault → Type 0
IsBeforeAreas (fault.Head f) = ⊤
IsBeforeAreas (fault.Meta f) = ⊤
IsBeforeAreas (fault.Area f) = ⊥
IsBeforeAreas fault.Device = ⊥
IsBeforeAreas fault.Memory = ⊥

-- why the header of the volume `v` isn't shown: what `check --detached` finds in the header and in the
-- metadata. The areas aren't looked at, and no segment's place
pub record IsShowFault (v : List ℕ) (f : CheckFault) : Type 0 where
  pub fault : IsFault v Elsewhere f
  pub before : IsBeforeAreas f

-- the first of these
abbrev pub IsFirstShowFault : List ℕ → CheckFault → Type 0
IsFirstShowFault v f = IsLeast check_key (IsShowFault v) f

-- ---- what is shown

-- what the header says that counts of the volume `v`
abbrev pub IsListing : List ℕ → Listing → Type 0
IsListing v (Luks1 header) = Chosen v luks1 × IsLuks1 (part v 0 592) header
IsListing v (Luks2 copy) = IsChosenCopy v copy

-- nothing refuses it, and this is what is shown
pub record IsShown (v : List ℕ) (listing : Listing) : Type 0 where
  pub faultless : (f : CheckFault) → IsShowFault v f → ⊥
  pub is : IsListing v listing

-- nothing refuses it, and this is the text of what is shown
pub record IsShownAsJson (v : List ℕ) (text : List ℕ) : Type 0 where
  pub listing : Listing
  pub shown : IsShown v listing
  pub is : IsJsonText listing text

-- nothing refuses it, and this is the map of what is shown and of the volume's length
pub record IsShownAsMap (v : List ℕ) (m : HeaderMap) : Type 0 where
  pub listing : Listing
  pub shown : IsShown v listing
  pub is : IsMap listing (length v) m

-- nothing refuses it, and that is shown of the token with the number `n`: its text, or none
pub record IsTokenShown (v : List ℕ) (n : ℕ) (text : Option (List ℕ)) : Type 0 where
  pub listing : Listing
  pub shown : IsShown v listing
  pub is : IsShownToken listing n text

-- ---- the answer

-- of the volume `v`, while the device's count of failures went from `before` to `after`: `device fault`
-- comes exactly where a call failed, and a refusal is the first fault
abbrev pub IsListedAnswer : Type 0 → List ℕ → ℕ → ℕ → Answer → Type 0
IsListedAnswer tells v before after (Listed listing) = (after ≡ before) × (tells → IsShown v listing)
IsListedAnswer tells v before after (Refused (Check f)) = (after ≡ before) × (tells → IsFirstShowFault v f)
IsListedAnswer tells v before after DeviceFault = after ≡ before + 1
IsListedAnswer tells v before after NoMemory = (after ≡ before) × (tells → NeedsMetadata v)
IsListedAnswer tells v before after a = ⊥

-- the same of a header that was read, of any volume in which it counts
abbrev pub IsHeaderAnswer : Header → Answer → Type 0
IsHeaderAnswer h (Listed listing) = (v : List ℕ) → IsHeader v h → IsShown v listing
IsHeaderAnswer h (Refused (Check f)) = (v : List ℕ) → IsHeader v h → IsFirstShowFault v f
IsHeaderAnswer h a = ⊥

-- with all that its lines may tell: the same except for the form
abbrev pub IsFullAnswer : Type 0 → List ℕ → ℕ → ℕ → Answer → Type 0
IsFullAnswer tells v before after (ListedFully listing) = (after ≡ before) × (tells → IsShown v listing.0)
IsFullAnswer tells v before after (Refused (Check f)) = (after ≡ before) × (tells → IsFirstShowFault v f)
IsFullAnswer tells v before after DeviceFault = after ≡ before + 1
IsFullAnswer tells v before after NoMemory = (after ≡ before) × (tells → NeedsMetadata v)
IsFullAnswer tells v before after a = ⊥

-- as a map: the same except for the form
abbrev pub IsMapAnswer : Type 0 → List ℕ → ℕ → ℕ → Answer → Type 0
IsMapAnswer tells v before after (Mapped m) = (after ≡ before) × (tells → IsShownAsMap v m)
IsMapAnswer tells v before after (Refused (Check f)) = (after ≡ before) × (tells → IsFirstShowFault v f)
IsMapAnswer tells v before after DeviceFault = after ≡ before + 1
IsMapAnswer tells v before after NoMemory = (after ≡ before) × (tells → NeedsMetadata v)
IsMapAnswer tells v before after a = ⊥

-- its tokens: the same except for the form
abbrev pub IsTokensAnswer : Type 0 → List ℕ → ℕ → ℕ → Answer → Type 0
IsTokensAnswer tells v before after (Tokens listing) = (after ≡ before) × (tells → IsShown v listing.0)
IsTokensAnswer tells v before after (Refused (Check f)) = (after ≡ before) × (tells → IsFirstShowFault v f)
IsTokensAnswer tells v before after DeviceFault = after ≡ before + 1
IsTokensAnswer tells v before after NoMemory = (after ≡ before) × (tells → NeedsMetadata v)
IsTokensAnswer tells v before after a = ⊥

-- the token with the number `n`: its text, or that there is none
abbrev pub IsTokenAnswer : ℕ → Type 0 → List ℕ → ℕ → ℕ → Answer → Type 0
IsTokenAnswer n tells v before after (Json text) = (after ≡ before) × (tells → IsTokenShown v n (Some (string_bytes text)))
IsTokenAnswer n tells v before after (Refused (Edit NoSuchToken)) = (after ≡ before) × (tells → IsTokenShown v n None)
IsTokenAnswer n tells v before after (Refused (Check f)) = (after ≡ before) × (tells → IsFirstShowFault v f)
IsTokenAnswer n tells v before after DeviceFault = after ≡ before + 1
IsTokenAnswer n tells v before after NoMemory = after ≡ before
IsTokenAnswer n tells v before after a = ⊥

-- as JSON: the same except for the form, and that the object takes memory of either version
abbrev pub IsJsonAnswer : Type 0 → List ℕ → ℕ → ℕ → Answer → Type 0
IsJsonAnswer tells v before after (Json text) = (after ≡ before) × (tells → IsShownAsJson v (string_bytes text))
IsJsonAnswer tells v before after (Refused (Check f)) = (after ≡ before) × (tells → IsFirstShowFault v f)
IsJsonAnswer tells v before after DeviceFault = after ≡ before + 1
IsJsonAnswer tells v before after NoMemory = after ≡ before
IsJsonAnswer tells v before after a = ⊥

-- a table of what is under way: that nothing is, where it is listed
abbrev pub IsTablesAnswer : Type 0 → List ℕ → ℕ → ℕ → Answer → Type 0
IsTablesAnswer tells v before after (Refused NotUnderWay) = (after ≡ before) × (tells → (listing : Listing) × IsShown v listing)
IsTablesAnswer tells v before after (Refused (Check f)) = (after ≡ before) × (tells → IsFirstShowFault v f)
IsTablesAnswer tells v before after DeviceFault = after ≡ before + 1
IsTablesAnswer tells v before after NoMemory = (after ≡ before) × (tells → NeedsMetadata v)
IsTablesAnswer tells v before after a = ⊥

-- what a listing becomes as JSON: its text, or memory is refused. Another answer stays
abbrev pub IsAsJson : Answer → Answer → Type 0
IsAsJson (Listed listing) (Json text) = IsJsonText listing (string_bytes text)
IsAsJson (Listed listing) NoMemory = ⊤
IsAsJson (Listed listing) a = ⊥
IsAsJson answer a = a ≡ answer

-- what a listing becomes with all that its lines may tell. Another answer stays
abbrev pub IsInFull : Answer → Answer → Type 0
IsInFull (Listed listing) a = (full : FullListing) × ((a ≡ ListedFully full) × (full.0 ≡ listing))
IsInFull answer a = a ≡ answer

-- what a listing of a volume of `total` bytes becomes as a map. Another answer stays
abbrev pub IsAsMap : ℕ → Answer → Answer → Type 0
IsAsMap total (Listed listing) a = (m : HeaderMap) × ((a ≡ Mapped m) × IsMap listing total m)
IsAsMap total answer a = a ≡ answer

-- what a listing becomes as that of its tokens. Another answer stays
abbrev pub IsAsTokens : Answer → Answer → Type 0
IsAsTokens (Listed listing) a = (tokens : TokenListing) × ((a ≡ Tokens tokens) × (tokens.0 ≡ listing))
IsAsTokens answer a = a ≡ answer

-- what a listing becomes as the token with the number `n`. Another answer stays
abbrev pub IsAsToken : ℕ → Answer → Answer → Type 0
IsAsToken n (Listed listing) (Json text) = IsShownToken listing n (Some (string_bytes text))
IsAsToken n (Listed listing) (Refused (Edit NoSuchToken)) = IsShownToken listing n None
IsAsToken n (Listed listing) NoMemory = ⊤
IsAsToken n (Listed listing) a = ⊥
IsAsToken n answer a = a ≡ answer

-- what a listing becomes where a table of what is under way is asked for. Another answer stays
abbrev pub IsAsTables : Answer → Answer → Type 0
IsAsTables (Listed listing) a = a ≡ Refused NotUnderWay
IsAsTables answer a = a ≡ answer

-- what an answer by lines, of a volume of `total` bytes, becomes in this form
abbrev pub IsShownAs : ShowAs → ℕ → Answer → Answer → Type 0
IsShownAs form.Lines total answer a = a ≡ answer
IsShownAs form.All total answer a = IsInFull answer a
IsShownAs form.Map total answer a = IsAsMap total answer a
IsShownAs form.Tables total answer a = IsAsTables answer a
IsShownAs form.Tokens total answer a = IsAsTokens answer a
IsShownAs (form.Token n) total answer a = IsAsToken n answer a
IsShownAs form.Json total answer a = IsAsJson answer a

-- in this form
abbrev pub IsShowAnswer : ShowAs → Type 0 → List ℕ → ℕ → ℕ → Answer → Type 0
IsShowAnswer form.Lines tells v before after a = IsListedAnswer tells v before after a
IsShowAnswer form.All tells v before after a = IsFullAnswer tells v before after a
IsShowAnswer form.Map tells v before after a = IsMapAnswer tells v before after a
IsShowAnswer form.Tables tells v before after a = IsTablesAnswer tells v before after a
IsShowAnswer form.Tokens tells v before after a = IsTokensAnswer tells v before after a
IsShowAnswer (form.Token n) tells v before after a = IsTokenAnswer n tells v before after a
IsShowAnswer form.Json tells v before after a = IsJsonAnswer tells v before after a

-- of a volume, whether something is under way in its metadata or not: where something is, none of these is the answer, but that a call
-- failed or memory was refused
abbrev pub IsVolumeShown : ShowAs → Type 0 → List ℕ → ℕ → ℕ → Answer → Type 0
IsVolumeShown shown_as tells v before after a =
    (IsShowAnswer shown_as tells v before after a × (tells → IsUnderWayVolume v → IsLost a)) ⊎ IsUnderwayShowAnswer shown_as tells v before after a

-- the same of a volume that may not be there
abbrev pub AnswersShow : {D : Type 0} → ShowAs → Type 0 → (D → List ℕ) → (D → ℕ) → Result D InputFault → Result D InputFault → Answer → Type 0
AnswersShow {D} shown_as tells bytes failed (Ok old) (Ok new) a = IsVolumeShown shown_as tells (bytes old) (failed old) (failed new) a
AnswersShow {D} shown_as tells bytes failed (Ok old) (Err fault) a = ⊥
AnswersShow {D} shown_as tells bytes failed (Err fault) new a = a ≡ unread_answer fault
