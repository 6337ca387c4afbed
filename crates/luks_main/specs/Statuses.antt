-- Which answer of which command the program ends with which exit status. Of no command any other answer comes.
use Rattle.std.specs.Prelude.{◌≡◌, ◌⊎◌, ℕ, Bool, Option, None, Some, true, false}
use Rattle.luks2_header.specs.declared.selection.Copies.TheVariants.{InStep, FirstNewer, SecondNewer, FirstOnly, SecondOnly}
use Rattle.luks_reading.specs.declared.report.Version.TheVariants.{Luks1, Luks2}
use Rattle.luks_request.specs.declared.request.Command.{Command}
use Rattle.luks_request.specs.declared.request.Command.TheVariants as command
use Rattle.luks_request.specs.declared.request.ShowAs.{ShowAs}
use Rattle.luks_request.specs.declared.request.ShowAs.TheVariants as form
use Rattle.luks_keeping.specs.ComparisonTexts.{is_current}
use Rattle.luks_edit.specs.declared.edit_fault.EditFault.TheVariants.{NoSuchToken}
use Rattle.luks_commands.specs.declared.answers.Answer.{Answer}
use Rattle.luks_commands.specs.declared.answers.Answer.TheVariants.{Accepted, Listed, ListedFully, Mapped, Tokens, Json, Underway, Opens, Closed, NoneOpens, Matches, Differs, Done, Compared, Rescued, Refused, DeviceFault, NoMemory}
use Rattle.luks_commands.specs.declared.answers.Refusal.TheVariants as refusal
use Rattle.luks_commands.specs.declared.underway_refusal.UnderwayRefusal.TheVariants.{Metadata, NoKey, Progressed}
use Rattle.luks_commands.specs.declared.underway_shown.UnderwayShown.TheVariants as shown
use Rattle.luks_underway_show.specs.declared.lines.Lines.TheVariants.{Few, All}

-- of every command: a file or the device failed, or memory was refused
abbrev pub EndsAny : Answer → ℕ → Type 0
EndsAny DeviceFault status = status ≡ 4
EndsAny NoMemory status = status ≡ 4
EndsAny answer status = ⊥

-- `check`: 3 where one copy of a LUKS2 header is newer than the other, or alone
abbrev pub EndsCheck : Answer → ℕ → Type 0
EndsCheck (Accepted Luks1 areas) status = status ≡ 0
EndsCheck (Accepted (Luks2 InStep seqid) areas) status = status ≡ 0
EndsCheck (Accepted (Luks2 FirstNewer seqid) areas) status = status ≡ 3
EndsCheck (Accepted (Luks2 SecondNewer seqid) areas) status = status ≡ 3
EndsCheck (Accepted (Luks2 FirstOnly seqid) areas) status = status ≡ 3
EndsCheck (Accepted (Luks2 SecondOnly seqid) areas) status = status ≡ 3
EndsCheck (Refused (refusal.Check fault)) status = status ≡ 1
EndsCheck answer status = EndsAny answer status

-- `show`: what is shown is of the form that was asked for
abbrev pub EndsShow : ShowAs → Answer → ℕ → Type 0
EndsShow form.Lines (Listed listing) status = status ≡ 0
EndsShow form.Lines (Underway (shown.Listed listing)) status = (listing.lines ≡ Few) × (status ≡ 0)
EndsShow form.All (ListedFully listing) status = status ≡ 0
EndsShow form.All (Underway (shown.Listed listing)) status = (listing.lines ≡ All) × (status ≡ 0)
EndsShow form.Map (Mapped map) status = status ≡ 0
EndsShow form.Tables (Underway (shown.Tables table)) status = status ≡ 0
EndsShow form.Tables (Refused refusal.NotUnderWay) status = status ≡ 1
EndsShow form.Tokens (Tokens listing) status = status ≡ 0
EndsShow form.Tokens (Underway (shown.Tokens tokens)) status = status ≡ 0
EndsShow (form.Token n) (Json text) status = status ≡ 0
EndsShow (form.Token n) (Refused (refusal.Edit NoSuchToken)) status = status ≡ 1
EndsShow form.Json (Json text) status = status ≡ 0
EndsShow shown_as (Refused (refusal.Check fault)) status = status ≡ 1
EndsShow shown_as (Refused (refusal.Underway (Metadata fault))) status = status ≡ 1
EndsShow shown_as answer status = EndsAny answer status

-- `open`: a keyslot that was named is the one that opens or doesn't; one that holds no key is refused where it is named
abbrev pub EndsOpen : Option ℕ → Answer → ℕ → Type 0
EndsOpen None (Opens n) status = status ≡ 0
EndsOpen (Some named) (Opens n) status = (n ≡ named) × (status ≡ 0)
EndsOpen (Some named) (Closed n) status = (n ≡ named) × (status ≡ 1)
EndsOpen None NoneOpens status = status ≡ 1
EndsOpen (Some named) (Refused (refusal.Underway NoKey)) status = status ≡ 1
EndsOpen slot (Refused (refusal.Underway (Metadata fault))) status = status ≡ 1
EndsOpen slot (Refused (refusal.Open fault)) status = status ≡ 1
EndsOpen slot (Refused refusal.LongPassphrase) status = status ≡ 1
EndsOpen slot answer status = EndsAny answer status

-- `open` of a key
abbrev pub EndsKey : Answer → ℕ → Type 0
EndsKey Matches status = status ≡ 0
EndsKey Differs status = status ≡ 1
EndsKey (Refused (refusal.Key fault)) status = status ≡ 1
EndsKey (Refused refusal.LongPassphrase) status = status ≡ 1
EndsKey answer status = EndsAny answer status

-- `add`, `change`, `remove`, `erase`, `repair`, `label`, `uuid`, `priority` and `token`
abbrev pub EndsEdit : Answer → ℕ → Type 0
EndsEdit (Done slot) status = status ≡ 0
EndsEdit (Refused (refusal.Edit fault)) status = status ≡ 1
EndsEdit (Refused refusal.LongPassphrase) status = status ≡ 1
EndsEdit (Refused (refusal.OtherUse found)) status = status ≡ 1
EndsEdit answer status = EndsAny answer status

-- `format`: what is made has keyslot 0
abbrev pub EndsFormat : Answer → ℕ → Type 0
EndsFormat (Done slot) status = (slot ≡ Some 0) × (status ≡ 0)
EndsFormat (Refused (refusal.Format fault)) status = status ≡ 1
EndsFormat (Refused refusal.LongPassphrase) status = status ≡ 1
EndsFormat (Refused (refusal.OtherUse found)) status = status ≡ 1
EndsFormat (Refused refusal.OtherVolume) status = status ≡ 1
EndsFormat (Refused refusal.Reencrypting) status = status ≡ 1
EndsFormat answer status = EndsAny answer status

-- `convert`
abbrev pub EndsConvert : Answer → ℕ → Type 0
EndsConvert (Done slot) status = (slot ≡ None) × (status ≡ 0)
EndsConvert (Refused (refusal.Convert fault)) status = status ≡ 1
EndsConvert (Refused refusal.SameFile) status = status ≡ 1
EndsConvert (Refused (refusal.OtherUse found)) status = status ≡ 1
EndsConvert (Refused refusal.OtherVolume) status = status ≡ 1
EndsConvert (Refused refusal.Reencrypting) status = status ≡ 1
EndsConvert answer status = EndsAny answer status

-- `rebuild`
abbrev pub EndsUntried : Answer → ℕ → Type 0
EndsUntried (Done slot) status = (slot ≡ None) × (status ≡ 0)
EndsUntried (Refused (refusal.Rebuild fault)) status = status ≡ 1
EndsUntried (Refused (refusal.Rebuild1 fault)) status = status ≡ 1
EndsUntried (Refused refusal.SameFile) status = status ≡ 1
EndsUntried (Refused (refusal.OtherUse found)) status = status ≡ 1
EndsUntried (Refused refusal.OtherVolume) status = status ≡ 1
EndsUntried (Refused refusal.Reencrypting) status = status ≡ 1
EndsUntried answer status = EndsAny answer status

-- with a passphrase, which may be too long, or open no keyslot by what is tried
abbrev pub EndsTried : Answer → ℕ → Type 0
EndsTried (Done slot) status = (slot ≡ None) × (status ≡ 0)
EndsTried NoneOpens status = status ≡ 1
EndsTried (Refused (refusal.Rebuild1 fault)) status = status ≡ 1
EndsTried (Refused refusal.SameFile) status = status ≡ 1
EndsTried (Refused (refusal.OtherUse found)) status = status ≡ 1
EndsTried (Refused refusal.OtherVolume) status = status ≡ 1
EndsTried (Refused refusal.Reencrypting) status = status ≡ 1
EndsTried (Refused refusal.LongPassphrase) status = status ≡ 1
EndsTried answer status = EndsAny answer status

-- where what is damaged of a header of either version is sought, too
abbrev pub EndsSought : Answer → ℕ → Type 0
EndsSought (Refused (refusal.Rebuild fault)) status = status ≡ 1
EndsSought answer status = EndsTried answer status

-- by whether it is
abbrev pub EndsTriedBy : Bool → Answer → ℕ → Type 0
EndsTriedBy false answer status = EndsTried answer status
EndsTriedBy true answer status = EndsSought answer status

abbrev pub EndsRebuild : {A : Type 0} → Option A → Bool → Answer → ℕ → Type 0
EndsRebuild None thorough answer status = EndsUntried answer status
EndsRebuild (Some file) thorough answer status = EndsTriedBy thorough answer status

-- `backup`
abbrev pub EndsBackup : Answer → ℕ → Type 0
EndsBackup (Done slot) status = (slot ≡ None) × (status ≡ 0)
EndsBackup (Rescued lost) status = status ≡ 1
EndsBackup (Refused (refusal.Backup fault)) status = status ≡ 1
EndsBackup (Refused (refusal.Underway (Metadata fault))) status = status ≡ 1
EndsBackup (Refused refusal.SameFile) status = status ≡ 1
EndsBackup (Refused refusal.Exists) status = status ≡ 1
EndsBackup answer status = EndsAny answer status

-- `restore`
abbrev pub EndsRestore : Answer → ℕ → Type 0
EndsRestore (Done slot) status = (slot ≡ None) × (status ≡ 0)
EndsRestore (Refused (refusal.Restore fault)) status = status ≡ 1
EndsRestore (Refused (refusal.Underway (Metadata fault))) status = status ≡ 1
EndsRestore (Refused (refusal.Underway Progressed)) status = status ≡ 1
EndsRestore (Refused refusal.SameFile) status = status ≡ 1
EndsRestore (Refused (refusal.OtherUse found)) status = status ≡ 1
EndsRestore (Refused refusal.Reencrypting) status = status ≡ 1
EndsRestore answer status = EndsAny answer status

-- `compare`: 0 where the backup has each keyslot of the volume with the same salt, and no other
abbrev pub EndsCompare : Answer → ℕ → Type 0
EndsCompare (Compared comparison) status = ((is_current comparison ≡ true) × (status ≡ 0)) ⊎ ((is_current comparison ≡ false) × (status ≡ 1))
EndsCompare (Refused (refusal.Check fault)) status = status ≡ 1
EndsCompare (Refused (refusal.Restore fault)) status = status ≡ 1
EndsCompare (Refused (refusal.Underway (Metadata fault))) status = status ≡ 1
EndsCompare (Refused (refusal.Underway Progressed)) status = status ≡ 1
EndsCompare (Refused refusal.SameFile) status = status ≡ 1
EndsCompare answer status = EndsAny answer status

-- `key`: a keyslot that was named is the one that doesn't open
abbrev pub EndsKeepKey : Option ℕ → Answer → ℕ → Type 0
EndsKeepKey slot (Done kept) status = (kept ≡ None) × (status ≡ 0)
EndsKeepKey slot (Closed n) status = (slot ≡ Some n) × (status ≡ 1)
EndsKeepKey slot NoneOpens status = (slot ≡ None) × (status ≡ 1)
EndsKeepKey slot (Refused (refusal.Open fault)) status = status ≡ 1
EndsKeepKey slot (Refused (refusal.Underway by_)) status = status ≡ 1
EndsKeepKey slot (Refused refusal.LongPassphrase) status = status ≡ 1
EndsKeepKey slot (Refused refusal.SameFile) status = status ≡ 1
EndsKeepKey slot (Refused refusal.Exists) status = status ≡ 1
EndsKeepKey slot answer status = EndsAny answer status

-- `token export` to a file
abbrev pub EndsKeepToken : Answer → ℕ → Type 0
EndsKeepToken (Done slot) status = (slot ≡ None) × (status ≡ 0)
EndsKeepToken (Refused (refusal.Check fault)) status = status ≡ 1
EndsKeepToken (Refused (refusal.Underway (Metadata fault))) status = status ≡ 1
EndsKeepToken (Refused (refusal.Edit NoSuchToken)) status = status ≡ 1
EndsKeepToken (Refused refusal.SameFile) status = status ≡ 1
EndsKeepToken (Refused refusal.Exists) status = status ≡ 1
EndsKeepToken answer status = EndsAny answer status

-- `find` tells each start by a line of its own: 0 where it told one, 1 where the disk has none
abbrev pub EndsFind : ℕ → Type 0
EndsFind status = (status ≡ 0) ⊎ (status ≡ 1) ⊎ (status ≡ 4)

-- the command answers so, and the program ends with this status then
abbrev pub EndsWith : Command → Answer → ℕ → Type 0
EndsWith (command.Check payload) answer status = EndsCheck answer status
EndsWith (command.Show shown_as) answer status = EndsShow shown_as answer status
EndsWith (command.Open passphrase slot memory older) answer status = EndsOpen slot answer status
EndsWith (command.Match matching) answer status = EndsKey answer status
EndsWith (command.Edit editing) answer status = EndsEdit answer status
EndsWith (command.Format making) answer status = EndsFormat answer status
EndsWith (command.Convert converting) answer status = EndsConvert answer status
EndsWith (command.Rebuild rebuilding) answer status = EndsRebuild rebuilding.passphrase rebuilding.thorough answer status
EndsWith (command.Backup backing_up) answer status = EndsBackup answer status
EndsWith (command.Restore restoring) answer status = EndsRestore answer status
EndsWith (command.Compare comparing) answer status = EndsCompare answer status
EndsWith (command.KeepKey keeping) answer status = EndsKeepKey keeping.slot answer status
EndsWith (command.KeepToken keeping) answer status = EndsKeepToken answer status

-- the status is that of an answer that the command gives
abbrev pub MayEnd : Command → ℕ → Type 0
MayEnd command_ status = (answer : Answer) × EndsWith command_ answer status

-- what the program may end with: 0, 1, 3 or 4 as a command does, or 2 for a command line that can't be read
abbrev pub IsProgramStatus : ℕ → Type 0
IsProgramStatus n = (n ≡ 0) ⊎ (n ≡ 1) ⊎ (n ≡ 2) ⊎ (n ≡ 3) ⊎ (n ≡ 4)

-- where no command runs: 0 where a help or an explanation was printed, 2 where the words are wrong, 4 where memory was refused
abbrev pub IsStatusWithout : ℕ → Type 0
IsStatusWithout n = (n ≡ 0) ⊎ (n ≡ 2) ⊎ (n ≡ 4)

-- `explain` with a name: whether a fault has it
abbrev pub named_status : {F : Type 0} → Option F → ℕ
named_status None = 2
named_status (Some fault) = 0
