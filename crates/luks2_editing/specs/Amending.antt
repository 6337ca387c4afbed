-- The new metadata of an edit of a LUKS2 volume that changes it in named members: words of private contracts.
use Rattle.std.specs.Prelude.{◌≡◌, ℕ, ◌<◌, Option, Some, None, ⊤}
use Rattle.serde_json.specs.Data.{Data as Value}
use Rattle.serde_json.specs.View.{view}
use Rattle.luks_area.specs.First.{IsLeast}
use Rattle.luks_rules.specs.declared.fault.MetaFault.{MetaFault}
use Rattle.luks_rules.specs.declared.fault.MetaFault.TheVariants as unread
use Rattle.luks_rules.specs.MetaFault.{meta_key}
use Rattle.luks_rules.specs.Valued.{IsValueFault}
use Rattle.luks_making.specs.Amended.{with_priority, with_token, without_token}
use Rattle.luks_edit.specs.declared.edit_fault.EditFault.{EditFault}
use Rattle.luks_edit.specs.declared.edit_fault.EditFault.TheVariants as fault
use Rattle.luks2_judging.specs.declared.judged.JudgedChange.{JudgedChange}
use Rattle.luks2_judging.specs.declared.judged.JudgedChange.TheVariants as judged

-- the number of the keyslot or of the token is one
abbrev pub IsNumbered : JudgedChange → Type 0
IsNumbered (judged.Priority slot priority) = slot < 32
IsNumbered (judged.AddToken number token) = number < 32
IsNumbered (judged.RemoveToken number) = number < 32

-- `k` is the metadata `j` with the change, if there is one
abbrev pub IsChangedBy : Option JudgedChange → Value → Value → Type 0
IsChangedBy None j k = k ≡ j
IsChangedBy (Some (judged.Priority slot priority)) j k = k ≡ with_priority slot priority j
IsChangedBy (Some (judged.AddToken number token)) j k = k ≡ with_token number (view token.now) j
IsChangedBy (Some (judged.RemoveToken number)) j k = k ≡ without_token number j

-- the metadata with the change has the fault, in a JSON area of `len` bytes: by a new token alone
abbrev pub HasMadeFault : ℕ → Value → Option JudgedChange → MetaFault → Type 0
HasMadeFault len j (Some (judged.AddToken number token)) f = IsValueFault len (with_token number (view token.now) j) f
HasMadeFault len j c f = ⊥

-- why nothing is made that would have these faults
abbrev pub IsFaultOf : (MetaFault → Type 0) → EditFault → Type 0
IsFaultOf faults (fault.BadToken f) = IsLeast meta_key faults f
IsFaultOf faults fault.Memory = ⊤
IsFaultOf faults f = ⊥

abbrev pub IsUnmade : ℕ → Value → Option JudgedChange → EditFault → Type 0
IsUnmade len j c = IsFaultOf (HasMadeFault len j c)

-- the fault of the metadata with a token as that of an edit
abbrev pub token_fault : MetaFault → EditFault
token_fault unread.Memory = fault.Memory
token_fault f = fault.BadToken f
