-- What commands answer of a volume in whose metadata something is under way, where that breaks a rule.
use Rattle.std.specs.Prelude.{◌≡◌, ℕ, List}
use Rattle.luks_rules.specs.declared.fault.MetaFault.{MetaFault}
use Rattle.luks_wider.specs.declared.fault.WideFault.{WideFault}
use Rattle.luks_wide_reading.specs.Headers.{IsUnderwayUnread}
use Rattle.luks_commands.specs.declared.answers.Answer.{Answer}
use Rattle.luks_commands.specs.declared.answers.Answer.TheVariants.{Refused}
use Rattle.luks_commands.specs.declared.answers.Refusal.TheVariants as refusal
use Rattle.luks_commands.specs.declared.underway_refusal.UnderwayRefusal.TheVariants.{Metadata}

-- the metadata of the volume `v` is refused by its first fault
abbrev pub IsMetadataRefused : List ℕ → WideFault → Type 0
IsMetadataRefused v f = (narrow_fault : MetaFault) × IsUnderwayUnread v f narrow_fault

-- that fault is the answer
pub record IsRefusedUnderway (tells : Type 0) (v : List ℕ) (a : Answer) : Type 0 where
  pub fault : WideFault
  pub is : a ≡ Refused (refusal.Underway (Metadata fault))
  pub first : tells → IsMetadataRefused v fault
