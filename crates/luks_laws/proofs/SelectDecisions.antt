-- A volume of which nothing counts has a first fault, which refuses each of its keyslots.
use Rattle.std.proofs.Common.{◌≡◌, ℕ, List, [], ◌∷◌, length, map, refl, inl, inr}
use Rattle.std.proofs.lemmas.Bool.{cases_eq}
use Rattle.luks_area.specs.Ranges.{part}
use Rattle.luks1_header.specs.declared.fault.HeadFault.{HeadFault}
use Rattle.luks1_header.specs.declared.fault.HeadFault.TheVariants as head
use Rattle.luks1_header.specs.Header1.{HasMagic, luks1_size, luks_magic, version_of}
use Rattle.luks2_header.specs.Selection.{Chosen, IsSelectFault, nothing}
use Rattle.luks_rules.specs.Faults.{Among}
use Rattle.luks_reading.specs.declared.check_fault.CheckFault.{CheckFault}
use Rattle.luks_reading.specs.declared.check_fault.CheckFault.TheVariants as check
use Rattle.luks_reading.specs.declared.open_fault.OpenFault.{OpenFault}
use Rattle.luks_reading.specs.declared.open_fault.OpenFault.TheVariants as opening
use Rattle.luks_reading.specs.Answer.{IsSelectRefusal, open_key}
use Rattle.luks_reading.specs.Checked.{check_key, IsOtherFault}
use Rattle.luks_laws.proofs.DecidedFacts.{among_map, both_decided, Decided, LeastOrNone, least_or_none, less_decided, not_decided, same_list_decided}

-- the faults that may stand
select_faults : List HeadFault
select_faults = head.TooShort ∷ head.NotLuks ∷ head.Version ∷ head.NoSoundCopy ∷ []

-- no other fault is one of a volume of which nothing counts
among_selects : (v : List ℕ) (f : HeadFault) → IsSelectFault v f → Among f select_faults
unfolding select_faults
among_selects v head.TooShort bad = inl refl
among_selects v head.NotLuks bad = inr (inl refl)
among_selects v head.Version bad = inr (inr (inl refl))
among_selects v head.NoSoundCopy bad = inr (inr (inr (inl refl)))
among_selects v f bad = absurd bad

module _ (v : List ℕ) (chosen : Chosen v nothing) where
  -- each of them stands or not
  select_fault_decided : (f : HeadFault) → Decided (IsSelectFault v f)
  select_fault_decided head.TooShort = less_decided (length v) luks1_size
  select_fault_decided head.NotLuks = both_decided _ _ (inl chosen) (not_decided (HasMagic v) (same_list_decided (part v 0 6) luks_magic))
  select_fault_decided head.Version = both_decided _ _ (inl chosen) (not_decided (version_of v ≡ 2) (cases_eq (version_of v) 2))
  select_fault_decided head.NoSoundCopy = inl chosen
  select_fault_decided f = inr (λ bad. bad)

  -- ---- of the volume

  -- a fault of the volume is one of the selection, and so it stands or not
  other_fault_decided : (f : CheckFault) → Decided (IsOtherFault v f)
  other_fault_decided (check.Head f) = select_fault_decided f
  other_fault_decided f = inr (λ bad. bad)

  -- those of the volume that may stand
  among_checks : (f : CheckFault) → IsOtherFault v f → Among f (map check.Head select_faults)
  among_checks (check.Head f) bad = among_map check.Head f select_faults (among_selects v f bad)
  among_checks f bad = absurd bad

  -- the volume has a first fault or none
  pub other_least_or_none : LeastOrNone CheckFault check_key (IsOtherFault v)
  other_least_or_none = least_or_none CheckFault check_key (IsOtherFault v) other_fault_decided (map check.Head select_faults) among_checks

  -- ---- of a keyslot

  -- a refusal of a keyslot is one of the selection, and so it stands or not
  refusal_decided : (f : OpenFault) → Decided (IsSelectRefusal v f)
  refusal_decided (opening.Head f) = select_fault_decided f
  refusal_decided f = inr (λ bad. bad)

  -- those of a keyslot that may stand
  among_opens : (f : OpenFault) → IsSelectRefusal v f → Among f (map opening.Head select_faults)
  among_opens (opening.Head f) bad = among_map opening.Head f select_faults (among_selects v f bad)
  among_opens f bad = absurd bad

  -- a keyslot has a first refusal or none
  pub select_refusal_or_none : LeastOrNone OpenFault open_key (IsSelectRefusal v)
  select_refusal_or_none = least_or_none OpenFault open_key (IsSelectRefusal v) refusal_decided (map opening.Head select_faults) among_opens
