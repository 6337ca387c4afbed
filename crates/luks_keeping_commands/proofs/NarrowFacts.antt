-- If `check` accepts a volume, or refuses it otherwise than by its metadata, nothing is under way.
use Rattle.std.proofs.Common.{◌≡◌, ℕ, List, refl, subst, arith}
use Rattle.luks1_header.specs.declared.fault.HeadFault.{HeadFault}
use Rattle.luks2_header.proofs.ChoiceFacts.{choices_agree}
use Rattle.luks2_header.specs.Selection.{Choice, luks1, luks2, nothing, Chosen}
use Rattle.luks_rules.proofs.Deciding.{metadata_faultless}
use Rattle.luks_rules.specs.declared.fault.MetaFault.{MetaFault}
use Rattle.luks_rules.specs.MetaFault.{IsMetaFault}
use Rattle.luks_reading.proofs.Luks2FaultFacts.{to_luks2_fault}
use Rattle.luks_reading.specs.Checked.{First, IsFault, IsFaultAs, WellFormed}
use Rattle.luks_reading.specs.Header.{json_at}
use Rattle.luks_reading.specs.declared.check_fault.CheckFault.{CheckFault}
use Rattle.luks_reading.specs.declared.check_fault.CheckFault.TheVariants as check
use Rattle.luks_reading.specs.declared.report.Data.{Data}
use Rattle.luks_reading.proofs.VolumeLaws.{well_formed_faultless}
use Rattle.luks_wider.proofs.WiderFacts.{none_of_accepted}
use Rattle.luks_wide_reading.specs.Headers.{IsUnderWayVolume}

-- no fault of the metadata stands
pub no_meta_fault : (v : List ℕ) (payload : Data) → ((g : MetaFault) → IsFault v payload (check.Meta g) → ⊥) → IsUnderWayVolume v → ⊥
no_meta_fault v payload none u =
    let accepted = (metadata_faultless (json_at v u.place)).0
    (λ g bad. none g (record { choice = luks2 u.place u.copies; chosen = u.chosen; fault = to_luks2_fault (json_at v u.place) payload g bad })) in
    none_of_accepted (json_at v u.place) accepted.0 accepted.1 u.is

-- one of the selection or the uuid does
pub head_fault : (v : List ℕ) (payload : Data) (f : HeadFault) → IsFault v payload (check.Head f) → IsUnderWayVolume v → ⊥
head_fault v payload f x u =
    u.uuid f (subst (λ (c : Choice). IsFaultAs v payload c (check.Head f)) (choices_agree v x.choice (luks2 u.place u.copies) x.chosen u.chosen) x.fault)

own_as : (v : List ℕ) (payload : Data) (c : Choice) (f : CheckFault) → IsFaultAs v payload c f → (f ≡ check.Device → ⊥) × (f ≡ check.Memory → ⊥)
own_as v payload luks1 f x = (λ e. subst (IsFaultAs v payload luks1) e x, λ e. subst (IsFaultAs v payload luks1) e x)
own_as v payload (luks2 o copies) f x = (λ e. subst (IsFaultAs v payload (luks2 o copies)) e x, λ e. subst (IsFaultAs v payload (luks2 o copies)) e x)
own_as v payload nothing f x = (λ e. subst (IsFaultAs v payload nothing) e x, λ e. subst (IsFaultAs v payload nothing) e x)

-- the first fault is another than one of the metadata
pub first_other : (v : List ℕ) (payload : Data) (f : CheckFault) → First v payload f → ((g : MetaFault) → f ≡ check.Meta g → ⊥) → IsUnderWayVolume v → ⊥
first_other v payload (check.Head f) x other u = head_fault v payload f x.0 u
first_other v payload (check.Meta f) x other u = other f refl
first_other v payload (check.Area f) x other u =
    no_meta_fault v payload (λ g bad. (let later = (x.1 (check.Meta g) bad).0 in omega (arith, later))) u
first_other v payload check.Device x other u = (own_as v payload x.0.choice check.Device x.0.fault).0 refl
first_other v payload check.Memory x other u = (own_as v payload x.0.choice check.Memory x.0.fault).1 refl

-- the volume is well formed
pub formed_other : (v : List ℕ) (payload : Data) → WellFormed v payload → IsUnderWayVolume v → ⊥
formed_other v payload well u = no_meta_fault v payload (λ g bad. well_formed_faultless v payload well (check.Meta g) bad) u
