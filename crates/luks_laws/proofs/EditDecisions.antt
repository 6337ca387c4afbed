-- An edit of which each fault is decided has a first refusal, or it is refused by nothing.
use Rattle.std.proofs.Common.{◌≡◌, ◌⊎◌, ℕ, zero, suc, ◌<◌, List, [], ◌∷◌, ◌++◌, length, map, get_or, Bool, true, false, refl, ap, arith, inl, inr}
use Rattle.std.proofs.lemmas.Bool.{true≢false}
use Rattle.luks_area.specs.First.{IsLeast, NotAfter}
use Rattle.luks_rules.specs.Faults.{Among}
use Rattle.luks_rules.specs.declared.fault.MetaFault.{MetaFault}
use Rattle.luks_rules.specs.MetaFault.{meta_key}
use Rattle.luks_slot.specs.declared.fault.SlotFault.TheVariants as slot
use Rattle.luks_reading.specs.declared.check_fault.CheckFault.{CheckFault}
use Rattle.luks_reading.specs.declared.report.Data.{Data}
use Rattle.luks_reading.specs.Checked.{First, IsFault, WellFormed}
use Rattle.luks_edit.specs.declared.edit_fault.EditFault.{EditFault}
use Rattle.luks_edit.specs.declared.edit_fault.EditFault.TheVariants as edit
use Rattle.luks_edit.specs.EditFaults.{edit_key}
use Rattle.luks_laws.proofs.DecidedFacts.{among_left, among_map, among_right, Decided, least_or_none_by_key}
use Rattle.luks_laws.proofs.HeaderDecisions2.{meta_candidates}

-- the faults of an edit of an accepted volume
edit_candidates : List EditFault
edit_candidates =
    edit.Requirements ∷ edit.NoSuchSlot ∷ edit.SameSlot ∷ edit.Locked ∷ edit.KeyLength ∷ edit.WrongKey ∷ edit.SlotTaken ∷ edit.NoFreeSlot ∷ edit.NoRoom ∷ edit.LastSlot ∷ edit.Iterations ∷ edit.Argon2 ∷ edit.BadLabel
    ∷ edit.NoSuchToken ∷ edit.TokenTaken ∷ edit.NoFreeToken ∷ edit.UnreadableToken ∷ edit.BadUuid ∷ edit.SeqExhausted ∷ edit.MetadataFull ∷ edit.RandomLength ∷ edit.Slot slot.Argon2 ∷ edit.Slot slot.Cipher ∷ edit.Slot slot.Hash ∷ edit.Slot slot.KeySize
    ∷ edit.Slot slot.Device ∷ edit.Slot slot.Memory ∷ edit.Memory ∷ edit.Device ∷ []

-- and those of the metadata with a token, by their keys
all_candidates : List EditFault
all_candidates = edit_candidates ++ map edit.BadToken meta_candidates

-- the fault is one of the metadata with a token
abbrev is_token : EditFault → Bool
is_token (edit.BadToken f) = true
is_token f = false

-- what is at a place of a list is of the list
among_at : {F : Type 0} (other : F) (fs : List F) (k : ℕ) → k < length fs → Among (get_or fs k other) fs
among_at other [] k low = absurd (omega (arith, low))
among_at other (f ∷ fs) zero low = inl refl
among_at other (f ∷ fs) (suc k) low = inr (among_at other fs k (omega (arith, low)))

module _ (v : List ℕ) (payload : Data) (faults : EditFault → Type 0) (of_volume : (f : CheckFault) → IsFault v payload f → faults (edit.NotAccepted f))
    (to_volume : (f : CheckFault) → faults (edit.NotAccepted f) → IsFault v payload f)
    (tokens : (f : MetaFault) → faults (edit.BadToken f) → (g : MetaFault) × Among g meta_candidates × faults (edit.BadToken g) × (meta_key g ≡ meta_key f)) where
  -- ---- a volume that isn't accepted

  -- no other fault is before the volume's first
  volume_first : (f : CheckFault) → First v payload f → (g : EditFault) → faults g → NotAfter (edit_key (edit.NotAccepted f)) (edit_key g)
  volume_first f first (edit.NotAccepted g) bad = (omega arith, λ _. first.1 g (to_volume g bad))
  volume_first f first g bad = (omega arith, λ same. absurd (omega (arith, same)))

  -- ---- an accepted volume

  module _ (sound : (f : CheckFault) → IsFault v payload f → ⊥) where
    -- a fault of an edit is of the list
    among_edits : (f : EditFault) → is_token f ≡ false → faults f → Among f edit_candidates
    unfolding edit_candidates
    among_edits (edit.NotAccepted f) plain bad = absurd (sound f (to_volume f bad))
    among_edits edit.Requirements plain bad = among_at edit.Device edit_candidates 0 (omega arith)
    among_edits edit.NoSuchSlot plain bad = among_at edit.Device edit_candidates 1 (omega arith)
    among_edits edit.SameSlot plain bad = among_at edit.Device edit_candidates 2 (omega arith)
    among_edits edit.Locked plain bad = among_at edit.Device edit_candidates 3 (omega arith)
    among_edits edit.KeyLength plain bad = among_at edit.Device edit_candidates 4 (omega arith)
    among_edits edit.WrongKey plain bad = among_at edit.Device edit_candidates 5 (omega arith)
    among_edits edit.SlotTaken plain bad = among_at edit.Device edit_candidates 6 (omega arith)
    among_edits edit.NoFreeSlot plain bad = among_at edit.Device edit_candidates 7 (omega arith)
    among_edits edit.NoRoom plain bad = among_at edit.Device edit_candidates 8 (omega arith)
    among_edits edit.LastSlot plain bad = among_at edit.Device edit_candidates 9 (omega arith)
    among_edits edit.Iterations plain bad = among_at edit.Device edit_candidates 10 (omega arith)
    among_edits edit.Argon2 plain bad = among_at edit.Device edit_candidates 11 (omega arith)
    among_edits edit.BadLabel plain bad = among_at edit.Device edit_candidates 12 (omega arith)
    among_edits edit.NoSuchToken plain bad = among_at edit.Device edit_candidates 13 (omega arith)
    among_edits edit.TokenTaken plain bad = among_at edit.Device edit_candidates 14 (omega arith)
    among_edits edit.NoFreeToken plain bad = among_at edit.Device edit_candidates 15 (omega arith)
    among_edits edit.UnreadableToken plain bad = among_at edit.Device edit_candidates 16 (omega arith)
    among_edits edit.BadUuid plain bad = among_at edit.Device edit_candidates 17 (omega arith)
    among_edits (edit.BadToken f) plain bad = absurd (true≢false plain)
    among_edits edit.SeqExhausted plain bad = among_at edit.Device edit_candidates 18 (omega arith)
    among_edits edit.MetadataFull plain bad = among_at edit.Device edit_candidates 19 (omega arith)
    among_edits edit.RandomLength plain bad = among_at edit.Device edit_candidates 20 (omega arith)
    among_edits (edit.Slot slot.Argon2) plain bad = among_at edit.Device edit_candidates 21 (omega arith)
    among_edits (edit.Slot slot.Cipher) plain bad = among_at edit.Device edit_candidates 22 (omega arith)
    among_edits (edit.Slot slot.Hash) plain bad = among_at edit.Device edit_candidates 23 (omega arith)
    among_edits (edit.Slot slot.KeySize) plain bad = among_at edit.Device edit_candidates 24 (omega arith)
    among_edits (edit.Slot slot.Device) plain bad = among_at edit.Device edit_candidates 25 (omega arith)
    among_edits (edit.Slot slot.Memory) plain bad = among_at edit.Device edit_candidates 26 (omega arith)
    among_edits edit.Memory plain bad = among_at edit.Device edit_candidates 27 (omega arith)
    among_edits edit.Device plain bad = among_at edit.Device edit_candidates 28 (omega arith)

    -- so a candidate stands with the same key
    known_edits : (f : EditFault) → faults f → (g : EditFault) × Among g all_candidates × faults g × (edit_key g ≡ edit_key f)
    unfolding all_candidates
    known_edits (edit.BadToken f) bad =
        let x = tokens f bad in
        (edit.BadToken x.0, among_right (edit.BadToken x.0) edit_candidates _ (among_map edit.BadToken x.0 meta_candidates x.1), x.2, ap (λ k. 20 ∷ k) x.3)
    known_edits f bad = (f, among_left f edit_candidates _ (among_edits f refl bad), bad, refl)

  -- ---- any volume

  -- where the faults of an edit are decided of a well formed volume, there is a first one of any
  -- volume, or none
  pub first_edit_fault_or_none : ((f : CheckFault) × First v payload f) ⊎ WellFormed v payload → (WellFormed v payload → (f : CheckFault) → IsFault v payload f → ⊥)
      → (WellFormed v payload → (f : EditFault) → Decided (faults f)) → ((f : EditFault) × IsLeast edit_key faults f) ⊎ ((f : EditFault) → faults f → ⊥)
  first_edit_fault_or_none (inl first) sound decide = inl (edit.NotAccepted first.0, (of_volume first.0 first.1.0, volume_first first.0 first.1))
  first_edit_fault_or_none (inr formed) sound decide = least_or_none_by_key EditFault edit_key faults (decide formed) all_candidates (known_edits (sound formed))
