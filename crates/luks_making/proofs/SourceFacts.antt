-- The keyslots of a source in the array that has them, for the proofs of every crate that is on
-- this one.
use Rattle.std.proofs.Common.{◌≡◌, ℕ, zero, suc, List, [], ◌∷◌, get_or, Option, None, Some, option_and_then, option_map, refl, ap}
use Rattle.std.specs.Prelude.{slice_get}
use Rattle.luks_making.specs.declared.source_volume.SourceSlot.{SourceSlot}
use Rattle.luks_making.specs.declared.source_volume.SourceVolume.{SourceVolume}
use Rattle.luks_making.specs.Converted.{source_members, source_slot_members}

found_by : (slots : List (Option SourceSlot)) (n : ℕ) (s : SourceSlot) → get_or slots n None ≡ Some s → slice_get slots n ≡ Some (Some s)
found_by [] n s e = absurd (cc)
found_by (x ∷ xs) zero s e = ap Some e
found_by (x ∷ xs) (suc n) s e = found_by xs n s e

none_by : (slots : List (Option SourceSlot)) (n : ℕ) → get_or slots n None ≡ None → option_and_then (option_map source_slot_members) (slice_get slots n) ≡ None
none_by [] n e = refl
none_by (x ∷ xs) zero e = ap (option_map source_slot_members) e
none_by (x ∷ xs) (suc n) e = none_by xs n e

-- an enabled one
pub slot_found : (v : SourceVolume) (n : ℕ) (s : SourceSlot) → get_or v.slots n None ≡ Some s → (source_members v).slot n ≡ Some (source_slot_members s)
slot_found v n s e = ap (option_and_then (option_map source_slot_members)) (found_by v.slots n s e)

-- and one that isn't
pub slot_missing : (v : SourceVolume) (n : ℕ) → get_or v.slots n None ≡ None → (source_members v).slot n ≡ None
slot_missing v n e = none_by v.slots n e
