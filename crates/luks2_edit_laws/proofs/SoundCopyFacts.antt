-- A copy of a LUKS2 header that is sound.
use Rattle.std.proofs.Common.{◌≡◌, ◌↔◌, ℕ, List, length, sym}
use Rattle.luks2_header.specs.declared.selection.Copies.{Copies}
use Rattle.luks2_header.specs.Header2.{copy_at, IsSound}
use Rattle.luks2_header.specs.Selection.{luks2, Chosen}
use Rattle.luks2_header.proofs.ChoiceFacts.{chosen_is_sound}
use Rattle.luks2_header.proofs.SoundnessFacts.{sound_by_copy}

-- the copy that counts is sound
pub copy_sound : (v : List ℕ) (o : ℕ) (copies : Copies) → Chosen v (luks2 o copies) → IsSound v o
copy_sound v o copies chosen = chosen_is_sound v o copies chosen.1

-- that a copy is sound depends on its own bytes alone
pub sound_at_copy : (v w : List ℕ) (o : ℕ) → length v ≡ length w → copy_at v o ≡ copy_at w o → IsSound v o ↔ IsSound w o
sound_at_copy v w o long copy = (sound_by_copy v w o long copy, sound_by_copy w v o (sym long) (sym copy))
