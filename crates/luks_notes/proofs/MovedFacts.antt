-- Two parts of a volume that were read of it.
use Rattle.std.proofs.Common.{◌≡◌, ◌↔◌, ℕ, ◌≤◌, List, Bool, IsTrue, length, subst, sym}
use Rattle.luks_area.specs.Ranges.{part}
use Rattle.luks_notes.specs.MovedAreas.{AreOfOneArea, HasMovedAreas}

-- what is told of what was read, is told of the volume
pub moved_of : (v old new : List ℕ) (is : Bool) → 33280 ≤ length v → old ≡ part v 4096 512 → new ≡ part v 32768 512
    → (IsTrue is ↔ AreOfOneArea old new) → (IsTrue is ↔ HasMovedAreas v)
moved_of v old new is long first second told = (
  λ yes. (long, subst (λ (n : List ℕ). AreOfOneArea (part v 4096 512) n) second (subst (λ (o : List ℕ). AreOfOneArea o new) first (told.0 yes))),
  λ moved. told.1 (subst (λ (n : List ℕ). AreOfOneArea old n) (sym second) (subst (λ (o : List ℕ). AreOfOneArea o (part v 32768 512)) (sym first) moved.1)),
)
