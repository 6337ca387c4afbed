use Rattle.std.proofs.Common.{◌≤◌, ℕ, sym, subst}
use Rattle.luks2_header.proofs.SoundnessFacts.{same_size, sound_by_copy, sound_by_range}
use Rattle.luks2_header.proofs.laws.soundness_is_local.Goals as goal

pub returns-clause-copy : goal.returns-clause-copy
returns-clause-copy c = λ v w o long copy. (sound_by_copy v w o long copy, sound_by_copy w v o (sym long) (sym copy))

pub returns-clause-range : goal.returns-clause-range
returns-clause-range c = λ v w o n long room within same. (
  sound_by_range v w o n long room within same,
  sound_by_range w v o n (sym long) room (let most : ℕ → Type 0 = λ m. m ≤ n in subst most (same_size v w o n room same) within) (sym same),
)
