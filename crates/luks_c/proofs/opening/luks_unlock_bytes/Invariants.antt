use Rattle.luks_given.specs.Parts.{volume}
use Rattle.luks_c.proofs.opening.luks_unlock_bytes.Given as goal

abbrev pub ghosts-unlock_given : goal.ghosts-unlock_given
ghosts-unlock_given a = record { bytes = volume a.parts.now a.held.now a.total; parts = a.parts.now }
