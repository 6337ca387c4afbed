use Rattle.luks_given.specs.Parts.{volume}
use Rattle.luks_c.proofs.opening.luks_open_bytes.Given as goal

abbrev pub ghosts-open_given : goal.ghosts-open_given
ghosts-open_given a = record { bytes = volume a.parts.now a.held.now a.total; parts = a.parts.now }
