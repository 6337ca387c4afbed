use Rattle.luks_given.specs.Parts.{volume}
use Rattle.luks_c.proofs.checking.luks_check_bytes.Given as goal

abbrev pub ghosts-check_given : goal.ghosts-check_given
ghosts-check_given a = record { bytes = volume a.parts.now a.held.now a.total; parts = a.parts.now }
