use Rattle.luks_given.specs.Parts.{volume}
use Rattle.luks_c.proofs.finding.luks_find_bytes.Given as goal

abbrev pub ghosts-find_given : goal.ghosts-find_given
ghosts-find_given a = record { bytes = volume a.parts.now a.held.now a.total; parts = a.parts.now }
