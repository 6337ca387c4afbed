use Rattle.luks_given.specs.Parts.{volume}
use Rattle.luks_c.proofs.matching.luks_meets_bytes.Given as goal

abbrev pub ghosts-meets_given : goal.ghosts-meets_given
ghosts-meets_given a = record { bytes = volume a.parts.now a.held.now a.total; parts = a.parts.now }
