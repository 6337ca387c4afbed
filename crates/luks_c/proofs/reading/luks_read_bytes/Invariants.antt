use Rattle.luks_given.specs.Parts.{volume}
use Rattle.luks_c.proofs.reading.luks_read_bytes.Given as goal

abbrev pub ghosts-read_given : goal.ghosts-read_given
ghosts-read_given a = record { bytes = volume a.parts.now a.held.now a.total; parts = a.parts.now }
