use Rattle.luks_given.specs.Parts.{volume}
use Rattle.luks_c.proofs.formatting.luks_format1_bytes.Given as goal

abbrev pub ghosts-make1 : goal.ghosts-make1
ghosts-make1 a = record { bytes = volume a.parts.now a.held.now a.total; parts = a.parts.now }
