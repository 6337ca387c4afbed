use Rattle.luks_given.specs.Parts.{volume}
use Rattle.luks_c.proofs.formatting.luks_format2_bytes.Given as goal

abbrev pub ghosts-make2 : goal.ghosts-make2
ghosts-make2 a = record { bytes = volume a.parts.now a.held.now a.total; parts = a.parts.now }
