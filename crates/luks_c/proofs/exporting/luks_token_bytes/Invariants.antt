use Rattle.luks_given.specs.Parts.{volume}
use Rattle.luks_c.proofs.exporting.luks_token_bytes.Given as goal

abbrev pub ghosts-export_given : goal.ghosts-export_given
ghosts-export_given a = record { bytes = volume a.parts.now a.held.now a.total; parts = a.parts.now }
