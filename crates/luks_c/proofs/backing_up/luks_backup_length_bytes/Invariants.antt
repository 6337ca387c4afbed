use Rattle.luks_given.specs.Parts.{volume}
use Rattle.luks_c.proofs.backing_up.luks_backup_length_bytes.Given as goal

abbrev pub ghosts-length_given : goal.ghosts-length_given
ghosts-length_given a = record { bytes = volume a.parts.now a.held.now a.total; parts = a.parts.now }
