use Rattle.luks_given.specs.Parts.{volume}
use Rattle.luks_c.proofs.comparing.luks_compare_bytes.Given as goal

abbrev pub ghosts-compare_given-S-Given : goal.ghosts-compare_given-S-Given
ghosts-compare_given-S-Given a = record { bytes = volume a.backup_parts.now a.backup.now a.backup_total; parts = a.backup_parts.now }

abbrev pub ghosts-compare_given-K-Given : goal.ghosts-compare_given-K-Given
ghosts-compare_given-K-Given a = record { bytes = volume a.parts.now a.held.now a.total; parts = a.parts.now }
