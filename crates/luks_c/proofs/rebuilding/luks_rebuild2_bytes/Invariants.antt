use Rattle.luks_given.specs.Parts.{volume}
use Rattle.luks_c.proofs.rebuilding.luks_rebuild2_bytes.Given as goal

abbrev pub ghosts-rebuild_given-S-Given : goal.ghosts-rebuild_given-S-Given
ghosts-rebuild_given-S-Given a = record { bytes = volume a.source_parts.now a.source.now a.source_total; parts = a.source_parts.now }

abbrev pub ghosts-rebuild_given-K-Given : goal.ghosts-rebuild_given-K-Given
ghosts-rebuild_given-K-Given a = record { bytes = volume a.parts.now a.held.now a.total; parts = a.parts.now }
