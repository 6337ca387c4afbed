use Rattle.luks_given.specs.Parts.{volume}
use Rattle.luks_c.proofs.converting.luks_convert_bytes.Given as goal

abbrev pub ghosts-convert_given-S-Given : goal.ghosts-convert_given-S-Given
ghosts-convert_given-S-Given a = record { bytes = volume a.source_parts.now a.source.now a.source_total; parts = a.source_parts.now }

abbrev pub ghosts-convert_given-K-Given : goal.ghosts-convert_given-K-Given
ghosts-convert_given-K-Given a = record { bytes = volume a.parts.now a.held.now a.total; parts = a.parts.now }
