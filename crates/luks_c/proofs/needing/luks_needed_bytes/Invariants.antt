use Rattle.luks_given.specs.Parts.{volume}
use Rattle.luks_c.proofs.needing.luks_needed_bytes.Given as goal

abbrev pub ghosts-need_given : goal.ghosts-need_given
ghosts-need_given a = record { bytes = volume a.parts.now a.held.now a.total; parts = a.parts.now }

abbrev pub ghosts-need_token : goal.ghosts-need_token
ghosts-need_token a = record { bytes = volume a.parts.now a.held.now a.total; parts = a.parts.now }
