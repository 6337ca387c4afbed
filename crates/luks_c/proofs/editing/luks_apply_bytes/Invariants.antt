use Rattle.luks_given.specs.Parts.{volume}
use Rattle.luks_c.proofs.editing.luks_apply_bytes.Given as goal

abbrev pub ghosts-apply_given : goal.ghosts-apply_given
ghosts-apply_given a = record { bytes = volume a.parts.now a.held.now a.total; parts = a.parts.now }

abbrev pub ghosts-add_token : goal.ghosts-add_token
ghosts-add_token a = record { bytes = volume a.parts.now a.held.now a.total; parts = a.parts.now }
