use Rattle.luks_argon2.proofs.tag.run.Goals as goal

pub returns : goal.returns
returns c = c.last_xored.ensures _ (c.fill.ensures _ c.start_lanes.ensures)
