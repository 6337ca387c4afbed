use Rattle.luks_rebuilding.proofs.GivesFacts.{gives_here, gives_there, well_formed}
use Rattle.luks_rebuilding.proofs.laws.rebuilt_header_opens_alike.Goals as goal

pub returns-clause-well_formed : goal.returns-clause-well_formed
returns-clause-well_formed c = well_formed

pub returns-clause-opens : goal.returns-clause-opens
returns-clause-opens c v random old w given source j meta x good fit region allowed n p a =
    (gives_there v random old w given source j meta x good fit region allowed n p a, gives_here v random old w given source j meta x good fit region allowed n p a)
