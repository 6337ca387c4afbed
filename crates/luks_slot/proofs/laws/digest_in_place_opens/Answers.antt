use Rattle.luks_slot.proofs.InPlaceFacts.{distance_is, opens_in_place}
use Rattle.luks_slot.proofs.laws.digest_in_place_opens.Goals as goal

pub returns-clause-distance : goal.returns-clause-distance
returns-clause-distance c = distance_is

pub returns-clause-opens : goal.returns-clause-opens
returns-clause-opens c = opens_in_place
