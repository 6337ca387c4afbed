use Rattle.luks_making.proofs.RoomFacts.{gained_added, held_added, room}
use Rattle.luks_making.proofs.laws.made_keyslot_has_room.Goals as goal

pub returns-clause-room : goal.returns-clause-room
returns-clause-room c = λ len to by f old new held unique free can types a. room len to by f old new held.content unique free can types a

pub returns-clause-held : goal.returns-clause-held
returns-clause-held c = held_added

pub returns-clause-rest : goal.returns-clause-rest
returns-clause-rest c = gained_added
