use Rattle.luks_making.proofs.AdditionFacts.{held_with, slot_gained}
use Rattle.luks_making.proofs.RoomFacts.{says_members}
use Rattle.luks_making.proofs.laws.addition_keeps_the_rest.Goals as goal

pub returns-clause-held : goal.returns-clause-held
returns-clause-held c = held_with

pub returns-clause-rest : goal.returns-clause-rest
returns-clause-rest c = λ len n m s j d held room. slot_gained len n m s j d held.content room

pub returns-clause-says : goal.returns-clause-says
returns-clause-says c = says_members
