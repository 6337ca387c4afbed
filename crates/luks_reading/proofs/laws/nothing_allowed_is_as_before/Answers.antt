use Rattle.luks_reading.specs.Plans.{HasLuks1Plan, HasLuks2Plan}
use Rattle.luks_reading.proofs.AllowedMemory.{as_before, by_argon2, nothing_taken, opens_as_before}
use Rattle.luks_reading.proofs.laws.nothing_allowed_is_as_before.Goals as goal

pub returns-clause-refusal1 : goal.returns-clause-refusal1
returns-clause-refusal1 c = λ h n. as_before (HasLuks1Plan h n)

pub returns-clause-refusal2 : goal.returns-clause-refusal2
returns-clause-refusal2 c = λ json n. as_before (HasLuks2Plan json n)

pub returns-clause-argon2 : goal.returns-clause-argon2
returns-clause-argon2 c = by_argon2

pub returns-clause-opens : goal.returns-clause-opens
returns-clause-opens c = opens_as_before

pub returns-clause-memory : goal.returns-clause-memory
returns-clause-memory c = nothing_taken
