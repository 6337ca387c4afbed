use Rattle.luks_keeping_commands.proofs.restore.run.Goals as goal

pub returns-in-Ok-target-clause-rest : goal.returns-in-Ok-target-clause-rest
returns-in-Ok-target-clause-rest g c = rw c.in-Ok.is (rw c.in-Ok-target.is (record { size = c.put_unless.ensures.size; said = c.put_unless.ensures.rest }))
