use Rattle.luks_argon2.proofs.VariableHashFacts.{variable_hash-long, variable_hash-short}
use Rattle.luks_argon2.proofs.variable_length.variable_hash.Goals as goal

pub returns-then-len-gt64 : goal.returns-then-len-gt64
returns-then-len-gt64 c = variable_hash-long _ _ c.hash_counted.new.out _ c.if-len-gt64.true c.hash_counted.ensures c.fill_long.ensures

pub returns-else-len-gt64 : goal.returns-else-len-gt64
returns-else-len-gt64 c = variable_hash-short _ _ _ c.if-len-gt64.false c.hash_counted-else-len-gt64.ensures
