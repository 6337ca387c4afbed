use Rattle.luks_aes.proofs.aes.AesKey.expanded.Goals as goal

pub invariant_of-result : goal.invariant_of-result
invariant_of-result c = c.expand_key.ensures.expanded

pub returns : goal.returns
returns c = c.expand_key.ensures.key
