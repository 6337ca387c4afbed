-- The digest is that of the header, all else the keyslot's.
use Rattle.std.proofs.Common.{rules, arith}
use Rattle.luks_reading.proofs.plan.luks1_plan.Goals as goal

pub returns-clause-is : goal.returns-clause-is
returns-clause-is c = λ h e common entry. record {
  derivation = search rules;
  cipher = search rules;
  start = search rules;
  len = search rules;
  area_key_bytes = search rules;
  key_bytes = search rules;
  stripes = search rules;
  splitter_hash = search rules;
  digest = c.luks1_digest.ensures.is h common;
}

pub returns-clause-judged : goal.returns-clause-judged
returns-clause-judged c = λ h e common entry enabled. record {
  turns = search rules;
  digest_turns = c.luks1_digest.ensures.turns h common;
  digest_length = let long = c.luks1_digest.ensures.length in omega (arith, long);
  some_bytes = search rules;
  at_most_128 = search rules;
  some_stripes = search rules;
  sectors = search rules;
}
