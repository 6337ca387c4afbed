-- What calls in turn leave of a tally.
use Rattle.std.proofs.Common.{◌∙◌, refl, arith}
use Rattle.luks_trials.specs.Tallies.{Counts}
use Rattle.luks_trials.specs.declared.tally.Tally.{Tally}

pub counts_then : {first mid last : Tally} → Counts first mid → Counts mid last → Counts first last
counts_then before after = record {
  most = after.most ∙ before.most;
  grows = (let one = before.grows in let two = after.grows in omega (arith, one, two));
}

pub counts_same : (tally : Tally) → Counts tally tally
counts_same tally = record { most = refl; grows = omega arith }
