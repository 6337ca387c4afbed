use Rattle.std.proofs.Common.{IfOk, subst}
use Rattle.luks_trials.specs.Metadata.{IsMetaOf}
use Rattle.luks2_searching.proofs.bits.turned_meta.Goals as goal

pub returns-clause-meta : goal.returns-clause-meta
returns-clause-meta c = subst (λ j. IfOk c.meta_of-meta.result (IsMetaOf j)) c.turn.ensures c.meta_of-meta.ensures.meta
