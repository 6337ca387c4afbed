use Rattle.std.proofs.Common.{◌∙◌, sym}
use Rattle.luks_reading.proofs.OpenedKeys.{digest_known}
use Rattle.luks_edit.proofs.giving.own_key.Goals as goal

pub own_key_of-requires-clause-known : goal.own_key_of-requires-clause-known
own_key_of-requires-clause-known c = digest_known c.args.allowed c.args.plan.now (sym c.refusal_within.ensures ∙ c.in-None.is)
