use Rattle.std.proofs.lemmas.Bool.{false≢true}
use Rattle.serde_json.specs.View.{view}
use Rattle.luks_underway.specs.Slots.{plain, reencrypt}
use Rattle.luks_underway.proofs.Typed.{not_reencrypt}
use Rattle.luks_underway.proofs.slots.read_wide_keyslot.Goals as goal

pub returns-in_err-read_reencryption-clause-there : goal.returns-in_err-read_reencryption-clause-there
returns-in_err-read_reencryption-clause-there c = λ is. elim is [
  | plain read ↦ absurd (not_reencrypt (view c.args.object.now) c.if-has_type.ensures read)
  | reencrypt r ↦ absurd (false≢true (c.in_err-read_reencryption.ensures.there r))
]
