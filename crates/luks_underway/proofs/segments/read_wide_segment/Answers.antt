use Rattle.std.proofs.Common.{sym}
use Rattle.serde_json.specs.View.{view}
use Rattle.luks_underway.specs.Segments.{plain, opal}
use Rattle.luks_underway.proofs.Typed.{not_opal}
use Rattle.luks_underway.proofs.segments.read_wide_segment.Goals as goal

pub returns-then-is_opal-clause-there : goal.returns-then-is_opal-clause-there
returns-then-is_opal-clause-there c = λ is. elim is.rest [
  | plain read ↦ absurd (not_opal (view c.args.object.now) (sym c.if-is_opal.ensures) read)
  | opal place kind ↦ c.read_opal_segment.ensures.there place kind
]
