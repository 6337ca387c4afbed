use Rattle.std.proofs.Common.{string_bytes}
use Rattle.serde_json.specs.View.{view}
use Rattle.luks_json.proofs.NoZero.{answered, in_text}
use Rattle.luks_json.proofs.compact.compact_text_of.Goals as goal

pub returns-clause-no_zero : goal.returns-clause-no_zero
returns-clause-no_zero c = answered (λ s. string_bytes s) c.to_string.result _ _ c.to_string.ensures.text c.requires.whole (in_text (view c.args.value.now))
