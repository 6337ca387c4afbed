use Rattle.std.proofs.Common.{◌+◌, ◌≤◌, length, arith}
use Rattle.std.proofs.lemmas.Bool.{false≢true}
use Rattle.luks_finding.proofs.BlockFacts.{part-inside}
use Rattle.luks_finding.proofs.signs.begins_fields.Goals as goal

pub returns-then-block-at-lt-FIELDS : goal.returns-then-block-at-lt-FIELDS
returns-then-block-at-lt-FIELDS c = (
  λ f. absurd (false≢true f),
  λ fields.
      let inside : c.args.at + 112 ≤ length c.args.block.now = part-inside c.args.block.now c.args.at 112 (omega arith) fields.long in
      absurd (omega (arith, inside)),
)
