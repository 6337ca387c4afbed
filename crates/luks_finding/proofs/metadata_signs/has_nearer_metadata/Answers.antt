use Rattle.std.proofs.Common.{ℕ, ◌*◌, List, arith}
use Rattle.std.proofs.lemmas.Bool.{false≢true}
use Rattle.luks2_header.proofs.SecondCopyFacts.{none_left}
use Rattle.luks_finding.proofs.SizeFacts.{nearer-of}
use Rattle.luks_finding.proofs.metadata_signs.has_nearer_metadata.Goals as goal

pub returns-clause-has : goal.returns-clause-has
returns-clause-has g c = λ t. (
  λ f. absurd (false≢true f),
  λ has.
      let v : List ℕ = g.D.Device.bytes c.args.device.now in
      absurd (none_left c.loop-left.left.now has.copy.size (omega arith)
      (c.loop-left.invariant.left t has.copy.size has.has.whole.is_place.listed (nearer-of v (512 * c.args.sector) c.args.size has))),
)
