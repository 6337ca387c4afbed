use Rattle.serde_json.specs.View.{view}
use Rattle.luks_wider.proofs.WideAccepting.{accepted_of}
use Rattle.luks_wider.proofs.underway.Underway.segment.Goals as goal

pub segment_in-requires : goal.segment_in-requires
segment_in-requires c = accepted_of c.args.self.now.len (view c.args.self.now.value) c.args.self.now.held
