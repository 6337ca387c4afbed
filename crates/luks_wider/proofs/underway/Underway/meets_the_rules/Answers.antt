use Rattle.serde_json.specs.View.{view}
use Rattle.luks_wider.proofs.UnderWayFaults.{consistent_in}
use Rattle.luks_wider.proofs.WideAccepting.{accepted_of, rules_of}
use Rattle.luks_wider.proofs.underway.Underway.meets_the_rules.Goals as goal

pub returns-clause-rules : goal.returns-clause-rules
returns-clause-rules c = accepted_of c.args.self.now.len (view c.args.self.now.value) c.args.self.now.held

pub returns-clause-consistent : goal.returns-clause-consistent
returns-clause-consistent c =
    consistent_in c.args.self.now.len (view c.args.self.now.value) (rules_of c.args.self.now.len (view c.args.self.now.value) c.args.self.now.held.faultless) c.args.self.now.consistent
