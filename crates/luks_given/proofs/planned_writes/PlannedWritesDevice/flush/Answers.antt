use Rattle.std.proofs.lemmas.Result.{on_ok_weaker}
use Rattle.luks_area.specs.Device.{no_place}
use Rattle.luks_given.proofs.PlannedFacts.{either-way, flushed-same, flushed-settled, flushed-touches, unplanned-touches}
use Rattle.luks_given.proofs.planned_writes.PlannedWritesDevice.flush.Goals as goal

pub returns-clause-same : goal.returns-clause-same
returns-clause-same g c = λ t. on_ok_weaker c.plan.result (flushed-same c.args.self.now c.plan.new.self) c.plan.ensures.more

pub returns-clause-settled : goal.returns-clause-settled
returns-clause-settled g c = λ t. on_ok_weaker c.plan.result (flushed-settled c.args.self.now c.plan.new.self) c.plan.ensures.more

pub returns-clause-touches : goal.returns-clause-touches
returns-clause-touches g c = λ t.
    either-way c.plan.result c.plan.ensures.more c.plan.ensures.same
    (flushed-touches no_place c.args.self.now c.plan.new.self) (unplanned-touches no_place c.args.self.now c.plan.new.self)
