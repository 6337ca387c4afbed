use Rattle.std.proofs.Common.{rules}
use Rattle.luks_kdf.specs.Names.{digest_size_of}
use Rattle.luks_formatting.specs.NewHeader2.{area2}
use Rattle.luks_formatting.specs.NewPlan.{key_digest}
use Rattle.luks_formatting.specs.RandomBytes.{digest_salt, slot_place2, slot_salt}
use Rattle.luks_formatting.specs.Volume2.{HasPlan}
use Rattle.luks_formatting.proofs.EncryptingFacts.{opens2}
use Rattle.luks_formatting.proofs.MetadataFacts.{length-slot_salt}
use Rattle.luks_formatting.proofs.NewPlanFacts.{sealable_chosen, sealable_here}
use Rattle.luks_formatting.proofs.volume2.slot_plan.Goals as goal

pub returns-clause-sealable : goal.returns-clause-sealable
returns-clause-sealable c = λ allowed older can.
    let given = c.args.given.now in
    let k = given.key_bytes in
    let format = c.args.format.now in
    let random = c.args.random.now in
    let plan : HasPlan given format c.args.chosen random c.new_plan_by.result = search rules in
    sealable_chosen format c.args.chosen given.cipher k (slot_salt (slot_place2 k) random) (area2 k) (digest_salt k random) (key_digest given format random (digest_size_of format.hash)) c.new_plan_by.result
    plan.is (opens2 given.cipher c.new_plan_by.result.cipher plan.cipher) c.requires.takes allowed older c.requires.iterations (length-slot_salt k random c.requires.long) can

pub returns-clause-here : goal.returns-clause-here
returns-clause-here c = λ memory can none.
    let given = c.args.given.now in
    let k = given.key_bytes in
    let format = c.args.format.now in
    let random = c.args.random.now in
    let plan : HasPlan given format c.args.chosen random c.new_plan_by.result = search rules in
    sealable_here format c.args.chosen given.cipher k (slot_salt (slot_place2 k) random) (area2 k) (digest_salt k random) (key_digest given format random (digest_size_of format.hash)) c.new_plan_by.result
    plan.is (opens2 given.cipher c.new_plan_by.result.cipher plan.cipher) c.requires.takes memory c.requires.iterations (length-slot_salt k random c.requires.long) can none
