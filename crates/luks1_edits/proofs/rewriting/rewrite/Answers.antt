use Rattle.std.proofs.Common.{arith, ◌∙◌}
use Rattle.luks1_edits.proofs.KeptFacts.{header_inside}
use Rattle.luks1_edits.proofs.RewritingFacts.{nothing_set, unsettable_ends, uuid_done, uuid_torn}
use Rattle.luks1_edits.proofs.rewriting.rewrite.Goals as goal

pub returns-in-Err-clause-replies : goal.returns-in-Err-clause-replies
returns-in-Err-clause-replies g c = λ tells e is x.
    unsettable_ends (g.D.Device.bytes c.args.device.now) c.args.header.now.payload c.args.random.now x.faultless e c.args.rewritten.now is c.in-Err.fault c.in-Err.ensures.judged

pub returns-in-None-clause-replies : goal.returns-in-None-clause-replies
returns-in-None-clause-replies g c = λ tells e is x.
    nothing_set (g.D.Device.bytes c.args.device.now) c.args.header.now.payload c.args.random.now x.faultless e c.args.rewritten.now is c.in-Ok.ensures.judged c.in-None.is

pub uuid_field_after-field-requires-clause-good : goal.uuid_field_after-field-requires-clause-good
uuid_field_after-field-requires-clause-good g c = rw c.in-Some.is at c.in-Ok.ensures.judged.good

pub uuid_field_after-field-requires-clause-counted : goal.uuid_field_after-field-requires-clause-counted
uuid_field_after-field-requires-clause-counted g c = let counted = (rw c.in-Some.is at c.in-Ok.ensures.judged.counted) in omega (arith, counted)

pub write_uuid-requires-clause-within : goal.write_uuid-requires-clause-within
write_uuid-requires-clause-within g c =
    let long = header_inside c.args.header.now.bytes.now c.args.header.now.payload (g.D.Device.size c.args.device.now) c.requires.accepted.volume in
    omega (arith, long)

pub returns-in-Ok-write_uuid-clause-replies : goal.returns-in-Ok-write_uuid-clause-replies
returns-in-Ok-write_uuid-clause-replies g c = λ tells e is x.
    uuid_done (g.D.Device.bytes c.args.device.now) c.args.header.now.payload c.args.random.now x.faultless e c.args.rewritten.now is c.in-Ok.ensures.judged c.in-Some.uuid c.in-Some.is
    (g.D.Device.bytes c.write_uuid.new.device) (record { rest = c.write_uuid.ensures.rest tells; field_is = c.in-Ok-write_uuid.ensures.uuid tells ∙ c.uuid_field_after-field.ensures })

pub returns-in-Err-write_uuid-clause-replies : goal.returns-in-Err-write_uuid-clause-replies
returns-in-Err-write_uuid-clause-replies g c = λ tells e is x.
    uuid_torn (g.D.Device.bytes c.args.device.now) c.args.header.now.payload c.args.random.now x.faultless e c.args.rewritten.now is c.in-Ok.ensures.judged c.in-Some.uuid c.in-Some.is
    (g.D.Device.bytes c.write_uuid.new.device) (c.write_uuid.ensures.rest tells)
