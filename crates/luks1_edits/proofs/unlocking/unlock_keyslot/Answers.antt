use Rattle.std.proofs.Common.{◌≡◌, IfSome, length, refl, subst, ◌∙◌, arith, rules}
use Rattle.luks_area.specs.declared.area.AreaName.TheVariants.{Slot}
use Rattle.luks_edit.proofs.OpeningFacts.{lock_is}
use Rattle.luks1_edits.proofs.OpenerFacts.{locked_by, never_memory, opened_by, plan_openable, plan_there, slots_in, unmet_unopened, unopened_by}
use Rattle.luks1_edits.proofs.unlocking.unlock_keyslot.Goals as goal

pub give_within-requires : goal.give_within-requires
give_within-requires g c =
    let a = c.args.header.now in
    let used = c.requires.used in
    let ready = plan_openable a.bytes.now a.fields c.args.n _ c.luks1_plan-plan.result c.requires.accepted.fields used c.luks1_plan-plan.ensures.judged in
    let there = plan_there a.bytes.now a.fields c.args.n _ c.luks1_plan-plan.result c.requires.accepted.fields used c.luks1_plan-plan.ensures.is in
    record {
      room = search rules;
      passphrase = λ some. absurd (omega (arith, some));
      iterations = ready.turns;
      digest_iterations = ready.digest_turns;
      digest_length = ready.digest_length;
      some_bytes = ready.some_bytes;
      at_most_128 = ready.at_most_128;
      some_stripes = ready.some_stripes;
      sectors = ready.sectors;
      within = c.requires.accepted.volume.fit.inside (Slot c.args.n) c.luks1_plan-plan.result.area (there.numbered, there.is.start, there.is.len);
    }

pub returns-in-Some-clause-length : goal.returns-in-Some-clause-length
returns-in-Some-clause-length g c =
    let a = c.args.header.now in
    let there = plan_there a.bytes.now a.fields c.args.n _ c.luks1_plan-plan.result c.requires.accepted.fields c.requires.used c.luks1_plan-plan.ensures.is in
    subst (λ o. IfSome o (λ k. length k ≡ c.luks1_plan-plan.result.key_bytes)) c.in-Some.is c.in-Ok.ensures.length ∙ there.is.key_bytes

pub returns-in-Some-clause-opened : goal.returns-in-Some-clause-opened
returns-in-Some-clause-opened g c = λ tells x.
    let v = g.D.Device.bytes c.args.device.now in
    let a = c.args.header.now in
    let there = plan_there a.bytes.now a.fields c.args.n _ c.luks1_plan-plan.result c.requires.accepted.fields c.requires.used c.luks1_plan-plan.ensures.is in
    let used = c.requires.used v (slots_in a.bytes.now a.payload v a.fields.slots x c.requires.accepted.fields.slots) in
    opened_by a.bytes.now a.payload v x c.args.n used c.luks1_plan-plan.result there c.args.secret.now.allowed.older c.args.secret.now refl c.in-Some.key c.in-Ok.found
    c.in-Ok.ensures.accepted (c.in-Ok.ensures.value tells) c.in-Some.is

pub returns-in-None-clause-refused : goal.returns-in-None-clause-refused
returns-in-None-clause-refused g c = λ tells x.
    let v = g.D.Device.bytes c.args.device.now in
    let a = c.args.header.now in
    let there = plan_there a.bytes.now a.fields c.args.n _ c.luks1_plan-plan.result c.requires.accepted.fields c.requires.used c.luks1_plan-plan.ensures.is in
    let used = c.requires.used v (slots_in a.bytes.now a.payload v a.fields.slots x c.requires.accepted.fields.slots) in
    rw c.lock_fault.ensures.is
    (unmet_unopened v c.args.n c.args.secret.now _ (lock_is c.args.secret.now.kind c.luks1_plan-plan.result.key_bytes c.args.secret.now.bytes.now)
    (locked_by a.bytes.now a.payload v x c.args.n used c.luks1_plan-plan.result there c.args.secret.now.allowed.older c.args.secret.now refl c.in-Ok.found
    c.in-Ok.ensures.accepted (c.in-Ok.ensures.value tells) c.in-None.is))

pub returns-in-Err-clause-refused : goal.returns-in-Err-clause-refused
returns-in-Err-clause-refused g c = λ tells x.
    let v = g.D.Device.bytes c.args.device.now in
    let a = c.args.header.now in
    let there = plan_there a.bytes.now a.fields c.args.n _ c.luks1_plan-plan.result c.requires.accepted.fields c.requires.used c.luks1_plan-plan.ensures.is in
    let used = c.requires.used v (slots_in a.bytes.now a.payload v a.fields.slots x c.requires.accepted.fields.slots) in
    rw c.keyslot_fault.ensures
    (unopened_by a.bytes.now a.payload v x c.args.n used c.luks1_plan-plan.result there c.args.secret.now.allowed.older c.args.secret.now refl c.in-Err.fault c.in-Err.ensures.fault)

pub returns-in-Err-clause-memory : goal.returns-in-Err-clause-memory
returns-in-Err-clause-memory g c =
    let a = c.args.header.now in
    let there = plan_there a.bytes.now a.fields c.args.n _ c.luks1_plan-plan.result c.requires.accepted.fields c.requires.used c.luks1_plan-plan.ensures.is in
    rw c.keyslot_fault.ensures (never_memory c.args.secret.now.allowed.older a.bytes.now c.args.n c.luks1_plan-plan.result there c.in-Err.fault c.in-Err.ensures.fault)

pub bounds-header-n : goal.bounds-header-n
bounds-header-n g c = (c.requires.used c.args.header.now.bytes.now c.requires.accepted.fields.slots).0
