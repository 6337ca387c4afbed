use Rattle.std.proofs.Common.{◌≡◌, IfSome, length, subst, ◌∙◌}
use Rattle.luks_slot.specs.Allowance.{without_memory}
use Rattle.luks_slot.proofs.DerivationFacts.{refusal_answered}
use Rattle.luks1_edits.proofs.OpenerFacts.{key_locked, key_opened, key_refused, key_telling, key_there, key_uncounted, never_memory}
use Rattle.luks1_edits.proofs.unlocking.own_volume_key.Goals as goal

pub own_key-requires : goal.own_key-requires
own_key-requires c =
    let a = c.args.header.now in
    let told = key_telling a.bytes.now a.fields _ c.luks1_plan-plan.result c.requires c.luks1_plan-plan.ensures.is in
    record { digest_iterations = told.digest_turns; digest_length = told.digest_length; some_bytes = told.some_bytes; at_most_128 = told.at_most_128 }

pub returns-in-Some-clause-length : goal.returns-in-Some-clause-length
returns-in-Some-clause-length c =
    let a = c.args.header.now in
    let there = key_there a.bytes.now a.fields _ c.luks1_plan-plan.result c.requires c.luks1_plan-plan.ensures.is in
    subst (λ o. IfSome o (λ k. length k ≡ c.luks1_plan-plan.result.key_bytes)) c.in-Some.is c.in-Ok.ensures.length ∙ there.is.key_bytes

pub returns-in-Some-clause-opened : goal.returns-in-Some-clause-opened
returns-in-Some-clause-opened c = λ v x.
    let a = c.args.header.now in
    let there = key_there a.bytes.now a.fields _ c.luks1_plan-plan.result c.requires c.luks1_plan-plan.ensures.is in
    key_opened a.bytes.now a.payload v x 0 c.luks1_plan-plan.result there c.args.key.now c.in-Some.own c.in-Ok.found c.in-Ok.ensures.accepted c.in-Ok.ensures.value c.in-Some.is

pub returns-in-None-clause-refused : goal.returns-in-None-clause-refused
returns-in-None-clause-refused c = λ v x.
    let a = c.args.header.now in
    let there = key_there a.bytes.now a.fields _ c.luks1_plan-plan.result c.requires c.luks1_plan-plan.ensures.is in
    rw c.lock_fault.ensures.is (key_locked a.bytes.now a.payload v x 0 c.luks1_plan-plan.result there c.args.key.now c.in-Ok.found c.in-Ok.ensures.accepted c.in-Ok.ensures.value c.in-None.is)

pub returns-in-Err-clause-own : goal.returns-in-Err-clause-own
returns-in-Err-clause-own c =
    rw c.keyslot_fault.ensures (key_uncounted (without_memory c.args.key.now.allowed.older) c.luks1_plan-plan.result c.in-Err.fault c.in-Err.ensures.refused)

pub returns-in-Err-clause-memory : goal.returns-in-Err-clause-memory
returns-in-Err-clause-memory c =
    let a = c.args.header.now in
    let there = key_there a.bytes.now a.fields _ c.luks1_plan-plan.result c.requires c.luks1_plan-plan.ensures.is in
    rw c.keyslot_fault.ensures (never_memory c.args.key.now.allowed.older a.bytes.now 0 c.luks1_plan-plan.result there c.in-Err.fault
    (refusal_answered (without_memory c.args.key.now.allowed.older) c.luks1_plan-plan.result c.in-Err.fault c.in-Err.ensures.refused))

pub returns-in-Err-clause-refused : goal.returns-in-Err-clause-refused
returns-in-Err-clause-refused c = λ v x.
    let a = c.args.header.now in
    let there = key_there a.bytes.now a.fields _ c.luks1_plan-plan.result c.requires c.luks1_plan-plan.ensures.is in
    rw c.keyslot_fault.ensures (key_refused a.bytes.now a.payload v x 0 c.luks1_plan-plan.result there c.args.key.now c.in-Err.fault c.in-Err.ensures.refused)
