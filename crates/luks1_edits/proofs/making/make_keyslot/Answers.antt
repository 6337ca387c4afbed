use Rattle.std.proofs.Common.{◌≡◌, ◌≤◌, length, sym, take, refl, ap, subst, ◌∙◌, arith, inl, inr}
use Rattle.luks_edit.specs.Asked.{allowed_of, opener_at}
use Rattle.luks1_edits.proofs.KeptFacts.{header_inside}
use Rattle.luks1_edits.proofs.MakingFacts.{area_torn, entry_torn, IsNewPlan, keyslot_made, new_plan, plan_inside, plan_key_length, plan_random_length, sealed_rest, unsealed_unmade}
use Rattle.luks_slot.specs.declared.allowed.Allowed.{Allowed}
use Rattle.luks_slot.specs.Allowance.{without_memory}
use Rattle.luks_slot.specs.Fault.{IsAnsweredWithin}
use Rattle.luks_slot.specs.Opening.{area_bytes}
use Rattle.luks_slot.specs.Sealing.{IsSealed}
use Rattle.luks1_edits.specs.Leftovers.{IsMadeButEntry}
use Rattle.luks1_edits.specs.Steps.{IsKeyslotMade}
use Rattle.luks1_edits.proofs.making.make_keyslot.Goals as goal

pub seal_area_within-requires-clause-ready : goal.seal_area_within-requires-clause-ready
seal_area_within-requires-clause-ready g c =
    let h = c.args.header.now.bytes.now in
    let p : IsNewPlan h c.args.n c.entry_bytes-entry.result c.iterations_of.result (take 32 c.args.random.now) c.luks1_plan-plan.result =
    new_plan h c.args.header.now.fields c.args.n c.entry_bytes-entry.result c.new_slot-slot.result c.iterations_of.result (take 32 c.args.random.now) c.luks1_plan-plan.result
    c.requires.accepted.fields c.requires.numbered (subst (λ k. 1 ≤ k) (sym c.iterations_of.ensures) c.requires.iterated) c.new_slot-slot.ensures c.entry_bytes-entry.ensures c.luks1_plan-plan.ensures.is c.luks1_plan-plan.ensures.judged in
    record {
      iterations = p.openable.turns;
      key_length = plan_key_length h c.args.n c.entry_bytes-entry.result c.iterations_of.result (take 32 c.args.random.now) c.luks1_plan-plan.result p c.args.key.now c.requires.key_length;
      some_stripes = p.openable.some_stripes;
      random_length =
          ap length c.stripes_in-stripes.ensures
          ∙ plan_random_length h c.args.n c.entry_bytes-entry.result c.iterations_of.result (take 32 c.args.random.now) c.luks1_plan-plan.result p c.args.random.now c.requires.random_length;
      sectors = p.openable.sectors;
      within = plan_inside h c.args.n c.entry_bytes-entry.result c.iterations_of.result (take 32 c.args.random.now) c.luks1_plan-plan.result p c.args.header.now.payload (g.D.Device.size c.args.device.now) c.requires.accepted.volume c.requires.numbered;
    }

pub returns-in-Err-clause-fault : goal.returns-in-Err-clause-fault
returns-in-Err-clause-fault g c =
    let h = c.args.header.now.bytes.now in
    let p : IsNewPlan h c.args.n c.entry_bytes-entry.result c.iterations_of.result (take 32 c.args.random.now) c.luks1_plan-plan.result =
    new_plan h c.args.header.now.fields c.args.n c.entry_bytes-entry.result c.new_slot-slot.result c.iterations_of.result (take 32 c.args.random.now) c.luks1_plan-plan.result
    c.requires.accepted.fields c.requires.numbered (subst (λ k. 1 ≤ k) (sym c.iterations_of.ensures) c.requires.iterated) c.new_slot-slot.ensures c.entry_bytes-entry.ensures c.luks1_plan-plan.ensures.is c.luks1_plan-plan.ensures.judged in
    let older : c.allowed.result.older ≡ (allowed_of (opener_at c.args.sealed.now.place)).older = ap (λ (a : Allowed). a.older) (c.allowed.ensures ∙ ap allowed_of c.opener.ensures) in
    rw c.keyslot_fault.ensures (unsealed_unmade (allowed_of (opener_at c.args.sealed.now.place)).older h c.entry_bytes-entry.result c.luks1_plan-plan.result c.in-Err.fault p.is
    (subst (λ b. IsAnsweredWithin (without_memory b) c.luks1_plan-plan.result c.in-Err.fault) older c.in-Err.ensures.fault))

pub returns-in-Err-clause-torn : goal.returns-in-Err-clause-torn
returns-in-Err-clause-torn g c = λ tells x.
    let h = c.args.header.now.bytes.now in
    let p : IsNewPlan h c.args.n c.entry_bytes-entry.result c.iterations_of.result (take 32 c.args.random.now) c.luks1_plan-plan.result =
    new_plan h c.args.header.now.fields c.args.n c.entry_bytes-entry.result c.new_slot-slot.result c.iterations_of.result (take 32 c.args.random.now) c.luks1_plan-plan.result
    c.requires.accepted.fields c.requires.numbered (subst (λ k. 1 ≤ k) (sym c.iterations_of.ensures) c.requires.iterated) c.new_slot-slot.ensures c.entry_bytes-entry.ensures c.luks1_plan-plan.ensures.is c.luks1_plan-plan.ensures.judged in
    inl (area_torn h c.args.n c.entry_bytes-entry.result c.iterations_of.result (take 32 c.args.random.now) c.luks1_plan-plan.result p c.args.header.now.payload (g.D.Device.bytes c.args.device.now) x c.requires.numbered (g.D.Device.bytes c.seal_area_within.new.device) (sealed_rest c.luks1_plan-plan.result p.openable.sectors (c.seal_area_within.ensures.rest tells)))

pub write_entry-requires-clause-within : goal.write_entry-requires-clause-within
write_entry-requires-clause-within g c =
    let size = c.seal_area_within.ensures.settles.size in
    let long = header_inside c.args.header.now.bytes.now c.args.header.now.payload (g.D.Device.size c.args.device.now) c.requires.accepted.volume in
    omega (arith, size, long)

pub returns-in-Ok-write_entry-clause-made : goal.returns-in-Ok-write_entry-clause-made
returns-in-Ok-write_entry-clause-made g c = λ tells x.
    let h = c.args.header.now.bytes.now in
    let p : IsNewPlan h c.args.n c.entry_bytes-entry.result c.iterations_of.result (take 32 c.args.random.now) c.luks1_plan-plan.result =
    new_plan h c.args.header.now.fields c.args.n c.entry_bytes-entry.result c.new_slot-slot.result c.iterations_of.result (take 32 c.args.random.now) c.luks1_plan-plan.result
    c.requires.accepted.fields c.requires.numbered (subst (λ k. 1 ≤ k) (sym c.iterations_of.ensures) c.requires.iterated) c.new_slot-slot.ensures c.entry_bytes-entry.ensures c.luks1_plan-plan.ensures.is c.luks1_plan-plan.ensures.judged in
    let sealed = c.in-Ok.ensures.sealed tells in
    let same = c.stripes_in-stripes.ensures in
    let v = g.D.Device.bytes c.args.device.now in
    let w = g.D.Device.bytes c.write_entry.new.device in
    subst (λ k. IsKeyslotMade v c.args.n k c.args.sealed.now.passphrase.now c.args.key.now c.args.random.now w) c.iterations_of.ensures
    (keyslot_made h c.args.n c.entry_bytes-entry.result c.iterations_of.result (take 32 c.args.random.now) c.luks1_plan-plan.result p c.args.header.now.payload (g.D.Device.bytes c.args.device.now) x c.requires.numbered (g.D.Device.bytes c.seal_area_within.new.device) (g.D.Device.bytes c.write_entry.new.device)
    c.args.sealed.now.passphrase.now c.args.key.now c.args.random.now refl c.requires.key_length c.requires.random_length (sealed_rest c.luks1_plan-plan.result p.openable.sectors (c.seal_area_within.ensures.rest tells)) (subst (λ r. IsSealed c.luks1_plan-plan.result (area_bytes (g.D.Device.bytes c.seal_area_within.new.device) c.luks1_plan-plan.result.area) c.args.sealed.now.passphrase.now c.args.key.now r) same sealed)
    (c.write_entry.ensures.rest tells) (c.in-Ok-write_entry.ensures.entry tells))

pub returns-in-Err-write_entry-clause-torn : goal.returns-in-Err-write_entry-clause-torn
returns-in-Err-write_entry-clause-torn g c = λ tells x.
    let h = c.args.header.now.bytes.now in
    let p : IsNewPlan h c.args.n c.entry_bytes-entry.result c.iterations_of.result (take 32 c.args.random.now) c.luks1_plan-plan.result =
    new_plan h c.args.header.now.fields c.args.n c.entry_bytes-entry.result c.new_slot-slot.result c.iterations_of.result (take 32 c.args.random.now) c.luks1_plan-plan.result
    c.requires.accepted.fields c.requires.numbered (subst (λ k. 1 ≤ k) (sym c.iterations_of.ensures) c.requires.iterated) c.new_slot-slot.ensures c.entry_bytes-entry.ensures c.luks1_plan-plan.ensures.is c.luks1_plan-plan.ensures.judged in
    let sealed = c.in-Ok.ensures.sealed tells in
    let same = c.stripes_in-stripes.ensures in
    let v = g.D.Device.bytes c.args.device.now in
    let w = g.D.Device.bytes c.write_entry.new.device in
    inr (subst (λ k. IsMadeButEntry v c.args.n k c.args.sealed.now.passphrase.now c.args.key.now c.args.random.now w) c.iterations_of.ensures
    (entry_torn h c.args.n c.entry_bytes-entry.result c.iterations_of.result (take 32 c.args.random.now) c.luks1_plan-plan.result p c.args.header.now.payload (g.D.Device.bytes c.args.device.now) x c.requires.numbered (g.D.Device.bytes c.seal_area_within.new.device) (g.D.Device.bytes c.write_entry.new.device)
    c.args.sealed.now.passphrase.now c.args.key.now c.args.random.now refl c.requires.key_length c.requires.random_length c.entry_bytes-entry.ensures.long (sealed_rest c.luks1_plan-plan.result p.openable.sectors (c.seal_area_within.ensures.rest tells)) (subst (λ r. IsSealed c.luks1_plan-plan.result (area_bytes (g.D.Device.bytes c.seal_area_within.new.device) c.luks1_plan-plan.result.area) c.args.sealed.now.passphrase.now c.args.key.now r) same sealed)
    (c.write_entry.ensures.rest tells)))
