use Rattle.std.proofs.Common.{◌≡◌, ℕ, length, arith, sym, ap, subst, inl, ◌∙◌}
use Rattle.luks_area.specs.declared.area.Area.{Area}
use Rattle.luks_formatting.specs.NewPlan.{IsSealable}
use Rattle.luks_formatting.proofs.EncryptingFacts.{sizes, used_most}
use Rattle.luks_formatting.proofs.GivenFacts.{length-key_of, uuid_is}
use Rattle.luks_formatting.proofs.Written1Facts.{area_stands, both_rest, first_waits, formatted, key_rest, sealed_rest}
use Rattle.luks_formatting.proofs.luks1.write_over_cleared.Goals as goal

pub new_header-header-requires-clause-small : goal.new_header-header-requires-clause-small
new_header-header-requires-clause-small g c = (sizes c.args.given.now.cipher c.args.given.now.key_bytes c.requires.sound.takes).high

pub seal_key-requires-clause-sealable : goal.seal_key-requires-clause-sealable
seal_key-requires-clause-sealable g c =
    let counted = c.requires.long in
    let long : length c.key_of-key.result.now ≡ c.args.given.now.key_bytes = ap length c.key_of-key.ensures ∙ length-key_of c.args.given.now c.args.random.now c.requires.sound.key (omega (arith, counted)) in
    subst (λ (n : ℕ). IsSealable n c.slot_plan-plan.result) (sym long) c.slot_plan-plan.ensures.sealable

pub seal_key-requires-clause-some_key : goal.seal_key-requires-clause-some_key
seal_key-requires-clause-some_key g c =
    let counted = c.requires.long in
    let long : length c.key_of-key.result.now ≡ c.args.given.now.key_bytes = ap length c.key_of-key.ensures ∙ length-key_of c.args.given.now c.args.random.now c.requires.sound.key (omega (arith, counted)) in
    let low = (sizes c.args.given.now.cipher c.args.given.now.key_bytes c.requires.sound.takes).low in
    omega (arith, long, low)

pub seal_key-requires-clause-short_key : goal.seal_key-requires-clause-short_key
seal_key-requires-clause-short_key g c =
    let counted = c.requires.long in
    let long : length c.key_of-key.result.now ≡ c.args.given.now.key_bytes = ap length c.key_of-key.ensures ∙ length-key_of c.args.given.now c.args.random.now c.requires.sound.key (omega (arith, counted)) in
    let high = (sizes c.args.given.now.cipher c.args.given.now.key_bytes c.requires.sound.takes).high in
    omega (arith, long, high)

pub seal_key-requires-clause-random_length : goal.seal_key-requires-clause-random_length
seal_key-requires-clause-random_length g c =
    let counted = c.requires.long in
    let long : length c.key_of-key.result.now ≡ c.args.given.now.key_bytes = ap length c.key_of-key.ensures ∙ length-key_of c.args.given.now c.args.random.now c.requires.sound.key (omega (arith, counted)) in
    let stripes = c.taken-stripes.ensures.length in
    omega (arith, long, stripes)

pub seal_key-requires-clause-large : goal.seal_key-requires-clause-large
seal_key-requires-clause-large g c =
    let counted = c.requires.long in
    let long : length c.key_of-key.result.now ≡ c.args.given.now.key_bytes = ap length c.key_of-key.ensures ∙ length-key_of c.args.given.now c.args.random.now c.requires.sound.key (omega (arith, counted)) in
    let len = ap (λ (a : Area). a.len) c.slot_plan-plan.ensures.area in
    omega (arith, len, long)

pub seal_key-requires-clause-within : goal.seal_key-requires-clause-within
seal_key-requires-clause-within g c =
    let start = ap (λ (a : Area). a.start) c.slot_plan-plan.ensures.area in
    let len = ap (λ (a : Area). a.len) c.slot_plan-plan.ensures.area in
    let most = used_most c.args.given.now.key_bytes (sizes c.args.given.now.cipher c.args.given.now.key_bytes c.requires.sound.takes).high in
    let room = c.requires.within in
    omega (arith, start, len, most, room)

pub returns-in_err-seal_key-clause-rest : goal.returns-in_err-seal_key-clause-rest
returns-in_err-seal_key-clause-rest g c tells =
    let counted = c.requires.long in
    let long : length c.key_of-key.result.now ≡ c.args.given.now.key_bytes = ap length c.key_of-key.ensures ∙ length-key_of c.args.given.now c.args.random.now c.requires.sound.key (omega (arith, counted)) in
    sealed_rest c.args.given.now.key_bytes c.slot_plan-plan.result.area c.slot_plan-plan.ensures.area (key_rest long (c.seal_key.ensures.rest tells))

pub returns-in_err-write_range-clause-rest : goal.returns-in_err-write_range-clause-rest
returns-in_err-write_range-clause-rest g c tells =
    let counted = c.requires.long in
    let long : length c.key_of-key.result.now ≡ c.args.given.now.key_bytes = ap length c.key_of-key.ensures ∙ length-key_of c.args.given.now c.args.random.now c.requires.sound.key (omega (arith, counted)) in
    both_rest c.args.given.now.key_bytes c.slot_plan-plan.result.area (length c.write.result) c.slot_plan-plan.ensures.area c.write.ensures.written.long
    (key_rest long (c.seal_key.ensures.rest tells)) (c.write_range.ensures.outside tells)

pub returns-clause-rest : goal.returns-clause-rest
returns-clause-rest g c tells =
    let counted = c.requires.long in
    let long : length c.key_of-key.result.now ≡ c.args.given.now.key_bytes = ap length c.key_of-key.ensures ∙ length-key_of c.args.given.now c.args.random.now c.requires.sound.key (omega (arith, counted)) in
    both_rest c.args.given.now.key_bytes c.slot_plan-plan.result.area (length c.write.result) c.slot_plan-plan.ensures.area c.write.ensures.written.long
    (key_rest long (c.seal_key.ensures.rest tells)) (c.write_range.ensures.outside tells)

pub returns-in_err-seal_key-clause-order : goal.returns-in_err-seal_key-clause-order
returns-in_err-seal_key-clause-order g c tells =
    let counted = c.requires.long in
    let long : length c.key_of-key.result.now ≡ c.args.given.now.key_bytes = ap length c.key_of-key.ensures ∙ length-key_of c.args.given.now c.args.random.now c.requires.sound.key (omega (arith, counted)) in
    inl (first_waits c.args.given.now.key_bytes c.slot_plan-plan.result.area c.slot_plan-plan.ensures.area (key_rest long (c.seal_key.ensures.rest tells)))

pub returns-in_err-write_range-clause-order : goal.returns-in_err-write_range-clause-order
returns-in_err-write_range-clause-order g c tells =
    let bytes = g.D.Device.bytes in
    area_stands c.args.given.now c.args.format.now c.args.passphrase.now c.args.random.now (bytes c.seal_key.new.device) (bytes c.write_range.new.device)
    c.write.result c.key_of-key.result.now c.taken-stripes.result.now c.new_header-header.result c.slot_plan-plan.result
    c.new_header-header.ensures c.write.ensures.written (uuid_is c.args.given.now c.args.random.now c.requires.sound.uuid)
    (c.slot_plan-plan.ensures.plan c.args.random.now c.new_header-header.ensures) c.slot_plan-plan.ensures.cipher
    (c.write_range.ensures.outside tells) c.key_of-key.ensures c.taken-stripes.ensures.value (c.in_ok-seal_key.ensures.sealed tells) (bytes c.args.device.now)

pub returns-clause-order : goal.returns-clause-order
returns-clause-order g c tells =
    let bytes = g.D.Device.bytes in
    area_stands c.args.given.now c.args.format.now c.args.passphrase.now c.args.random.now (bytes c.seal_key.new.device) (bytes c.write_range.new.device)
    c.write.result c.key_of-key.result.now c.taken-stripes.result.now c.new_header-header.result c.slot_plan-plan.result
    c.new_header-header.ensures c.write.ensures.written (uuid_is c.args.given.now c.args.random.now c.requires.sound.uuid)
    (c.slot_plan-plan.ensures.plan c.args.random.now c.new_header-header.ensures) c.slot_plan-plan.ensures.cipher
    (c.write_range.ensures.outside tells) c.key_of-key.ensures c.taken-stripes.ensures.value (c.in_ok-seal_key.ensures.sealed tells) (bytes c.args.device.now)

pub returns-clause-formatted : goal.returns-clause-formatted
returns-clause-formatted g c tells =
    let counted = c.requires.long in
    let long : length c.key_of-key.result.now ≡ c.args.given.now.key_bytes = ap length c.key_of-key.ensures ∙ length-key_of c.args.given.now c.args.random.now c.requires.sound.key (omega (arith, counted)) in
    let bytes = g.D.Device.bytes in
    let v = bytes c.seal_key.new.device in
    let size : length v ≡ g.D.Device.size c.args.device.now = g.met.D.Device.sized c.seal_key.new.device tells ∙ c.seal_key.ensures.size in
    let room = c.requires.within in
    formatted c.args.given.now c.args.format.now c.args.passphrase.now c.args.random.now v (bytes c.write_range.new.device)
    c.write.result c.key_of-key.result.now c.taken-stripes.result.now c.new_header-header.result c.slot_plan-plan.result
    c.new_header-header.ensures c.write.ensures.written (uuid_is c.args.given.now c.args.random.now c.requires.sound.uuid)
    (c.slot_plan-plan.ensures.plan c.args.random.now c.new_header-header.ensures) c.slot_plan-plan.ensures.cipher
    (c.write_range.ensures.outside tells) c.key_of-key.ensures c.taken-stripes.ensures.value (c.in_ok-seal_key.ensures.sealed tells)
    (bytes c.args.device.now) (omega (arith, size, room)) (c.in_ok-write_range.ensures.wrote tells) (key_rest long (c.seal_key.ensures.rest tells))
