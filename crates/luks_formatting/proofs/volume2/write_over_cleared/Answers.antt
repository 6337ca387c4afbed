use Rattle.std.proofs.Common.{◌≡◌, ℕ, List, length, arith, sym, ap, ◌∙◌, inl, subst, MatchOption}
use Rattle.luks_area.specs.declared.area.Area.{Area}
use Rattle.luks_formatting.specs.Given.{key_of}
use Rattle.luks_formatting.specs.NewPlan.{IsSealable, IsSealedAhead}
use Rattle.luks_formatting.proofs.EncryptingFacts.{block_most, sizes}
use Rattle.luks_formatting.proofs.GivenFacts.{length-key_of, texts_fit}
use Rattle.luks_formatting.specs.Formatted2.{HasNewCopy}
use Rattle.luks_formatting.proofs.Keyslot2Facts.{plan_by}
use Rattle.luks_formatting.proofs.Written1Facts.{key_rest}
use Rattle.luks_formatting.proofs.Written2Facts.{all_but_first, all_rest, area_stands, copies_wait, formatted2, sealed_rest, second_rest}
use Rattle.luks_formatting.proofs.volume2.write_over_cleared.Goals as goal

pub returns-in_err-put_key_area-clause-order : goal.returns-in_err-put_key_area-clause-order
returns-in_err-put_key_area-clause-order g c tells =
    let long : length c.key_of-key.result.now ≡ c.args.volume.now.given.now.key_bytes = ap length c.key_of-key.ensures ∙ length-key_of c.args.volume.now.given.now c.args.volume.now.random.now c.requires.sound.key (let counted = c.requires.long in omega (arith, counted)) in
    inl (copies_wait c.args.volume.now.given.now.key_bytes c.args.plan.now.area c.requires.plan.is.area (key_rest long (c.put_key_area.ensures.rest tells)))

pub returns-in_err-write_new_copy-clause-order : goal.returns-in_err-write_new_copy-clause-order
returns-in_err-write_new_copy-clause-order g c tells =
    let long : length c.key_of-key.result.now ≡ c.args.volume.now.given.now.key_bytes = ap length c.key_of-key.ensures ∙ length-key_of c.args.volume.now.given.now c.args.volume.now.random.now c.requires.sound.key (let counted = c.requires.long in omega (arith, counted)) in
    let bytes = g.D.Device.bytes in
    let volume = c.args.volume.now in
    let random = volume.random.now in
    let json = c.args.json.now in
    let counted = c.requires.long in
    let plan = c.args.plan.now in
    let has_plan = plan_by volume.given.now volume.format.now volume.chosen random c.requires.iterations (omega (arith, counted)) c.requires.sound.takes c.requires.sound.sector_size c.requires.fits json c.requires.area.json plan c.requires.plan.is
    c.requires.plan.cipher in
    area_stands volume.given.now volume.format.now volume.chosen volume.passphrase.bytes.now random (bytes c.put_key_area.new.device) json c.key_of-key.result.now c.random_stripes-stripes.result.now plan
    c.requires.area has_plan c.requires.plan.is.area c.key_of-key.ensures c.random_stripes-stripes.ensures.value (c.in_ok-put_key_area.ensures.sealed tells)
    (bytes c.args.device.now) (bytes c.write_new_copy.new.device) (key_rest long (c.put_key_area.ensures.rest tells)) (c.write_new_copy.ensures.rest tells)

pub returns-in_err-write_new_copy-2-clause-order : goal.returns-in_err-write_new_copy-2-clause-order
returns-in_err-write_new_copy-2-clause-order g c tells =
    let long : length c.key_of-key.result.now ≡ c.args.volume.now.given.now.key_bytes = ap length c.key_of-key.ensures ∙ length-key_of c.args.volume.now.given.now c.args.volume.now.random.now c.requires.sound.key (let counted = c.requires.long in omega (arith, counted)) in
    let bytes = g.D.Device.bytes in
    let volume = c.args.volume.now in
    let random = volume.random.now in
    let json = c.args.json.now in
    let counted = c.requires.long in
    let plan = c.args.plan.now in
    let has_plan = plan_by volume.given.now volume.format.now volume.chosen random c.requires.iterations (omega (arith, counted)) c.requires.sound.takes c.requires.sound.sector_size c.requires.fits json c.requires.area.json plan c.requires.plan.is
    c.requires.plan.cipher in
    all_but_first volume.given.now volume.format.now volume.chosen volume.passphrase.bytes.now random (bytes c.put_key_area.new.device) json c.key_of-key.result.now c.random_stripes-stripes.result.now plan
    c.requires.area has_plan c.requires.plan.is.area c.key_of-key.ensures c.random_stripes-stripes.ensures.value (c.in_ok-put_key_area.ensures.sealed tells)
    (bytes c.args.device.now) (bytes c.write_new_copy.new.device) (key_rest long (c.put_key_area.ensures.rest tells)) (c.write_new_copy.ensures.rest tells)
    (bytes c.write_new_copy-2.new.device) (c.write_new_copy-2.ensures.rest tells)
    (subst (λ (s : List ℕ). HasNewCopy (bytes c.write_new_copy.new.device) volume.given.now random s json 16384) c.taken_array-second.ensures (c.in_ok-write_new_copy.ensures.copy tells))

pub returns-clause-rest : goal.returns-clause-rest
returns-clause-rest g c tells =
    let long : length c.key_of-key.result.now ≡ c.args.volume.now.given.now.key_bytes = ap length c.key_of-key.ensures ∙ length-key_of c.args.volume.now.given.now c.args.volume.now.random.now c.requires.sound.key (let counted = c.requires.long in omega (arith, counted)) in
    all_rest c.args.volume.now.given.now.key_bytes c.args.plan.now.area c.requires.plan.is.area (key_rest long (c.put_key_area.ensures.rest tells)) (c.write_new_copy.ensures.rest tells) (c.write_new_copy-2.ensures.rest tells)

pub returns-clause-order : goal.returns-clause-order
returns-clause-order g c tells =
    let long : length c.key_of-key.result.now ≡ c.args.volume.now.given.now.key_bytes = ap length c.key_of-key.ensures ∙ length-key_of c.args.volume.now.given.now c.args.volume.now.random.now c.requires.sound.key (let counted = c.requires.long in omega (arith, counted)) in
    let bytes = g.D.Device.bytes in
    let volume = c.args.volume.now in
    let random = volume.random.now in
    let json = c.args.json.now in
    let counted = c.requires.long in
    let plan = c.args.plan.now in
    let has_plan = plan_by volume.given.now volume.format.now volume.chosen random c.requires.iterations (omega (arith, counted)) c.requires.sound.takes c.requires.sound.sector_size c.requires.fits json c.requires.area.json plan c.requires.plan.is
    c.requires.plan.cipher in
    all_but_first volume.given.now volume.format.now volume.chosen volume.passphrase.bytes.now random (bytes c.put_key_area.new.device) json c.key_of-key.result.now c.random_stripes-stripes.result.now plan
    c.requires.area has_plan c.requires.plan.is.area c.key_of-key.ensures c.random_stripes-stripes.ensures.value (c.in_ok-put_key_area.ensures.sealed tells)
    (bytes c.args.device.now) (bytes c.write_new_copy.new.device) (key_rest long (c.put_key_area.ensures.rest tells)) (c.write_new_copy.ensures.rest tells)
    (bytes c.write_new_copy-2.new.device) (c.write_new_copy-2.ensures.rest tells)
    (subst (λ (s : List ℕ). HasNewCopy (bytes c.write_new_copy.new.device) volume.given.now random s json 16384) c.taken_array-second.ensures (c.in_ok-write_new_copy.ensures.copy tells))

pub returns-clause-formatted : goal.returns-clause-formatted
returns-clause-formatted g c tells =
    let long : length c.key_of-key.result.now ≡ c.args.volume.now.given.now.key_bytes = ap length c.key_of-key.ensures ∙ length-key_of c.args.volume.now.given.now c.args.volume.now.random.now c.requires.sound.key (let counted = c.requires.long in omega (arith, counted)) in
    let bytes = g.D.Device.bytes in
    let volume = c.args.volume.now in
    let random = volume.random.now in
    let json = c.args.json.now in
    let counted = c.requires.long in
    let plan = c.args.plan.now in
    let has_plan = plan_by volume.given.now volume.format.now volume.chosen random c.requires.iterations (omega (arith, counted)) c.requires.sound.takes c.requires.sound.sector_size c.requires.fits json c.requires.area.json plan c.requires.plan.is
    c.requires.plan.cipher in
    formatted2 volume.given.now volume.format.now volume.chosen volume.passphrase.bytes.now random (bytes c.put_key_area.new.device) json c.key_of-key.result.now c.random_stripes-stripes.result.now plan
    c.requires.area has_plan c.requires.plan.is.area c.key_of-key.ensures c.random_stripes-stripes.ensures.value (c.in_ok-put_key_area.ensures.sealed tells)
    (bytes c.args.device.now) (bytes c.write_new_copy.new.device) (key_rest long (c.put_key_area.ensures.rest tells)) (c.write_new_copy.ensures.rest tells)
    (bytes c.write_new_copy-2.new.device) (c.write_new_copy-2.ensures.rest tells)
    (subst (λ (s : List ℕ). HasNewCopy (bytes c.write_new_copy.new.device) volume.given.now random s json 16384) c.taken_array-second.ensures (c.in_ok-write_new_copy.ensures.copy tells))
    (subst (λ (s : List ℕ). HasNewCopy (bytes c.write_new_copy-2.new.device) volume.given.now random s json 0) c.taken_array-first.ensures (c.in_ok-write_new_copy-2.ensures.copy tells))

pub returns-in_err-write_new_copy-2-clause-rest : goal.returns-in_err-write_new_copy-2-clause-rest
returns-in_err-write_new_copy-2-clause-rest g c tells =
    let long : length c.key_of-key.result.now ≡ c.args.volume.now.given.now.key_bytes = ap length c.key_of-key.ensures ∙ length-key_of c.args.volume.now.given.now c.args.volume.now.random.now c.requires.sound.key (let counted = c.requires.long in omega (arith, counted)) in
    all_rest c.args.volume.now.given.now.key_bytes c.args.plan.now.area c.requires.plan.is.area (key_rest long (c.put_key_area.ensures.rest tells)) (c.write_new_copy.ensures.rest tells) (c.write_new_copy-2.ensures.rest tells)

pub returns-clause-settled : goal.returns-clause-settled
returns-clause-settled g c tells same = c.write_new_copy-2.ensures.settled tells c.in_ok-write_new_copy-2.ensures.count

pub random_stripes-stripes-requires-clause-small : goal.random_stripes-stripes-requires-clause-small
random_stripes-stripes-requires-clause-small g c = (sizes c.args.volume.now.given.now.cipher c.args.volume.now.given.now.key_bytes c.requires.sound.takes).high

pub put_key_area-requires-clause-sealable : goal.put_key_area-requires-clause-sealable
put_key_area-requires-clause-sealable g c =
    let volume = c.args.volume.now in
    let plan = c.args.plan.now in
    let long : length c.key_of-key.result.now ≡ c.args.volume.now.given.now.key_bytes = ap length c.key_of-key.ensures ∙ length-key_of c.args.volume.now.given.now c.args.volume.now.random.now c.requires.sound.key (let counted = c.requires.long in omega (arith, counted)) in
    subst (λ (m : ℕ). MatchOption c.args.ahead (IsSealable m plan)
    (λ bytes. IsSealedAhead m plan volume.passphrase.bytes.now c.key_of-key.result.now c.random_stripes-stripes.result.now bytes.now)) (sym long)
    (subst (λ (key : List ℕ). MatchOption c.args.ahead (IsSealable volume.given.now.key_bytes plan)
    (λ bytes. IsSealedAhead volume.given.now.key_bytes plan volume.passphrase.bytes.now key c.random_stripes-stripes.result.now bytes.now)) (sym c.key_of-key.ensures)
    (subst (λ (stripes : List ℕ). MatchOption c.args.ahead (IsSealable volume.given.now.key_bytes plan)
    (λ bytes. IsSealedAhead volume.given.now.key_bytes plan volume.passphrase.bytes.now (key_of volume.given.now volume.random.now) stripes bytes.now)) (sym c.random_stripes-stripes.ensures.value)
    c.requires.sealable))

pub put_key_area-requires-clause-key_bytes : goal.put_key_area-requires-clause-key_bytes
put_key_area-requires-clause-key_bytes g c =
    let long : length c.key_of-key.result.now ≡ c.args.volume.now.given.now.key_bytes = ap length c.key_of-key.ensures ∙ length-key_of c.args.volume.now.given.now c.args.volume.now.random.now c.requires.sound.key (let counted = c.requires.long in omega (arith, counted)) in
    c.requires.plan.is.key_bytes ∙ sym long

pub put_key_area-requires-clause-some_key : goal.put_key_area-requires-clause-some_key
put_key_area-requires-clause-some_key g c =
    let long : length c.key_of-key.result.now ≡ c.args.volume.now.given.now.key_bytes = ap length c.key_of-key.ensures ∙ length-key_of c.args.volume.now.given.now c.args.volume.now.random.now c.requires.sound.key (let counted = c.requires.long in omega (arith, counted)) in
    let low = (sizes c.args.volume.now.given.now.cipher c.args.volume.now.given.now.key_bytes c.requires.sound.takes).low in
    omega (arith, long, low)

pub put_key_area-requires-clause-short_key : goal.put_key_area-requires-clause-short_key
put_key_area-requires-clause-short_key g c =
    let long : length c.key_of-key.result.now ≡ c.args.volume.now.given.now.key_bytes = ap length c.key_of-key.ensures ∙ length-key_of c.args.volume.now.given.now c.args.volume.now.random.now c.requires.sound.key (let counted = c.requires.long in omega (arith, counted)) in
    let high = (sizes c.args.volume.now.given.now.cipher c.args.volume.now.given.now.key_bytes c.requires.sound.takes).high in
    omega (arith, long, high)

pub put_key_area-requires-clause-random_length : goal.put_key_area-requires-clause-random_length
put_key_area-requires-clause-random_length g c =
    let long : length c.key_of-key.result.now ≡ c.args.volume.now.given.now.key_bytes = ap length c.key_of-key.ensures ∙ length-key_of c.args.volume.now.given.now c.args.volume.now.random.now c.requires.sound.key (let counted = c.requires.long in omega (arith, counted)) in
    let stripes = c.random_stripes-stripes.ensures.length in
    omega (arith, long, stripes)

pub put_key_area-requires-clause-large : goal.put_key_area-requires-clause-large
put_key_area-requires-clause-large g c =
    let long : length c.key_of-key.result.now ≡ c.args.volume.now.given.now.key_bytes = ap length c.key_of-key.ensures ∙ length-key_of c.args.volume.now.given.now c.args.volume.now.random.now c.requires.sound.key (let counted = c.requires.long in omega (arith, counted)) in
    let len = ap (λ (a : Area). a.len) c.requires.plan.is.area in
    omega (arith, len, long)

pub put_key_area-requires-clause-within : goal.put_key_area-requires-clause-within
put_key_area-requires-clause-within g c =
    let volume = c.args.volume.now in
    let start = ap (λ (a : Area). a.start) c.requires.plan.is.area in
    let len = ap (λ (a : Area). a.len) c.requires.plan.is.area in
    let most = block_most volume.given.now.key_bytes (sizes volume.given.now.cipher volume.given.now.key_bytes c.requires.sound.takes).high in
    let room = c.requires.within in
    omega (arith, start, len, most, room)

pub returns-in_err-put_key_area-clause-rest : goal.returns-in_err-put_key_area-clause-rest
returns-in_err-put_key_area-clause-rest g c tells =
    let long : length c.key_of-key.result.now ≡ c.args.volume.now.given.now.key_bytes = ap length c.key_of-key.ensures ∙ length-key_of c.args.volume.now.given.now c.args.volume.now.random.now c.requires.sound.key (let counted = c.requires.long in omega (arith, counted)) in
    sealed_rest c.args.volume.now.given.now.key_bytes c.args.plan.now.area c.requires.plan.is.area (key_rest long (c.put_key_area.ensures.rest tells))

pub returns-in_err-write_new_copy-clause-rest : goal.returns-in_err-write_new_copy-clause-rest
returns-in_err-write_new_copy-clause-rest g c tells =
    let long : length c.key_of-key.result.now ≡ c.args.volume.now.given.now.key_bytes = ap length c.key_of-key.ensures ∙ length-key_of c.args.volume.now.given.now c.args.volume.now.random.now c.requires.sound.key (let counted = c.requires.long in omega (arith, counted)) in
    second_rest c.args.volume.now.given.now.key_bytes c.args.plan.now.area c.requires.plan.is.area (key_rest long (c.put_key_area.ensures.rest tells)) (c.write_new_copy.ensures.rest tells)

pub write_new_copy-requires-clause-texts : goal.write_new_copy-requires-clause-texts
write_new_copy-requires-clause-texts g c = texts_fit c.args.volume.now.given.now (g.D.Device.size c.args.device.now) c.requires.sound

pub write_new_copy-requires-2-clause-texts : goal.write_new_copy-requires-2-clause-texts
write_new_copy-requires-2-clause-texts g c = texts_fit c.args.volume.now.given.now (g.D.Device.size c.args.device.now) c.requires.sound

pub write_new_copy-requires-2-clause-settled : goal.write_new_copy-requires-2-clause-settled
write_new_copy-requires-2-clause-settled g c tells = c.write_new_copy.ensures.settled tells c.in_ok-write_new_copy.ensures.count
