use Rattle.std.proofs.Common.{◌≡◌, ◌+◌, ◌-◌, ◌*◌, ◌++◌, ◌∙◌, length, ap, sym}
use Rattle.luks_kdf.specs.KeyslotNames.{keyslot_digest, keyslot_digest_size}
use Rattle.luks_kdf.specs.Splitter.{split}
use Rattle.luks_slot.specs.Opening.{area_bytes}
use Rattle.luks_area.proofs.DeviceFacts.{touches-range}
use Rattle.luks_area.specs.Sectors.{rounded_to_sectors}
use Rattle.luks_slot.proofs.SealingFacts.{length-stripes, sealed_by, written_opens}
use Rattle.luks_slot.proofs.sealing.seal_under.Goals as goal

pub returns-clause-sealed : goal.returns-clause-sealed
returns-clause-sealed g c tells passphrase is_key =
    let plan = c.args.plan.now in
    let random = c.args.random.now in
    let last = c.write_last_stripe.new.last in
    let hash = c.args.hash in
    let bytes = c.as_bytes-bytes.result.now in
    let key_size : length bytes ≡ plan.key_bytes = ap length c.as_bytes-bytes.ensures.value ∙ c.requires.ready.key_length in
    let all = length-stripes plan random last c.requires.ready.some_stripes c.requires.ready.random_length (c.write_last_stripe.ensures.len ∙ key_size) in
    let row : length random ≡ (plan.stripes - 1) * length bytes = c.requires.ready.random_length ∙ ap (λ k. (plan.stripes - 1) * k) (sym key_size) in
    let whole = c.write_last_stripe.ensures.whole (plan.stripes - 1) row
    ∙ ap (λ k. split (keyslot_digest hash) (keyslot_digest_size hash) k ((plan.stripes - 1) + 1) random) c.as_bytes-bytes.ensures.value in
    sealed_by plan (g.D.Device.bytes c.write_stripes.new.device) passphrase c.args.key.now random last c.args.cipher_key hash
    c.requires.ready.some_stripes all c.requires.ready.sectors whole c.requires.hash is_key
    (c.in_ok-write_stripes.ensures.value tells)

pub returns-clause-opens : goal.returns-clause-opens
returns-clause-opens g c tells passphrase is_key =
    let plan = c.args.plan.now in
    let random = c.args.random.now in
    let last = c.write_last_stripe.new.last in
    let bytes = c.as_bytes-bytes.result.now in
    let key_size : length bytes ≡ plan.key_bytes = ap length c.as_bytes-bytes.ensures.value ∙ c.requires.ready.key_length in
    let row : length random ≡ (plan.stripes - 1) * length bytes = c.requires.ready.random_length ∙ ap (λ k. (plan.stripes - 1) * k) (sym key_size) in
    written_opens plan (area_bytes (g.D.Device.bytes c.write_stripes.new.device) plan.area) passphrase c.args.key.now bytes random
    (random ++ last) c.args.hash c.requires.ready.some_stripes c.as_bytes-bytes.ensures.value c.requires.ready.key_length
    c.requires.hash (c.write_last_stripe.ensures.whole (plan.stripes - 1) row)
    (c.write_last_stripe.ensures.merges_back (plan.stripes - 1) row) (returns-clause-sealed g c tells passphrase is_key)

pub returns-clause-touches : goal.returns-clause-touches
returns-clause-touches g c tells =
    let plan = c.args.plan.now in
    let random = c.args.random.now in
    let last = c.write_last_stripe.new.last in
    let key_size : length c.as_bytes-bytes.result.now ≡ plan.key_bytes = ap length c.as_bytes-bytes.ensures.value ∙ c.requires.ready.key_length in
    let all = length-stripes plan random last c.requires.ready.some_stripes c.requires.ready.random_length (c.write_last_stripe.ensures.len ∙ key_size) in
    touches-range (ap rounded_to_sectors all) (c.write_stripes.ensures.touches tells)

pub returns-in_err-write_stripes-clause-touches : goal.returns-in_err-write_stripes-clause-touches
returns-in_err-write_stripes-clause-touches g c tells =
    let plan = c.args.plan.now in
    let random = c.args.random.now in
    let last = c.write_last_stripe.new.last in
    let key_size : length c.as_bytes-bytes.result.now ≡ plan.key_bytes = ap length c.as_bytes-bytes.ensures.value ∙ c.requires.ready.key_length in
    let all = length-stripes plan random last c.requires.ready.some_stripes c.requires.ready.random_length (c.write_last_stripe.ensures.len ∙ key_size) in
    touches-range (ap rounded_to_sectors all) (c.write_stripes.ensures.touches tells)
