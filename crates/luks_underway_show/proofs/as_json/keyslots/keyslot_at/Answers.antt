use Rattle.serde_json.specs.View.{view}
use Rattle.luks_wider.specs.Underways.{content}
use Rattle.luks_underway_show.proofs.ValueFacts.{key_value, reencryption_value}
use Rattle.luks_underway_show.proofs.as_json.keyslots.keyslot_at.Goals as goal

pub returns-in_ok-value-in-Some-Luks2 : goal.returns-in_ok-value-in-Some-Luks2
returns-in_ok-value-in-Some-Luks2 c =
    key_value (content c.args.meta.now) c.args.n c.in-Some-Luks2.keyslot (view c.in_ok-value-in-Some-Luks2.value)
    (rw c.in-Some-Luks2.field-0-is at c.in-Some-Luks2.ensures.some)

pub returns-in_ok-value-in-Some-Reencrypt : goal.returns-in_ok-value-in-Some-Reencrypt
returns-in_ok-value-in-Some-Reencrypt c =
    reencryption_value (content c.args.meta.now) c.args.n c.in-Some-Reencrypt.members c.digest_of-digest.result (view c.in_ok-value-in-Some-Reencrypt.value)
    (rw c.in-Some-Reencrypt.field-0-is at c.in-Some-Reencrypt.ensures.some) c.digest_of-digest.ensures c.in_ok-value-in-Some-Reencrypt.ensures
