use Rattle.luks_meta.specs.Content.{content}
use Rattle.luks2_judging.proofs.DigestFacts.{key_met, met_key}
use Rattle.luks2_judging.proofs.keys.meets_key.Goals as goal

pub returns-then-is_key_length : goal.returns-then-is_key_length
returns-then-is_key_length c =
    let j = content c.args.meta.now in
    let told = c.in-Some.ensures.some in
    let says = c.luks2_digest.ensures.says told.object told.tells_members in
    let key = c.args.key.now in (
      λ e. met_key j c.args.number c.in-Some.digest c.luks2_digest.result c.requires.low told says c.args.older key (c.is_key_length.ensures.0 c.if-is_key_length.true) (c.is_met.ensures.0 e),
      λ x. c.is_met.ensures.1 (key_met j c.args.number c.in-Some.digest c.luks2_digest.result c.requires.low told says c.args.older key x),
    )
