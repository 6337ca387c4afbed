use Rattle.std.proofs.Common.{refl}
use Rattle.luks_argon2.specs.Argon2.{argon2}
use Rattle.luks_argon2.proofs.tag.argon2_with_secret.Goals as goal

pub returns-clause-tag : goal.returns-clause-tag
unfolding argon2
returns-clause-tag c =
    rw (
      c.write_tag.ensures.tag,
      c.first_digest-digest.ensures,
      c.shape_of-shape.ensures.lanes,
      c.shape_of-shape.ensures.segment,
      c.shape_of-shape.ensures.passes,
      c.shape_of-shape.ensures.variant,
    ) refl
