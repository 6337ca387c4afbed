use Rattle.std.proofs.Common.{refl}
use Rattle.std.proofs.lemmas.List.{append-nil}
use Rattle.luks_argon2.specs.Argon2.{tag_from}
use Rattle.luks_argon2.proofs.tag.write_tag.Goals as goal

pub returns-clause-tag : goal.returns-clause-tag
unfolding tag_from
returns-clause-tag c =
    rw (c.variable_hash.ensures, append-nil, c.bytes_of.ensures, c.run-last.ensures) refl
