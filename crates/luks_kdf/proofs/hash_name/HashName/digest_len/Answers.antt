use Rattle.std.proofs.Common.{◌≤◌, refl, subst, sym}
use Rattle.luks_kdf.specs.Names.{digest_size_of, each_at_most}
use Rattle.luks_kdf.proofs.hash_name.HashName.digest_len.Goals as goal

pub returns-clause-at_most_64 : goal.returns-clause-at_most_64
returns-clause-at_most_64 c =
    subst (λ n. n ≤ 64) (sym c.run.ensures) (each_at_most 64 digest_size_of refl c.args.self)
