use Rattle.std.proofs.Common.{refl}
use Rattle.luks_kdf.specs.Names.{digest_size_of, each_at_least, hash_of, length-digest}
use Rattle.luks_kdf.proofs.SplitterFacts.{merge-split}
use Rattle.luks_kdf.proofs.hash_name.HashName.merge_undoes_split.Goals as goal

pub returns : goal.returns
returns c hash =
    merge-split (hash_of hash) (digest_size_of hash) (length-digest hash)
    (each_at_least 1 digest_size_of refl hash)
