use Rattle.std.proofs.Common.{refl}
use Rattle.luks_kdf.specs.KeyslotNames.{each_keyslot_at_least, keyslot_digest, keyslot_digest_size, length-keyslot_digest}
use Rattle.luks_kdf.proofs.SplitterFacts.{merge-split}
use Rattle.luks_kdf.proofs.keyslot_hash.KeyslotHash.merge_undoes_split.Goals as goal

pub returns : goal.returns
returns c hash =
    merge-split (keyslot_digest hash) (keyslot_digest_size hash) (length-keyslot_digest hash)
    (each_keyslot_at_least 1 keyslot_digest_size refl hash)
