use Rattle.luks_kdf.proofs.SplitterFacts.{merge-split}
use Rattle.luks_kdf.proofs.splitter.merge_undoes_split.Goals as goal

pub returns : goal.returns
returns g c = merge-split g.H.HashFn.digest g.H.HashFn.LEN g.met.H.HashFn.digest_length g.met.H.HashFn.not_empty
