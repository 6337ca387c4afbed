use Rattle.luks_kdf.proofs.LaneFacts.{are_turned}
use Rattle.luks_kdf.proofs.hash_name.Sha1FnHashFn.run_side_by_side.Goals as goal

pub returns : goal.returns
returns c = are_turned _ 20 64 _ _ _ _ _ c.requires.whole_key c.sha1_turns.ensures.turned
