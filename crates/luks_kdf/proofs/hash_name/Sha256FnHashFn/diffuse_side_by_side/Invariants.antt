use Rattle.std.proofs.Common.{◌≡◌, ◌*◌, ◌++◌, drop}
use Rattle.sha2.specs.Sha256.{sha256}
use Rattle.luks_kdf.specs.Splitter.{diffused_blocks}
use Rattle.luks_kdf.proofs.hash_name.Sha256FnHashFn.diffuse_side_by_side.Given as goal

-- the pairs so far are diffused, and the bytes after them are as before
abbrev pub invariant-loop-i : goal.invariant-loop-i
invariant-loop-i l =
    l.bytes ≡ diffused_blocks sha256 32 l.initial.bytes (l.i * 2) ++ drop (l.i * 2 * 32) l.initial.bytes
