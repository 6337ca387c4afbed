use Rattle.std.proofs.Common.{◌≡◌, ◌*◌, ◌++◌, drop}
use Rattle.luks_kdf.specs.Splitter.{diffused_blocks}
use Rattle.luks_kdf.proofs.diffuse.diffuse.Given as goal

-- the blocks so far are diffused, and the bytes after them are as before
abbrev pub invariant-loop-j : goal.invariant-loop-j
invariant-loop-j g l =
    l.bytes ≡ diffused_blocks g.H.HashFn.digest g.H.HashFn.LEN l.fn.bytes l.j
    ++ drop (l.j * g.H.HashFn.LEN) l.fn.bytes
