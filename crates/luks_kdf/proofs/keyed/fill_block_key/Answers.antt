use Rattle.std.proofs.Common.{◌≡◌, ◌<◌, ◌≤◌, length, arith, ap, sym, ◌∙◌}
use Rattle.std.specs.Prelude.{replicate}
use Rattle.luks_kdf.proofs.DerivationFacts.{block_key-long, block_key-short}
use Rattle.luks_kdf.proofs.keyed.fill_block_key.Goals as goal

pub returns-then-key-BLOCK : goal.returns-then-key-BLOCK
returns-then-key-BLOCK g c =
    let digest = c.finish.ensures _ (c.feed.ensures _ c.start-state.ensures) in
    let zeros = c.fill.ensures.after (λ y h. h) ∙ ap (λ n. replicate n 0) c.requires in
    let long : g.H.HashFn.BLOCK < length c.args.key.now = omega (arith, c.BLOCK.ensures, c.if-key-BLOCK.true) in
    let whole : length c.finish.new.out ≡ c.LEN.result =
    ap length digest ∙ g.met.H.HashFn.digest_length _ ∙ sym c.LEN.ensures in
    block_key-long g.H.HashFn.digest g.H.HashFn.BLOCK _ _ _ c.LEN.result long digest zeros whole

pub returns-else-key-BLOCK : goal.returns-else-key-BLOCK
returns-else-key-BLOCK g c =
    let zeros = c.fill.ensures.after (λ y h. h) ∙ ap (λ n. replicate n 0) c.requires in
    let short : length c.args.key.now ≤ g.H.HashFn.BLOCK = omega (arith, c.BLOCK.ensures, c.if-key-BLOCK.false) in
    block_key-short g.H.HashFn.digest g.H.HashFn.BLOCK _ _ _ short c.copy_from_slice.ensures.after zeros
