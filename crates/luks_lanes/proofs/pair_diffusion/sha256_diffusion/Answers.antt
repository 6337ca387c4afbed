use Rattle.std.proofs.Common.{◌+◌, ◌*◌, ◌≤◌, ◌++◌, length, arith, ap, sym, ◌∙◌, w32}
use Rattle.std.specs.Int.{to_be_bytes}
use Rattle.sha2.specs.Sha256.{compress, digest_bytes, initial_hash_256, sha256}
use Rattle.luks_rounds.specs.Pair.{lane, numbered_block, word_of}
use Rattle.luks_lanes.proofs.DiffusionFacts.{sha256_numbered}
use Rattle.luks_lanes.proofs.pair_diffusion.sha256_diffusion.Goals as goal

pub returns : goal.returns
returns c = λ j lt.
    let there : j * 32 + 32 ≤ length c.args.blocks.now = omega (arith, lt, c.requires.two_blocks) in
    let words = lane j c.load-words.result in
    let number = c.args.number + j in
    let state =
    c.compress_window.ensures j _ lt (c.numbered_window-w.ensures j lt)
    ∙ ap (λ h. compress h (numbered_block (word_of j c.numbers_from.result) words)) (c.start.ensures j lt)
    ∙ ap (λ n. compress initial_hash_256 (numbered_block n words)) (c.numbers_from.ensures j lt) in
    c.store.ensures j lt there ∙ ap (λ h. digest_bytes h 8) state ∙ sym (sha256_numbered number words)
    ∙ ap (λ b. sha256 (to_be_bytes w32 number ++ b)) (c.load-words.ensures j lt there)
