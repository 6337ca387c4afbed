use Rattle.std.proofs.Common.{◌≡◌, ◌+◌, ◌-◌, ◌*◌, ◌++◌, ◌∙◌, ap, arith, length, sym}
use Rattle.luks_kdf.specs.KeyslotNames.{keyslot_digest, keyslot_digest_size}
use Rattle.luks_kdf.specs.Splitter.{merge, mixed, split}
use Rattle.luks_kdf.specs.Xor.{xor_bytes}
use Rattle.luks_slot.proofs.splitting.write_last_stripe.Goals as goal

pub returns-clause-whole : goal.returns-clause-whole
unfolding split
returns-clause-whole c n whole =
    let hash = keyslot_digest c.args.hash in
    let size = keyslot_digest_size c.args.hash in
    let key = c.args.key.now in
    let random = c.args.random.now in
    let count : n ≡ n + 1 - 1 = omega arith in
    let len : length c.fill.new.self ≡ length key = c.fill.ensures.len ∙ c.requires.last_length in
    let block = c.take_in_stripes.ensures.value n (whole ∙ ap (λ k. n * k) (sym len))
    ∙ ap (λ k. mixed hash size k random n) len ∙ ap (mixed hash size (length key) random) count in
    ap (λ last. random ++ last) (c.xor_into.ensures ∙ ap (λ b. xor_bytes b key) block)

pub returns-clause-merges_back : goal.returns-clause-merges_back
returns-clause-merges_back c n whole =
    let hash = c.args.hash in
    let key = c.args.key.now in
    ap (merge (keyslot_digest hash) (keyslot_digest_size hash) (length key) (n + 1)) (returns-clause-whole c n whole)
    ∙ c.merge_undoes_split.ensures hash key c.args.random.now n whole
