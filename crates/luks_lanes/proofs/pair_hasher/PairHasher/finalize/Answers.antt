use Rattle.std.proofs.Common.{◌≡◌, ◌/◌, List, ℕ, ◌++◌, length, ap, ◌∙◌, sym}
use Rattle.sha2.specs.Sha256.{digest_bytes, hash_after, initial_hash_256, padding, sha256}
use Rattle.luks_lanes.proofs.pair_hasher.PairHasher.finalize.Goals as goal

pub returns-clause-first : goal.returns-clause-first
unfolding sha256
returns-clause-first c = λ a b held.
    let end : c.last_block-end.result ≡ padding (length a) = c.last_block-end.ensures (length a) held.whole held.total in
    c.digest_of.ensures ∙ ap (λ h. digest_bytes h 8) (c.update.ensures a b held).first
    ∙ ap (λ (e : List ℕ). digest_bytes (hash_after initial_hash_256 (a ++ e) (length (a ++ e) / 64)) 8) end

pub returns-clause-second : goal.returns-clause-second
unfolding sha256
returns-clause-second c = λ a b held.
    let end : c.last_block-end.result ≡ padding (length b) =
    c.last_block-end.ensures (length a) held.whole held.total ∙ ap padding (sym held.alike) in
    c.digest_of-2.ensures ∙ ap (λ h. digest_bytes h 8) (c.update.ensures a b held).second
    ∙ ap (λ (e : List ℕ). digest_bytes (hash_after initial_hash_256 (b ++ e) (length (b ++ e) / 64)) 8) end
