use Rattle.std.proofs.Common.{◌≡◌, List, ℕ, ◌++◌, ap, refl, ◌∙◌}
use Rattle.std.proofs.lemmas.List.{append_assoc}
use Rattle.std.specs.Int.{w32, to_le_bytes}
use Rattle.luks_argon2.specs.Argon2.{counted, first_digest}
use Rattle.luks_argon2.specs.Blake2b.{blake2b}
use Rattle.luks_argon2.proofs.starting.first_digest.Goals as goal

joined : (a b c d e f g h i j : List ℕ)
    → (((((((((a ++ b) ++ c) ++ d) ++ e) ++ f) ++ g) ++ h) ++ i) ++ j) ≡ a ++ (b ++ (c ++ (d ++ (e ++ (f ++ (g ++ (h ++ (i ++ j))))))))
joined a b c d e f g h i j = simp append_assoc refl

pub returns : goal.returns
unfolding first_digest
returns c =
    rw (← c.variant_number.ensures.exact) (
    c.finalize.ensures _ (c.feed_counted-4.ensures 64 _ (c.feed_counted-3.ensures 64 _ (c.feed_counted-2.ensures 64 _ (c.feed_counted.ensures 64 _
    (c.feed_number-6.ensures 64 _ (c.feed_number-5.ensures 64 _ (c.feed_number-4.ensures 64 _ (c.feed_number-3.ensures 64 _ (c.feed_number-2.ensures 64 _
    (c.feed_number.ensures 64 _ c.new-hasher.ensures))))))))))
    ∙ ap (blake2b 64) (joined (to_le_bytes w32 c.args.costs.lanes) (to_le_bytes w32 c.args.len) (to_le_bytes w32 c.args.costs.memory)
    (to_le_bytes w32 c.args.costs.time) (to_le_bytes w32 0x13) (to_le_bytes w32 c.variant_number.result)
    (counted c.args.password.now) (counted c.args.salt.now) (counted c.args.secret.now) (counted c.args.associated.now)))
