use Rattle.std.proofs.Common.{◌≡◌, ◌^◌, ◌%◌, bit_and, refl}
use Rattle.std.proofs.lemmas.Nat.{and_mask}
use Rattle.luks_argon2.specs.Indexing.{reference}
use Rattle.luks_argon2.proofs.indexing.reference.Goals as goal

pub returns-clause-exact : goal.returns-clause-exact
unfolding reference
returns-clause-exact c =
    let low : bit_and c.args.pair 0xFFFFFFFF ≡ c.args.pair % 2 ^ 32 = and_mask c.args.pair 32 in
    rw (c.place_in_window.ensures.exact, c.window_length-count.ensures.exact, c.window_start-start.ensures.exact, c.reference_lane-other.ensures.exact, low) refl
