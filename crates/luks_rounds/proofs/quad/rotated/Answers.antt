use Rattle.std.proofs.Common.{◌≡◌, ◌-◌, ◌*◌, ◌/◌, ◌%◌, ◌^◌, bit_or, arith, refl, length, ◌∙◌}
use Rattle.std.proofs.lemmas.Simd.{length-zip2}
use Rattle.std.specs.Simd.Lanes.{zip2}
use Rattle.luks_rounds.proofs.QuadFacts.{word_all}
use Rattle.luks_rounds.proofs.VectorFacts.{all_four, word_zip}
use Rattle.luks_rounds.proofs.quad.rotated.Goals as goal

pub returns : goal.returns
returns c = λ j lt.
    let x = c.args.x in
    let k = c.args.k in
    let l : length x ≡ 4 = omega (arith, c.fits-x.0) in
    let up = zip2 (λ a b. a * 2 ^ b % 2 ^ 32) x (all_four k) in
    let down = zip2 (λ a b. a / 2 ^ b) x (all_four (32 - k)) in
    let place : k % 32 ≡ k = omega (arith, c.requires.high) in
    let back : (32 - k) % 32 ≡ 32 - k = omega (arith, c.requires.low) in
    rw (
      place,
      back,
      word_zip bit_or up down (length-zip2 _ x (all_four k) l ∙ l) (length-zip2 _ x (all_four (32 - k)) l ∙ l) j lt,
      word_zip (λ a b. a * 2 ^ b % 2 ^ 32) x (all_four k) l refl j lt,
      word_zip (λ a b. a / 2 ^ b) x (all_four (32 - k)) l refl j lt,
      word_all k j lt,
      word_all (32 - k) j lt,
    ) refl
