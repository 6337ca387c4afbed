use Rattle.std.proofs.Common.{◌≡◌, [], ◌∷◌, slice_index, sym}
use Rattle.luks_modes.specs.Xts.{alpha_times}
use Rattle.luks_modes.proofs.AlphaFacts.{alpha_times-zero}
use Rattle.luks_aes.proofs.GateFacts.{below_eight}
use Rattle.luks_modes.proofs.EightFacts.{next_tweak}
use Rattle.luks_modes.proofs.eights.tweaks.Goals as goal

pub returns : goal.returns
returns c =
    let t = c.args.first in
    let e0 = sym (alpha_times-zero t) in
    let e1 = next_tweak t c.doubled-t1.result t 0 c.doubled-t1.ensures e0 in
    let e2 = next_tweak c.doubled-t1.result c.doubled-t2.result t 1 c.doubled-t2.ensures e1 in
    let e3 = next_tweak c.doubled-t2.result c.doubled-t3.result t 2 c.doubled-t3.ensures e2 in
    let e4 = next_tweak c.doubled-t3.result c.doubled-t4.result t 3 c.doubled-t4.ensures e3 in
    let e5 = next_tweak c.doubled-t4.result c.doubled-t5.result t 4 c.doubled-t5.ensures e4 in
    let e6 = next_tweak c.doubled-t5.result c.doubled-t6.result t 5 c.doubled-t6.ensures e5 in
    let e7 = next_tweak c.doubled-t6.result c.doubled-t7.result t 6 c.doubled-t7.ensures e6 in
    below_eight (λ b. slice_index (t ∷ c.doubled-t1.result ∷ c.doubled-t2.result ∷ c.doubled-t3.result ∷ c.doubled-t4.result ∷ c.doubled-t5.result ∷ c.doubled-t6.result ∷ c.doubled-t7.result ∷ []) b ≡ alpha_times b t) e0 e1 e2 e3 e4 e5 e6 e7
