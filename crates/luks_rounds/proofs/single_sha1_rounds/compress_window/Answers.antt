use Rattle.std.proofs.Common.{refl, ap}
use Rattle.sha1.specs.Sha1.{add_state, compress, rounds}
use Rattle.luks_rounds.proofs.single_sha1_rounds.compress_window.Goals as goal

pub returns : goal.returns
unfolding compress rounds
returns c = λ b win.
    let h = c.args.state.now in
    let a1 = c.first_four_steps-v.ensures b h win refl in
    let a2 = c.first_four_steps-v-2.ensures b h win a1 in
    let a3 = c.first_four_steps-v-3.ensures b h win a2 in
    let a4 = c.first_four_steps-v-4.ensures b h win a3 in
    let s1 = c.four_steps-v.ensures b h (win, a4) in
    let s2 = c.four_steps-v-2.ensures b h s1 in
    let s3 = c.four_steps-v-3.ensures b h s2 in
    let s4 = c.four_steps-v-4.ensures b h s3 in
    let s5 = c.four_steps-v-5.ensures b h s4 in
    let s6 = c.four_steps-v-6.ensures b h s5 in
    let s7 = c.four_steps-v-7.ensures b h s6 in
    let s8 = c.four_steps-v-8.ensures b h s7 in
    let s9 = c.four_steps-v-9.ensures b h s8 in
    let s10 = c.four_steps-v-10.ensures b h s9 in
    let s11 = c.four_steps-v-11.ensures b h s10 in
    let s12 = c.four_steps-v-12.ensures b h s11 in
    let s13 = c.four_steps-v-13.ensures b h s12 in
    let s14 = c.four_steps-v-14.ensures b h s13 in
    let s15 = c.four_steps-v-15.ensures b h s14 in
    let s16 = c.four_steps-v-16.ensures b h s15 in
    ap (add_state h) s16.1
