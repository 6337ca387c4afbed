use Rattle.std.proofs.Common.{refl, ap}
use Rattle.sha1.specs.Sha1.{add_state, compress, rounds}
use Rattle.luks_rounds.specs.Quad.{lane}
use Rattle.luks_rounds.proofs.quad_rounds.compress_window.Goals as goal

pub returns : goal.returns
unfolding compress rounds
returns c = λ j b lt win.
    let h = lane j c.args.state.now in
    let a1 = c.first_four_steps-v.ensures j b h lt win refl in
    let a2 = c.first_four_steps-v-2.ensures j b h lt win a1 in
    let a3 = c.first_four_steps-v-3.ensures j b h lt win a2 in
    let a4 = c.first_four_steps-v-4.ensures j b h lt win a3 in
    let s1 = c.four_steps-v.ensures j b h lt (win, a4) in
    let s2 = c.four_steps-v-2.ensures j b h lt s1 in
    let s3 = c.four_steps-v-3.ensures j b h lt s2 in
    let s4 = c.four_steps-v-4.ensures j b h lt s3 in
    let s5 = c.four_steps-v-5.ensures j b h lt s4 in
    let s6 = c.four_steps-v-6.ensures j b h lt s5 in
    let s7 = c.four_steps-v-7.ensures j b h lt s6 in
    let s8 = c.four_steps-v-8.ensures j b h lt s7 in
    let s9 = c.four_steps-v-9.ensures j b h lt s8 in
    let s10 = c.four_steps-v-10.ensures j b h lt s9 in
    let s11 = c.four_steps-v-11.ensures j b h lt s10 in
    let s12 = c.four_steps-v-12.ensures j b h lt s11 in
    let s13 = c.four_steps-v-13.ensures j b h lt s12 in
    let s14 = c.four_steps-v-14.ensures j b h lt s13 in
    let s15 = c.four_steps-v-15.ensures j b h lt s14 in
    let s16 = c.four_steps-v-16.ensures j b h lt s15 in
    rw (
      c.add.ensures j lt,
      c.add-2.ensures j lt,
      c.add-3.ensures j lt,
      c.add-4.ensures j lt,
      c.add-5.ensures j lt,
    )
    (ap (add_state h) s16.1)
