use Rattle.std.proofs.Common.{ap, ◌∙◌, ◌%◌}
use Rattle.std.proofs.lemmas.List.{map-set}
use Rattle.sha1.proofs.Schedule.{rounds_window}
use Rattle.luks_rounds.specs.Quad.{lane, window, word_of}
use Rattle.luks_rounds.proofs.quad_rounds.step.Goals as goal

pub returns : goal.returns
returns c = λ j b h lt held.
    let t = c.args.t in
    let word = c.next_word-word.ensures in
    let moved = ap (window j) word.window ∙ map-set (word_of j) c.args.w.now (t % 16) c.next_word-word.result in
    rounds_window b h (window j c.args.w.now) (lane j c.args.v) t _ _ _ _ _ c.requires.low c.requires.high held.0 held.1
    (word.value j lt) moved (c.mixed.ensures j lt) c.constant.ensures (c.round.ensures j lt)
