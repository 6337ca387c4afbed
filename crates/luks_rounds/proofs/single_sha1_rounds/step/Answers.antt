use Rattle.sha1.proofs.Schedule.{rounds_window}
use Rattle.luks_rounds.proofs.single_sha1_rounds.step.Goals as goal

pub returns : goal.returns
returns c = λ b h held.
    let word = c.next_word-word.ensures in
    rounds_window b h c.args.w.now c.args.v c.args.t _ _ _ _ _ c.requires.low c.requires.high held.0 held.1
    word.value word.window c.mixed.ensures c.constant.ensures c.round.ensures
