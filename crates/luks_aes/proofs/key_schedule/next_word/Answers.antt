use Rattle.std.proofs.Common.{ap, ◌∙◌}
use Rattle.luks_aes.specs.Aes.{word_xor, word_by, temp_word}
use Rattle.luks_aes.proofs.ScheduleFacts.{next_word_is}
use Rattle.luks_aes.proofs.key_schedule.next_word.Goals as goal

pub returns : goal.returns
unfolding word_xor word_by
returns c =
    next_word_is c.args.words.now c.temp_word-temp.result c.args.key_words c.args.i
    (c.temp_word-temp.ensures ∙ ap (temp_word c.args.key_words c.args.i) c.requires.before)
