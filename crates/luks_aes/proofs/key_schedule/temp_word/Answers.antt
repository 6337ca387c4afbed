use Rattle.std.proofs.Common.{sym, ◌∙◌}
use Rattle.luks_aes.specs.Aes.{sub_word, word_by}
use Rattle.luks_aes.proofs.ScheduleFacts.{temp_word_at_multiple, temp_word_in_middle, temp_word_elsewhere_short, temp_word_elsewhere_long}
use Rattle.luks_aes.proofs.key_schedule.temp_word.Goals as goal
use Rattle.luks_aes.proofs.key_schedule.temp_word.Goals.{else-key_words-gt6-via-then-key_words-gt6+else-i-key_words-eq4, else-key_words-gt6-via-else-key_words-gt6}

pub returns-then-i-key_words-eq0 : goal.returns-then-i-key_words-eq0
unfolding sub_word word_by
returns-then-i-key_words-eq0 c =
    rw (c.sub_word-word.ensures, c.power_of_2-constant.ensures)
    (sym (temp_word_at_multiple c.args.key_words c.args.i c.args.t c.if-i-key_words-eq0.true))

pub returns-then-i-key_words-eq4 : goal.returns-then-i-key_words-eq4
unfolding sub_word word_by
returns-then-i-key_words-eq4 c =
    c.sub_word.ensures ∙ (sym (temp_word_in_middle c.args.key_words c.args.i c.args.t c.if-key_words-gt6.true c.if-i-key_words-eq4.true))

pub returns-else-key_words-gt6 : goal.returns-else-key_words-gt6
returns-else-key_words-gt6 c =
    elim c.else-key_words-gt6.branch [
      | else-key_words-gt6-via-then-key_words-gt6+else-i-key_words-eq4 w ↦ sym (temp_word_elsewhere_long c.args.key_words c.args.i c.args.t c.if-i-key_words-eq0.false w.if-key_words-gt6.true w.if-i-key_words-eq4.false)
      | else-key_words-gt6-via-else-key_words-gt6 w ↦ sym (temp_word_elsewhere_short c.args.key_words c.args.i c.args.t c.if-i-key_words-eq0.false w.if-key_words-gt6.false)
    ]
