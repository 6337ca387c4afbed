use Rattle.std.proofs.Common.{◌≡◌, ◌*◌, ◌-◌, take}
use Rattle.luks_aes.specs.Aes.{schedule, word}
use Rattle.luks_aes.proofs.key_schedule.add_words.Given as goal

abbrev pub invariant-loop-i : goal.invariant-loop-i
invariant-loop-i l =
    (take (4 * l.i) l.words ≡ schedule l.key_words (take (4 * l.key_words) l.initial.words) (l.i - l.key_words)) × (l.before ≡ word (take (4 * l.i) l.words) (l.i - 1))
