use Rattle.std.proofs.Common.{◌≡◌, ◌+◌, ◌-◌, ◌*◌, ap, refl, sym, ◌∙◌, length, take, List, ℕ, arith}
use Rattle.luks_aes.specs.Aes.{schedule, word, word_xor, word_by}
use Rattle.luks_aes.proofs.ScheduleFacts.{schedule_step, word_written}
use borrow.Rule.Slice.PartMut.{put_mid}
use Rattle.luks_aes.proofs.key_schedule.add_words.Goals as goal

pub loop-i-init : goal.loop-i-init
unfolding schedule
loop-i-init c =
    let none : c.args.key_words - c.args.key_words ≡ 0 = omega arith in
    (rw none refl, c.last_word-before.ensures)

pub next_word-next-requires-clause-before : goal.next_word-next-requires-clause-before
next_word-next-requires-clause-before c = c.loop-i.invariant.1

pub loop-i-preserved : goal.loop-i-preserved
unfolding word_xor word_by
loop-i-preserved c =
    let i = c.loop-i.i in
    let long = ap length c.next_word-next.ensures in (
      ap (λ ys. take (4 * (i + 1)) (put_mid (4 * i) (4 * i + 4 - 4 * i) c.loop-i.words ys)) c.copy_from_slice.ensures.after
          ∙ schedule_step c.args.key_words i (take (4 * c.args.key_words) c.args.words.now) c.loop-i.words c.next_word-next.result
          (omega arith) c.loop-i.auto.i (omega arith) long c.loop-i.invariant.0 c.next_word-next.ensures,
      word_written i c.loop-i.words c.next_word-next.result (omega arith) long
          ∙ ap (λ (ys : List ℕ). word (take (4 * (i + 1)) (put_mid (4 * i) (4 * i + 4 - 4 * i) c.loop-i.words ys)) (i + 1 - 1)) (sym c.copy_from_slice.ensures.after),
    )

pub returns : goal.returns
returns c =
    let n = c.args.key_words in
    let end : 16 * n + 112 ≡ 4 * c.loop-i.i = omega arith in
    let made : c.loop-i.i - n ≡ 3 * n + 28 = omega arith in
    ap (λ k. take k c.loop-i.words) end ∙ c.loop-i.invariant.0 ∙ ap (schedule n (take (4 * n) c.args.words.now)) made
