use Rattle.std.proofs.Common.{◌≡◌, ℕ, suc, ◌+◌, ◌-◌, arith, sym, ◌∙◌, ap}
use Rattle.luks_aes.specs.Aes.{add_round_key, state_before, inverse_shift_rows, inverse_sub_bytes, inverse_cipher, round_key}
use Rattle.luks_aes.proofs.RoundFacts.{state_before_less, state_before_end}
use Rattle.luks_aes.proofs.block.inverse_cipher.Goals as goal

pub loop-i-init : goal.loop-i-init
loop-i-init c =
    let all : c.args.rounds - 0 ≡ c.args.rounds = omega arith in
    ap (λ (n : ℕ). state_before c.args.words.now n c.shift_and_sub_back-state.result) all

pub loop-i-preserved : goal.loop-i-preserved
loop-i-preserved c =
    let words = c.args.words.now in
    let n = c.args.rounds - (c.loop-i.i + 1) in
    let left : c.args.rounds - c.loop-i.i ≡ suc n = omega arith in
    ap (state_before words n) c.undo_round-next.ensures
    ∙ state_before_less words n c.loop-i.state c.round_key-key.result (c.round_key-key.ensures ∙ ap (round_key words) left)
    ∙ ap (λ (m : ℕ). state_before words m c.loop-i.state) (sym left)
    ∙ c.loop-i.invariant

pub returns : goal.returns
unfolding inverse_cipher
returns c =
    let words = c.args.words.now in
    let r = c.args.rounds in
    let none : r - c.loop-i.i ≡ 0 = omega arith in
    c.key_added-opened.ensures.value
    ∙ state_before_end words c.loop-i.state c.round_key-first.result c.round_key-first.ensures
    ∙ ap (λ (m : ℕ). state_before words m c.loop-i.state) (sym none)
    ∙ c.loop-i.invariant
    ∙ ap (state_before words r) (c.shift_and_sub_back-state.ensures.value
    ∙ ap (λ s. inverse_sub_bytes (inverse_shift_rows s)) (c.key_added-sum.ensures.value ∙ ap (add_round_key c.args.block) c.round_key-last.ensures))
