use Rattle.std.proofs.Common.{◌≡◌, ℕ, suc, ◌+◌, arith, ◌∙◌, ap}
use Rattle.luks_aes.specs.Aes.{add_round_key, round_key, state_after}
use Rattle.luks_aes.proofs.RoundFacts.{state_after_more, cipher_end}
use Rattle.luks_aes.proofs.block.cipher.Goals as goal

pub loop-i-init : goal.loop-i-init
unfolding state_after
loop-i-init c = c.key_added-state.ensures.value ∙ ap (add_round_key c.args.block) c.round_key-first.ensures

pub loop-i-preserved : goal.loop-i-preserved
loop-i-preserved c =
    let words = c.args.words.now in
    let next : c.loop-i.i + 1 ≡ suc c.loop-i.i = omega arith in
    c.round-next.ensures
    ∙ state_after_more words c.loop-i.i c.args.block c.loop-i.state c.round_key-key.result c.loop-i.invariant (c.round_key-key.ensures ∙ ap (round_key words) next)

pub returns : goal.returns
returns c =
    let words = c.args.words.now in
    let last : c.loop-i.i ≡ c.args.rounds = omega arith in
    c.key_added-sealed.ensures.value
    ∙ ap (λ s. add_round_key s c.round_key-last.result) c.sub_and_shift-moved.ensures.value
    ∙ cipher_end words c.args.rounds c.args.block c.loop-i.state c.round_key-last.result
    (c.loop-i.invariant ∙ ap (λ (n : ℕ). state_after words n c.args.block) last) c.round_key-last.ensures
