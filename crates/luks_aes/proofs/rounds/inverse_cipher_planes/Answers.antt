use Rattle.std.proofs.Common.{◌≡◌, ℕ, suc, ◌+◌, ◌-◌, [], arith, sym, ◌∙◌, ap}
use Rattle.std.specs.Prelude.{slice_index_or}
use Rattle.luks_aes.specs.Aes.{add_round_key, state_before, inverse_shift_rows, inverse_sub_bytes, inverse_cipher, round_key}
use Rattle.luks_aes.proofs.RoundFacts.{state_before_less, state_before_end}
use Rattle.luks_aes.specs.Planes.{block_of}
use Rattle.luks_aes.proofs.rounds.inverse_cipher_planes.Goals as goal

pub loop-i-init : goal.loop-i-init
loop-i-init c = λ words are b low.
    let all : c.args.rounds - 0 ≡ c.args.rounds = omega arith in
    ap (λ (n : ℕ). state_before words n (block_of b c.undo_last_round-state.result)) all

pub loop-i-preserved : goal.loop-i-preserved
loop-i-preserved c = λ words are b low.
    let n = c.args.rounds - (c.loop-i.i + 1) in
    let left : c.args.rounds - c.loop-i.i ≡ suc n = omega arith in
    let key = slice_index_or c.args.keys.now (c.args.rounds - c.loop-i.i) [] in
    ap (state_before words n) (c.undo_round-next.ensures b low)
    ∙ state_before_less words n (block_of b c.loop-i.state) (block_of b key) (are (c.args.rounds - c.loop-i.i) b (omega arith) low ∙ ap (round_key words) left)
    ∙ ap (λ (m : ℕ). state_before words m (block_of b c.loop-i.state)) (sym left)
    ∙ c.loop-i.invariant words are b low

pub returns : goal.returns
unfolding inverse_cipher
returns c = λ words are b low.
    let r = c.args.rounds in
    let none : r - c.loop-i.i ≡ 0 = omega arith in
    let key = slice_index_or c.args.keys.now 0 [] in
    c.key_added.ensures b low
    ∙ state_before_end words (block_of b c.loop-i.state) (block_of b key) (are 0 b (omega arith) low)
    ∙ ap (λ (m : ℕ). state_before words m (block_of b c.loop-i.state)) (sym none)
    ∙ c.loop-i.invariant words are b low
    ∙ ap (state_before words r) (c.undo_last_round-state.ensures b low
    ∙ ap (λ k. inverse_sub_bytes (inverse_shift_rows (add_round_key (block_of b c.args.last) k))) (are (r + 1) b (omega arith) low))
