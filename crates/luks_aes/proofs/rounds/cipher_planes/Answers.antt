use Rattle.std.proofs.Common.{◌≡◌, ℕ, suc, ◌+◌, [], arith, ◌∙◌, ap}
use Rattle.std.specs.Prelude.{slice_index_or}
use Rattle.luks_aes.specs.Aes.{add_round_key, round_key, state_after}
use Rattle.luks_aes.proofs.RoundFacts.{state_after_more, cipher_end}
use Rattle.luks_aes.specs.Planes.{block_of}
use Rattle.luks_aes.proofs.rounds.cipher_planes.Goals as goal

pub loop-i-init : goal.loop-i-init
unfolding state_after
loop-i-init c = λ words are b low.
    c.key_added-state.ensures b low ∙ ap (add_round_key (block_of b c.args.first)) (are 0 b (omega arith) low)

pub loop-i-preserved : goal.loop-i-preserved
loop-i-preserved c = λ words are b low.
    let next : c.loop-i.i + 1 ≡ suc c.loop-i.i = omega arith in
    let key = slice_index_or c.args.keys.now (c.loop-i.i + 1) [] in
    c.round-next.ensures b low
    ∙ state_after_more words c.loop-i.i (block_of b c.args.first) (block_of b c.loop-i.state) (block_of b key) (c.loop-i.invariant words are b low) (are (c.loop-i.i + 1) b (omega arith) low ∙ ap (round_key words) next)

pub returns : goal.returns
returns c = λ words are b low.
    let last : c.loop-i.i ≡ c.args.rounds = omega arith in
    let key = slice_index_or c.args.keys.now (c.args.rounds + 1) [] in
    c.last_round.ensures b low
    ∙ cipher_end words c.args.rounds (block_of b c.args.first) (block_of b c.loop-i.state) (block_of b key)
    (c.loop-i.invariant words are b low ∙ ap (λ (n : ℕ). state_after words n (block_of b c.args.first)) last) (are (c.args.rounds + 1) b (omega arith) low)
