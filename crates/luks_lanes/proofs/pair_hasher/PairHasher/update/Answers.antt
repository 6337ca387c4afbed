use Rattle.std.proofs.Common.{◌≡◌, ◌+◌, ◌-◌, ◌*◌, ◌/◌, ◌++◌, length, take, drop, refl, ap, ap₂, ◌∙◌, sym, arith, length-append}
use Rattle.sha2.specs.Sha256.{compress, hash_after, initial_hash_256}
use Rattle.sha2.proofs.Absorbing256.{hash_after_next, total_append}
use Rattle.luks_lanes.proofs.PairHasherFacts.{hash_after_both}
use Rattle.luks_lanes.proofs.pair_hasher.PairHasher.update.Goals as goal

pub pairs-init : goal.pairs-init
unfolding hash_after
pairs-init c = record {
  first = c.side_by_side-lanes.ensures.first;
  second = c.side_by_side-lanes.ensures.second;
}

pub pairs-preserved : goal.pairs-preserved
pairs-preserved c =
    let place : 64 * c.pairs.i ≡ c.pairs.i * 64 = omega arith in
    let long : 64 * c.pairs.i + 64 - 64 * c.pairs.i ≡ 64 = omega arith in record {
      first = c.taken-lanes.ensures.first
          ∙ ap₂ compress c.pairs.invariant.first (ap₂ (λ k n. take k (drop n c.args.first.now)) long place)
          ∙ sym (hash_after_next c.args.self.now.first c.args.first.now c.pairs.i);
      second = c.taken-lanes.ensures.second
          ∙ ap₂ compress c.pairs.invariant.second (ap₂ (λ k n. take k (drop n c.args.second.now)) long place)
          ∙ sym (hash_after_next c.args.self.now.second c.args.second.now c.pairs.i);
    }

pub returns : goal.returns
returns c = λ a b held.
    let f = c.args.first.now in
    let s = c.args.second.now in
    let la = length-append a f in
    let lb = length-append b s in record {
      whole = omega (arith, la, held.whole, c.requires.whole);
      alike = omega (arith, la, lb, held.alike, c.requires.alike);
      total = total_append _ _ a f held.total refl;
      first = c.lane_words-self.ensures ∙ c.pairs.invariant.first ∙ ap (λ h. hash_after h f c.pairs.i) held.first
          ∙ hash_after_both initial_hash_256 a f (length a / 64) c.pairs.i (omega (arith, held.whole))
          ∙ ap (hash_after initial_hash_256 (a ++ f)) (omega (arith, la, held.whole, c.requires.whole));
      second = c.lane_words-self-2.ensures ∙ c.pairs.invariant.second ∙ ap (λ h. hash_after h s c.pairs.i) held.second
          ∙ hash_after_both initial_hash_256 b s (length b / 64) c.pairs.i (omega (arith, held.whole, held.alike))
          ∙ ap (hash_after initial_hash_256 (b ++ s)) (omega (arith, lb, held.whole, held.alike, c.requires.whole, c.requires.alike));
    }
