use Rattle.std.proofs.Common.{ℕ, List, subst, ◌∙◌, arith}
use Rattle.luks_area.specs.Device.{unchanged-then}
use Rattle.luks_area.proofs.RangeFacts.{same_but-then}
use Rattle.luks_converting.specs.Converted.{HasCopiedArea}
use Rattle.luks_converting.proofs.AreaFacts.{next_copied, one_of}
use Rattle.luks_converting.proofs.SourceFacts.{low_of}
use Rattle.luks_converting.proofs.areas.copy_areas.Goals as goal

pub returns-in_err-copy_keyslot-clause-rest : goal.returns-in_err-copy_keyslot-clause-rest
returns-in_err-copy_keyslot-clause-rest g c = λ tells.
    same_but-then (c.loop-n.invariant.rest tells) (one_of c.args.header.now.bytes c.loop-n.n (c.copy_keyslot.ensures.rest tells))

pub loop-n-preserved : goal.loop-n-preserved
loop-n-preserved g c = record {
  kept = unchanged-then c.loop-n.invariant.kept c.in_ok-copy_keyslot.ensures.kept;
  size = c.in_ok-copy_keyslot.ensures.size ∙ c.loop-n.invariant.size;
  source_count = c.in_ok-copy_keyslot.ensures.count.0 ∙ c.loop-n.invariant.source_count;
  count = c.in_ok-copy_keyslot.ensures.count.1 ∙ c.loop-n.invariant.count;
  settled = λ tells. c.in_ok-copy_keyslot.ensures.settled tells;
  copied = λ source tells.
      let h : List ℕ = c.args.header.now.bytes in
      let v : List ℕ = g.S.Device.bytes c.args.source.now in
      next_copied h v (g.T.Device.bytes c.loop-n.target) (g.T.Device.bytes c.copy_keyslot.new.target) c.loop-n.n (c.loop-n.invariant.copied source tells)
      (c.in_ok-copy_keyslot.ensures.rest tells)
      (λ on. subst (λ (s : List ℕ). HasCopiedArea h s c.loop-n.n (g.T.Device.bytes c.copy_keyslot.new.target)) (c.loop-n.invariant.kept.same source)
      (c.in_ok-copy_keyslot.ensures.copied source tells on));
  rest = λ tells.
      same_but-then (c.loop-n.invariant.rest tells) (one_of c.args.header.now.bytes c.loop-n.n (c.in_ok-copy_keyslot.ensures.rest tells));
}

pub returns-clause-copied : goal.returns-clause-copied
returns-clause-copied g c = λ source tells n on. c.loop-n.invariant.copied source tells n (let low = low_of c.args.header.now.bytes n on in omega (arith, low)) on
