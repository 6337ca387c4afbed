use Rattle.std.proofs.Common.{◌∙◌, arith, below_more, sym}
use Rattle.std.proofs.lemmas.Bool.{false≢true}
use Rattle.luks_meta.specs.Content.{content}
use Rattle.luks2_judging.proofs.KeyFacts.{first_keyslot, none_left}
use Rattle.luks2_judging.proofs.keys.like_of.Goals as goal
use Rattle.luks2_judging.proofs.keys.like_of.Goals.{else-is_keyslot_of-via-then-is_keyslot_of+else-has_key_of, else-is_keyslot_of-via-else-is_keyslot_of}

pub returns-then-has_key_of : goal.returns-then-has_key_of
returns-then-has_key_of c =
    first_keyslot (content c.args.meta.now) c.args.digest c.args.len c.loop-n.n c.loop-n.invariant (c.is_keyslot_of.ensures.0 c.if-is_keyslot_of.true) (c.has_key_of.ensures.0 c.if-has_key_of.true)

pub loop-n-preserved : goal.loop-n-preserved
loop-n-preserved c =
    below_more _ _ c.loop-n.invariant (λ names long.
    elim c.else-is_keyslot_of.branch [
      | else-is_keyslot_of-via-then-is_keyslot_of+else-has_key_of w ↦ false≢true (sym w.if-has_key_of.false ∙ w.has_key_of.ensures.1 long)
      | else-is_keyslot_of-via-else-is_keyslot_of w ↦ false≢true (sym w.if-is_keyslot_of.false ∙ c.is_keyslot_of.ensures.1 names)
    ])

pub returns : goal.returns
returns c = none_left (content c.args.meta.now) c.args.digest c.args.len c.loop-n.n (omega arith) c.loop-n.invariant c.requires.long
