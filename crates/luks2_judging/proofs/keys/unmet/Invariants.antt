use Rattle.luks_meta.specs.Content.{content}
use Rattle.luks2_judging.proofs.DigestFacts.{IsUnmetSoFar}
use Rattle.luks2_judging.proofs.keys.unmet.Given as goal

-- of the digests before this one each that takes the key has a known hash, and it's known whether one does
abbrev pub invariant-loop-number : goal.invariant-loop-number
invariant-loop-number l = IsUnmetSoFar l.older (content l.meta) l.key l.number l.taken
