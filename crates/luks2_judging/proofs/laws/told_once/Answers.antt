use Rattle.luks2_edit_laws.proofs.ToldFacts.{in_between, need_once, same_stripes}
use Rattle.luks2_judging.proofs.laws.told_once.Goals as goal

pub returns-clause-range : goal.returns-clause-range
returns-clause-range c = in_between

pub returns-clause-stripes : goal.returns-clause-stripes
returns-clause-stripes c = λ j n a b x y one two. (let same = same_stripes j n a b x y one two in (same.key_bytes, same.stripes))

pub returns-clause-need : goal.returns-clause-need
returns-clause-need c = need_once
