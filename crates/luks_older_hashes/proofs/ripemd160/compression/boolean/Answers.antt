use Rattle.std.proofs.Common.{refl}
use Rattle.std.proofs.lemmas.Bool.{ne_eqb}
use Rattle.luks_older_hashes.specs.Ripemd160.{boolean}
use Rattle.luks_older_hashes.proofs.ripemd160.compression.boolean.Goals as goal

pub returns-then-group-eq0 : goal.returns-then-group-eq0
unfolding boolean
returns-then-group-eq0 c = rw (c.if-group-eq0.true) refl

pub returns-then-group-eq1 : goal.returns-then-group-eq1
unfolding boolean
returns-then-group-eq1 c = rw (c.if-group-eq1.true) refl

pub returns-then-group-eq2 : goal.returns-then-group-eq2
unfolding boolean
returns-then-group-eq2 c = rw (c.if-group-eq2.true) refl

pub returns-then-group-eq3 : goal.returns-then-group-eq3
unfolding boolean
returns-then-group-eq3 c = rw (c.if-group-eq3.true) refl

pub returns-else-group-eq3 : goal.returns-else-group-eq3
unfolding boolean
returns-else-group-eq3 c =
    rw (ne_eqb c.args.group 0 c.if-group-eq0.false, ne_eqb c.args.group 1 c.if-group-eq1.false, ne_eqb c.args.group 2 c.if-group-eq2.false, ne_eqb c.args.group 3 c.if-group-eq3.false) refl
