use Rattle.std.proofs.Common.{refl}
use Rattle.std.proofs.lemmas.Bool.{eq-eqb, ne_eqb}
use Rattle.luks_argon2.specs.Indexing.{reference_lane}
use Rattle.luks_argon2.proofs.indexing.reference_lane.Goals as goal

pub returns-then-slice-eq0-clause-exact : goal.returns-then-slice-eq0-clause-exact
unfolding reference_lane
returns-then-slice-eq0-clause-exact c = rw (eq-eqb c.args.slice 0 c.if-slice-eq0.true) refl

pub returns-else-slice-eq0-clause-exact : goal.returns-else-slice-eq0-clause-exact
unfolding reference_lane
returns-else-slice-eq0-clause-exact c = rw (ne_eqb c.args.slice 0 c.if-slice-eq0.false) refl
