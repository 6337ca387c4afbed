use Rattle.std.proofs.Common.{ap, subst}
use Rattle.luks_making.specs.Changed.{kdf_or}
use Rattle.luks_making.specs.Keyslots.{IsDerivedOr}
use Rattle.luks_making.proofs.laws.unchosen_derives_alike.Goals as goal

pub returns-clause-changed : goal.returns-clause-changed
returns-clause-changed c = λ f hash k none. ap (λ chosen. kdf_or f hash chosen k) none

pub returns-clause-made : goal.returns-clause-made
returns-clause-made c = λ d f s none made. subst (λ chosen. IsDerivedOr d f.derivation.iterations s.splitter_hash chosen s.derivation) none made.derivation
