use Rattle.std.proofs.Common.{subst}
use Rattle.luks_trials.specs.Metadata.{IsMetaOf}
use Rattle.luks2_searching.proofs.ResultFacts.{yes_all, yes_so}
use Rattle.luks2_searching.proofs.replacing.opens_with.Goals as goal

pub returns-clause-opens : goal.returns-clause-opens
returns-clause-opens g c = λ tells. yes_so c.opens.result _ (c.opens.ensures.opens tells c.args.json.now (subst (IsMetaOf c.args.json.now) c.in-Some.is c.in_ok-meta.ensures.meta))

pub returns-clause-digest : goal.returns-clause-digest
returns-clause-digest g c =
    yes_all c.opens.result _ (c.has_digest.ensures c.if-not-has_digest.false c.args.json.now (subst (IsMetaOf c.args.json.now) c.in-Some.is c.in_ok-meta.ensures.meta))
