use Rattle.luks_header_commands.proofs.TryingFacts.{tried_answers, tried_kept, untried_answers, untried_kept}
use Rattle.luks_header_commands.proofs.rebuild.run.Goals as goal

pub returns-in-Some-clause-rest : goal.returns-in-Some-clause-rest
returns-in-Some-clause-rest g c =
    tried_kept c.args.rebuilding.now.passphrase c.in-Some.file c.in-Some.is _ _ _ c.args.rebuilding.now _ _ _ _ c.make_tried.ensures.rest

pub returns-in-Some-clause-answers : goal.returns-in-Some-clause-answers
returns-in-Some-clause-answers g c = λ apart.
    tried_answers c.args.rebuilding.now.passphrase c.in-Some.file c.in-Some.is _ _ _ _ c.args.rebuilding.now _ _ _ _ _ _ _ _ _ _
    (c.make_tried.ensures.answers apart)

pub returns-in-None-clause-rest : goal.returns-in-None-clause-rest
returns-in-None-clause-rest g c =
    untried_kept c.args.rebuilding.now.passphrase c.in-None.is _ _ _ c.args.rebuilding.now _ _ _ _ c.make_header.ensures.rest

pub returns-in-None-clause-answers : goal.returns-in-None-clause-answers
returns-in-None-clause-answers g c = λ apart.
    untried_answers c.args.rebuilding.now.passphrase c.in-None.is _ _ _ _ c.args.rebuilding.now _ _ _ _ _ _ _ _ _ _
    (c.make_header.ensures.answers apart)
