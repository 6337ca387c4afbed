use Rattle.std.proofs.Common.{ℕ, List, sym, subst, ◌∙◌}
use Rattle.std.proofs.lemmas.Bool.{false≢true}
use Rattle.luks_keeping.specs.SameKeys.{IsKeyAnswer}
use Rattle.luks_keeping.proofs.KeyFacts.{shares_digest, shares_header, unread_answer}
use Rattle.luks_keeping.proofs.same_key.judge_key.Goals as goal

pub returns-then-shares_digest-clause-clear : goal.returns-then-shares_digest-clause-clear
returns-then-shares_digest-clause-clear g c = λ tells b x.
    shares_digest b (g.T.Device.bytes c.args.target.now) x.header c.in-Ok.other c.args.identity.now c.identity_of.result x.is c.identity_of.ensures x.is_header (c.in-Ok.ensures.read tells)
    (c.shares_digest.ensures.0 c.if-shares_digest.true)

pub returns-in-Ok-clause-refused : goal.returns-in-Ok-clause-refused
returns-in-Ok-clause-refused g c = λ tells b x same.
    false≢true (sym c.if-shares_digest.false ∙ c.shares_digest.ensures.1
    (shares_header b (g.T.Device.bytes c.args.target.now) x.header c.in-Ok.other c.args.identity.now c.identity_of.result x.is c.identity_of.ensures x.is_header (c.in-Ok.ensures.read tells) same))

pub returns-clause-refused : goal.returns-clause-refused
returns-clause-refused g c = λ tells b x.
    let t : List ℕ = g.T.Device.bytes c.args.target.now in
    subst (IsKeyAnswer b t) (sym c.key_fault.ensures) (unread_answer b t c.in-Err.fault (c.in-Err.ensures.refused tells))
