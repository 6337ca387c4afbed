use Rattle.std.proofs.Common.{◌≡◌, subst}
use Rattle.std.proofs.lemmas.Option.{same_Some}
use Rattle.luks_making.specs.Naming.{IsDigestOf}
use Rattle.luks_meta.specs.Content.{content}
use Rattle.luks2_judging.proofs.rows.is_only_one.Goals as goal

pub returns-in-Some-clause-only : goal.returns-in-Some-clause-only
returns-in-Some-clause-only c = λ yes. record { digest = c.in-Some.digest; names = c.in-Some.ensures.some; only = c.is_only_name.ensures.only yes }

pub returns-in-Some-clause-other : goal.returns-in-Some-clause-other
returns-in-Some-clause-other c = λ no one. c.is_only_name.ensures.other no (λ n names.
    (let same : c.in-Some.digest ≡ one.digest = same_Some c.in-Some.digest one.digest (c.in-Some.ensures.only one.digest one.names) in
    one.only n (subst (λ d. IsDigestOf (content c.args.meta.now) n d) same names)))
