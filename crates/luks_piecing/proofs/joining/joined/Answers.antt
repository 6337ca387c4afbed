use Rattle.std.proofs.Common.{rules}
use Rattle.luks_meta.specs.Accepted.{IsMeta}
use Rattle.luks_meta.specs.Content.{content}
use Rattle.luks_trials.specs.Metadata.{OpensAt}
use Rattle.luks_piecing.proofs.WrittenFacts.{some_then}
use Rattle.luks_piecing.proofs.joining.joined.Goals as goal

pub returns-clause-opens : goal.returns-clause-opens
returns-clause-opens g c = λ tells.
    let allowed = c.args.trying.now.allowed in
    let v = g.D.Device.bytes c.args.source.now in
    let p = c.args.trying.now.passphrase.now in
    some_then c.written.result (λ json. IsMeta json.items (content c.in-Some.meta)) (λ json. OpensAt allowed v p json.items c.args.parts.now.slot)
    c.written.ensures.accepted (λ json meta. (c.in_ok-opens.ensures.opens tells json.items meta).0 (search rules))
