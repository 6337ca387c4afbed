use Rattle.std.proofs.Common.{[], ◌∷◌, ◌++◌, inl, ap, ◌∙◌}
use Rattle.luks_rebuilding.specs.declared.standing.Standing.{Standing}
use Rattle.luks_rebuilding.proofs.HeaderFacts.{mended_seqid}
use Rattle.luks_rebuilding.proofs.standing.add_standing.Goals as goal

pub returns-in-Ok-Some-clause-added : goal.returns-in-Ok-Some-clause-added
returns-in-Ok-Some-clause-added g c = λ t.
    let x = rw c.in-Ok-Some.field-0-is at c.in-Ok-Some.ensures.found t in
    let own = mended_seqid (g.D.Device.bytes c.args.source.now) c.args.place.at c.in-Ok-Some.header x.1 in
    inl (x.0, c.push.ensures.items ∙ ap (λ n. let y : Standing = record { place = c.args.place; seqid = n } in c.args.found.now.items ++ y ∷ []) own)
