use Rattle.std.proofs.Common.{sym, refl, ap, ◌∙◌, ◌*◌, ◌-◌}
use Rattle.luks_reading.proofs.Luks1AreaFacts.{head-listed, lists-here, lists-elsewhere}
use Rattle.luks_reading.proofs.layout.luks1_areas.Goals as goal

pub returns-in-Here : goal.returns-in-Here
returns-in-Here c = λ h is.
    rw c.push-in-Here.ensures (lists-here h _ _ _ _ c.in-Here.is
    (c.to_end.ensures.start ∙ ap (λ x. x * 512) (c.from-start.ensures ∙ sym is.common.fields.payload_offset))
    (c.to_end.ensures.len ∙ ap (λ x. c.args.total - x) (sym c.to_end.ensures.start))
    (c.add_luks1_slots.ensures.listed h _ _ is
    (rw (c.push.ensures, c.new-areas.ensures) (head-listed h _ _ _ refl refl refl))))

pub returns-in-Elsewhere : goal.returns-in-Elsewhere
returns-in-Elsewhere c = λ h is.
    lists-elsewhere h _ _ _ c.in-Elsewhere.is
    (c.add_luks1_slots.ensures.listed h _ _ is
    (rw (c.push.ensures, c.new-areas.ensures) (head-listed h _ _ _ refl refl refl)))
