use Rattle.std.proofs.Common.{◌∙◌, refl, subst, sym}
use Rattle.luks_underway.specs.Slots.{TellsWideKeyslot}
use Rattle.luks_wider.specs.Underways.{content}
use Rattle.luks_wide_reading.proofs.UnderwayPlans.{absent_rank, keyed_rank, unkeyed, unkeyed_rank}
use Rattle.luks_wide_reading.proofs.trying.is_of_rank.Goals as goal

pub returns-in-Some-Luks2 : goal.returns-in-Some-Luks2
returns-in-Some-Luks2 c =
    let j = content c.args.copy.now.meta in
    let slot = c.in-Some-Luks2.ensures.some in
    let tells = subst (TellsWideKeyslot slot.object) c.in-Some-Luks2.field-0-is slot.tells_members in
    c.is_ranked.ensures ∙ sym (keyed_rank c.args.rank j slot.object c.args.n c.in-Some-Luks2.keyslot slot.is tells)

pub returns-in-Some-Reencrypt : goal.returns-in-Some-Reencrypt
returns-in-Some-Reencrypt c =
    let j = content c.args.copy.now.meta in
    let slot = c.in-Some-Reencrypt.ensures.some in
    let tells = subst (TellsWideKeyslot slot.object) c.in-Some-Reencrypt.field-0-is slot.tells_members in
    sym (unkeyed_rank c.args.rank j c.args.n (unkeyed j slot.object c.args.n slot.is tells.0))

pub returns-in-None : goal.returns-in-None
returns-in-None c = sym (absent_rank c.args.rank (content c.args.copy.now.meta) c.args.n (c.in-None.ensures.none refl c.requires))
