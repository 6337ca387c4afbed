use Rattle.std.proofs.Common.{ap, subst, sym, ◌∙◌}
use Rattle.luks_area.specs.declared.area.Area.{Area}
use Rattle.luks1_mending.specs.Areas.{stripes_area}
use Rattle.luks1_mending.specs.Mended.{IsFree}
use Rattle.luks1_mending.proofs.MendedFacts.{no_step, not_free}
use Rattle.luks1_mending.proofs.mended.place_by_pair.Goals as goal

pub returns-in-None-clause-none : goal.returns-in-None-clause-none
returns-in-None-clause-none c = no_step c.args.header.now c.args.key_bytes c.args.total c.args.pair c.args.n c.requires.pair c.in-None.ensures.none

pub returns-else-is_free-clause-none : goal.returns-else-is_free-clause-none
returns-else-is_free-clause-none c =
    let h = c.args.header.now in
    let k = c.args.key_bytes in
    let area = c.stripes_area.ensures ∙ ap (λ t. stripes_area k c.in-Some.sector t) c.stripes_of-stripes.ensures in
    not_free h k c.args.total c.args.pair c.args.n c.requires.pair c.in-Some.sector c.in-Some.ensures.some
    (λ free. (let yes = c.is_free.ensures.1 (subst (λ (a : Area). IsFree h k c.args.total a) (sym area) free) in let no = c.if-is_free.false in absurd (cc)))
