use Rattle.std.proofs.Common.{ap, sym, ◌∙◌}
use Rattle.luks_modes.specs.Cbc.{CbcSeal, sealed_from}
use Rattle.luks_modes.proofs.cbc.CbcKey.open_sector.Goals as goal

pub returns-clause-undone : goal.returns-clause-undone
returns-clause-undone c =
    let key = c.self.inside.blocks in
    let new = c.open_from.new.bytes in
    ap (λ k. CbcSeal k c.args.sector new) (sym c.self.view_is)
    ∙ ap (λ iv. sealed_from key iv new) (sym (c.of_sector-iv.ensures key c.self.invariant.1))
    ∙ c.open_from.ensures.undone c.self.invariant.0
