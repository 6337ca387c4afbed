-- The end of both copies of the header that was chosen.
use Rattle.std.proofs.Common.{◌+◌, ◌∙◌, subst, sym, ap}
use Rattle.luks2_header.specs.Selection.{IsSelected}
use Rattle.luks2_header.specs.declared.selection.Selected.TheVariants.{V2}
use Rattle.luks_notes.specs.HeaderEnd.{of_luks2}
use Rattle.luks_notes.proofs.ending.header_end.Goals as goal

-- the chosen copy stands where its header says, and both have the size that it names
pub returns-in-Ok-V2-clause-end : goal.returns-in-Ok-V2-clause-end
returns-in-Ok-V2-clause-end g c t =
    let v = g.D.Device.bytes c.args.device.now in
    let h = c.in-Ok-V2.header in
    let selected : IsSelected v (V2 h c.in-Ok-V2.field-0-1) =
    subst (IsSelected v) c.in-Ok-V2.field-0-is (c.in-Ok-V2.ensures.found t) in
    of_luks2 h.hdr_offset c.in-Ok-V2.field-0-1 selected.0 (c.both_copies.ensures.both ∙ ap (λ n. n + n) (sym selected.1.hdr_size))
