use Rattle.std.proofs.Common.{◌≡◌, ℕ, List, length, arith, sym, subst, ◌∙◌}
use Rattle.luks1_header.specs.Written.{WritesLuks1}
use Rattle.luks1_rebuilding.proofs.UsedFacts.{all_written, areas_rest, areas_stand, both_rest, first_waits}
use Rattle.luks1_rebuilding.proofs.rebuilding.write_over_cleared.Goals as goal

pub returns-in_err-copy_areas-clause-rest : goal.returns-in_err-copy_areas-clause-rest
returns-in_err-copy_areas-clause-rest g c = λ tells. areas_rest c.args.header.now.fields c.requires.apart (c.copy_areas.ensures.rest tells)

pub returns-in_err-copy_areas-clause-order : goal.returns-in_err-copy_areas-clause-order
returns-in_err-copy_areas-clause-order g c = λ source tells. first_waits c.args.header.now.fields c.requires.apart (g.S.Device.bytes c.args.source.now) (c.copy_areas.ensures.rest tells)

pub returns-in_err-write_range-clause-rest : goal.returns-in_err-write_range-clause-rest
returns-in_err-write_range-clause-rest g c = λ tells.
    let put : WritesLuks1 c.as_slice.result.now c.args.header.now.fields = subst (λ (b : List ℕ). WritesLuks1 b c.args.header.now.fields) (sym c.as_slice.ensures) c.requires.written in
    both_rest c.args.header.now.fields c.requires.apart c.as_slice.result.now put (c.copy_areas.ensures.rest tells) (c.write_range.ensures.outside tells)

pub returns-clause-rest : goal.returns-clause-rest
returns-clause-rest g c = λ tells.
    let put : WritesLuks1 c.as_slice.result.now c.args.header.now.fields = subst (λ (b : List ℕ). WritesLuks1 b c.args.header.now.fields) (sym c.as_slice.ensures) c.requires.written in
    both_rest c.args.header.now.fields c.requires.apart c.as_slice.result.now put (c.copy_areas.ensures.rest tells) (c.write_range.ensures.outside tells)

pub returns-in_err-write_range-clause-order : goal.returns-in_err-write_range-clause-order
returns-in_err-write_range-clause-order g c = λ source tells.
    let put : WritesLuks1 c.as_slice.result.now c.args.header.now.fields = subst (λ (b : List ℕ). WritesLuks1 b c.args.header.now.fields) (sym c.as_slice.ensures) c.requires.written in
    areas_stand c.args.header.now.fields c.requires.apart (g.S.Device.bytes c.args.source.now) (g.T.Device.bytes c.args.target.now) (g.T.Device.bytes c.copy_areas.new.target)
    (g.T.Device.bytes c.write_range.new.device) c.as_slice.result.now put (c.write_range.ensures.outside tells) (c.in_ok-copy_areas.ensures.copied source tells)

pub returns-clause-order : goal.returns-clause-order
returns-clause-order g c = λ source tells.
    let put : WritesLuks1 c.as_slice.result.now c.args.header.now.fields = subst (λ (b : List ℕ). WritesLuks1 b c.args.header.now.fields) (sym c.as_slice.ensures) c.requires.written in
    areas_stand c.args.header.now.fields c.requires.apart (g.S.Device.bytes c.args.source.now) (g.T.Device.bytes c.args.target.now) (g.T.Device.bytes c.copy_areas.new.target)
    (g.T.Device.bytes c.write_range.new.device) c.as_slice.result.now put (c.write_range.ensures.outside tells) (c.in_ok-copy_areas.ensures.copied source tells)

pub returns-clause-written : goal.returns-clause-written
returns-clause-written g c = λ source tells.
    let put : WritesLuks1 c.as_slice.result.now c.args.header.now.fields = subst (λ (b : List ℕ). WritesLuks1 b c.args.header.now.fields) (sym c.as_slice.ensures) c.requires.written in
    let v = g.T.Device.bytes c.copy_areas.new.target in
    let size : length v ≡ g.T.Device.size c.args.target.now = g.met.T.Device.sized c.copy_areas.new.target tells ∙ c.copy_areas.ensures.size in
    let large = c.requires.large in
    all_written c.args.header.now.fields c.requires.apart (g.S.Device.bytes c.args.source.now) v (g.T.Device.bytes c.write_range.new.device) c.as_slice.result.now put
    (c.write_range.ensures.outside tells) (c.in_ok-copy_areas.ensures.copied source tells) (omega (arith, size, large)) (c.in_ok-write_range.ensures.wrote tells) c.args.header.now.bytes c.as_slice.ensures
