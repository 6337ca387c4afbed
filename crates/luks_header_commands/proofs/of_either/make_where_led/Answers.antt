use Rattle.std.proofs.Common.{refl, sym, true≢false, ◌∙◌}
use Rattle.luks_header_commands.specs.Target.{pair_of, Pair}
use Rattle.luks_header_commands.proofs.RebuildFacts.{turned_later, unled_stays}
use Rattle.luks_header_commands.proofs.of_either.make_where_led.Goals as goal

pub returns-in-Ok-true-clause-answers : goal.returns-in-Ok-true-clause-answers
returns-in-Ok-true-clause-answers g c =
    let d : Pair = pair_of g.D.Device.size g.D.Device.bytes g.D.Device.failed c.leads_to_luks1.new.volume c.make_luks1.new.volume c.args.target.now c.make_luks1.new.target in
    let e : Pair = pair_of g.D.Device.size g.D.Device.bytes g.D.Device.failed c.args.volume.now c.make_luks1.new.volume c.args.target.now c.make_luks1.new.target in
    turned_later g.D.Device.tells c.args.given.now c.args.fault d e c.make_luks1.result
    (record {
      volume = c.leads_to_luks1.ensures.unchanged.same;
      total = refl;
      old = λ told. refl;
      new = refl;
      volume_before = c.in-Ok-true.ensures.count;
      volume_after = refl;
      before = refl;
      after = refl;
    })
    c.make_luks1.ensures.answers

pub returns-in-Ok-false-clause-answers : goal.returns-in-Ok-false-clause-answers
returns-in-Ok-false-clause-answers g c =
    let d : Pair = pair_of g.D.Device.size g.D.Device.bytes g.D.Device.failed c.args.volume.now c.leads_to_luks1.new.volume c.args.target.now c.args.target.now in
    unled_stays g.D.Device.tells c.args.given.now c.args.fault d c.from.result c.requires.fault
    (c.in-Ok-false.ensures.count, refl) (λ told. refl)
    (λ told l. true≢false (sym ((c.in-Ok-false.ensures.leads told).1 l) ∙ c.in-Ok-false.field-0-test))
    c.from.ensures
