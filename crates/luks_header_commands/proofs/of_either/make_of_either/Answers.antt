use Rattle.std.proofs.Common.{inl, None, refl, sym, subst}
use Rattle.luks_rebuilding.specs.RebuildFaults.{is_rebuild_failure}
use Rattle.luks_rebuilding.specs.declared.place.Which.{Which}
use Rattle.luks_rebuilding.specs.declared.rebuild_fault.RebuildFault.TheVariants.{Counts, NoMetadata}
use Rattle.luks_commands.specs.Answer.{rebuild_fault_answer}
use Rattle.luks_commands.specs.declared.answers.Answer.TheVariants.{Done}
use Rattle.luks_header_commands.specs.Rebuilding.{given_of, IsLuks2Answer, KeepsRest2, StaysLuks2, copies_asked}
use Rattle.luks_header_commands.specs.Target.{pair_of, Pair}
use Rattle.luks_header_commands.proofs.RebuildFacts.{answers_fault, counts_unfailed, other_stays, turned_answers, turned_rest, unfailed_as}
use Rattle.luks_commands.proofs.BesideFacts.{settled_by}
use Rattle.luks_header_commands.proofs.of_either.make_of_either.Goals as goal

pub returns-in-Ok-clause-answers : goal.returns-in-Ok-clause-answers
returns-in-Ok-clause-answers g c =
    let d : Pair = pair_of g.D.Device.size g.D.Device.bytes g.D.Device.failed c.args.volume.now c.rebuild.new.source c.args.target.now c.rebuild.new.target in
    inl (
      subst (λ (w : Which). IsLuks2Answer g.D.Device.tells w (given_of c.args.making.now.rebuilding) c.args.random.now d (Done None)) c.copies_asked-which.ensures (
        c.in-Ok.ensures.count,
        refl,
        c.in-Ok.ensures.faultless,
        λ told. record {
          rebuilt = c.in-Ok.ensures.rebuilt told told;
          well_formed = c.in-Ok.ensures.well_formed told told;
          opens = c.in-Ok.ensures.opens told told;
        },
      ),
      λ told. tt,
    )

pub returns-in-NoMetadata-clause-rest : goal.returns-in-NoMetadata-clause-rest
returns-in-NoMetadata-clause-rest g c = λ told.
    let unfailed = unfailed_as c.in-Err.fault NoMetadata c.in-NoMetadata.is tt in
    turned_rest c.args.making.now.rebuilding c.args.given.now c.copies_asked-which.result (g.D.Device.size c.args.target.now) c.args.random.now c.in-Err.fault NoMetadata
    (g.D.Device.bytes c.args.volume.now) (g.D.Device.bytes c.rebuild.new.source) (g.D.Device.bytes c.args.target.now) (g.D.Device.bytes c.rebuild.new.target) (g.D.Device.bytes c.make_where_led.new.target)
    tt c.copies_asked-which.ensures c.in-NoMetadata.is (c.in-Err.ensures.kept.same told) ((c.in-Err.ensures.refused unfailed).same told) (c.in-Err.ensures.fault told) (c.make_where_led.ensures.rest told)

pub returns-in-NoMetadata-clause-answers : goal.returns-in-NoMetadata-clause-answers
returns-in-NoMetadata-clause-answers g c =
    let unfailed = unfailed_as c.in-Err.fault NoMetadata c.in-NoMetadata.is tt in
    let count = counts_unfailed (is_rebuild_failure c.in-Err.fault) (g.D.Device.failed c.args.volume.now) (g.D.Device.failed c.rebuild.new.source) (g.D.Device.failed c.args.target.now) (g.D.Device.failed c.rebuild.new.target) unfailed c.in-Err.ensures.count in
    let d : Pair = pair_of g.D.Device.size g.D.Device.bytes g.D.Device.failed c.rebuild.new.source c.make_where_led.new.volume c.rebuild.new.target c.make_where_led.new.target in
    let e : Pair = pair_of g.D.Device.size g.D.Device.bytes g.D.Device.failed c.args.volume.now c.make_where_led.new.volume c.args.target.now c.make_where_led.new.target in
    turned_answers g.D.Device.tells c.args.making.now.rebuilding c.args.given.now c.args.random.now d e c.copies_asked-which.result c.in-Err.fault NoMetadata c.make_where_led.result tt c.copies_asked-which.ensures c.in-NoMetadata.is
    (record {
      volume = c.in-Err.ensures.kept.same;
      total = c.rebuild.ensures.size;
      old = (c.in-Err.ensures.refused unfailed).same;
      new = refl;
      volume_before = count.0;
      volume_after = refl;
      before = count.1;
      after = refl;
    })
    c.in-Err.ensures.fault c.make_where_led.ensures.answers

pub returns-in-Counts-clause-rest : goal.returns-in-Counts-clause-rest
returns-in-Counts-clause-rest g c = λ told.
    let unfailed = unfailed_as c.in-Err.fault Counts c.in-Counts.is tt in
    turned_rest c.args.making.now.rebuilding c.args.given.now c.copies_asked-which.result (g.D.Device.size c.args.target.now) c.args.random.now c.in-Err.fault Counts
    (g.D.Device.bytes c.args.volume.now) (g.D.Device.bytes c.rebuild.new.source) (g.D.Device.bytes c.args.target.now) (g.D.Device.bytes c.rebuild.new.target) (g.D.Device.bytes c.make_where_led-in-Counts.new.target)
    tt c.copies_asked-which.ensures c.in-Counts.is (c.in-Err.ensures.kept.same told) ((c.in-Err.ensures.refused unfailed).same told) (c.in-Err.ensures.fault told) (c.make_where_led-in-Counts.ensures.rest told)

pub returns-in-Counts-clause-answers : goal.returns-in-Counts-clause-answers
returns-in-Counts-clause-answers g c =
    let unfailed = unfailed_as c.in-Err.fault Counts c.in-Counts.is tt in
    let count = counts_unfailed (is_rebuild_failure c.in-Err.fault) (g.D.Device.failed c.args.volume.now) (g.D.Device.failed c.rebuild.new.source) (g.D.Device.failed c.args.target.now) (g.D.Device.failed c.rebuild.new.target) unfailed c.in-Err.ensures.count in
    let d : Pair = pair_of g.D.Device.size g.D.Device.bytes g.D.Device.failed c.rebuild.new.source c.make_where_led-in-Counts.new.volume c.rebuild.new.target c.make_where_led-in-Counts.new.target in
    let e : Pair = pair_of g.D.Device.size g.D.Device.bytes g.D.Device.failed c.args.volume.now c.make_where_led-in-Counts.new.volume c.args.target.now c.make_where_led-in-Counts.new.target in
    turned_answers g.D.Device.tells c.args.making.now.rebuilding c.args.given.now c.args.random.now d e c.copies_asked-which.result c.in-Err.fault Counts c.make_where_led-in-Counts.result tt c.copies_asked-which.ensures c.in-Counts.is
    (record {
      volume = c.in-Err.ensures.kept.same;
      total = c.rebuild.ensures.size;
      old = (c.in-Err.ensures.refused unfailed).same;
      new = refl;
      volume_before = count.0;
      volume_after = refl;
      before = count.1;
      after = refl;
    })
    c.in-Err.ensures.fault c.make_where_led-in-Counts.ensures.answers

pub returns-in_default-clause-answers : goal.returns-in_default-clause-answers
returns-in_default-clause-answers g c =
    let d : Pair = pair_of g.D.Device.size g.D.Device.bytes g.D.Device.failed c.args.volume.now c.rebuild.new.source c.args.target.now c.rebuild.new.target in
    inl (
      subst (IsLuks2Answer g.D.Device.tells (copies_asked c.args.making.now.rebuilding) (given_of c.args.making.now.rebuilding) c.args.random.now d) (sym c.refused.ensures)
          (subst (λ (w : Which). IsLuks2Answer g.D.Device.tells w (given_of c.args.making.now.rebuilding) c.args.random.now d (rebuild_fault_answer c.in-Err.fault)) c.copies_asked-which.ensures
          (answers_fault g.D.Device.tells c.copies_asked-which.result (given_of c.args.making.now.rebuilding) c.args.random.now d c.in-Err.fault c.in-Err.ensures.count
          (λ is. (c.in-Err.ensures.refused is).same) c.in-Err.ensures.fault)),
      λ told. subst (StaysLuks2 (g.D.Device.bytes c.args.volume.now)) (sym c.refused.ensures)
          (other_stays (g.D.Device.bytes c.args.volume.now) c.in-Err.fault c.in_default.not-NoMetadata c.in_default.not-Counts),
    )

pub returns-in_default-clause-settled : goal.returns-in_default-clause-settled
returns-in_default-clause-settled g c = λ told a b.
    settled_by g.D.Device.tells g.D.Device.size g.D.Device.bytes is_rebuild_failure _ _ _ _ c.rebuild.result c.rebuild.ensures.count
    (c.rebuild.ensures.settled told) c.rebuild.ensures.refused told a b (c.requires.settled told)

pub returns-in_default-clause-rest : goal.returns-in_default-clause-rest
returns-in_default-clause-rest g c = λ told.
    inl (subst (λ (w : Which). KeepsRest2 w (g.D.Device.bytes c.args.volume.now) (g.D.Device.bytes c.args.target.now) (g.D.Device.bytes c.rebuild.new.target)) c.copies_asked-which.ensures
    (c.rebuild.ensures.rest told told))
