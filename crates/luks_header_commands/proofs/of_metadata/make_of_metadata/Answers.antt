use Rattle.std.proofs.Common.{refl, sym, subst}
use Rattle.std.specs.Prelude.{None}
use Rattle.luks_rebuilding.specs.declared.place.Which.{Which}
use Rattle.luks_rebuilding.specs.RebuildFaults.{is_rebuild_failure}
use Rattle.luks_commands.specs.Answer.{rebuild_fault_answer}
use Rattle.luks_commands.specs.declared.answers.Answer.TheVariants.{Done}
use Rattle.luks_header_commands.specs.Target.{pair_of}
use Rattle.luks_header_commands.specs.Rebuilding.{given_of, copies_asked, IsLuks2Answer}
use Rattle.luks_header_commands.proofs.RebuildFacts.{answers_fault}
use Rattle.luks_commands.proofs.BesideFacts.{settled_by}
use Rattle.luks_header_commands.proofs.of_metadata.make_of_metadata.Goals as goal

pub returns-in-Ok-clause-answers : goal.returns-in-Ok-clause-answers
returns-in-Ok-clause-answers g c =
    subst (λ (w : Which). IsLuks2Answer g.D.Device.tells w (given_of c.args.making.now.rebuilding) c.args.random.now (pair_of g.D.Device.size g.D.Device.bytes g.D.Device.failed c.args.volume.now c.rebuild.new.source c.args.target.now c.rebuild.new.target) (Done None)) c.copies_asked-which.ensures (
      c.in-Ok.ensures.count,
      refl,
      c.in-Ok.ensures.faultless,
      λ told. record {
        rebuilt = c.in-Ok.ensures.rebuilt told told;
        well_formed = c.in-Ok.ensures.well_formed told told;
        opens = c.in-Ok.ensures.opens told told;
      },
    )

pub returns-in-Err-clause-answers : goal.returns-in-Err-clause-answers
returns-in-Err-clause-answers g c =
    subst (IsLuks2Answer g.D.Device.tells (copies_asked c.args.making.now.rebuilding) (given_of c.args.making.now.rebuilding) c.args.random.now (pair_of g.D.Device.size g.D.Device.bytes g.D.Device.failed c.args.volume.now c.rebuild.new.source c.args.target.now c.rebuild.new.target)) (sym c.not_of_metadata.ensures)
    (subst (λ (w : Which). IsLuks2Answer g.D.Device.tells w (given_of c.args.making.now.rebuilding) c.args.random.now (pair_of g.D.Device.size g.D.Device.bytes g.D.Device.failed c.args.volume.now c.rebuild.new.source c.args.target.now c.rebuild.new.target) (rebuild_fault_answer c.in-Err.fault)) c.copies_asked-which.ensures
    (answers_fault g.D.Device.tells c.copies_asked-which.result (given_of c.args.making.now.rebuilding) c.args.random.now (pair_of g.D.Device.size g.D.Device.bytes g.D.Device.failed c.args.volume.now c.rebuild.new.source c.args.target.now c.rebuild.new.target) c.in-Err.fault c.in-Err.ensures.count
    (λ is. (c.in-Err.ensures.refused is).same) c.in-Err.ensures.fault))

pub returns-in-Err-2-clause-answers : goal.returns-in-Err-2-clause-answers
returns-in-Err-2-clause-answers g c =
    subst (IsLuks2Answer g.D.Device.tells (copies_asked c.args.making.now.rebuilding) (given_of c.args.making.now.rebuilding) c.args.random.now (pair_of g.D.Device.size g.D.Device.bytes g.D.Device.failed c.args.volume.now c.rebuild.new.source c.args.target.now c.rebuild.new.target)) (sym c.not_of_metadata-in-Err-2.ensures)
    (subst (λ (w : Which). IsLuks2Answer g.D.Device.tells w (given_of c.args.making.now.rebuilding) c.args.random.now (pair_of g.D.Device.size g.D.Device.bytes g.D.Device.failed c.args.volume.now c.rebuild.new.source c.args.target.now c.rebuild.new.target) (rebuild_fault_answer c.in-Err.fault)) c.copies_asked-which.ensures
    (answers_fault g.D.Device.tells c.copies_asked-which.result (given_of c.args.making.now.rebuilding) c.args.random.now (pair_of g.D.Device.size g.D.Device.bytes g.D.Device.failed c.args.volume.now c.rebuild.new.source c.args.target.now c.rebuild.new.target) c.in-Err.fault c.in-Err.ensures.count
    (λ is. (c.in-Err.ensures.refused is).same) c.in-Err.ensures.fault))

pub returns-in-Err-2-clause-settled : goal.returns-in-Err-2-clause-settled
returns-in-Err-2-clause-settled g c = λ told a b.
    settled_by g.D.Device.tells g.D.Device.size g.D.Device.bytes is_rebuild_failure _ _ _ _ c.rebuild.result c.rebuild.ensures.count
    (c.rebuild.ensures.settled told) c.rebuild.ensures.refused told a b (c.requires.settled told)
