use Rattle.std.proofs.Common.{refl, sym, subst}
use Rattle.luks_rebuilding.specs.RebuildFaults.{is_rebuild_failure}
use Rattle.luks_commands.proofs.BesideFacts.{settled_by}
use Rattle.luks_header_commands.specs.FoundMetadata.{IsMadeAnswer2}
use Rattle.luks_header_commands.specs.Rebuilding.{given_of}
use Rattle.luks_header_commands.specs.Target.{pair_of}
use Rattle.luks_header_commands.proofs.SearchingFacts.{answers_making2}
use Rattle.luks_header_commands.proofs.of_found.make_of_json.Goals as goal

pub returns-in-Ok-clause-answers : goal.returns-in-Ok-clause-answers
returns-in-Ok-clause-answers g c = (
  c.in-Ok.ensures.count,
  refl,
  c.in-Ok.ensures.faultless,
  λ told. record {
    made = c.in-Ok.ensures.rebuilt told told;
    well_formed = c.in-Ok.ensures.well_formed told told;
    opens = c.in-Ok.ensures.opens told told;
  },
)

pub returns-in-Err-clause-answers : goal.returns-in-Err-clause-answers
returns-in-Err-clause-answers g c =
    subst (IsMadeAnswer2 g.D.Device.tells c.args.json.items c.args.place (given_of c.args.making.now.rebuilding) c.args.random.now (pair_of g.D.Device.size g.D.Device.bytes g.D.Device.failed c.args.volume.now c.rebuild_from.new.source c.args.target.now c.rebuild_from.new.target)) (sym c.not_of_metadata.ensures)
    (answers_making2 g.D.Device.tells c.args.json.items c.args.place (given_of c.args.making.now.rebuilding) c.args.random.now (pair_of g.D.Device.size g.D.Device.bytes g.D.Device.failed c.args.volume.now c.rebuild_from.new.source c.args.target.now c.rebuild_from.new.target) c.in-Err.fault c.in-Err.ensures.count
    (λ is. (c.in-Err.ensures.refused is).same) c.in-Err.ensures.fault)

pub returns-in-Err-2-clause-answers : goal.returns-in-Err-2-clause-answers
returns-in-Err-2-clause-answers g c =
    subst (IsMadeAnswer2 g.D.Device.tells c.args.json.items c.args.place (given_of c.args.making.now.rebuilding) c.args.random.now (pair_of g.D.Device.size g.D.Device.bytes g.D.Device.failed c.args.volume.now c.rebuild_from.new.source c.args.target.now c.rebuild_from.new.target)) (sym c.not_of_metadata-in-Err-2.ensures)
    (answers_making2 g.D.Device.tells c.args.json.items c.args.place (given_of c.args.making.now.rebuilding) c.args.random.now (pair_of g.D.Device.size g.D.Device.bytes g.D.Device.failed c.args.volume.now c.rebuild_from.new.source c.args.target.now c.rebuild_from.new.target) c.in-Err.fault c.in-Err.ensures.count
    (λ is. (c.in-Err.ensures.refused is).same) c.in-Err.ensures.fault)

pub returns-in-Err-2-clause-settled : goal.returns-in-Err-2-clause-settled
returns-in-Err-2-clause-settled g c = λ told a b.
    settled_by g.D.Device.tells g.D.Device.size g.D.Device.bytes is_rebuild_failure _ _ _ _ c.rebuild_from.result c.rebuild_from.ensures.count
    (c.rebuild_from.ensures.settled told) c.rebuild_from.ensures.refused told a b (c.requires.settled told)
