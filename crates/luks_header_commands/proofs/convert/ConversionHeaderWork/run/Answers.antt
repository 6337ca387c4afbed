use Rattle.std.proofs.Common.{None, refl, sym, subst}
use Rattle.luks_commands.specs.declared.answers.Answer.TheVariants.{Done}
use Rattle.luks_header_commands.specs.Converting.{IsConvertAnswer}
use Rattle.luks_converting.specs.ConvertFaults.{is_convert_failure}
use Rattle.luks_header_commands.proofs.ConvertFacts.{answers_fault, convert_later}
use Rattle.luks_commands.proofs.BesideFacts.{settled_by}
use Rattle.luks_header_commands.proofs.convert.ConversionHeaderWork.run.Goals as goal

pub returns-in-Ok-clause-answers : goal.returns-in-Ok-clause-answers
returns-in-Ok-clause-answers g c = λ e later.
    convert_later g.D.Device.tells c.args.self.now.payload c.args.random.now _ e (Done None) later (
      c.in-Ok.ensures.count,
      refl,
      c.in-Ok.ensures.faultless,
      λ told. record {
        converted = c.in-Ok.ensures.converted told told;
        well_formed = c.in-Ok.ensures.well_formed told told;
        opens = c.in-Ok.ensures.opens told told;
        absent = c.in-Ok.ensures.absent told told;
      },
    )

pub returns-in-Err-clause-answers : goal.returns-in-Err-clause-answers
returns-in-Err-clause-answers g c = λ e later.
    convert_later g.D.Device.tells c.args.self.now.payload c.args.random.now _ e _ later
    (subst (IsConvertAnswer g.D.Device.tells c.args.self.now.payload c.args.random.now _) (sym c.not_converted.ensures)
    (answers_fault g.D.Device.tells c.args.self.now.payload c.args.random.now _ c.in-Err.fault c.in-Err.ensures.count
    (λ is. (c.in-Err.ensures.refused is).same) c.in-Err.ensures.fault))

pub returns-in-Err-2-clause-answers : goal.returns-in-Err-2-clause-answers
returns-in-Err-2-clause-answers g c = λ e later.
    convert_later g.D.Device.tells c.args.self.now.payload c.args.random.now _ e _ later
    (subst (IsConvertAnswer g.D.Device.tells c.args.self.now.payload c.args.random.now _) (sym c.not_converted-in-Err-2.ensures)
    (answers_fault g.D.Device.tells c.args.self.now.payload c.args.random.now _ c.in-Err.fault c.in-Err.ensures.count
    (λ is. (c.in-Err.ensures.refused is).same) c.in-Err.ensures.fault))

pub returns-in-Err-2-clause-settled : goal.returns-in-Err-2-clause-settled
returns-in-Err-2-clause-settled g c = λ told a b.
    settled_by g.D.Device.tells g.D.Device.size g.D.Device.bytes is_convert_failure _ _ _ _ c.convert.result c.convert.ensures.count
    (c.convert.ensures.settled told) c.convert.ensures.refused told a b (c.requires.settled told)
