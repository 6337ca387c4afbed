use Rattle.std.proofs.Common.{refl, sym, subst}
use Rattle.luks_header_commands.specs.Target.{pair_of, Pair}
use Rattle.luks_header_commands.specs.Tried.{none_open, TriedAnswer}
use Rattle.luks_header_commands.proofs.TryingFacts.{first_of, none_of, opened_later, opened_rest, tried_fault}
use Rattle.luks_header_commands.proofs.trying.make_opened.Goals as goal

pub returns-in-Ok-Some-clause-rest : goal.returns-in-Ok-Some-clause-rest
returns-in-Ok-Some-clause-rest g c = λ told.
    opened_rest c.args.given.now c.args.trying.now.passphrase.now (g.D.Device.bytes c.args.volume.now) (g.D.Device.bytes c.try_combinations.new.source)
    (g.D.Device.bytes c.args.target.now) (g.D.Device.bytes c.make_of_fields.new.target) c.in-Ok-Some.opening
    (c.try_combinations.ensures.unchanged.same told) (first_of (g.D.Device.bytes c.args.volume.now) c.args.trying.now.passphrase.now c.args.given.now c.in-Ok-Some.field-0 c.in-Ok-Some.opening c.in-Ok-Some.field-0-is (c.in-Ok-Some.ensures.first told)) (c.make_of_fields.ensures.rest told)

pub returns-in-Ok-Some-clause-answers : goal.returns-in-Ok-Some-clause-answers
returns-in-Ok-Some-clause-answers g c =
    let d : Pair = pair_of g.D.Device.size g.D.Device.bytes g.D.Device.failed c.try_combinations.new.source c.make_of_fields.new.volume c.args.target.now c.make_of_fields.new.target in
    let e : Pair = pair_of g.D.Device.size g.D.Device.bytes g.D.Device.failed c.args.volume.now c.make_of_fields.new.volume c.args.target.now c.make_of_fields.new.target in
    opened_later g.D.Device.tells c.args.given.now c.args.trying.now.passphrase.now d e c.make_of_fields.result c.in-Ok-Some.opening
    (record {
      volume = c.try_combinations.ensures.unchanged.same;
      total = refl;
      old = λ told. refl;
      new = refl;
      volume_before = c.in-Ok-Some.ensures.count;
      volume_after = refl;
      before = refl;
      after = refl;
    })
    (λ told. (first_of (g.D.Device.bytes c.args.volume.now) c.args.trying.now.passphrase.now c.args.given.now c.in-Ok-Some.field-0 c.in-Ok-Some.opening c.in-Ok-Some.field-0-is (c.in-Ok-Some.ensures.first told))) c.make_of_fields.ensures.answers

pub returns-in-Ok-None-clause-answers : goal.returns-in-Ok-None-clause-answers
returns-in-Ok-None-clause-answers g c =
    none_open (c.in-Ok-None.ensures.count, refl) (λ told. refl) c.in-Ok-None.ensures.faultless (λ told. none_of (g.D.Device.bytes c.args.volume.now) c.args.trying.now.passphrase.now c.args.given.now c.in-Ok-None.field-0 c.in-Ok-None.field-0-is (c.in-Ok-None.ensures.none told)) refl

pub returns-in-Err-clause-answers : goal.returns-in-Err-clause-answers
returns-in-Err-clause-answers g c =
    let d : Pair = pair_of g.D.Device.size g.D.Device.bytes g.D.Device.failed c.args.volume.now c.try_combinations.new.source c.args.target.now c.args.target.now in
    subst (TriedAnswer g.D.Device.tells c.args.given.now c.args.trying.now.passphrase.now d) (sym c.not_of_fields.ensures)
    (tried_fault g.D.Device.tells c.args.given.now c.args.trying.now.passphrase.now d c.in-Err.fault c.in-Err.ensures.count refl (λ told. refl) c.in-Err.ensures.fault)
