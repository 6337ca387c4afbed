use Rattle.std.proofs.Common.{◌∙◌, refl, sym, subst}
use Rattle.luks_header_commands.specs.Searching.{none_near, SearchedAnswer1}
use Rattle.luks_header_commands.specs.Target.{pair_of}
use Rattle.luks_header_commands.proofs.SearchingFacts.{near_later, near_of, none_of, short_answers}
use Rattle.luks_header_commands.proofs.searching1.make_near.Goals as goal

pub returns-in-Err-clause-answers : goal.returns-in-Err-clause-answers
returns-in-Err-clause-answers g c =
    subst (SearchedAnswer1 g.D.Device.tells c.args.given.now c.args.trying.now.passphrase.now _) (sym c.not_of_fields.ensures)
    (short_answers g.D.Device.tells (g.D.Device.size c.args.volume.now) c.args.given.now c.args.trying.now.passphrase.now _ c.in-Err.fault
    (g.met.D.Device.sized c.args.volume.now) c.in-Err.ensures.short c.in-Err.ensures.count refl refl c.requires.faultless)

pub returns-in-Ok-Some-clause-answers : goal.returns-in-Ok-Some-clause-answers
returns-in-Ok-Some-clause-answers g c =
    near_later g.D.Device.tells c.args.given.now c.args.trying.now.passphrase.now
    (pair_of g.D.Device.size g.D.Device.bytes g.D.Device.failed c.search1.new.source c.make_of_header.new.volume c.args.target.now c.make_of_header.new.target)
    (pair_of g.D.Device.size g.D.Device.bytes g.D.Device.failed c.args.volume.now c.make_of_header.new.volume c.args.target.now c.make_of_header.new.target)
    c.make_of_header.result c.in-Ok-Some.found
    (record {
      volume = λ told. c.search1.ensures.unchanged.same told ∙ c.first_bytes.ensures.unchanged.same told;
      total = refl;
      old = λ told. refl;
      new = refl;
      volume_before = c.in-Ok-Some.ensures.count ∙ c.in-Ok.ensures.count;
      volume_after = refl;
      before = refl;
      after = refl;
    })
    c.requires.shut
    (λ told. near_of (g.D.Device.bytes c.args.volume.now) (g.D.Device.bytes c.first_bytes.new.source) c.args.trying.now.passphrase.now c.args.given.now c.in-Ok-Some.field-0 c.in-Ok-Some.found
    (c.first_bytes.ensures.unchanged.same told) c.in-Ok-Some.field-0-is (c.in-Ok-Some.ensures.found told))
    c.make_of_header.ensures.answers

pub returns-in-Ok-None-clause-answers : goal.returns-in-Ok-None-clause-answers
returns-in-Ok-None-clause-answers g c =
    none_near
    (c.in-Ok-None.ensures.count ∙ c.in-Ok.ensures.count, refl)
    (λ told. refl) c.requires.shut
    (λ told. none_of (g.D.Device.bytes c.args.volume.now) (g.D.Device.bytes c.first_bytes.new.source) c.args.trying.now.passphrase.now c.args.given.now c.in-Ok-None.field-0
    (c.first_bytes.ensures.unchanged.same told) c.in-Ok-None.field-0-is (c.in-Ok-None.ensures.none told))
    refl
