use Rattle.std.proofs.Common.{ℕ, ◌+◌, ◌<◌, ◌^◌, List, refl, sym, subst}
use Rattle.luks1_rebuilding.specs.Openings.{OpensNoneBelow}
use Rattle.luks1_rebuilding.specs.TrialFaults.{IsTrialFault}
use Rattle.luks1_rebuilding.specs.declared.rebuild_fault.Rebuild1Fault.{Rebuild1Fault}
use Rattle.luks_header_commands.specs.Target.{pair_of}
use Rattle.luks_header_commands.proofs.SearchingFacts.{combined, none_tried, rest1_of, searched1_later, tried_rest}
use Rattle.luks_header_commands.proofs.searching1.make_searched1.Goals as goal

pub make_near-requires-clause-volume_room : goal.make_near-requires-clause-volume_room
make_near-requires-clause-volume_room g c =
    let none = (none_tried g.D.Device.tells c.args.given.now c.args.trying.now.passphrase.now _ c.make_opened.result c.in-NoneOpens.is c.make_opened.ensures.answers).none in
    subst (λ (n : ℕ). n + 1 < 2 ^ 64) (sym none.0) c.requires.volume_room

pub make_near-requires-clause-target_room : goal.make_near-requires-clause-target_room
make_near-requires-clause-target_room g c =
    let none = (none_tried g.D.Device.tells c.args.given.now c.args.trying.now.passphrase.now _ c.make_opened.result c.in-NoneOpens.is c.make_opened.ensures.answers).none in
    subst (λ (n : ℕ). n + 1 < 2 ^ 64) (sym none.1) c.requires.target_room

pub make_near-requires-clause-settled : goal.make_near-requires-clause-settled
make_near-requires-clause-settled g c = λ told.
    let none = (none_tried g.D.Device.tells c.args.given.now c.args.trying.now.passphrase.now _ c.make_opened.result c.in-NoneOpens.is c.make_opened.ensures.answers).none in
    c.make_opened.ensures.settled told none.0 none.1

pub make_near-requires-clause-faultless : goal.make_near-requires-clause-faultless
make_near-requires-clause-faultless g c = λ told.
    subst (λ (v : List ℕ). (f : Rebuild1Fault) → IsTrialFault v c.args.given.now f → ⊥) (sym (c.make_opened.ensures.unchanged.same told))
    ((none_tried g.D.Device.tells c.args.given.now c.args.trying.now.passphrase.now _ c.make_opened.result c.in-NoneOpens.is c.make_opened.ensures.answers).faultless told)

pub make_near-requires-clause-shut : goal.make_near-requires-clause-shut
make_near-requires-clause-shut g c = λ told.
    subst (λ (v : List ℕ). OpensNoneBelow v c.args.given.now c.args.trying.now.passphrase.now 64) (sym (c.make_opened.ensures.unchanged.same told))
    ((none_tried g.D.Device.tells c.args.given.now c.args.trying.now.passphrase.now _ c.make_opened.result c.in-NoneOpens.is c.make_opened.ensures.answers).shut told)

pub returns-in-NoneOpens-clause-answers : goal.returns-in-NoneOpens-clause-answers
returns-in-NoneOpens-clause-answers g c =
    let tried = none_tried g.D.Device.tells c.args.given.now c.args.trying.now.passphrase.now _ c.make_opened.result c.in-NoneOpens.is c.make_opened.ensures.answers in
    searched1_later g.D.Device.tells c.args.given.now c.args.trying.now.passphrase.now
    (pair_of g.D.Device.size g.D.Device.bytes g.D.Device.failed c.make_opened.new.volume c.make_near.new.volume c.make_opened.new.target c.make_near.new.target)
    (pair_of g.D.Device.size g.D.Device.bytes g.D.Device.failed c.args.volume.now c.make_near.new.volume c.args.target.now c.make_near.new.target) c.make_near.result
    (record {
      volume = c.make_opened.ensures.unchanged.same;
      total = c.make_opened.ensures.size;
      old = tried.same;
      new = refl;
      volume_before = tried.none.0;
      volume_after = refl;
      before = tried.none.1;
      after = refl;
    })
    c.make_near.ensures.answers

pub returns-in-NoneOpens-clause-rest : goal.returns-in-NoneOpens-clause-rest
returns-in-NoneOpens-clause-rest g c = λ told.
    let tried = none_tried g.D.Device.tells c.args.given.now c.args.trying.now.passphrase.now _ c.make_opened.result c.in-NoneOpens.is c.make_opened.ensures.answers in
    rest1_of c.args.given.now c.args.trying.now.passphrase.now (g.D.Device.bytes c.args.volume.now) (g.D.Device.bytes c.make_opened.new.volume)
    (g.D.Device.bytes c.args.target.now) (g.D.Device.bytes c.make_opened.new.target) (g.D.Device.bytes c.make_near.new.target)
    (c.make_opened.ensures.unchanged.same told) (tried.same told) (c.make_near.ensures.rest told)

pub returns-in_default-clause-answers : goal.returns-in_default-clause-answers
returns-in_default-clause-answers g c =
    combined g.D.Device.tells c.args.given.now c.args.trying.now.passphrase.now
    (pair_of g.D.Device.size g.D.Device.bytes g.D.Device.failed c.args.volume.now c.make_opened.new.volume c.args.target.now c.make_opened.new.target)
    c.make_opened.result c.in_default.not-NoneOpens c.make_opened.ensures.answers

pub returns-in_default-clause-rest : goal.returns-in_default-clause-rest
returns-in_default-clause-rest g c = λ told.
    tried_rest c.args.given.now c.args.trying.now.passphrase.now (g.D.Device.bytes c.args.volume.now) (g.D.Device.bytes c.args.target.now) (g.D.Device.bytes c.make_opened.new.target)
    (c.make_opened.ensures.rest told)
