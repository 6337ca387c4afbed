use Rattle.std.proofs.Common.{refl, subst}
use Rattle.luks_slot.specs.declared.allowed.Allowed.{Allowed}
use Rattle.luks_trials.specs.Faults.{is_search_failure}
use Rattle.luks2_searching.specs.Found.{IsFound2}
use Rattle.luks_header_commands.specs.Target.{pair_of}
use Rattle.luks_header_commands.proofs.SearchingFacts.{found_rest2, near_later2, ok_count, ok_some}
use Rattle.luks_header_commands.proofs.searching2.make_within.Goals as goal

pub returns-in-Ok-Some-clause-answers : goal.returns-in-Ok-Some-clause-answers
returns-in-Ok-Some-clause-answers g c =
    let searched = c.search2-searched in
    near_later2 g.D.Device.tells c.args.trying.now.rebuilding c.args.trying.now.passphrase.now c.args.random.now
    (pair_of g.D.Device.size g.D.Device.bytes g.D.Device.failed searched.new.source c.make_of_json.new.volume c.args.target.now c.make_of_json.new.target)
    (pair_of g.D.Device.size g.D.Device.bytes g.D.Device.failed c.args.volume.now c.make_of_json.new.volume c.args.target.now c.make_of_json.new.target) c.make_of_json.result
    c.args.segment.now c.in-Ok-Some.found
    (record {
      volume = searched.ensures.unchanged.same;
      total = refl;
      old = λ told. refl;
      new = refl;
      volume_before = ok_count is_search_failure searched.result c.in-Ok-Some.field-0 _ _ c.in-Ok-Some.is searched.ensures.count;
      volume_after = refl;
      before = refl;
      after = refl;
    })
    c.requires.segment
    (λ told. subst (λ (a : Allowed). IsFound2 a c.args.segment.now (g.D.Device.bytes c.args.volume.now) c.args.trying.now.passphrase.now c.in-Ok-Some.found) c.allowed_of.ensures
    (ok_some (IsFound2 c.allowed_of.result c.args.segment.now (g.D.Device.bytes c.args.volume.now) c.args.trying.now.passphrase.now) searched.result c.in-Ok-Some.field-0 c.in-Ok-Some.found
    c.in-Ok-Some.is c.in-Ok-Some.field-0-is (searched.ensures.found told)))
    c.make_of_json.ensures.answers

pub returns-in-Ok-Some-clause-rest : goal.returns-in-Ok-Some-clause-rest
returns-in-Ok-Some-clause-rest g c = λ told.
    let searched = c.search2-searched in
    found_rest2 c.args.trying.now.rebuilding c.args.trying.now.passphrase.now (g.D.Device.bytes c.args.volume.now) (g.D.Device.bytes c.args.target.now)
    (g.D.Device.bytes c.make_of_json.new.target) c.args.segment.now c.in-Ok-Some.found c.requires.segment
    (subst (λ (a : Allowed). IsFound2 a c.args.segment.now (g.D.Device.bytes c.args.volume.now) c.args.trying.now.passphrase.now c.in-Ok-Some.found) c.allowed_of.ensures
    (ok_some (IsFound2 c.allowed_of.result c.args.segment.now (g.D.Device.bytes c.args.volume.now) c.args.trying.now.passphrase.now) searched.result c.in-Ok-Some.field-0 c.in-Ok-Some.found
    c.in-Ok-Some.is c.in-Ok-Some.field-0-is (searched.ensures.found told)))
    (c.make_of_json.ensures.rest told)
