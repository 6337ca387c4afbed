use Rattle.std.proofs.Common.{None, Some, ap, ◌∙◌}
use Rattle.serde_json.specs.View.{view}
use Rattle.luks_making.proofs.MapFacts.{none_taken, taken_of, unwritten, written}
use Rattle.luks_making.proofs.changing.take_member.Goals as goal

pub returns-in_err-member-clause-taken : goal.returns-in_err-member-clause-taken
returns-in_err-member-clause-taken c =
    rw c.from_residual-in_err-member.ensures
    (taken_of (view c.args.object.now) c.in_ok-as_object_mut.field-0.now.entries c.args.name.now None c.in_ok-as_object_mut.ensures.value c.in_err-member.ensures.value)

pub returns-in_err-member-clause-left : goal.returns-in_err-member-clause-left
returns-in_err-member-clause-left c =
    let j = view c.args.object.now in
    let es = c.in_ok-as_object_mut.field-0.now.entries in
    let is = c.in_ok-as_object_mut.ensures.value in
    unwritten j es c.get_mut.follows.lender-at-none c.args.name.now is (ap (λ m. m.entries) c.get_mut.follows.holds-at-none)
    (taken_of j es c.args.name.now None is c.in_err-member.ensures.value)

pub returns-in_err-member-clause-none : goal.returns-in_err-member-clause-none
returns-in_err-member-clause-none c = λ none f.
    let j = view c.args.object.now in
    let es = c.in_ok-as_object_mut.field-0.now.entries in
    let is = c.in_ok-as_object_mut.ensures.value in
    let taken = taken_of j es c.args.name.now None is c.in_err-member.ensures.value in
    none_taken c.args.name.now f j _ taken (unwritten j es c.get_mut.follows.lender-at-none c.args.name.now is (ap (λ m. m.entries) c.get_mut.follows.holds-at-none) taken)

pub returns-clause-taken : goal.returns-clause-taken
returns-clause-taken c =
    ap (λ v. Some (view v)) c.take.ensures.taken
    ∙ taken_of (view c.args.object.now) c.in_ok-as_object_mut.field-0.now.entries c.args.name.now (Some c.in_ok-member.member.now) c.in_ok-as_object_mut.ensures.value c.in_ok-member.ensures.value

pub returns-clause-left : goal.returns-clause-left
returns-clause-left c =
    let w = c.take.new.self in
    written (view c.args.object.now) c.in_ok-as_object_mut.field-0.now.entries (c.get_mut.follows.lender w) w c.args.name.now _
    c.in_ok-as_object_mut.ensures.value (c.get_mut.follows.holds w).0 c.take.ensures.left
