use Rattle.std.proofs.Common.{◌<◌, arith, subst, sym}
use Rattle.std.proofs.lemmas.Result.{err_from_is_err_and}
use Rattle.luks_area.specs.declared.area.AreaName.TheVariants.{Slot}
use Rattle.luks_meta.specs.Content.{content}
use Rattle.luks_edit.specs.EditFaults.{edit_row}
use Rattle.luks_reading.proofs.VolumeLaws.{well_formed_faultless}
use Rattle.luks2_edit_laws.specs.Refused.{Refusal2}
use Rattle.luks2_judging.proofs.ChosenFacts.{metadata_of}
use Rattle.luks2_judging.proofs.JudgedFacts.{absent_first, before_of, past_absent, past_check, past_required, past_same, required_first, same_first, unaccepted_first}
use Rattle.luks2_judging.proofs.accepted.judge_without_key.Goals as goal

pub returns-in_err-areas-clause-refused : goal.returns-in_err-areas-clause-refused
returns-in_err-areas-clause-refused c = λ v random is size.
    let p = err_from_is_err_and c.from_residual.result c.from_residual.ensures.1 in
    rw (p.1, p.2)
    (unaccepted_first v c.args.payload c.args.edit.now random c.in_err-areas.field-0.0 (c.in_err-areas.ensures.refused v is size))

pub returns-in_err-judge_requirements-clause-refused : goal.returns-in_err-judge_requirements-clause-refused
returns-in_err-judge_requirements-clause-refused c = λ v random is size.
    let copy = c.args.copy.now in
    let e = c.args.edit.now in
    let accepted = well_formed_faultless v c.args.payload (c.in_ok-areas.ensures.well v is size) in
    let past = past_check v c.args.payload copy.header.hdr_offset (content copy.meta) (metadata_of v copy is) e random accepted in
    let p = err_from_is_err_and c.from_residual-in_err-judge_requirements.result c.from_residual-in_err-judge_requirements.ensures.1 in
    let judged = c.in_err-judge_requirements.ensures in
    rw (p.1, p.2)
    (subst (λ f. Refusal2 v c.args.payload e random f) (sym judged.0)
    (required_first v c.args.payload copy.header.hdr_offset (content copy.meta) (metadata_of v copy is) e random past judged.1))

pub returns-in_err-judge_wanted-clause-refused : goal.returns-in_err-judge_wanted-clause-refused
returns-in_err-judge_wanted-clause-refused c = λ v random is size.
    let copy = c.args.copy.now in
    let e = c.args.edit.now in
    let accepted = well_formed_faultless v c.args.payload (c.in_ok-areas.ensures.well v is size) in
    let past1 = past_check v c.args.payload copy.header.hdr_offset (content copy.meta) (metadata_of v copy is) e random accepted in
    let past2 = past_required v c.args.payload copy.header.hdr_offset (content copy.meta) (metadata_of v copy is) e random past1 c.in_ok-judge_requirements.ensures in
    let p = err_from_is_err_and c.from_residual-in_err-judge_wanted.result c.from_residual-in_err-judge_wanted.ensures.1 in
    let judged = c.in_err-judge_wanted.ensures in
    rw (p.1, p.2)
    (subst (λ f. Refusal2 v c.args.payload e random f) (sym judged.0)
    (absent_first v c.args.payload copy.header.hdr_offset (content copy.meta) (metadata_of v copy is) e random past2 judged.1))

pub returns-in_err-judge_opener-clause-refused : goal.returns-in_err-judge_opener-clause-refused
returns-in_err-judge_opener-clause-refused c = λ v random is size.
    let copy = c.args.copy.now in
    let e = c.args.edit.now in
    let accepted = well_formed_faultless v c.args.payload (c.in_ok-areas.ensures.well v is size) in
    let past1 = past_check v c.args.payload copy.header.hdr_offset (content copy.meta) (metadata_of v copy is) e random accepted in
    let past2 = past_required v c.args.payload copy.header.hdr_offset (content copy.meta) (metadata_of v copy is) e random past1 c.in_ok-judge_requirements.ensures in
    let p = err_from_is_err_and c.from_residual-in_err-judge_opener.result c.from_residual-in_err-judge_opener.ensures.1 in
    let past3 = past_absent v c.args.payload copy.header.hdr_offset (content copy.meta) (metadata_of v copy is) e random past2 c.in_ok-judge_wanted.ensures in
    let judged = c.in_err-judge_opener.ensures in
    rw (p.1, p.2)
    (subst (λ f. Refusal2 v c.args.payload e random f) (sym judged.0)
    (same_first v c.args.payload e random past3 judged.1))

pub returns-clause-passed : goal.returns-clause-passed
returns-clause-passed c = λ v random is size.
    let copy = c.args.copy.now in
    let e = c.args.edit.now in
    let accepted = well_formed_faultless v c.args.payload (c.in_ok-areas.ensures.well v is size) in
    let past1 = past_check v c.args.payload copy.header.hdr_offset (content copy.meta) (metadata_of v copy is) e random accepted in
    let past2 = past_required v c.args.payload copy.header.hdr_offset (content copy.meta) (metadata_of v copy is) e random past1 c.in_ok-judge_requirements.ensures in
    let past3 = past_absent v c.args.payload copy.header.hdr_offset (content copy.meta) (metadata_of v copy is) e random past2 c.in_ok-judge_wanted.ensures in
    let past4 = past_same v c.args.payload e random past3 c.in_ok-judge_opener.ensures in
    record { chosen = is; lists = c.in_ok-areas.ensures.areas v is size; passed = before_of 4 v c.args.payload e random past4 }

pub returns-clause-accepted : goal.returns-clause-accepted
returns-clause-accepted c = record {
  there = c.in_ok-judge_wanted.ensures;
  inside = c.in_ok-areas.ensures.inside;
  key_areas = λ n a is. c.in_ok-areas.ensures.inside (Slot n) a (c.in_ok-areas.ensures.listed.all (Slot n) a is);
}

pub returns-in_err-areas-clause-early : goal.returns-in_err-areas-clause-early
returns-in_err-areas-clause-early c =
    let p = err_from_is_err_and c.from_residual.result c.from_residual.ensures.1 in
    let row = c.in_err-areas.ensures.row in
    rw (p.1, p.2) (omega (arith, row))

pub returns-in_err-judge_requirements-clause-early : goal.returns-in_err-judge_requirements-clause-early
returns-in_err-judge_requirements-clause-early c =
    let p = err_from_is_err_and c.from_residual-in_err-judge_requirements.result c.from_residual-in_err-judge_requirements.ensures.1 in
    rw (p.1, p.2) (subst (λ f. edit_row f < 4) (sym c.in_err-judge_requirements.ensures.0) (omega arith))

pub returns-in_err-judge_wanted-clause-early : goal.returns-in_err-judge_wanted-clause-early
returns-in_err-judge_wanted-clause-early c =
    let p = err_from_is_err_and c.from_residual-in_err-judge_wanted.result c.from_residual-in_err-judge_wanted.ensures.1 in
    rw (p.1, p.2) (subst (λ f. edit_row f < 4) (sym c.in_err-judge_wanted.ensures.0) (omega arith))

pub returns-in_err-judge_opener-clause-early : goal.returns-in_err-judge_opener-clause-early
returns-in_err-judge_opener-clause-early c =
    let p = err_from_is_err_and c.from_residual-in_err-judge_opener.result c.from_residual-in_err-judge_opener.ensures.1 in
    rw (p.1, p.2) (subst (λ f. edit_row f < 4) (sym c.in_err-judge_opener.ensures.0) (omega arith))
