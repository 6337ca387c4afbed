use Rattle.std.proofs.Common.{refl, arith}
use Rattle.luks_json.proofs.AreaTexts.{is_text, ends}
use Rattle.luks_json.proofs.area_text.json_text.Goals as goal
use Rattle.luks_json.proofs.area_text.json_text.Goals.{then-end-area-via-then-end-area, then-end-area-via-else-end-area+then-not-are_zeros}

pub returns-then-end-area-clause-none : goal.returns-then-end-area-clause-none
returns-then-end-area-clause-none c = λ none t j. let e = ends c.args.area.now t c.first_zero-end.result j c.first_zero-end.ensures.within c.first_zero-end.ensures.before c.first_zero-end.ensures.found in
    elim c.then-end-area.branch [ then-end-area-via-then-end-area w ↦ omega arith | then-end-area-via-else-end-area+then-not-are_zeros w ↦ let f = w.if-not-are_zeros.ensures.1 e.1 in cc ]

pub returns-clause-some : goal.returns-clause-some
returns-clause-some c = is_text c.args.area.now c.first_zero-end.result (omega arith) c.if-area-ne123.false (omega arith) c.first_zero-end.ensures.before (c.first_zero-end.ensures.found (omega arith))
    (c.if-not-are_zeros.ensures.0 refl)
