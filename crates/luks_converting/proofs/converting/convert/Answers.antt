use Rattle.std.proofs.Common.{◌≡◌, ◌≤◌, ℕ, List, true, false, length, inr, ap, sym, subst, ◌∙◌, arith}
use Rattle.std.proofs.lemmas.Result.{err_from_is_err_and}
use Rattle.std.proofs.lemmas.Bool.{true≢false}
use Rattle.luks_area.specs.Device.{unchanged-then}
use Rattle.luks_area.specs.Ranges.{part, SameBut}
use Rattle.luks_making.specs.Converted.{converted}
use Rattle.luks_making.specs.WrittenArea.{IsWrittenArea}
use Rattle.luks_converting.specs.Accepted.{HasAreasInside}
use Rattle.luks_converting.specs.Converted.{IsConverted, IsOfConverted, WritesFirstLast}
use Rattle.luks_converting.specs.Source.{header_members, IsSource}
use Rattle.luks_converting.specs.ConvertFaults.{is_convert_failure}
use Rattle.luks_converting.specs.Outcome.{IsAnsweredFault, IsConvertible}
use Rattle.luks_writing.proofs.CountFacts.{counts_first, counts_none, one_failure}
use Rattle.luks_converting.proofs.RowFacts.{answered_first, unaccepted_first}
use Rattle.luks_converting.proofs.VolumeFacts.{absent, opens_alike, well_formed}
use Rattle.luks_converting.proofs.converting.convert.Goals as goal

pub returns-in_ok-write_converted-in-Ok-clause-converted : goal.returns-in_ok-write_converted-in-Ok-clause-converted
returns-in_ok-write_converted-in-Ok-clause-converted g c = λ source tells.
    let v : List ℕ = g.S.Device.bytes c.args.source.now in
    let old : List ℕ = g.T.Device.bytes c.args.target.now in
    let w : List ℕ = g.T.Device.bytes c.write_converted.new.target in
    let header = c.in_ok-header.ensures.header source in
    let same = c.in_ok-header.ensures.unchanged.same source in
    let x : IsConverted v c.args.random.now old w = subst (λ (b : List ℕ). IsConverted b c.args.random.now old w) same
    (c.in_ok-write_converted-in-Ok.ensures.converted source tells (header.begins ∙ ap (λ b. part b 0 592) (sym same))) in
    x

pub returns-in_ok-write_converted-in-Ok-clause-well_formed : goal.returns-in_ok-write_converted-in-Ok-clause-well_formed
returns-in_ok-write_converted-in-Ok-clause-well_formed g c = λ source tells.
    let v : List ℕ = g.S.Device.bytes c.args.source.now in
    let old : List ℕ = g.T.Device.bytes c.args.target.now in
    let w : List ℕ = g.T.Device.bytes c.write_converted.new.target in
    let header = c.in_ok-header.ensures.header source in
    let same = c.in_ok-header.ensures.unchanged.same source in
    let x : IsConverted v c.args.random.now old w = subst (λ (b : List ℕ). IsConverted b c.args.random.now old w) same
    (c.in_ok-write_converted-in-Ok.ensures.converted source tells (header.begins ∙ ap (λ b. part b 0 592) (sym same))) in
    let size : length w ≡ g.T.Device.size c.args.target.now = g.met.T.Device.sized c.write_converted.new.target tells ∙ c.write_converted.ensures.size in
    let least = c.in_ok-judge.ensures.ready.large in
    let total = c.len.ensures in
    let large : 16777216 ≤ length w = omega (arith, size, least, total) in
    let is : IsSource (part v 0 592) = subst IsSource header.begins c.in_ok-judge.ensures.source in
    well_formed v c.args.random.now old w is large x

pub returns-in_ok-write_converted-in-Ok-clause-opens : goal.returns-in_ok-write_converted-in-Ok-clause-opens
returns-in_ok-write_converted-in-Ok-clause-opens g c = λ source tells.
    let v : List ℕ = g.S.Device.bytes c.args.source.now in
    let old : List ℕ = g.T.Device.bytes c.args.target.now in
    let w : List ℕ = g.T.Device.bytes c.write_converted.new.target in
    let header = c.in_ok-header.ensures.header source in
    let same = c.in_ok-header.ensures.unchanged.same source in
    let x : IsConverted v c.args.random.now old w = subst (λ (b : List ℕ). IsConverted b c.args.random.now old w) same
    (c.in_ok-write_converted-in-Ok.ensures.converted source tells (header.begins ∙ ap (λ b. part b 0 592) (sym same))) in
    let size : length w ≡ g.T.Device.size c.args.target.now = g.met.T.Device.sized c.write_converted.new.target tells ∙ c.write_converted.ensures.size in
    let least = c.in_ok-judge.ensures.ready.large in
    let total = c.len.ensures in
    let large : 16777216 ≤ length w = omega (arith, size, least, total) in
    let is : IsSource (part v 0 592) = subst IsSource header.begins c.in_ok-judge.ensures.source in
    opens_alike v c.args.random.now old w is large x header.chosen

pub returns-in_ok-write_converted-in-Ok-clause-absent : goal.returns-in_ok-write_converted-in-Ok-clause-absent
returns-in_ok-write_converted-in-Ok-clause-absent g c = λ source tells.
    let v : List ℕ = g.S.Device.bytes c.args.source.now in
    let old : List ℕ = g.T.Device.bytes c.args.target.now in
    let w : List ℕ = g.T.Device.bytes c.write_converted.new.target in
    let header = c.in_ok-header.ensures.header source in
    let same = c.in_ok-header.ensures.unchanged.same source in
    let x : IsConverted v c.args.random.now old w = subst (λ (b : List ℕ). IsConverted b c.args.random.now old w) same
    (c.in_ok-write_converted-in-Ok.ensures.converted source tells (header.begins ∙ ap (λ b. part b 0 592) (sym same))) in
    let size : length w ≡ g.T.Device.size c.args.target.now = g.met.T.Device.sized c.write_converted.new.target tells ∙ c.write_converted.ensures.size in
    let least = c.in_ok-judge.ensures.ready.large in
    let total = c.len.ensures in
    let large : 16777216 ≤ length w = omega (arith, size, least, total) in
    let is : IsSource (part v 0 592) = subst IsSource header.begins c.in_ok-judge.ensures.source in
    absent v c.args.random.now old w is large x header.chosen

pub returns-in_ok-write_converted-in-Ok-clause-rest : goal.returns-in_ok-write_converted-in-Ok-clause-rest
returns-in_ok-write_converted-in-Ok-clause-rest g c = λ source tells.
    let header = c.in_ok-header.ensures.header source in
    subst (λ (h : List ℕ). SameBut (IsOfConverted h) (g.T.Device.bytes c.args.target.now) (g.T.Device.bytes c.write_converted.new.target)) header.begins (c.write_converted.ensures.rest tells)

pub returns-in_ok-write_converted-in-Ok-clause-order : goal.returns-in_ok-write_converted-in-Ok-clause-order
returns-in_ok-write_converted-in-Ok-clause-order g c = λ source tells.
    let header = c.in_ok-header.ensures.header source in
    let same = c.in_ok-header.ensures.unchanged.same source in
    subst (λ (b : List ℕ). WritesFirstLast b c.args.random.now (g.T.Device.bytes c.args.target.now) (g.T.Device.bytes c.write_converted.new.target)) same
    (c.write_converted.ensures.order source tells (header.begins ∙ ap (λ b. part b 0 592) (sym same)))

pub returns-in_err-write_converted-in-Ok-clause-rest : goal.returns-in_err-write_converted-in-Ok-clause-rest
returns-in_err-write_converted-in-Ok-clause-rest g c = λ source tells.
    let header = c.in_ok-header.ensures.header source in
    subst (λ (h : List ℕ). SameBut (IsOfConverted h) (g.T.Device.bytes c.args.target.now) (g.T.Device.bytes c.write_converted.new.target)) header.begins (c.write_converted.ensures.rest tells)

pub returns-in_err-write_converted-in-Ok-clause-order : goal.returns-in_err-write_converted-in-Ok-clause-order
returns-in_err-write_converted-in-Ok-clause-order g c = λ source tells.
    let header = c.in_ok-header.ensures.header source in
    let same = c.in_ok-header.ensures.unchanged.same source in
    subst (λ (b : List ℕ). WritesFirstLast b c.args.random.now (g.T.Device.bytes c.args.target.now) (g.T.Device.bytes c.write_converted.new.target)) same
    (c.write_converted.ensures.order source tells (header.begins ∙ ap (λ b. part b 0 592) (sym same)))

-- ---- the source isn't accepted

pub returns-in_err-header-clause-count : goal.returns-in_err-header-clause-count
returns-in_err-header-clause-count g c =
    let p = err_from_is_err_and c.from_residual.result c.from_residual.ensures.1 in
    rw (p.1, p.2) (counts_first (is_convert_failure c.in_err-header.field-0.0) _ _ _ c.in_err-header.ensures.count)

pub returns-in_err-header-clause-fault : goal.returns-in_err-header-clause-fault
returns-in_err-header-clause-fault g c = λ source.
    let p = err_from_is_err_and c.from_residual.result c.from_residual.ensures.1 in
    rw (p.1, p.2) (unaccepted_first (g.S.Device.bytes c.args.source.now) c.args.payload (g.T.Device.size c.args.target.now) c.args.random.now c.in_err-header.field-0.0 (c.in_err-header.ensures.refused source))

-- ---- what is judged by its header

pub returns-in_err-judge-clause-count : goal.returns-in_err-judge-clause-count
returns-in_err-judge-clause-count g c =
    let p = err_from_is_err_and c.from_residual-in_err-judge.result c.from_residual-in_err-judge.ensures.1 in
    rw (p.1, p.2) (counts_none (is_convert_failure c.in_err-judge.field-0.0) _ _ _ c.in_err-judge.ensures.own c.in_ok-header.ensures.count)

pub returns-in_err-judge-clause-fault : goal.returns-in_err-judge-clause-fault
returns-in_err-judge-clause-fault g c = λ source.
    let v : List ℕ = g.S.Device.bytes c.args.source.now in
    let p = err_from_is_err_and c.from_residual-in_err-judge.result c.from_residual-in_err-judge.ensures.1 in
    let first = answered_first v c.args.payload c.len.result c.args.random.now c.in_err-judge.field-0.0 c.in_err-judge.ensures.memory c.in_err-judge.ensures.own
    (c.in_err-judge.ensures.fault v c.args.payload (c.in_ok-header.ensures.header source)) in
    rw (p.1, p.2) (subst (λ (t : ℕ). IsAnsweredFault v c.args.payload t c.args.random.now c.in_err-judge.field-0.0) c.len.ensures first)

-- ---- memory is refused

pub returns-in-Err-clause-fault : goal.returns-in-Err-clause-fault
returns-in-Err-clause-fault g c = λ source.
    let v : List ℕ = g.S.Device.bytes c.args.source.now in
    inr (subst (λ (t : ℕ). IsConvertible v c.args.payload t c.args.random.now) c.len.ensures (c.in_ok-judge.ensures.faultless v c.args.payload (c.in_ok-header.ensures.header source)))

pub returns-in-Err-clause-same : goal.returns-in-Err-clause-same
returns-in-Err-clause-same g c = λ source tells f bad.
    let v : List ℕ = g.S.Device.bytes c.args.source.now in
    absurd ((subst (λ (t : ℕ). IsConvertible v c.args.payload t c.args.random.now) c.len.ensures (c.in_ok-judge.ensures.faultless v c.args.payload (c.in_ok-header.ensures.header source))).none f bad)

-- ---- the writing

pub returns-in_ok-write_converted-in-Ok-clause-faultless : goal.returns-in_ok-write_converted-in-Ok-clause-faultless
returns-in_ok-write_converted-in-Ok-clause-faultless g c = λ source.
    let v : List ℕ = g.S.Device.bytes c.args.source.now in
    subst (λ (t : ℕ). IsConvertible v c.args.payload t c.args.random.now) c.len.ensures (c.in_ok-judge.ensures.faultless v c.args.payload (c.in_ok-header.ensures.header source))

pub returns-in_ok-write_converted-in-Ok-clause-same : goal.returns-in_ok-write_converted-in-Ok-clause-same
returns-in_ok-write_converted-in-Ok-clause-same g c = λ source tells f bad.
    let v : List ℕ = g.S.Device.bytes c.args.source.now in
    absurd ((subst (λ (t : ℕ). IsConvertible v c.args.payload t c.args.random.now) c.len.ensures (c.in_ok-judge.ensures.faultless v c.args.payload (c.in_ok-header.ensures.header source))).none f bad)

pub returns-in_err-write_converted-in-Ok-clause-same : goal.returns-in_err-write_converted-in-Ok-clause-same
returns-in_err-write_converted-in-Ok-clause-same g c = λ source tells f bad.
    let v : List ℕ = g.S.Device.bytes c.args.source.now in
    absurd ((subst (λ (t : ℕ). IsConvertible v c.args.payload t c.args.random.now) c.len.ensures (c.in_ok-judge.ensures.faultless v c.args.payload (c.in_ok-header.ensures.header source))).none f bad)

pub write_converted-requires-clause-there : goal.write_converted-requires-clause-there
write_converted-requires-clause-there g c =
    subst (λ (t : ℕ). HasAreasInside c.in_ok-header.header.bytes t) (sym c.in_ok-header.ensures.unchanged.size) c.in_ok-header.ensures.inside

pub write_converted-requires-clause-json : goal.write_converted-requires-clause-json
write_converted-requires-clause-json g c =
    subst (λ (a : List ℕ). IsWrittenArea 12288 (converted (header_members c.in_ok-header.header.bytes)) a) (sym c.as_slice.ensures.value) c.in-Ok.ensures

pub returns-in_ok-write_converted-in-Ok-clause-kept : goal.returns-in_ok-write_converted-in-Ok-clause-kept
returns-in_ok-write_converted-in-Ok-clause-kept g c = unchanged-then c.in_ok-header.ensures.unchanged c.in_ok-write_converted-in-Ok.ensures.kept

pub returns-in_err-write_converted-in-Ok-clause-kept : goal.returns-in_err-write_converted-in-Ok-clause-kept
returns-in_err-write_converted-in-Ok-clause-kept g c = unchanged-then c.in_ok-header.ensures.unchanged c.in_err-write_converted-in-Ok.ensures.kept

pub returns-in_err-write_converted-in-Ok-clause-count : goal.returns-in_err-write_converted-in-Ok-clause-count
returns-in_err-write_converted-in-Ok-clause-count g c =
    let p = err_from_is_err_and c.from_residual-in_err-write_converted-in-Ok.result c.from_residual-in_err-write_converted-in-Ok.ensures.1 in
    let before = c.in_ok-header.ensures.count in
    let after = c.in_err-write_converted-in-Ok.ensures.count in
    rw (p.1, p.2) (one_failure before after)

pub returns-in_err-write_converted-in-Ok-clause-refused : goal.returns-in_err-write_converted-in-Ok-clause-refused
returns-in_err-write_converted-in-Ok-clause-refused g c =
    let p = err_from_is_err_and c.from_residual-in_err-write_converted-in-Ok.result c.from_residual-in_err-write_converted-in-Ok.ensures.1 in
    rw (p.1, p.2) (λ (own : true ≡ false). absurd (true≢false own))
