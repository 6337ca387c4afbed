use Rattle.std.proofs.Common.{◌≡◌, ℕ, List, length, sym, subst, ◌∙◌, arith, rules}
use Rattle.std.proofs.lemmas.Result.{err_from_is_err_and}
use Rattle.luks_area.specs.First.{IsLeast}
use Rattle.luks_area.specs.Ranges.{part}
use Rattle.luks1_mending.specs.Made.{IsMade}
use Rattle.luks1_mending.proofs.HeaderFacts.{made_header}
use Rattle.luks_reading.specs.Checked.{IsLuks1Volume}
use Rattle.luks_reading.specs.declared.report.Data.TheVariants.{Elsewhere}
use Rattle.luks1_rebuilding.specs.Headed.{headed}
use Rattle.luks1_rebuilding.specs.KeyAreas.{header_of}
use Rattle.luks1_rebuilding.specs.Outcome.{HasNoMakingFault, IsAnsweredMaking, IsMakeable, IsMakingFault}
use Rattle.luks1_rebuilding.specs.RebuildFaults.{rebuild_key}
use Rattle.luks1_rebuilding.specs.Rebuilt.{IsRebuilt}
use Rattle.luks1_rebuilding.specs.Tried.{IsMadeOf}
use Rattle.luks1_rebuilding.specs.Used.{AreInside, IsWritten}
use Rattle.luks1_rebuilding.proofs.FaultFacts.{answered_making}
use Rattle.luks1_rebuilding.proofs.GivesFacts.{gives_here, gives_there, well_formed}
use Rattle.luks1_rebuilding.proofs.HeadedFacts.{header_is, kept_areas_here, length_is, order_there, written_there}
use Rattle.luks1_rebuilding.proofs.MadeFacts.{apart, there, within}
use Rattle.luks1_rebuilding.proofs.RebuiltFacts.{is_rebuilt, moved, order_kept, rest_kept}
use Rattle.luks1_rebuilding.proofs.rebuilding.rebuild1_from.Goals as goal

pub returns-in_err-judged-clause-fault : goal.returns-in_err-judged-clause-fault
returns-in_err-judged-clause-fault g c = λ source.
    let v : List ℕ = g.S.Device.bytes c.args.source.now in
    let h : List ℕ = c.args.header.now in
    let given = c.args.given.now in
    let sized : length v ≡ g.S.Device.size c.args.source.now = g.met.S.Device.sized c.args.source.now source in
    let large = c.requires.large in
    let long : length h ≡ 592 = search rules in
    let head : c.as_slice.result.now ≡ header_of (headed v h) = c.as_slice.ensures ∙ sym (header_is v h long) in
    let size : c.len.result ≡ length (headed v h) = c.len.ensures ∙ sym sized ∙ sym (length_is v h long (omega (arith, large, sized))) in
    let p = err_from_is_err_and c.from_residual.result c.from_residual.ensures.1 in
    let least =
    moved (λ i n. IsLeast rebuild_key (IsMakingFault i n given c.len-2.result) c.in_err-judged.field-0.0) c.as_slice.result.now (header_of (headed v h)) c.len.result (length (headed v h)) head size c.in_err-judged.ensures.fault in
    rw (p.1, p.2)
    (subst (λ (t : ℕ). IsAnsweredMaking (headed v h) given t c.in_err-judged.field-0.0) c.len-2.ensures
    (answered_making (headed v h) given c.len-2.result c.in_err-judged.field-0.0 c.in_err-judged.ensures.own least))

pub write_rebuilt-requires-clause-apart : goal.write_rebuilt-requires-clause-apart
write_rebuilt-requires-clause-apart g c =
    let h = c.as_slice.result.now in
    let d = c.in_ok-judged.judged.fields in
    let made = c.in_ok-judged.ensures.made in
    let b = c.in_ok-judged.judged.bytes in
    apart h c.len.result c.args.given.now d made b (made_header h c.len.result c.args.given.now d made b c.in_ok-judged.ensures.written) c.len-2.result c.in_ok-judged.ensures.fits

pub write_rebuilt-requires-clause-there : goal.write_rebuilt-requires-clause-there
write_rebuilt-requires-clause-there g c =
    subst (AreInside c.in_ok-judged.judged.fields) c.len.ensures (there c.as_slice.result.now c.len.result c.args.given.now c.in_ok-judged.judged.fields c.in_ok-judged.ensures.made)

pub write_rebuilt-requires-clause-within : goal.write_rebuilt-requires-clause-within
write_rebuilt-requires-clause-within g c =
    let h = c.as_slice.result.now in
    let d = c.in_ok-judged.judged.fields in
    let made = c.in_ok-judged.ensures.made in
    let b = c.in_ok-judged.judged.bytes in
    subst (AreInside d) c.len-2.ensures
    (within h c.len.result c.args.given.now d made b (made_header h c.len.result c.args.given.now d made b c.in_ok-judged.ensures.written) c.len-2.result c.in_ok-judged.ensures.fits)

pub returns-in_err-write_rebuilt-clause-same : goal.returns-in_err-write_rebuilt-clause-same
returns-in_err-write_rebuilt-clause-same g c = λ source tells f bad.
    let v : List ℕ = g.S.Device.bytes c.args.source.now in
    let h : List ℕ = c.args.header.now in
    let given = c.args.given.now in
    let sized : length v ≡ g.S.Device.size c.args.source.now = g.met.S.Device.sized c.args.source.now source in
    let large = c.requires.large in
    let long : length h ≡ 592 = search rules in
    let head : c.as_slice.result.now ≡ header_of (headed v h) = c.as_slice.ensures ∙ sym (header_is v h long) in
    let size : c.len.result ≡ length (headed v h) = c.len.ensures ∙ sym sized ∙ sym (length_is v h long (omega (arith, large, sized))) in
    let able : IsMakeable (headed v h) given (g.T.Device.size c.args.target.now) =
    subst (λ (t : ℕ). IsMakeable (headed v h) given t) c.len-2.ensures
    (moved (λ i n. HasNoMakingFault i n given c.len-2.result) c.as_slice.result.now (header_of (headed v h)) c.len.result (length (headed v h)) head size c.in_ok-judged.ensures.faultless) in
    absurd (able.none f bad)

pub returns-clause-same : goal.returns-clause-same
returns-clause-same g c = λ source tells f bad.
    let v : List ℕ = g.S.Device.bytes c.args.source.now in
    let h : List ℕ = c.args.header.now in
    let given = c.args.given.now in
    let sized : length v ≡ g.S.Device.size c.args.source.now = g.met.S.Device.sized c.args.source.now source in
    let large = c.requires.large in
    let long : length h ≡ 592 = search rules in
    let head : c.as_slice.result.now ≡ header_of (headed v h) = c.as_slice.ensures ∙ sym (header_is v h long) in
    let size : c.len.result ≡ length (headed v h) = c.len.ensures ∙ sym sized ∙ sym (length_is v h long (omega (arith, large, sized))) in
    let able : IsMakeable (headed v h) given (g.T.Device.size c.args.target.now) =
    subst (λ (t : ℕ). IsMakeable (headed v h) given t) c.len-2.ensures
    (moved (λ i n. HasNoMakingFault i n given c.len-2.result) c.as_slice.result.now (header_of (headed v h)) c.len.result (length (headed v h)) head size c.in_ok-judged.ensures.faultless) in
    absurd (able.none f bad)

pub returns-clause-faultless : goal.returns-clause-faultless
returns-clause-faultless g c = λ source.
    let v : List ℕ = g.S.Device.bytes c.args.source.now in
    let h : List ℕ = c.args.header.now in
    let given = c.args.given.now in
    let sized : length v ≡ g.S.Device.size c.args.source.now = g.met.S.Device.sized c.args.source.now source in
    let large = c.requires.large in
    let long : length h ≡ 592 = search rules in
    let head : c.as_slice.result.now ≡ header_of (headed v h) = c.as_slice.ensures ∙ sym (header_is v h long) in
    let size : c.len.result ≡ length (headed v h) = c.len.ensures ∙ sym sized ∙ sym (length_is v h long (omega (arith, large, sized))) in
    let able : IsMakeable (headed v h) given (g.T.Device.size c.args.target.now) =
    subst (λ (t : ℕ). IsMakeable (headed v h) given t) c.len-2.ensures
    (moved (λ i n. HasNoMakingFault i n given c.len-2.result) c.as_slice.result.now (header_of (headed v h)) c.len.result (length (headed v h)) head size c.in_ok-judged.ensures.faultless) in
    able

pub returns-in_err-write_rebuilt-clause-rest : goal.returns-in_err-write_rebuilt-clause-rest
returns-in_err-write_rebuilt-clause-rest g c = λ source tells.
    let v : List ℕ = g.S.Device.bytes c.args.source.now in
    let h : List ℕ = c.args.header.now in
    let given = c.args.given.now in
    let sized : length v ≡ g.S.Device.size c.args.source.now = g.met.S.Device.sized c.args.source.now source in
    let large = c.requires.large in
    let long : length h ≡ 592 = search rules in
    let head : c.as_slice.result.now ≡ header_of (headed v h) = c.as_slice.ensures ∙ sym (header_is v h long) in
    let size : c.len.result ≡ length (headed v h) = c.len.ensures ∙ sym sized ∙ sym (length_is v h long (omega (arith, large, sized))) in
    let d = c.in_ok-judged.judged.fields in
    let made : IsMadeOf (headed v h) given d =
    moved (λ i n. IsMade i n given d) c.as_slice.result.now (header_of (headed v h)) c.len.result (length (headed v h)) head size c.in_ok-judged.ensures.made in
    let old : List ℕ = g.T.Device.bytes c.args.target.now in
    let w : List ℕ = g.T.Device.bytes c.write_rebuilt.new.target in
    rest_kept (headed v h) given d made (c.write_rebuilt.ensures.rest tells)

pub returns-clause-rest : goal.returns-clause-rest
returns-clause-rest g c = λ source tells.
    let v : List ℕ = g.S.Device.bytes c.args.source.now in
    let h : List ℕ = c.args.header.now in
    let given = c.args.given.now in
    let sized : length v ≡ g.S.Device.size c.args.source.now = g.met.S.Device.sized c.args.source.now source in
    let large = c.requires.large in
    let long : length h ≡ 592 = search rules in
    let head : c.as_slice.result.now ≡ header_of (headed v h) = c.as_slice.ensures ∙ sym (header_is v h long) in
    let size : c.len.result ≡ length (headed v h) = c.len.ensures ∙ sym sized ∙ sym (length_is v h long (omega (arith, large, sized))) in
    let d = c.in_ok-judged.judged.fields in
    let made : IsMadeOf (headed v h) given d =
    moved (λ i n. IsMade i n given d) c.as_slice.result.now (header_of (headed v h)) c.len.result (length (headed v h)) head size c.in_ok-judged.ensures.made in
    let old : List ℕ = g.T.Device.bytes c.args.target.now in
    let w : List ℕ = g.T.Device.bytes c.write_rebuilt.new.target in
    rest_kept (headed v h) given d made (c.write_rebuilt.ensures.rest tells)

pub returns-in_err-write_rebuilt-clause-order : goal.returns-in_err-write_rebuilt-clause-order
returns-in_err-write_rebuilt-clause-order g c = λ source tells.
    let v : List ℕ = g.S.Device.bytes c.args.source.now in
    let h : List ℕ = c.args.header.now in
    let given = c.args.given.now in
    let sized : length v ≡ g.S.Device.size c.args.source.now = g.met.S.Device.sized c.args.source.now source in
    let large = c.requires.large in
    let long : length h ≡ 592 = search rules in
    let head : c.as_slice.result.now ≡ header_of (headed v h) = c.as_slice.ensures ∙ sym (header_is v h long) in
    let size : c.len.result ≡ length (headed v h) = c.len.ensures ∙ sym sized ∙ sym (length_is v h long (omega (arith, large, sized))) in
    let d = c.in_ok-judged.judged.fields in
    let made : IsMadeOf (headed v h) given d =
    moved (λ i n. IsMade i n given d) c.as_slice.result.now (header_of (headed v h)) c.len.result (length (headed v h)) head size c.in_ok-judged.ensures.made in
    let old : List ℕ = g.T.Device.bytes c.args.target.now in
    let w : List ℕ = g.T.Device.bytes c.write_rebuilt.new.target in
    order_kept (headed v h) given d made old w (order_there v h long given d made old w (c.write_rebuilt.ensures.order source tells))

pub returns-clause-order : goal.returns-clause-order
returns-clause-order g c = λ source tells.
    let v : List ℕ = g.S.Device.bytes c.args.source.now in
    let h : List ℕ = c.args.header.now in
    let given = c.args.given.now in
    let sized : length v ≡ g.S.Device.size c.args.source.now = g.met.S.Device.sized c.args.source.now source in
    let large = c.requires.large in
    let long : length h ≡ 592 = search rules in
    let head : c.as_slice.result.now ≡ header_of (headed v h) = c.as_slice.ensures ∙ sym (header_is v h long) in
    let size : c.len.result ≡ length (headed v h) = c.len.ensures ∙ sym sized ∙ sym (length_is v h long (omega (arith, large, sized))) in
    let d = c.in_ok-judged.judged.fields in
    let made : IsMadeOf (headed v h) given d =
    moved (λ i n. IsMade i n given d) c.as_slice.result.now (header_of (headed v h)) c.len.result (length (headed v h)) head size c.in_ok-judged.ensures.made in
    let old : List ℕ = g.T.Device.bytes c.args.target.now in
    let w : List ℕ = g.T.Device.bytes c.write_rebuilt.new.target in
    order_kept (headed v h) given d made old w (order_there v h long given d made old w (c.write_rebuilt.ensures.order source tells))

pub returns-clause-rebuilt : goal.returns-clause-rebuilt
returns-clause-rebuilt g c = λ source tells.
    let v : List ℕ = g.S.Device.bytes c.args.source.now in
    let h : List ℕ = c.args.header.now in
    let given = c.args.given.now in
    let sized : length v ≡ g.S.Device.size c.args.source.now = g.met.S.Device.sized c.args.source.now source in
    let large = c.requires.large in
    let long : length h ≡ 592 = search rules in
    let head : c.as_slice.result.now ≡ header_of (headed v h) = c.as_slice.ensures ∙ sym (header_is v h long) in
    let size : c.len.result ≡ length (headed v h) = c.len.ensures ∙ sym sized ∙ sym (length_is v h long (omega (arith, large, sized))) in
    let d = c.in_ok-judged.judged.fields in
    let made : IsMadeOf (headed v h) given d =
    moved (λ i n. IsMade i n given d) c.as_slice.result.now (header_of (headed v h)) c.len.result (length (headed v h)) head size c.in_ok-judged.ensures.made in
    let old : List ℕ = g.T.Device.bytes c.args.target.now in
    let w : List ℕ = g.T.Device.bytes c.write_rebuilt.new.target in
    let stands : IsWritten d c.in_ok-judged.judged.bytes v w = c.in_ok-write_rebuilt.ensures.written source tells in
    let built : IsRebuilt (headed v h) given old w =
    is_rebuilt (headed v h) given d made old w c.in_ok-judged.judged.bytes c.in_ok-judged.ensures.written (written_there v h long given d made w c.in_ok-judged.judged.bytes stands) (c.write_rebuilt.ensures.rest tells) in
    built

pub returns-clause-areas : goal.returns-clause-areas
returns-clause-areas g c = λ source tells.
    let v : List ℕ = g.S.Device.bytes c.args.source.now in
    let h : List ℕ = c.args.header.now in
    let given = c.args.given.now in
    let sized : length v ≡ g.S.Device.size c.args.source.now = g.met.S.Device.sized c.args.source.now source in
    let large = c.requires.large in
    let long : length h ≡ 592 = search rules in
    let head : c.as_slice.result.now ≡ header_of (headed v h) = c.as_slice.ensures ∙ sym (header_is v h long) in
    let size : c.len.result ≡ length (headed v h) = c.len.ensures ∙ sym sized ∙ sym (length_is v h long (omega (arith, large, sized))) in
    let d = c.in_ok-judged.judged.fields in
    let made : IsMadeOf (headed v h) given d =
    moved (λ i n. IsMade i n given d) c.as_slice.result.now (header_of (headed v h)) c.len.result (length (headed v h)) head size c.in_ok-judged.ensures.made in
    let old : List ℕ = g.T.Device.bytes c.args.target.now in
    let w : List ℕ = g.T.Device.bytes c.write_rebuilt.new.target in
    let stands : IsWritten d c.in_ok-judged.judged.bytes v w = c.in_ok-write_rebuilt.ensures.written source tells in
    let built : IsRebuilt (headed v h) given old w =
    is_rebuilt (headed v h) given d made old w c.in_ok-judged.judged.bytes c.in_ok-judged.ensures.written (written_there v h long given d made w c.in_ok-judged.judged.bytes stands) (c.write_rebuilt.ensures.rest tells) in
    kept_areas_here v h long given d made w built.areas

pub returns-clause-well_formed : goal.returns-clause-well_formed
returns-clause-well_formed g c = λ source tells.
    let v : List ℕ = g.S.Device.bytes c.args.source.now in
    let h : List ℕ = c.args.header.now in
    let given = c.args.given.now in
    let sized : length v ≡ g.S.Device.size c.args.source.now = g.met.S.Device.sized c.args.source.now source in
    let large = c.requires.large in
    let long : length h ≡ 592 = search rules in
    let head : c.as_slice.result.now ≡ header_of (headed v h) = c.as_slice.ensures ∙ sym (header_is v h long) in
    let size : c.len.result ≡ length (headed v h) = c.len.ensures ∙ sym sized ∙ sym (length_is v h long (omega (arith, large, sized))) in
    let d = c.in_ok-judged.judged.fields in
    let made : IsMadeOf (headed v h) given d =
    moved (λ i n. IsMade i n given d) c.as_slice.result.now (header_of (headed v h)) c.len.result (length (headed v h)) head size c.in_ok-judged.ensures.made in
    let old : List ℕ = g.T.Device.bytes c.args.target.now in
    let w : List ℕ = g.T.Device.bytes c.write_rebuilt.new.target in
    let stands : IsWritten d c.in_ok-judged.judged.bytes v w = c.in_ok-write_rebuilt.ensures.written source tells in
    let built : IsRebuilt (headed v h) given old w =
    is_rebuilt (headed v h) given d made old w c.in_ok-judged.judged.bytes c.in_ok-judged.ensures.written (written_there v h long given d made w c.in_ok-judged.judged.bytes stands) (c.write_rebuilt.ensures.rest tells) in
    let end_ : c.len-2.result ≡ length w = c.len-2.ensures ∙ sym c.write_rebuilt.ensures.size ∙ sym (g.met.T.Device.sized c.write_rebuilt.new.target tells) in
    let formed : IsLuks1Volume (part w 0 592) Elsewhere (length w) =
    moved (λ i n. IsLuks1Volume i Elsewhere n) c.in_ok-judged.judged.bytes (part w 0 592) c.len-2.result (length w) (sym stands.header) end_ c.in_ok-judged.ensures.fits in
    well_formed (headed v h) old w given built formed

pub returns-clause-opens : goal.returns-clause-opens
returns-clause-opens g c = λ source tells.
    let v : List ℕ = g.S.Device.bytes c.args.source.now in
    let h : List ℕ = c.args.header.now in
    let given = c.args.given.now in
    let sized : length v ≡ g.S.Device.size c.args.source.now = g.met.S.Device.sized c.args.source.now source in
    let large = c.requires.large in
    let long : length h ≡ 592 = search rules in
    let head : c.as_slice.result.now ≡ header_of (headed v h) = c.as_slice.ensures ∙ sym (header_is v h long) in
    let size : c.len.result ≡ length (headed v h) = c.len.ensures ∙ sym sized ∙ sym (length_is v h long (omega (arith, large, sized))) in
    let d = c.in_ok-judged.judged.fields in
    let made : IsMadeOf (headed v h) given d =
    moved (λ i n. IsMade i n given d) c.as_slice.result.now (header_of (headed v h)) c.len.result (length (headed v h)) head size c.in_ok-judged.ensures.made in
    let old : List ℕ = g.T.Device.bytes c.args.target.now in
    let w : List ℕ = g.T.Device.bytes c.write_rebuilt.new.target in
    let stands : IsWritten d c.in_ok-judged.judged.bytes v w = c.in_ok-write_rebuilt.ensures.written source tells in
    let built : IsRebuilt (headed v h) given old w =
    is_rebuilt (headed v h) given d made old w c.in_ok-judged.judged.bytes c.in_ok-judged.ensures.written (written_there v h long given d made w c.in_ok-judged.judged.bytes stands) (c.write_rebuilt.ensures.rest tells) in
    let end_ : c.len-2.result ≡ length w = c.len-2.ensures ∙ sym c.write_rebuilt.ensures.size ∙ sym (g.met.T.Device.sized c.write_rebuilt.new.target tells) in
    let formed : IsLuks1Volume (part w 0 592) Elsewhere (length w) =
    moved (λ i n. IsLuks1Volume i Elsewhere n) c.in_ok-judged.judged.bytes (part w 0 592) c.len-2.result (length w) (sym stands.header) end_ c.in_ok-judged.ensures.fits in
    λ allowed n p a used. (
      gives_there (headed v h) old w given built formed n used allowed p a,
      gives_here (headed v h) old w given built formed n used allowed p a,
    )
