use Rattle.std.proofs.Common.{◌≡◌, ℕ, List, length, length-take-le, take, ap, sym, ◌∙◌, arith}
use Rattle.std.proofs.lemmas.Bool.Decides.{Decides-eqb}
use Rattle.std.proofs.lemmas.Slice.Eq.{slice_eq-Decides}
use Rattle.luks_area.specs.Ranges.{part}
use Rattle.luks_signatures.proofs.FrontFacts.{part-front}
use Rattle.luks_signatures.proofs.standing.stands.Goals as goal

pub returns-clause-stands : goal.returns-clause-stands
returns-clause-stands g c = λ t.
    let v : List ℕ = g.D.Device.bytes c.args.device.now in
    let n : ℕ = length c.args.bytes.now in
    let same : part (take c.args.end v) c.args.place n ≡ part v c.args.place n = part-front v c.args.end c.args.place n (omega arith) in
    let read : c.read_at.new.into ≡ part v c.args.place n =
    c.in_ok-read_at.ensures.read t ∙ ap (λ k. part v c.args.place k) (length-take-le _ _ c.requires.few) in
    let decides = slice_eq-Decides Decides-eqb c.read_at.new.into c.args.bytes.now c.eq.result c.eq.ensures in
    (λ e. same ∙ sym read ∙ decides.0 e, λ stands. decides.1 (read ∙ sym same ∙ stands))
