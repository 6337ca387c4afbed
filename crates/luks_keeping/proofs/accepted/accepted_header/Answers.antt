use Rattle.std.proofs.Common.{◌≡◌, ℕ, List, length, subst, sym, ◌∙◌}
use Rattle.std.proofs.lemmas.Result.{err_from_is_err_and}
use Rattle.luks_area.specs.Area.{Fit}
use Rattle.luks_area.specs.First.{IsLeast}
use Rattle.luks2_header.proofs.ChoiceFacts.{choices_agree}
use Rattle.luks_reading.proofs.CheckFacts.{first_refused, unread_refused}
use Rattle.luks_reading.specs.Checked.{check_key}
use Rattle.luks_reading.specs.Reported.{HeaderArea}
use Rattle.luks_keeping.specs.Judged.{IsFaultOn, IsFormedOn}
use Rattle.luks_keeping.proofs.JudgedFacts.{own_first}
use Rattle.luks_keeping.proofs.VolumeFacts.{formed_own}
use Rattle.luks_keeping.proofs.accepted.accepted_header.Goals as goal

pub returns-in_err-header-clause-refused : goal.returns-in_err-header-clause-refused
returns-in_err-header-clause-refused g c = λ tells.
    let p = err_from_is_err_and c.from_residual.result c.from_residual.ensures.1 in
    rw (p.1, p.2) (unread_refused choices_agree (g.D.Device.bytes c.args.device.now) c.args.payload c.in_err-header.field-0.0 (c.in_err-header.ensures.refused tells))

pub returns-in_err-judge_header-clause-refused : goal.returns-in_err-judge_header-clause-refused
returns-in_err-judge_header-clause-refused g c = λ tells.
    let v : List ℕ = g.D.Device.bytes c.args.device.now in
    let long : c.len.result ≡ length v = c.len.ensures ∙ c.in_ok-header.ensures.unchanged.size ∙ sym (g.met.D.Device.sized c.args.device.now tells) in
    let p = err_from_is_err_and c.from_residual-in_err-judge_header.result c.from_residual-in_err-judge_header.ensures.1 in
    rw (p.1, p.2) (first_refused v c.args.payload c.in_err-judge_header.field-0.0
    (own_first v c.args.payload c.in_err-judge_header.field-0.0 (subst (λ (t : ℕ). IsLeast check_key (IsFaultOn v c.args.payload t) c.in_err-judge_header.field-0.0) long
    (c.in_err-judge_header.ensures.refused v (c.in_ok-header.ensures.read tells)))))

pub returns-clause-fits : goal.returns-clause-fits
returns-clause-fits g c =
    let h = c.in_ok-header.header in
    subst (λ (t : ℕ). Fit (HeaderArea h c.args.payload t) t) (c.len.ensures ∙ c.in_ok-header.ensures.unchanged.size) c.in_ok-judge_header.ensures.fits

pub returns-clause-formed : goal.returns-clause-formed
returns-clause-formed g c = λ tells.
    let v : List ℕ = g.D.Device.bytes c.args.device.now in
    let long : c.len.result ≡ length v = c.len.ensures ∙ c.in_ok-header.ensures.unchanged.size ∙ sym (g.met.D.Device.sized c.args.device.now tells) in
    formed_own v c.args.payload (subst (λ (t : ℕ). IsFormedOn v c.args.payload t) long (c.in_ok-judge_header.ensures.formed v (c.in_ok-header.ensures.read tells)))

pub returns-clause-within : goal.returns-clause-within
returns-clause-within g c = record {
  payload = c.args.payload;
  fit = subst (λ (n : ℕ). Fit (HeaderArea c.in_ok-header.header c.args.payload n) n) c.len.ensures c.in_ok-judge_header.ensures.fits;
}
