use Rattle.std.proofs.Common.{◌≡◌, ℕ, ◌+◌, ◌-◌, ◌*◌, ◌≤◌, List, length, sym, ap, ◌∙◌, arith}
use Rattle.std.proofs.lemmas.Bool.{false≢true}
use Rattle.std.proofs.lemmas.Result.{IfOk-weaker}
use Rattle.luks_area.specs.Ranges.{part}
use Rattle.luks_finding.proofs.MetadataFacts.{metadata-faultless, metadata-holds, metadata-of, has-text, memory-result}
use Rattle.luks_finding.proofs.metadata.is_whole.Goals as goal

pub returns-then-not-branch-clause-whole : goal.returns-then-not-branch-clause-whole
returns-then-not-branch-clause-whole g c = λ t. (
  λ f. absurd (false≢true f),
  λ whole.
      let holds = metadata-holds (g.D.Device.bytes c.args.device.now) (512 * c.args.sector) c.args.place whole in
      absurd (false≢true (sym c.if-not-branch.true ∙ c.in_ok-may_hold_text.ensures.text t holds.0 holds.1)),
)

pub returns-in_err-json-clause-memory : goal.returns-in_err-json-clause-memory
returns-in_err-json-clause-memory g c = λ t.
    let v : List ℕ = g.D.Device.bytes c.args.device.now in
    let long : length v ≡ g.D.Device.size c.args.device.now = g.met.D.Device.sized c.args.device.now t in
    memory-result v c.from_residual-in_err-json.result
    (has-text v c.args.sector c.args.place c.requires.listed c.requires.half (omega (arith, long)) (c.in_ok-may_hold_text.ensures.brace t c.if-not-branch.false))

pub returns-clause-whole : goal.returns-clause-whole
returns-clause-whole g c = λ t.
    let v : List ℕ = g.D.Device.bytes c.args.device.now in
    let s : ℕ = 512 * c.args.sector in
    let long : length v ≡ g.D.Device.size c.args.device.now = g.met.D.Device.sized c.args.device.now t in
    let inside : s + c.args.place.at + c.args.place.size ≤ length v = omega (arith, long) in
    let read : c.deref.result.now ≡ part v (s + c.args.place.at + 4096) (c.args.place.size - 4096) =
    c.deref.ensures.value ∙ c.in_ok-json.ensures.read t ∙ ap (λ w. part w (s + c.args.place.at + 4096) (c.args.place.size - 4096)) (c.in_ok-may_hold_text.ensures.unchanged.same t) in
    IfOk-weaker c.is_faultless.result _ _ (λ is so. (
      λ yes. metadata-of v c.deref.result.now s c.args.place c.requires.listed c.requires.half inside read (so.0 yes),
      λ whole. so.1 (metadata-faultless v c.deref.result.now s c.args.place read whole),
    )) c.is_faultless.ensures.faultless

pub returns-clause-memory : goal.returns-clause-memory
returns-clause-memory g c = λ t.
    let v : List ℕ = g.D.Device.bytes c.args.device.now in
    let long : length v ≡ g.D.Device.size c.args.device.now = g.met.D.Device.sized c.args.device.now t in
    memory-result v c.is_faultless.result
    (has-text v c.args.sector c.args.place c.requires.listed c.requires.half (omega (arith, long)) (c.in_ok-may_hold_text.ensures.brace t c.if-not-branch.false))
