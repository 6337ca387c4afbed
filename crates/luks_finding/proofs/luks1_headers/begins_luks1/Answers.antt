use Rattle.std.proofs.Common.{◌≡◌, ℕ, ◌+◌, ◌-◌, ◌≤◌, List, length, sym, ap, ◌∙◌, subst, arith, length-drop}
use Rattle.std.proofs.lemmas.Bool.{false≢true}
use Rattle.luks_area.specs.Ranges.{part}
use Rattle.luks_finding.specs.Starts.{volume_at, IsLuks1Header}
use Rattle.luks_finding.proofs.luks1_headers.begins_luks1.Goals as goal

pub returns-then-total-clause-begins : goal.returns-then-total-clause-begins
returns-then-total-clause-begins g c = λ t. (
  λ f. absurd (false≢true f),
  λ begins.
      let v : List ℕ = g.D.Device.bytes c.args.device.now in
      let long : length v ≡ g.D.Device.size c.args.device.now = g.met.D.Device.sized c.args.device.now t in
      let whole : c.args.start + 592 ≤ length v = begins.whole in
      absurd (omega (arith, long, whole)),
)

pub returns-clause-begins : goal.returns-clause-begins
returns-clause-begins g c = λ t.
    let v : List ℕ = g.D.Device.bytes c.args.device.now in
    let start : ℕ = c.args.start in
    let sized : length v ≡ g.D.Device.size c.args.device.now = g.met.D.Device.sized c.args.device.now t in
    let total : c.len.result - start ≡ length (volume_at v start) = ap (λ n. n - start) (c.len.ensures ∙ sym sized) ∙ sym (length-drop start v) in
    let read : c.read_at.new.into ≡ part v start 592 = c.in_ok-read_at.ensures.read t in
    let N : ℕ → Type 0 = λ n. IsLuks1Header c.read_at.new.into n in
    let H : List ℕ → Type 0 = λ h. IsLuks1Header h (length (volume_at v start)) in (
      λ is. record { whole = omega (arith, sized); header = subst H read (subst N total (c.is_luks1_header.ensures.0 is)) },
      λ begins. c.is_luks1_header.ensures.1 (subst N (sym total) (subst H (sym read) begins.header)),
    )
