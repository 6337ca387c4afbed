use Rattle.std.proofs.Common.{◌≡◌, ℕ, ◌+◌, List, inl, inr, length, ap, ◌∙◌, arith}
use Rattle.std.proofs.lemmas.Result.{on_ok_weaker}
use Rattle.luks_area.specs.Ranges.{part, IsAt}
use Rattle.luks_window.proofs.WindowFacts.{part-written_window, same_but-window}
use Rattle.luks_find_command.proofs.volume_at.VolumeAtDevice.write_at.Goals as goal

pub returns-clause-wrote : goal.returns-clause-wrote
returns-clause-wrote g c = λ t.
    let window = c.args.self.now in
    let v : List ℕ = g.D.Device.bytes window.device in
    let there : window.start + window.len ≡ g.D.Device.size window.device = window.whole in
    let long : length v ≡ g.D.Device.size window.device = g.met.D.Device.sized window.device t in
    on_ok_weaker c.write_at.result
    (λ wrote. ap (λ w. part w window.start window.len) wrote
    ∙ part-written_window v window.start window.len c.args.at c.args.from.now (omega (arith, there, long)) c.requires.within)
    (c.write_at.ensures.wrote t)

pub returns-clause-touches : goal.returns-clause-touches
returns-clause-touches g c = λ t.
    let touches = c.write_at.ensures.touches t in
    let start : ℕ = c.args.self.now.start in
    let len : ℕ = c.args.self.now.len in
    let n : ℕ = length c.args.from.now in
    let at : ℕ = c.args.at in
    let back : (p : ℕ) → IsAt (start + at) n (start + p) → IsAt at n p = λ p here. (let low = here.0 in omega (arith, low), let high = here.1 in omega (arith, high)) in
    record {
      bytes = same_but-window start len (λ p lt. λ is. elim is [ inl before ↦ inl (lt, before) | inr here ↦ inr (back p here) ]) touches.bytes;
      unsettled = λ p is. elim (touches.unsettled (start + p) is.1) [ inl before ↦ inl (is.0, before) | inr here ↦ inr (back p here) ];
    }
