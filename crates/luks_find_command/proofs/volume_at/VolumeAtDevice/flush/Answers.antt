use Rattle.std.proofs.Common.{ℕ, ◌+◌, inl, inr}
use Rattle.luks_window.proofs.WindowFacts.{same_but-window}
use Rattle.luks_find_command.proofs.volume_at.VolumeAtDevice.flush.Goals as goal

pub returns-clause-touches : goal.returns-clause-touches
returns-clause-touches g c = λ t.
    let touches = c.flush.ensures.touches t in
    let start : ℕ = c.args.self.now.start in
    let len : ℕ = c.args.self.now.len in
    record {
      bytes = same_but-window start len (λ p lt. λ is. elim is [ inl before ↦ inl (lt, before) | inr here ↦ inr here ]) touches.bytes;
      unsettled = λ p is. elim (touches.unsettled (start + p) is.1) [ inl before ↦ inl (is.0, before) | inr here ↦ inr here ];
    }
