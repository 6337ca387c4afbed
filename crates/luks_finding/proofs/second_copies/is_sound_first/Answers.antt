use Rattle.std.proofs.Common.{◌≡◌, ℕ, ◌-◌, List, length, refl, sym, ap, ◌∙◌}
use Rattle.std.proofs.lemmas.Bool.{false≢true}
use Rattle.sha2.specs.Sha256.{sha256}
use Rattle.luks_area.specs.Ranges.{part}
use Rattle.luks2_header.specs.Header2.{with_zero_checksum}
use Rattle.luks_finding.proofs.CopyFacts.{formed-first, sound-first, sum-first}
use Rattle.luks_finding.proofs.second_copies.is_sound_first.Goals as goal

pub returns-then-not-is_formed_first-clause-sound : goal.returns-then-not-is_formed_first-clause-sound
returns-then-not-is_formed_first-clause-sound g c = λ t. (
  λ f. absurd (false≢true f),
  λ sound.
      let v : List ℕ = g.D.Device.bytes c.args.device.now in
      let long : c.len.result - c.args.start ≡ length v - c.args.start = ap (λ n. n - c.args.start) (c.len.ensures ∙ sym (g.met.D.Device.sized c.args.device.now t)) in
      absurd (false≢true (c.if-not-is_formed_first.ensures.1 (formed-first v c.read_at.new.into c.args.start c.args.size (c.len.result - c.args.start) long (c.in_ok-read_at.ensures.read t) sound))),
)

pub returns-clause-sound : goal.returns-clause-sound
returns-clause-sound g c = λ t.
    let v : List ℕ = g.D.Device.bytes c.args.device.now in
    let start : ℕ = c.args.start in
    let size : ℕ = c.args.size in
    let long : c.len.result - start ≡ length v - start = ap (λ n. n - start) (c.len.ensures ∙ sym (g.met.D.Device.sized c.args.device.now t)) in
    let read : c.read_at.new.into ≡ part v start 4096 = c.in_ok-read_at.ensures.read t in
    let formed = c.if-not-is_formed_first.ensures.0 refl in
    let taken : c.in_ok-sum.sum ≡ sha256 (with_zero_checksum (part v start size)) =
    c.in_ok-sum.ensures.digest t ∙ ap (λ w. sha256 (with_zero_checksum (part w start size))) (c.in_ok-read_at.ensures.unchanged.same t) in (
      λ is. sound-first v c.read_at.new.into c.in_ok-sum.sum start size (c.len.result - start) long read
          formed.0 formed.1 taken (c.has_sum.ensures.0 is),
      λ sound. c.has_sum.ensures.1 (sum-first v c.read_at.new.into c.in_ok-sum.sum start size read taken sound),
    )
