use Rattle.std.proofs.Common.{◌≡◌, ℕ, ◌+◌, ◌-◌, ◌≤◌, List, length, refl, sym, ap, ◌∙◌, arith}
use Rattle.std.proofs.lemmas.Bool.{false≢true}
use Rattle.sha2.specs.Sha256.{sha256}
use Rattle.luks_area.specs.Ranges.{part}
use Rattle.luks2_header.specs.Header2.{with_zero_checksum}
use Rattle.luks2_header.proofs.CopyFacts.{listed_at_least}
use Rattle.luks_finding.proofs.CopyFacts.{formed-sound, sound-copy, sound-inside, sum-sound}
use Rattle.luks_finding.proofs.second_copies.is_sound.Goals as goal
use Rattle.luks_finding.proofs.second_copies.is_sound.Goals.{then-total-via-then-total, then-total-via-else-total+then-size-total}

pub returns-then-total-clause-sound : goal.returns-then-total-clause-sound
returns-then-total-clause-sound g c = λ t. (
  λ f. absurd (false≢true f),
  λ sound.
      let v : List ℕ = g.D.Device.bytes c.args.device.now in
      let long : length v ≡ g.D.Device.size c.args.device.now = g.met.D.Device.sized c.args.device.now t in
      let inside : c.args.start + c.args.size + c.args.size ≤ length v = sound-inside v c.args.start c.args.size c.requires.listed sound in
      let least : 16384 ≤ c.args.size = listed_at_least c.args.size c.requires.listed in
      elim c.then-total.branch [
        | then-total-via-then-total w ↦ absurd (omega (arith, long, inside, least))
        | then-total-via-else-total+then-size-total w ↦ absurd (omega (arith, long, inside, least))
      ],
)

pub returns-then-not-is_formed-clause-sound : goal.returns-then-not-is_formed-clause-sound
returns-then-not-is_formed-clause-sound g c = λ t. (
  λ f. absurd (false≢true f),
  λ sound.
      let v : List ℕ = g.D.Device.bytes c.args.device.now in
      let long : c.len.result - c.args.start ≡ length v - c.args.start = ap (λ n. n - c.args.start) (c.len.ensures ∙ sym (g.met.D.Device.sized c.args.device.now t)) in
      absurd (false≢true (c.if-not-is_formed.ensures.1 (formed-sound v c.read_at.new.into c.args.start c.args.size (c.len.result - c.args.start) long (c.in_ok-read_at.ensures.read t) sound))),
)

pub returns-clause-sound : goal.returns-clause-sound
returns-clause-sound g c = λ t.
    let v : List ℕ = g.D.Device.bytes c.args.device.now in
    let start : ℕ = c.args.start in
    let size : ℕ = c.args.size in
    let long : c.len.result - start ≡ length v - start = ap (λ n. n - start) (c.len.ensures ∙ sym (g.met.D.Device.sized c.args.device.now t)) in
    let read : c.read_at.new.into ≡ part v (start + size) 4096 = c.in_ok-read_at.ensures.read t in
    let taken : c.in_ok-digest.digest ≡ sha256 (with_zero_checksum (part v (start + size) size)) =
    c.in_ok-digest.ensures.digest t ∙ ap (λ w. sha256 (with_zero_checksum (part w (start + size) size))) (c.in_ok-read_at.ensures.unchanged.same t) in (
      λ is. sound-copy v c.read_at.new.into c.in_ok-digest.digest start size (c.len.result - start) c.requires.listed long read
          (c.if-not-is_formed.ensures.0 refl) taken (c.has_sum.ensures.0 is),
      λ sound. c.has_sum.ensures.1 (sum-sound v c.read_at.new.into c.in_ok-digest.digest start size c.requires.listed read taken sound),
    )
