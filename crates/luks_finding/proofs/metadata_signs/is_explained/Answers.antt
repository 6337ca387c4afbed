use Rattle.std.proofs.Common.{◌≡◌, ℕ, ◌*◌, ◌≤◌, List, arith}
use Rattle.std.proofs.lemmas.Bool.{false≢true}
use Rattle.std.proofs.lemmas.Result.{IfOk-weaker}
use Rattle.luks_finding.proofs.ExplainedFacts.{explained-first, explained-second, first-explained, second-explained}
use Rattle.luks_finding.proofs.metadata_signs.is_explained.Goals as goal

pub returns-then-place-gt0-clause-explained : goal.returns-then-place-gt0-clause-explained
returns-then-place-gt0-clause-explained g c = λ t.
    let v : List ℕ = g.D.Device.bytes c.args.device.now in
    let s : ℕ = 512 * c.args.sector in
    IfOk-weaker c.is_sound.result _ _ (λ is so. (
      λ yes. explained-second v s c.args.place (omega arith) c.requires.half c.requires.listed (so.0 yes),
      λ explained. so.1 (second-explained v s c.args.place (omega arith) c.requires.half explained),
    )) (c.is_sound.ensures.sound t)

pub returns-then-place-start-clause-explained : goal.returns-then-place-start-clause-explained
returns-then-place-start-clause-explained g c = λ t. (
  λ f. absurd (false≢true f),
  λ explained.
      let v : List ℕ = g.D.Device.bytes c.args.device.now in
      let first : c.args.place.at ≡ 0 = omega arith in
      let low : c.args.place.size ≤ 512 * c.args.sector = (first-explained v (512 * c.args.sector) c.args.place first explained).0 in
      absurd (omega (arith, low)),
)

pub returns-clause-explained : goal.returns-clause-explained
returns-clause-explained g c = λ t.
    let v : List ℕ = g.D.Device.bytes c.args.device.now in
    let s : ℕ = 512 * c.args.sector in
    let first : c.args.place.at ≡ 0 = omega arith in
    IfOk-weaker c.is_sound_first.result _ _ (λ is so. (
      λ yes. explained-first v s c.args.place first (omega arith) c.requires.listed (so.0 yes),
      λ explained. so.1 (first-explained v s c.args.place first explained).1,
    )) (c.is_sound_first.ensures.sound t)
