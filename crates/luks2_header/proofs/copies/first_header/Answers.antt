use Rattle.std.proofs.Common.{◌≡◌, ℕ, List, length, replicate, ap, ◌∙◌, arith}
use Rattle.std.proofs.lemmas.List.{length-replicate}
use Rattle.luks_area.specs.Ranges.{written}
use Rattle.luks2_header.proofs.CopyFacts.{joined_header}
use Rattle.luks2_header.proofs.copies.first_header.Goals as goal

pub returns-clause-read : goal.returns-clause-read
returns-clause-read g c = λ t.
    let v : List ℕ = g.D.Device.bytes c.args.device.now in
    let long : length c.read_at.new.into ≡ 3504 = omega arith in
    c.put-2.ensures ∙ ap (λ w. written w 592 c.read_at.new.into) c.put.ensures
    ∙ joined_header v (replicate 4096 0) c.args.begun.now c.read_at.new.into (length-replicate {A = ℕ} 4096 0) c.requires.size long
    (c.requires.begun t) (c.in_ok-read_at.ensures.read t)
