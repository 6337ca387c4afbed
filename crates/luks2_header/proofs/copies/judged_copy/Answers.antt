use Rattle.std.proofs.Common.{ℕ, List, sym, ap, ◌∙◌, subst}
use Rattle.sha2.specs.Sha256.{sha256}
use Rattle.luks_area.specs.Ranges.{part}
use Rattle.luks2_header.specs.Header2.{IsFormed, with_zero_checksum}
use Rattle.luks2_header.proofs.BothCopiesFacts.{found_by, found_within}
use Rattle.luks2_header.proofs.copies.judged_copy.Goals as goal

pub returns-clause-within : goal.returns-clause-within
returns-clause-within g c = found_within _ c.args.at c.args.head.now _ _ c.requires.formed c.with_sum.ensures

pub returns-clause-judged : goal.returns-clause-judged
returns-clause-judged g c = λ t.
    let v : List ℕ = g.D.Device.bytes c.args.device.now in
    let N : ℕ → Type 0 = λ n. IsFormed c.args.head.now c.args.at n in
    found_by v c.args.at c.args.head.now _ _ (c.requires.begun t).head
    (subst N (sym (g.met.D.Device.sized c.args.device.now t)) c.requires.formed)
    (c.in_ok-digest.ensures.digest t ∙ ap (λ n. sha256 (with_zero_checksum (part v c.args.at n))) c.u64_at-size.ensures) c.with_sum.ensures
