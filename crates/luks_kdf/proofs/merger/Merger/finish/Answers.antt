use Rattle.std.proofs.Common.{◌≡◌, ◌+◌, ◌-◌, arith, ap, ◌∙◌}
use Rattle.luks_kdf.specs.Xor.{xor_bytes}
use Rattle.luks_kdf.specs.Splitter.{merge}
use Rattle.luks_kdf.proofs.merger.Merger.finish.Goals as goal

pub returns-clause-whole : goal.returns-clause-whole
unfolding merge
returns-clause-whole g c k i stripes so_far is_last =
    let count : i + 1 - 1 ≡ i = omega arith in
    let value = c.xor_with.ensures ∙ ap (λ l. xor_bytes l c.args.last.now) (c.self.view_is ∙ so_far) in
    rw (count, ← is_last) value
