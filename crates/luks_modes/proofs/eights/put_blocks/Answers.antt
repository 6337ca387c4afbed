use Rattle.std.proofs.Common.{◌≡◌, ℕ, suc, ◌+◌, ◌*◌, List, ◌++◌, [], arith, refl, ap, ap₂, ◌∙◌}
use Rattle.std.specs.Prelude.{slice_index_or}
use Rattle.std.proofs.lemmas.Slice.{take-put_mid}
use Rattle.luks_modes.specs.Xts.{joined}
use Rattle.luks_modes.proofs.eights.put_blocks.Goals as goal

pub loop-i-init : goal.loop-i-init
unfolding joined
loop-i-init c = refl

pub loop-i-preserved : goal.loop-i-preserved
unfolding joined
loop-i-preserved c =
    let i = c.loop-i.i in
    let more : suc i ≡ i + 1 = omega arith in
    take-put_mid (16 * i) _ c.loop-i.bytes _ (16 * (i + 1)) (omega arith) (omega arith)
    ∙ ap₂ (λ (a b : List ℕ). a ++ b) c.loop-i.invariant c.copy_from_slice.ensures.after
    ∙ ap (joined (λ b. slice_index_or c.args.blocks b [])) more
