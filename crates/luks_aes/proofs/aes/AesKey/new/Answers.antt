use Rattle.std.proofs.Common.{inl, inr, ⊎_elim}
use Rattle.luks_aes.proofs.aes.AesKey.new.Goals as goal

pub returns : goal.returns
returns c = (⊎_elim (λ long. inr long.1) (λ short. inl short) c.else-key-ne16.either, c.expanded.ensures)
