use Rattle.std.proofs.Common.{ℕ, ◌∙◌, ap, List, ◌++◌}
use Rattle.luks_aes.specs.Circuits.{middle, norm_inverse, products}
use Rattle.luks_aes.specs.Planes.{bits_of}
use Rattle.luks_aes.proofs.sbox.middle.Goals as goal

pub returns : goal.returns
unfolding middle
returns c = λ k b h low.
    c.products.ensures k b h low
    ∙ ap (λ (wires : List ℕ). products (bits_of 22 k b c.args.y ++ wires))
    (c.norm_inverse-inverse.ensures k b h low ∙ ap norm_inverse (c.norm-norm.ensures k b h low))
