use Rattle.std.proofs.Common.{ℕ, List, ◌++◌, length, drop, replicate, ap, ◌∙◌}
use Rattle.std.proofs.lemmas.List.{drop-replicate}
use Rattle.luks_formatting.proofs.given.padded.Goals as goal

pub returns : goal.returns
returns c =
    let n : ℕ = length c.args.text.now in
    let zeros : List ℕ = replicate 48 0 in
    ap (λ (l : List ℕ). l ++ drop n zeros) c.copy_from_slice.ensures.after ∙ ap (λ (l : List ℕ). c.args.text.now ++ l) (drop-replicate n 48 0)
