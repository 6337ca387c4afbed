-- What is in a file that bytes are kept in.
use Rattle.std.proofs.Common.{◌≡◌, ◌∙◌, ◌+◌, ℕ, arith, List, length, ◌++◌, drop, Result, Ok, Err, OnOk, ap}
use Rattle.std.proofs.Math.Seq.{drop-length}
use Rattle.std.proofs.lemmas.List.{append-nil}
use Rattle.luks_area.specs.Ranges.{written}

-- bytes that are written over all of a volume are all that it has
pub written_whole : (v bytes : List ℕ) → length v ≡ length bytes → written v 0 bytes ≡ bytes
written_whole v bytes same =
    let end : 0 + length bytes ≡ length v = omega (arith, same) in
    ap (λ n. bytes ++ drop n v) end ∙ (ap (λ rest. bytes ++ rest) (drop-length v) ∙ append-nil bytes)

-- what was written stays as it is flushed
pub flushed : {X F : Type 0} (r : Result X F) (last mid bytes : List ℕ) → OnOk r (last ≡ mid) → mid ≡ bytes → OnOk r (last ≡ bytes)
flushed (Ok x) last mid bytes same is = same ∙ is
flushed (Err f) last mid bytes same is = tt
