use Rattle.std.proofs.Common.{◌≡◌, ℕ, ◌-◌, List, [], ◌++◌, length, drop, replicate, take, subst}
use Rattle.std.proofs.lemmas.List.{take_rest}
use Rattle.luks2_header.specs.Header2.{with_zero_checksum}
use Rattle.sha2.specs.Hashers.{Holds256}
use Rattle.luks2_header.proofs.copies.digest_of_header.Goals as goal

pub returns : goal.returns
returns c =
    let P : List ℕ → Type 0 = λ m. Holds256 c.update-3.new.self m in
    let front : c.field.result.now ≡ take 448 c.args.head.now = c.field.ensures.value in
    let zeros : c.as_slice.result.now ≡ replicate 64 0 = c.as_slice.ensures in
    let rest : take (length c.args.head.now - 512) (drop 512 c.args.head.now) ≡ drop 512 c.args.head.now = take_rest c.args.head.now 512 in
    let whole : (c.field.result.now ++ c.as_slice.result.now) ++ take (length c.args.head.now - 512) (drop 512 c.args.head.now) ≡ with_zero_checksum c.args.head.now = cc in
    subst P whole (c.update-3.ensures _ (c.update-2.ensures _ (c.update.ensures [] c.new-hasher.ensures)))
