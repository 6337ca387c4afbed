use Rattle.std.proofs.Common.{◌≡◌, ℕ, ◌-◌, List, [], ◌++◌, length, drop, replicate, take}
use Rattle.std.proofs.lemmas.List.{take_rest}
use Rattle.luks2_header.specs.Header2.{with_zero_checksum}
use Rattle.luks2_header.proofs.BothCopiesFacts.{held_as}
use Rattle.luks2_header.proofs.both_copies.hasher_of_both.Goals as goal

pub returns : goal.returns
returns c =
    let f = c.args.first.now in
    let s = c.args.second.now in
    let zeros : List ℕ = replicate 64 0 in
    let one : take (length f - 512) (drop 512 f) ≡ drop 512 f = take_rest f 512 in
    let other : take (length s - 512) (drop 512 s) ≡ drop 512 s = take_rest s 512 in
    let front : c.field.result.now ≡ take 448 f = c.field.ensures.value in
    let back : c.field-2.result.now ≡ take 448 s = c.field-2.ensures.value in
    let first : ((c.field.result.now ++ zeros) ++ take (length f - 512) (drop 512 f)) ++ c.args.first_json.now ≡ with_zero_checksum f ++ c.args.first_json.now = cc in
    let second : ((c.field-2.result.now ++ zeros) ++ take (length s - 512) (drop 512 s)) ++ c.args.second_json.now ≡ with_zero_checksum s ++ c.args.second_json.now = cc in
    held_as _ _ _ _ _ first second
    (c.update-4.ensures _ _ (c.update-3.ensures _ _ (c.update-2.ensures _ _ (c.update.ensures [] [] c.new-hasher.ensures))))
