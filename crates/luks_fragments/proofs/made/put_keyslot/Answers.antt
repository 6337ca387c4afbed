use Rattle.std.proofs.Common.{refl, codes, ◌++◌, ◌∙◌}
use Rattle.luks_json.specs.Number.{number_text}
use Rattle.luks_fragments.proofs.AppendFacts.{put_more}
use Rattle.luks_fragments.proofs.made.put_keyslot.Goals as goal

pub returns : goal.returns
returns c =
    let t = c.args.text.now.items in
    let keyslot = c.args.parts.now.keyslot.now in
    let name = number_text c.args.parts.now.slot in
    let one = codes "\"keyslots\":{\"" in
    let middle = codes "\":" in
    let last = codes "}," in
    let two = put_more t one c.as_bytes.result.now name c.in_ok-extend_from_slice.ensures.items c.in_ok-extend_from_slice-2.ensures.items
    (c.as_bytes.ensures.value ∙ c.number_text.ensures) in
    let three = put_more t (one ++ name) middle middle two c.in_ok-extend_from_slice-3.ensures.items refl in
    let four = put_more t (one ++ name ++ middle) keyslot keyslot three c.in_ok-extend_from_slice-4.ensures.items refl in
    put_more t (one ++ name ++ middle ++ keyslot) last last four c.in_ok-extend_from_slice-5.ensures.items refl
