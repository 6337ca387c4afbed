use Rattle.std.proofs.Common.{refl, codes, length, take, ◌++◌, ◌-◌, ◌∙◌}
use Rattle.luks_json.specs.Number.{number_text}
use Rattle.luks_fragments.proofs.AppendFacts.{put_more}
use Rattle.luks_fragments.proofs.made.put_digest.Goals as goal

pub returns : goal.returns
returns c =
    let t = c.args.text.now.items in
    let digest = c.args.parts.now.digest.now in
    let members = take (length digest - 1) digest in
    let number = number_text c.args.parts.now.number in
    let slot = number_text c.args.parts.now.slot in
    let one = codes "\"digests\":{\"" in
    let colon = codes "\":" in
    let names = codes ",\"keyslots\":[\"" in
    let last = codes "\"],\"segments\":[\"0\"]}}," in
    let two = put_more t one c.as_bytes.result.now number c.in_ok-extend_from_slice.ensures.items c.in_ok-extend_from_slice-2.ensures.items
    (c.as_bytes.ensures.value ∙ c.number_text.ensures) in
    let three = put_more t (one ++ number) colon colon two c.in_ok-extend_from_slice-3.ensures.items refl in
    let four = put_more t (one ++ number ++ colon) members members three c.in_ok-extend_from_slice-4.ensures.items refl in
    let five = put_more t (one ++ number ++ colon ++ members) names names four c.in_ok-extend_from_slice-5.ensures.items refl in
    let six = put_more t (one ++ number ++ colon ++ members ++ names) c.as_bytes-2.result.now slot five c.in_ok-extend_from_slice-6.ensures.items
    (c.as_bytes-2.ensures.value ∙ c.number_text-2.ensures) in
    put_more t (one ++ number ++ colon ++ members ++ names ++ slot) last last six c.in_ok-extend_from_slice-7.ensures.items refl
