use Rattle.std.proofs.Common.{refl, [], codes, decimal, ◌++◌, ◌∙◌}
use Rattle.luks_fragments.proofs.AppendFacts.{put_more}
use Rattle.luks_piecing.proofs.given.segment_text.Goals as goal

pub returns : goal.returns
returns c =
    let offset = decimal c.args.given.now.offset in
    let cipher = c.args.given.now.cipher.now in
    let size = decimal c.args.given.now.sector_size in
    let begin = codes "{\"type\":\"crypt\",\"offset\":\"" in
    let middle = codes "\",\"iv_tweak\":\"0\",\"size\":\"dynamic\",\"encryption\":\"" in
    let behind = codes "\",\"sector_size\":" in
    let last = codes "}" in
    let one = put_more [] [] begin begin c.new-text.ensures.items c.in_ok-extend_from_slice.ensures.items refl in
    let two = put_more [] begin c.as_bytes.result.now offset one c.in_ok-extend_from_slice-2.ensures.items (c.as_bytes.ensures.value ∙ c.in_ok-offset.ensures.ok) in
    let three = put_more [] (begin ++ offset) middle middle two c.in_ok-extend_from_slice-3.ensures.items refl in
    let four = put_more [] (begin ++ offset ++ middle) c.as_bytes-2.result.now cipher three c.in_ok-extend_from_slice-4.ensures.items c.as_bytes-2.ensures.value in
    let five = put_more [] (begin ++ offset ++ middle ++ cipher) behind behind four c.in_ok-extend_from_slice-5.ensures.items refl in
    let six = put_more [] (begin ++ offset ++ middle ++ cipher ++ behind) c.as_bytes-3.result.now size five c.in_ok-extend_from_slice-6.ensures.items
    (c.as_bytes-3.ensures.value ∙ c.in_ok-sector_size.ensures.ok) in
    put_more [] (begin ++ offset ++ middle ++ cipher ++ behind ++ size) last last six c.in_ok-extend_from_slice-7.ensures.items refl
