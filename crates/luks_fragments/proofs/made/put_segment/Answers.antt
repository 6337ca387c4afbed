use Rattle.std.proofs.Common.{refl, codes, ◌++◌}
use Rattle.luks_fragments.proofs.AppendFacts.{put_more}
use Rattle.luks_fragments.proofs.made.put_segment.Goals as goal

pub returns : goal.returns
returns c =
    let t = c.args.text.now.items in
    let segment = c.args.segment.now in
    let one = codes "\"segments\":{\"0\":" in
    let last = codes "},\"tokens\":{}}" in
    put_more t (one ++ segment) last last
    (put_more t one segment segment c.in_ok-extend_from_slice.ensures.items c.in_ok-extend_from_slice-2.ensures.items refl)
    c.in_ok-extend_from_slice-3.ensures.items refl
