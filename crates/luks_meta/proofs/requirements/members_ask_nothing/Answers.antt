use Rattle.std.proofs.Common.{◌≡◌, ◌≢◌, length, sym, arith}
use Rattle.luks_meta.proofs.Requiring.{more_members, one_member}
use Rattle.luks_meta.proofs.requirements.members_ask_nothing.Goals as goal

pub returns-then-count-eq1 : goal.returns-then-count-eq1
returns-then-count-eq1 c =
    let one : length c.args.members.now.entries ≡ 1 = cc (c.len-count.ensures.len) in
    rw (c.is_empty_at.ensures, c.get.ensures, c.requires) (sym (one_member c.args.members.now.entries one))

pub returns : goal.returns
returns c =
    let some : length c.args.members.now.entries ≢ 0 = omega (arith, c.len-count.ensures.len) in
    let more : length c.args.members.now.entries ≢ 1 = omega (arith, c.len-count.ensures.len) in
    rw c.requires (sym (more_members c.args.members.now.entries some more))
