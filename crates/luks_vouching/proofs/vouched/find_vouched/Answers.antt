use Rattle.std.proofs.Common.{◌≡◌, ℕ, List, subst, IfOk}
use Rattle.luks_vouching.specs.Vouched.{area_at, mended_header, FindsComposed, Stands}
use Rattle.luks_vouching.proofs.FoundFacts.{composed_vouched}
use Rattle.luks_vouching.proofs.vouched.find_vouched.Goals as goal

pub returns-clause-found : goal.returns-clause-found
returns-clause-found g c = λ t.
    let v : List ℕ = g.D.Device.bytes c.args.source.now in
    let stands : Stands v c.args.size c.args.at = (c.in_ok-reads_standing.ensures.stands t).0 c.if-not-branch.false in
    let mended : c.reads_standing.new.head ≡ mended_header v c.args.at = c.in_ok-reads_standing.ensures.head t c.if-not-branch.false in
    let H : List ℕ → Type 0 = λ h. IfOk c.vouched_by.result (FindsComposed c.args.most h (area_at v 0 c.args.size) (area_at v c.args.size c.args.size)) in
    let W : List ℕ → Type 0 = λ w. IfOk c.vouched_by.result (FindsComposed c.args.most c.reads_standing.new.head (area_at w 0 c.args.size) (area_at w c.args.size c.args.size)) in
    composed_vouched c.args.most v c.args.size c.args.at stands c.vouched_by.result
    (subst H mended (subst W (c.in_ok-reads_standing.ensures.unchanged.same t) (c.vouched_by.ensures.found t)))
