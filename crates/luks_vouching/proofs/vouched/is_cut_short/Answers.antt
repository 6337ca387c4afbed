use Rattle.std.proofs.Common.{◌≡◌, ℕ, List, sym, ap, ◌∙◌, subst}
use Rattle.luks_vouching.specs.Tried.{IsCutShort}
use Rattle.luks_vouching.specs.Vouched.{area_at}
use Rattle.luks_vouching.proofs.vouched.is_cut_short.Goals as goal

pub returns-clause-told : goal.returns-clause-told
returns-clause-told g c = λ t.
    let v : List ℕ = g.D.Device.bytes c.args.source.now in
    let one : g.D.Device.bytes c.reads_standing.new.source ≡ v = c.in_ok-reads_standing.ensures.unchanged.same t in
    let two : g.D.Device.bytes c.read_area.new.source ≡ v = c.in_ok-first.ensures.unchanged.same t ∙ one in
    let first : c.deref.result.now ≡ area_at v 0 c.args.size = c.deref.ensures.value ∙ c.in_ok-first.ensures.read t ∙ ap (λ w. area_at w 0 c.args.size) one in
    let second : c.deref-2.result.now ≡ area_at v c.args.size c.args.size = c.deref-2.ensures.value ∙ c.in_ok-second.ensures.read t ∙ ap (λ w. area_at w c.args.size c.args.size) two in (
      λ is. (
        (c.in_ok-reads_standing.ensures.stands t).0 c.if-not-branch.false,
        subst (λ l. IsCutShort c.args.most l (area_at v c.args.size c.args.size)) first (subst (IsCutShort c.args.most c.deref.result.now) second (c.are_cut_short.ensures.0 is)),
      ),
      λ x. c.are_cut_short.ensures.1 (subst (IsCutShort c.args.most c.deref.result.now) (sym second) (subst (λ l. IsCutShort c.args.most l (area_at v c.args.size c.args.size)) (sym first) x.1)),
    )
