use Rattle.std.proofs.Common.{◌≡◌, ℕ, List, Some, None, is_some, sym, ap, ◌∙◌, subst, arith}
use Rattle.luks2_header.specs.Header2.{header_at, seqid, HoldsBin2}
use Rattle.luks_vouching.proofs.LawFacts.{none_vouched}
use Rattle.luks_vouching.specs.Vouched.{mended_header, IsVouched, VouchesForNone}
use Rattle.luks_vouching.specs.declared.vouched.Vouched.{Vouched}
use Rattle.luks_rebuilding.specs.Candidates.{next_seqid, IsAsked, IsVouchedOf}
use Rattle.luks_rebuilding.specs.Found.{kept_label, kept_seqid, kept_subsystem, own_seqid, source_of, FindsVouchedAt}
use Rattle.luks_rebuilding.specs.Shares.{IsShare}
use Rattle.luks_rebuilding.specs.declared.candidate.Candidate.{Candidate}
use Rattle.luks_rebuilding.specs.declared.place.Place.{Place}
use Rattle.luks_rebuilding.specs.declared.place.Which.{Which}
use Rattle.luks_rebuilding.proofs.HeaderFacts.{mended_part, mended_seqid}
use Rattle.luks_rebuilding.proofs.ShareFacts.{one_share}
use Rattle.luks_rebuilding.proofs.vouching.vouched_at.Goals as goal

none_at : (v : List ℕ) (which : Which) (place : Place) (most : ℕ) → IsShare v which.effort most → VouchesForNone most v place.size place.at → FindsVouchedAt v which place None
none_at v which place most share none s is there =
    let same : is.1.most ≡ most = one_share v which.effort is.1.most most is.1.share share in
    none_vouched most v place.size place.at s.json none
    (subst (λ (q : Place). IsVouched most v q.size q.at s.json) there (subst (λ (m : ℕ). IsVouched m v s.size s.at s.json) same is.1.vouched))

-- of the place itself
found_there : (v : List ℕ) (which : Which) (most : ℕ) (w : Vouched) (c : Candidate) → IsShare v which.effort most → IsAsked which.copies c.place → IsVouched most v c.place.size c.place.at c.json.items
    → HoldsBin2 (mended_header v c.place.at) w.header → c.vouch ≡ Some w.header → IsVouchedOf v which (source_of c)
found_there v which most w c share asked vouched holds vouch =
    let said : w.header.seqid ≡ seqid (header_at v c.place.at) = mended_seqid v c.place.at w.header holds in (
      ap is_some vouch,
      record {
        asked = asked;
        most = most;
        share = share;
        vouched = vouched;
        number = ap own_seqid vouch ∙ said;
        seqid = ap kept_seqid vouch ∙ ap next_seqid said;
        label = ap kept_label vouch ∙ sym holds.label ∙ mended_part v c.place.at 24 48 (omega arith);
        subsystem = ap kept_subsystem vouch ∙ sym holds.subsystem ∙ mended_part v c.place.at 208 48 (omega arith);
      },
    )

pub returns-in-Ok-None-clause-found : goal.returns-in-Ok-None-clause-found
returns-in-Ok-None-clause-found g c = λ t.
    none_at (g.D.Device.bytes c.args.source.now) c.args.which c.args.place c.args.most (c.requires.share t) (rw c.in-Ok-None.field-0-is at c.in-Ok-None.ensures.found t)

pub returns-in-Ok-Some-clause-found : goal.returns-in-Ok-Some-clause-found
returns-in-Ok-Some-clause-found g c = λ t.
    let v : List ℕ = g.D.Device.bytes c.args.source.now in
    let k : Candidate = c.candidate_of.result in
    let there : k.place ≡ c.args.place = c.candidate_of.ensures.place in
    let x = rw c.in-Ok-Some.field-0-is at c.in-Ok-Some.ensures.found t in
    let json = ap (λ j. j.items) c.candidate_of.ensures.json in (
      there,
      found_there v c.args.which c.args.most c.in-Ok-Some.found k (c.requires.share t)
          (subst (IsAsked c.args.which.copies) (sym there) (c.is_asked.ensures.0 c.if-not-is_asked.false))
          (subst (λ (q : Place). IsVouched c.args.most v q.size q.at k.json.items) (sym there) (subst (IsVouched c.args.most v c.args.place.size c.args.place.at) (sym json) x.0))
          (subst (λ (q : Place). HoldsBin2 (mended_header v q.at) c.in-Ok-Some.found.header) (sym there) x.1)
          c.candidate_of.ensures.vouch,
    )
