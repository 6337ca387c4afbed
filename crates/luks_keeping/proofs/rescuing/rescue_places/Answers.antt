use Rattle.std.proofs.lemmas.Result.{err_from_is_err_and}
use Rattle.std.proofs.Common.{◌∙◌, ℕ, List, sym, subst, arith, inl, inr}
use Rattle.luks_area.specs.Device.{unchanged-then}
use Rattle.luks_area.proofs.RangeFacts.{same_but-then}
use Rattle.luks_keeping.specs.Places.{AreInside, CopiesHeader, HoldsHeader}
use Rattle.luks_keeping.specs.ReadPlaces.{LeavesAreas}
use Rattle.luks_keeping.proofs.AsReadFacts.{turn_read}
use Rattle.luks_keeping.proofs.PlaceFacts.{header_stays, of_areas, of_header}
use Rattle.luks_keeping.proofs.ReadFacts.{areas_left, header_beside, some_areas, turn_none}
use Rattle.luks_keeping.proofs.rescuing.rescue_places.Goals as goal

pub returns-in_err-keyslots-clause-rest : goal.returns-in_err-keyslots-clause-rest
returns-in_err-keyslots-clause-rest g c = λ tells. of_areas c.args.places.now c.requires.apart c.requires.lead (c.rescue_areas.ensures.rest tells)

pub returns-in_err-keyslots-clause-order : goal.returns-in_err-keyslots-clause-order
returns-in_err-keyslots-clause-order g c = λ source tells.
    turn_none c.args.places.now (g.S.Device.bytes c.args.source.now) _ _ _ _ c.in_err-keyslots.ensures.count.0
    (header_stays c.args.places.now c.requires.apart _ _ (c.rescue_areas.ensures.rest tells))

pub returns-in_err-can_fail-clause-rest : goal.returns-in_err-can_fail-clause-rest
returns-in_err-can_fail-clause-rest g c = λ tells. of_areas c.args.places.now c.requires.apart c.requires.lead (c.rescue_areas.ensures.rest tells)

pub returns-in_err-can_fail-clause-order : goal.returns-in_err-can_fail-clause-order
returns-in_err-can_fail-clause-order g c = λ source tells.
    turn_none c.args.places.now (g.S.Device.bytes c.args.source.now) _ _ _ _ c.in_ok-keyslots.ensures.count.0
    (header_stays c.args.places.now c.requires.apart _ _ (c.rescue_areas.ensures.rest tells))

pub returns-in_err-copy_header-clause-kept : goal.returns-in_err-copy_header-clause-kept
returns-in_err-copy_header-clause-kept g c = unchanged-then c.in_ok-keyslots.ensures.kept c.copy_header.ensures.kept

pub returns-clause-kept : goal.returns-clause-kept
returns-clause-kept g c = unchanged-then c.in_ok-keyslots.ensures.kept c.copy_header.ensures.kept

pub returns-in_err-copy_header-clause-rest : goal.returns-in_err-copy_header-clause-rest
returns-in_err-copy_header-clause-rest g c = λ tells.
    same_but-then (of_areas c.args.places.now c.requires.apart c.requires.lead (c.rescue_areas.ensures.rest tells))
    (of_header c.args.places.now c.requires.apart c.requires.lead (c.copy_header.ensures.rest tells))

pub returns-clause-rest : goal.returns-clause-rest
returns-clause-rest g c = λ tells.
    same_but-then (of_areas c.args.places.now c.requires.apart c.requires.lead (c.rescue_areas.ensures.rest tells))
    (of_header c.args.places.now c.requires.apart c.requires.lead (c.copy_header.ensures.rest tells))

pub returns-in_err-copy_header-clause-order : goal.returns-in_err-copy_header-clause-order
returns-in_err-copy_header-clause-order g c = λ source tells.
    let s : List ℕ = g.S.Device.bytes c.args.source.now in
    let a : List ℕ = g.T.Device.bytes c.rescue_areas.new.target in
    let w : List ℕ = g.T.Device.bytes c.copy_header.new.target in
    let x = c.in_ok-keyslots.ensures.rescued in
    let some = some_areas (g.S.Device.tells × g.T.Device.tells) c.args.places.now s a _ _ _ x in
    record {
      pieces = x.pieces;
      few = (let count = x.counted in let failed = c.in_err-copy_header.ensures.count in elim failed [ inl one ↦ omega (arith, count, one.0) | inr one ↦ omega (arith, count, one.0) ]);
      each = some;
      turn = turn_read s c.args.places.now c.requires.apart (subst (AreInside c.args.places.now) (sym (g.met.S.Device.sized c.args.source.now source)) c.requires.there) c.requires.lead x.pieces some
          (g.T.Device.bytes c.args.target.now) a w (c.rescue_areas.ensures.rest tells)
          (subst (AreInside c.args.places.now) (sym (g.met.T.Device.sized c.rescue_areas.new.target tells ∙ c.rescue_areas.ensures.size)) c.requires.within)
          (λ k b low has. x.holds (source, tells) k b low has)
          (subst (λ (l : List ℕ). CopiesHeader c.args.places.now l a w) (c.in_ok-keyslots.ensures.kept.same source) (c.copy_header.ensures.order source tells));
    }

pub returns-clause-order : goal.returns-clause-order
returns-clause-order g c = λ source tells.
    let s : List ℕ = g.S.Device.bytes c.args.source.now in
    let a : List ℕ = g.T.Device.bytes c.rescue_areas.new.target in
    let w : List ℕ = g.T.Device.bytes c.copy_header.new.target in
    let x = c.in_ok-keyslots.ensures.rescued in
    let some = some_areas (g.S.Device.tells × g.T.Device.tells) c.args.places.now s a _ _ _ x in
    record {
      pieces = x.pieces;
      few = (let count = x.counted in let failed = c.in_ok-copy_header.ensures.count in omega (arith, count, failed));
      each = some;
      turn = turn_read s c.args.places.now c.requires.apart (subst (AreInside c.args.places.now) (sym (g.met.S.Device.sized c.args.source.now source)) c.requires.there) c.requires.lead x.pieces some
          (g.T.Device.bytes c.args.target.now) a w (c.rescue_areas.ensures.rest tells)
          (subst (AreInside c.args.places.now) (sym (g.met.T.Device.sized c.rescue_areas.new.target tells ∙ c.rescue_areas.ensures.size)) c.requires.within)
          (λ k b low has. x.holds (source, tells) k b low has)
          (subst (λ (l : List ℕ). CopiesHeader c.args.places.now l a w) (c.in_ok-keyslots.ensures.kept.same source) (c.copy_header.ensures.order source tells));
    }

pub returns-clause-rescued : goal.returns-clause-rescued
returns-clause-rescued g c =
    let s : List ℕ = g.S.Device.bytes c.args.source.now in
    let a : List ℕ = g.T.Device.bytes c.rescue_areas.new.target in
    let w : List ℕ = g.T.Device.bytes c.copy_header.new.target in
    subst (λ (n : ℕ). LeavesAreas (g.S.Device.tells × g.T.Device.tells) c.args.places.now 32 s w (g.S.Device.failed c.args.source.now) n c.in_ok-keyslots.keyslots) (sym c.in_ok-copy_header.ensures.count.0)
    (areas_left (g.S.Device.tells × g.T.Device.tells) c.args.places.now s a w (g.S.Device.failed c.args.source.now) (g.S.Device.failed c.rescue_areas.new.source) c.in_ok-keyslots.keyslots
    (λ t. header_beside c.args.places.now c.requires.apart c.requires.lead a w (c.copy_header.ensures.rest t.1)) c.in_ok-keyslots.ensures.rescued)

pub returns-clause-header : goal.returns-clause-header
returns-clause-header g c = λ source tells.
    subst (λ (l : List ℕ). HoldsHeader c.args.places.now l (g.T.Device.bytes c.copy_header.new.target)) (c.in_ok-keyslots.ensures.kept.same source) (c.in_ok-copy_header.ensures.copied source tells)

pub returns-in_err-copy_header-clause-ended : goal.returns-in_err-copy_header-clause-ended
returns-in_err-copy_header-clause-ended g c =
    let p = err_from_is_err_and c.from_residual-in_err-copy_header.result c.from_residual-in_err-copy_header.ensures.1 in
    let s : List ℕ = g.S.Device.bytes c.args.source.now in
    let a : List ℕ = g.T.Device.bytes c.rescue_areas.new.target in
    let w : List ℕ = g.T.Device.bytes c.copy_header.new.target in
    rw p.1 (λ same. elim c.in_err-copy_header.ensures.count [
      | inl one ↦ inl (record {
        mid = g.S.Device.failed c.rescue_areas.new.source;
        counted = one.0;
        keyslots = c.in_ok-keyslots.keyslots;
        left = areas_left (g.S.Device.tells × g.T.Device.tells) c.args.places.now s a w (g.S.Device.failed c.args.source.now) (g.S.Device.failed c.rescue_areas.new.source) c.in_ok-keyslots.keyslots
            (λ t. header_beside c.args.places.now c.requires.apart c.requires.lead a w (c.copy_header.ensures.rest t.1)) c.in_ok-keyslots.ensures.rescued;
      })
      | inr one ↦ (let before = c.in_ok-keyslots.ensures.count.1 in let rose = one.1 in absurd (omega (arith, before, rose, same)))
    ])
