use Rattle.std.proofs.Common.{◌≡◌, ◌+◌, map, ap, subst, sym, ◌∙◌, refl, arith}
use Rattle.std.proofs.lemmas.List.{map-append}
use Rattle.serde_json.specs.Data.{object}
use Rattle.serde_json.specs.View.{view}
use Rattle.luks_meta.specs.Content.{content}
use Rattle.luks_show.specs.SegmentValues.{AreSegments, start, passed, listed, segment_members, IsSegmentValue}
use Rattle.luks_show.proofs.as_json.segments.segments_value.Goals as goal
use Rattle.luks_show.proofs.as_json.segments.segments_value.Goals.{in-Some+in_ok-segment_value+in_ok-push, in_default}

pub loop-n-init : goal.loop-n-init
loop-n-init c = subst (λ vs. AreSegments (content c.args.meta.now) 0 (map view vs)) (sym c.new-items.ensures.items) start

pub loop-n-preserved : goal.loop-n-preserved
loop-n-preserved c =
    let j = content c.args.meta.now in
    elim c.match-segment.branch [
      | in-Some+in_ok-segment_value+in_ok-push w ↦
          let one : IsSegmentValue j c.loop-n.n (view w.in_ok-segment_value.field-0) = record {
            segment = w.in-Some.segment;
            told = w.in-Some.ensures.some;
            is = w.in_ok-segment_value.ensures ∙ ap (λ o. object (segment_members c.loop-n.n w.in-Some.segment o)) w.integrity_at-integrity.ensures;
          } in
          let items = ap (λ v. map view v.items) w.items-is ∙ ap (map view) w.in_ok-push.ensures.items ∙ map-append view _ _ in
          subst (AreSegments j (c.loop-n.n + 1)) (sym items) (listed c.loop-n.invariant one)
      | in_default w ↦ subst (λ v. AreSegments j (c.loop-n.n + 1) (map view v.items)) (sym w.items-is) (passed c.loop-n.invariant (w.in_default.ensures.none refl))
    ]

pub returns : goal.returns
returns c =
    let all : c.loop-n.n ≡ 32 = omega (arith, c.loop-n-test.false, c.loop-n.auto.n-end) in
    record {
      segments = map view c.loop-n.items.items;
      all = subst (λ n. AreSegments (content c.args.meta.now) n (map view c.loop-n.items.items)) all c.loop-n.invariant;
      is = c.from.ensures;
    }
