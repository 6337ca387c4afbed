use Rattle.std.proofs.Common.{List, ℕ, sym, subst}
use Rattle.luks_making.specs.WrittenArea.{IsWrittenArea}
use Rattle.luks_meta.specs.Content.{area_len, content}
use Rattle.luks2_judging.specs.declared.judged.TextFields.{TextFields}
use Rattle.luks2_editing.specs.Rewriting.{IsRenewing}
use Rattle.luks2_editing.proofs.RewritingFacts.{rewriting_of}
use Rattle.luks2_editing.proofs.rewriting.rewrite.Goals as goal

pub returns-in-Ok-clause-anew : goal.returns-in-Ok-clause-anew
returns-in-Ok-clause-anew g c tells v e is =
    let texts = c.with_uuid-texts.result in
    let renews : IsRenewing v e c.args.random.now c.args.header.now texts (area_len c.args.meta.now) =
    subst (λ (t : TextFields). IsRenewing v e c.args.random.now c.args.header.now t (area_len c.args.meta.now)) (sym c.with_uuid-texts.ensures) is in
    let area : IsWrittenArea (area_len c.args.meta.now) (content c.args.meta.now) c.as_slice.result.now =
    subst (λ (l : List ℕ). IsWrittenArea (area_len c.args.meta.now) (content c.args.meta.now) l) (sym c.as_slice.ensures.value) c.in_ok-json.ensures.area in
    c.in-Ok.ensures.anew tells v e (content c.args.meta.now) (rewriting_of v e c.args.random.now c.args.header.now texts (content c.args.meta.now) c.as_slice.result.now (area_len c.args.meta.now) renews area)

pub returns-in-Ok-clause-torn : goal.returns-in-Ok-clause-torn
returns-in-Ok-clause-torn g c tells v e is =
    let texts = c.with_uuid-texts.result in
    let renews : IsRenewing v e c.args.random.now c.args.header.now texts (area_len c.args.meta.now) =
    subst (λ (t : TextFields). IsRenewing v e c.args.random.now c.args.header.now t (area_len c.args.meta.now)) (sym c.with_uuid-texts.ensures) is in
    let area : IsWrittenArea (area_len c.args.meta.now) (content c.args.meta.now) c.as_slice.result.now =
    subst (λ (l : List ℕ). IsWrittenArea (area_len c.args.meta.now) (content c.args.meta.now) l) (sym c.as_slice.ensures.value) c.in_ok-json.ensures.area in
    c.write_copies.ensures.torn tells v e (content c.args.meta.now) (rewriting_of v e c.args.random.now c.args.header.now texts (content c.args.meta.now) c.as_slice.result.now (area_len c.args.meta.now) renews area)

pub returns-clause-torn : goal.returns-clause-torn
returns-clause-torn g c tells v e is =
    let texts = c.with_uuid-texts.result in
    let renews : IsRenewing v e c.args.random.now c.args.header.now texts (area_len c.args.meta.now) =
    subst (λ (t : TextFields). IsRenewing v e c.args.random.now c.args.header.now t (area_len c.args.meta.now)) (sym c.with_uuid-texts.ensures) is in
    let area : IsWrittenArea (area_len c.args.meta.now) (content c.args.meta.now) c.as_slice.result.now =
    subst (λ (l : List ℕ). IsWrittenArea (area_len c.args.meta.now) (content c.args.meta.now) l) (sym c.as_slice.ensures.value) c.in_ok-json.ensures.area in
    c.write_copies.ensures.torn tells v e (content c.args.meta.now) (rewriting_of v e c.args.random.now c.args.header.now texts (content c.args.meta.now) c.as_slice.result.now (area_len c.args.meta.now) renews area)
