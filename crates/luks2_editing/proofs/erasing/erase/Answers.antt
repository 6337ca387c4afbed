use Rattle.std.proofs.Common.{◌≡◌, ℕ, length, None, refl, sym, ◌∙◌, subst}
use Rattle.std.proofs.lemmas.Result.{err_from_is_err_and}
use Rattle.luks_area.specs.Area.{IsInside}
use Rattle.luks_reading.specs.declared.report.Data.TheVariants.{Elsewhere}
use Rattle.luks_edit.specs.declared.edit.Edit.TheVariants.{Erase}
use Rattle.luks_meta.specs.Content.{area_len, content}
use Rattle.luks2_judging.specs.Texts.{texts_of}
use Rattle.luks2_judging.specs.declared.judged.TextFields.{TextFields}
use Rattle.luks2_editing.specs.Prepared.{AreCopiesWithin, IsPrepared, IsUnwritten}
use Rattle.luks2_editing.specs.Rewriting.{with_uuid, IsRenewing}
use Rattle.luks2_editing.proofs.ErasureFacts.{areas_apart, erased_after, erasure_passed, keyslots_listed, torn_areas}
use Rattle.luks2_editing.proofs.RenewalFacts.{copy_within, prepared_unrefused, renewing, unwritten_ends}
use Rattle.luks2_editing.proofs.erasing.erase.Goals as goal

pub returns-in_err-rewrite-clause-replies : goal.returns-in_err-rewrite-clause-replies
returns-in_err-rewrite-clause-replies g c = λ tells payload x well before.
    let v = g.D.Device.bytes c.args.device.now in
    let copy = c.args.copy in
    let random = c.args.random.now in
    let entries = c.luks2_areas-areas.result in
    let lists = keyslots_listed (content copy.meta) copy.header.hdr_size c.len.result Elsewhere entries entries refl c.luks2_areas-areas.ensures in
    let size : length v ≡ g.D.Device.size c.args.device.now = g.met.D.Device.sized c.args.device.now tells in
    let new = content c.in_ok-meta.meta in
    let made = c.in_ok-meta.ensures.value in
    let len : area_len c.in_ok-meta.meta ≡ area_len copy.meta = c.in_ok-meta.ensures.length in
    let renews = subst (λ (t : TextFields). IsRenewing v Erase random copy.header (with_uuid None random t) (area_len c.in_ok-meta.meta)) (sym c.of-texts.ensures)
    (subst (λ (n : ℕ). IsRenewing v Erase random copy.header (texts_of copy.header) n) (sym len)
    (renewing v payload copy x well Erase random (texts_of copy.header) (sym x.header.uuid) (sym x.header.label) (sym x.header.subsystem))) in
    let w = g.D.Device.bytes c.rewrite.new.device in
    let passed = erasure_passed v payload copy x well entries lists random before in
    let within : AreCopiesWithin copy.header (area_len c.in_ok-meta.meta) (g.D.Device.size c.args.device.now) =
    subst (λ (n : ℕ). AreCopiesWithin copy.header n (g.D.Device.size c.args.device.now)) (sym len)
    (subst (λ (n : ℕ). AreCopiesWithin copy.header (area_len copy.meta) n) size (copy_within v payload copy x well)) in
    let p = err_from_is_err_and c.from_residual-in_err-rewrite.result c.from_residual-in_err-rewrite.ensures.1 in
    rw (p.1, p.2)
    (unwritten_ends v payload copy x well Erase random new passed (λ salt. made) (λ salt k same. same ∙ sym made) 128 refl (λ k same. same) (λ u. tt)
    w c.in_err-rewrite.field-0.0 (subst (λ (n : ℕ). IsUnwritten copy.header.seqid n new random 128 c.in_err-rewrite.field-0.0) len (c.in_err-rewrite.ensures.refused within))
    (c.in_err-rewrite.ensures.same tells) (c.rewrite.ensures.torn tells v Erase renews))

pub returns-in-Ok-clause-replies : goal.returns-in-Ok-clause-replies
returns-in-Ok-clause-replies g c = λ tells payload x well before.
    let v = g.D.Device.bytes c.args.device.now in
    let copy = c.args.copy in
    let random = c.args.random.now in
    let areas = c.as_slice.result.now in
    let lists = keyslots_listed (content copy.meta) copy.header.hdr_size c.len.result Elsewhere c.luks2_areas-areas.result areas c.as_slice.ensures.entries c.luks2_areas-areas.ensures in
    let new = content c.in_ok-meta.meta in
    let made = c.in_ok-meta.ensures.value in
    let len : area_len c.in_ok-meta.meta ≡ area_len copy.meta = c.in_ok-meta.ensures.length in
    let renews = subst (λ (t : TextFields). IsRenewing v Erase random copy.header (with_uuid None random t) (area_len c.in_ok-meta.meta)) (sym c.of-texts.ensures)
    (subst (λ (n : ℕ). IsRenewing v Erase random copy.header (texts_of copy.header) n) (sym len)
    (renewing v payload copy x well Erase random (texts_of copy.header) (sym x.header.uuid) (sym x.header.label) (sym x.header.subsystem))) in
    let w = g.D.Device.bytes c.rewrite.new.device in
    let ready = subst (λ (n : ℕ). IsPrepared copy.header.seqid n new random 128) len c.in_ok-rewrite.ensures.ready in
    let y = g.D.Device.bytes c.wipe_keyslots.new.device in
    record {
      unrefused = prepared_unrefused v payload copy x well Erase random new (erasure_passed v payload copy x well areas lists random before)
          (λ salt. made) (λ salt k same. same ∙ sym made) 128 refl (λ k same. same) (λ u. tt) ready;
      after = erased_after v payload copy x well areas lists random before new made w y ready
          (c.in_ok-rewrite.ensures.anew tells v Erase renews) (c.rewrite.ensures.rest tells) (c.wipe_keyslots.ensures.rest tells)
          (c.in-Ok.ensures.wiped tells (areas_apart v payload copy x well areas lists));
      told = refl;
    }

pub returns-clause-replies : goal.returns-clause-replies
returns-clause-replies g c = λ tells payload x well before.
    let v = g.D.Device.bytes c.args.device.now in
    let copy = c.args.copy in
    let random = c.args.random.now in
    let areas = c.as_slice.result.now in
    let lists = keyslots_listed (content copy.meta) copy.header.hdr_size c.len.result Elsewhere c.luks2_areas-areas.result areas c.as_slice.ensures.entries c.luks2_areas-areas.ensures in
    let new = content c.in_ok-meta.meta in
    let made = c.in_ok-meta.ensures.value in
    let len : area_len c.in_ok-meta.meta ≡ area_len copy.meta = c.in_ok-meta.ensures.length in
    let renews = subst (λ (t : TextFields). IsRenewing v Erase random copy.header (with_uuid None random t) (area_len c.in_ok-meta.meta)) (sym c.of-texts.ensures)
    (subst (λ (n : ℕ). IsRenewing v Erase random copy.header (texts_of copy.header) n) (sym len)
    (renewing v payload copy x well Erase random (texts_of copy.header) (sym x.header.uuid) (sym x.header.label) (sym x.header.subsystem))) in
    let w = g.D.Device.bytes c.rewrite.new.device in
    let ready = subst (λ (n : ℕ). IsPrepared copy.header.seqid n new random 128) len c.in_ok-rewrite.ensures.ready in
    let y = g.D.Device.bytes c.wipe_keyslots.new.device in
    torn_areas v payload copy x well areas lists random before new made w y ready
    (c.in_ok-rewrite.ensures.anew tells v Erase renews) (c.rewrite.ensures.rest tells) (c.wipe_keyslots.ensures.rest tells)
    (c.in-Err.ensures.torn tells (areas_apart v payload copy x well areas lists))

pub wipe_keyslots-requires-clause-inside : goal.wipe_keyslots-requires-clause-inside
wipe_keyslots-requires-clause-inside g c = λ n a has.
    let copy = c.args.copy in
    let lists = keyslots_listed (content copy.meta) copy.header.hdr_size c.len.result Elsewhere c.luks2_areas-areas.result c.as_slice.result.now c.as_slice.ensures.entries c.luks2_areas-areas.ensures in
    subst (λ (m : ℕ). IsInside a m) (sym c.rewrite.ensures.size) (c.requires.inside n a (lists.only n a has))
