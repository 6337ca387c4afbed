use Rattle.std.proofs.Common.{ℕ, ◌^◌, ◌<◌, length, Some, sym, ap, ◌∙◌, subst}
use Rattle.luks_edit.specs.declared.edit.Opener.{Opener}
use Rattle.luks_edit.specs.Asked.{bytes_of, remover_of}
use Rattle.std.proofs.lemmas.Result.{err_from_is_err_and}
use Rattle.luks_area.specs.Area.{IsInside}
use Rattle.luks_meta.specs.Content.{content}
use Rattle.luks_edit.proofs.AllowedMemory.{short_where_allowed}
use Rattle.luks_meta.specs.declared.meta.Meta.{Meta}
use Rattle.luks_slot.specs.declared.allowed.Allowed.{Allowed}
use Rattle.luks2_edit_laws.specs.Metadata.{IsInUse, IsKeyArea}
use Rattle.luks2_judging.specs.Judged.{IsUsable}
use Rattle.luks2_judging.proofs.KeyslotFacts.{removed_opens, removed_short, removed_used, usable_of}
use Rattle.luks2_judging.proofs.ReadFacts.{last_refused, read_as, removed_passed, unopened_refused}
use Rattle.luks2_judging.proofs.judging.judge_removal_of.Goals as goal

pub returns-in_err-_given-clause-refused : goal.returns-in_err-_given-clause-refused
returns-in_err-_given-clause-refused g c = λ tells is payload well judged.
    let read = read_as c.room-room.ensures.meta c.room-room.ensures.entries
    (g.met.D.Device.sized c.args.device.now tells ∙ sym c.requires.ready.total ∙ sym c.room-room.ensures.total) judged in
    let p = err_from_is_err_and c.from_residual.result c.from_residual.ensures.1 in
    rw (p.1, p.2)
    (unopened_refused read c.in_err-_given.field-0.0 well (c.in_err-_given.ensures.refused tells is payload c.args.edit.now well (sym c.allowed-allowed.ensures)
    (removed_opens c.args.edit.now c.args.removed.now c.requires.asked ∙ ap Some (sym c.opener.ensures))))

pub returns-in_err-area-clause-refused : goal.returns-in_err-area-clause-refused
returns-in_err-area-clause-refused g c = λ tells is payload well judged.
    let read = read_as c.room-room.ensures.meta c.room-room.ensures.entries
    (g.met.D.Device.sized c.args.device.now tells ∙ sym c.requires.ready.total ∙ sym c.room-room.ensures.total) judged in
    let p = err_from_is_err_and c.from_residual-in_err-area.result c.from_residual-in_err-area.ensures.1 in
    rw (p.1, p.2)
    rw c.in_err-area.ensures.row.0
    (last_refused read (c.in_ok-_given.ensures.opened tells is c.args.edit.now (sym c.allowed-allowed.ensures) (removed_opens c.args.edit.now c.args.removed.now c.requires.asked ∙ ap Some (sym c.opener.ensures))).past c.requires.asked c.in_err-area.ensures.row.1)

pub returns-clause-takes : goal.returns-clause-takes
returns-clause-takes g c =
    let area = c.in_ok-area.area in
    let is = subst (λ (m : Meta). IsKeyArea (content m) c.args.removed.now.slot area) c.room-room.ensures.meta c.in_ok-area.ensures.area in
    record {
      by_ = c.args.removed.now.by_;
      passphrase = c.args.removed.now.secret;
      asked = c.requires.asked;
      there = removed_used (content c.args.accepted.now.copy.now.meta) c.args.edit.now c.args.removed.now c.requires.asked c.requires.ready.own.there;
      lost = record { is = is; inside = subst (λ (t : ℕ). IsInside area t) c.requires.ready.total (c.requires.ready.own.key_areas c.args.removed.now.slot area is) };
    }

pub judge_removal-requires : goal.judge_removal-requires
judge_removal-requires g c =
    subst (λ (m : Meta). IsInUse (content m) c.args.removed.now.slot) (sym c.room-room.ensures.meta)
    (removed_used (content c.args.accepted.now.copy.now.meta) c.args.edit.now c.args.removed.now c.requires.asked c.requires.ready.own.there)

pub returns-clause-passed : goal.returns-clause-passed
returns-clause-passed g c = λ tells is payload judged.
    let read = read_as c.room-room.ensures.meta c.room-room.ensures.entries
    (g.met.D.Device.sized c.args.device.now tells ∙ sym c.requires.ready.total ∙ sym c.room-room.ensures.total) judged in
    removed_passed read (c.in_ok-_given.ensures.opened tells is c.args.edit.now (sym c.allowed-allowed.ensures) (removed_opens c.args.edit.now c.args.removed.now c.requires.asked ∙ ap Some (sym c.opener.ensures))).past
    c.requires.asked c.in_ok-area.ensures.row

pub unlock-requires-clause-short : goal.unlock-requires-clause-short
unlock-requires-clause-short g c = λ some.
    subst (λ (o : Opener). length (bytes_of o) < 2 ^ 32) (sym c.opener.ensures)
    (removed_short c.args.edit.now c.args.removed.now c.requires.asked (short_where_allowed c.args.edit.now (subst (λ (m : Allowed). 0 < m.memory) c.allowed-allowed.ensures some)))

pub unlock-requires-clause-usable : goal.unlock-requires-clause-usable
unlock-requires-clause-usable g c =
    let j = content c.args.accepted.now.copy.now.meta in
    let d = c.args.removed.now in
    subst (λ (o : Opener). IsUsable j o) (sym c.opener.ensures)
    (usable_of j c.args.edit.now (remover_of d.slot d.by_ d.secret) (removed_opens c.args.edit.now d c.requires.asked) c.requires.ready.own.there)
