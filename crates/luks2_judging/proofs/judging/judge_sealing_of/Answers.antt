use Rattle.std.proofs.Common.{ℕ, ◌+◌, ◌^◌, ◌<◌, length, Some, refl, sym, ap, ◌∙◌, subst}
use Rattle.std.proofs.lemmas.Result.{err_from_is_err_and}
use Rattle.luks_area.specs.Area.{IsInside}
use Rattle.luks_meta.specs.Content.{area_len, content}
use Rattle.luks_meta.specs.declared.meta.Meta.{Meta}
use Rattle.luks_slot.specs.declared.allowed.Allowed.{Allowed}
use Rattle.luks_reading.specs.Plans.{HasLuks2KeyBytes}
use Rattle.luks_edit.specs.declared.deed.Place.TheVariants.{New, Opened}
use Rattle.luks_edit.specs.declared.edit.Opener.{Opener}
use Rattle.luks_edit.specs.Asked.{bytes_of, opener_at}
use Rattle.luks_edit.proofs.AllowedMemory.{short_where_allowed}
use Rattle.luks2_edit_laws.specs.declared.like.Like.{Like}
use Rattle.luks2_edit_laws.specs.declared.like.Like.TheVariants.{Keyslot}
use Rattle.luks2_edit_laws.specs.Likes.{IsLike}
use Rattle.luks2_edit_laws.specs.Metadata.{IsInUse, IsKeyArea}
use Rattle.luks2_judging.specs.Judged.{IsNewNumber, IsUsable}
use Rattle.luks2_judging.specs.Opened.{HasKeyBytesLike}
use Rattle.luks2_judging.specs.Room.{IsAllowed, IsPlaced, IsSealableLike, IsUnsealable}
use Rattle.luks2_judging.specs.Sealing.{IsUnadded}
use Rattle.luks2_judging.proofs.DeedFacts.{allowed_at, opener_is, sealed_as}
use Rattle.luks2_judging.proofs.KeyslotFacts.{sealable_of, sealed_opens, sealed_short, usable_of, used_of}
use Rattle.luks2_judging.proofs.ReadFacts.{added_passed, changed_passed, placed_of, read_as, unadded_refused, unchanged_refused, unopened_refused}
use Rattle.luks2_judging.proofs.judging.judge_sealing_of.Goals as goal

pub unlock-requires-clause-usable : goal.unlock-requires-clause-usable
unlock-requires-clause-usable g c =
    let j = content c.args.accepted.now.copy.now.meta in
    subst (λ (o : Opener). IsUsable j o) (sym c.opener.ensures)
    (usable_of j c.args.edit.now (opener_at c.args.sealed.now.place) (sealed_opens c.args.edit.now c.args.sealed.now c.requires.asked) c.requires.ready.own.there)

pub unlock-requires-clause-short : goal.unlock-requires-clause-short
unlock-requires-clause-short g c = λ some.
    subst (λ (o : Opener). length (bytes_of o) < 2 ^ 32) (sym c.opener.ensures)
    (sealed_short c.args.edit.now c.args.sealed.now c.requires.asked (short_where_allowed c.args.edit.now (subst (λ (m : Allowed). 0 < m.memory) c.allowed-allowed.ensures some)))

pub returns-in_err-given-clause-refused : goal.returns-in_err-given-clause-refused
returns-in_err-given-clause-refused g c = λ tells is payload well judged.
    let read = read_as c.room-room.ensures.meta c.room-room.ensures.entries
    (g.met.D.Device.sized c.args.device.now tells ∙ sym c.requires.ready.total ∙ sym c.room-room.ensures.total) judged in
    let asked = sealed_opens c.args.edit.now c.args.sealed.now c.requires.asked ∙ ap Some (sym c.opener.ensures) in
    let p = err_from_is_err_and c.from_residual.result c.from_residual.ensures.1 in
    rw (p.1, p.2)
    (unopened_refused read c.in_err-given.field-0.0 well (c.in_err-given.ensures.refused tells is payload c.args.edit.now well (sym c.allowed-allowed.ensures) asked))

pub judge_addition-requires-clause-there : goal.judge_addition-requires-clause-there
judge_addition-requires-clause-there g c =
    let j = content c.args.accepted.now.copy.now.meta in
    let used = usable_of j c.args.edit.now (opener_at c.args.sealed.now.place) (sealed_opens c.args.edit.now c.args.sealed.now c.requires.asked) c.requires.ready.own.there in
    let made = subst (λ (o : Opener). IsLike j o c.in_ok-given.given.like) c.opener.ensures c.in_ok-given.ensures.like in
    subst (λ (m : Meta). IsSealableLike (content m) c.in_ok-given.given.like) (sym c.room-room.ensures.meta)
    (sealable_of j (opener_at c.args.sealed.now.place) c.in_ok-given.given.like used made)

pub returns-in_err-addition-in-New-clause-refused : goal.returns-in_err-addition-in-New-clause-refused
returns-in_err-addition-in-New-clause-refused g c = λ tells is payload well judged.
    let read = read_as c.room-room.ensures.meta c.room-room.ensures.entries
    (g.met.D.Device.sized c.args.device.now tells ∙ sym c.requires.ready.total ∙ sym c.room-room.ensures.total) judged in
    let asked = sealed_opens c.args.edit.now c.args.sealed.now c.requires.asked ∙ ap Some (sym c.opener.ensures) in
    let place = New c.in-New.opener c.in-New.to in
    let deed_is = sealed_as c.args.edit.now c.args.sealed.now place c.args.sealed.now.derivation c.requires.asked c.in-New.is refl in
    let allows = c.allowed-allowed.ensures ∙ allowed_at c.args.edit.now c.args.sealed.now place c.requires.asked c.in-New.is in
    let made = subst (λ (o : Opener). IsLike (content c.args.accepted.now.copy.now.meta) o c.in_ok-given.given.like) (c.opener.ensures ∙ opener_is c.args.sealed.now place c.in-New.is) c.in_ok-given.ensures.like in
    let made_here = subst (λ (m : Meta). IsLike (content m) c.in-New.opener c.in_ok-given.given.like) (sym c.room-room.ensures.meta) made in
    let p = err_from_is_err_and c.from_residual-in_err-addition-in-New.result c.from_residual-in_err-addition-in-New.ensures.1 in
    let s = c.args.sealed.now in
    rw (p.1, p.2)
    (unadded_refused read (c.in_ok-given.ensures.opened tells is c.args.edit.now (sym c.allowed-allowed.ensures) asked).past s.derivation deed_is c.in_ok-given.given.like made_here c.in_err-addition-in-New.field-0.0
    (subst (λ (k : Allowed). IsUnadded (area_len c.room-room.result.meta.now + 4096) c.room-room.result.total payload (content c.room-room.result.meta.now) c.in_ok-given.given.like c.in-New.to k.memory s.derivation c.in_err-addition-in-New.field-0.0)
    allows (c.in_err-addition-in-New.ensures.refused payload read.lists)))

pub returns-in_ok-addition-in-New-clause-seals : goal.returns-in_ok-addition-in-New-clause-seals
returns-in_ok-addition-in-New-clause-seals g c = λ tells is payload judged.
    let read = read_as c.room-room.ensures.meta c.room-room.ensures.entries
    (g.met.D.Device.sized c.args.device.now tells ∙ sym c.requires.ready.total ∙ sym c.room-room.ensures.total) judged in
    let asked = sealed_opens c.args.edit.now c.args.sealed.now c.requires.asked ∙ ap Some (sym c.opener.ensures) in (
      (c.in_ok-given.ensures.opened tells is c.args.edit.now (sym c.allowed-allowed.ensures) asked).gives,
      placed_of read c.room-room.ensures.meta (c.in_ok-addition-in-New.ensures.area payload read.lists),
    )

pub returns-in_ok-addition-in-New-clause-passed : goal.returns-in_ok-addition-in-New-clause-passed
returns-in_ok-addition-in-New-clause-passed g c = λ tells is payload judged.
    let read = read_as c.room-room.ensures.meta c.room-room.ensures.entries
    (g.met.D.Device.sized c.args.device.now tells ∙ sym c.requires.ready.total ∙ sym c.room-room.ensures.total) judged in
    let asked = sealed_opens c.args.edit.now c.args.sealed.now c.requires.asked ∙ ap Some (sym c.opener.ensures) in
    let place = New c.in-New.opener c.in-New.to in
    let deed_is = sealed_as c.args.edit.now c.args.sealed.now place c.args.sealed.now.derivation c.requires.asked c.in-New.is refl in
    let allows = c.allowed-allowed.ensures ∙ allowed_at c.args.edit.now c.args.sealed.now place c.requires.asked c.in-New.is in
    let made = subst (λ (o : Opener). IsLike (content c.args.accepted.now.copy.now.meta) o c.in_ok-given.given.like) (c.opener.ensures ∙ opener_is c.args.sealed.now place c.in-New.is) c.in_ok-given.ensures.like in
    let made_here = subst (λ (m : Meta). IsLike (content m) c.in-New.opener c.in_ok-given.given.like) (sym c.room-room.ensures.meta) made in
    let added = c.in_ok-addition-in-New.addition in
    let said = c.in_ok-addition-in-New.ensures in
    let here = subst (λ (l : Like). IsLike (content c.room-room.result.meta.now) c.in-New.opener l) (sym said.like) made_here in
    added_passed read (c.in_ok-given.ensures.opened tells is c.args.edit.now (sym c.allowed-allowed.ensures) asked).past c.args.sealed.now.derivation deed_is added.like here said.number
    (subst (λ (k : Allowed). IsAllowed k.memory c.args.sealed.now.derivation) allows (rw said.derivation at said.allowed)) (said.area payload read.lists)

pub returns-in_ok-addition-in-New-clause-takes : goal.returns-in_ok-addition-in-New-clause-takes
returns-in_ok-addition-in-New-clause-takes g c =
    let meta = c.args.accepted.now.copy.now.meta in
    let a = c.in_ok-addition-in-New.addition in
    let said = c.in_ok-addition-in-New.ensures in
    let key = c.in_ok-given.given.key in
    let place = New c.in-New.opener c.in-New.to in
    let deed_is = sealed_as c.args.edit.now c.args.sealed.now place a.derivation c.requires.asked c.in-New.is said.derivation in
    let allows = c.allowed-allowed.ensures ∙ allowed_at c.args.edit.now c.args.sealed.now place c.requires.asked c.in-New.is in
    let made = subst (λ (o : Opener). IsLike (content c.args.accepted.now.copy.now.meta) o c.in_ok-given.given.like) (c.opener.ensures ∙ opener_is c.args.sealed.now place c.in-New.is) c.in_ok-given.ensures.like in
    record {
      opener = c.in-New.opener;
      to = c.in-New.to;
      asked = deed_is;
      number = subst (λ (m : Meta). IsNewNumber (content m) c.in-New.to a.made) c.room-room.ensures.meta said.number;
      is_like = subst (λ (l : Like). IsLike (content meta) c.in-New.opener l) (sym said.like) made;
      key_length = subst (λ (l : Like). HasKeyBytesLike (content meta) l (length key)) (sym said.like) c.in_ok-given.ensures.length;
      placed = subst (λ (t : ℕ). IsPlaced (area_len meta) (content meta) t a.like a.area) (c.room-room.ensures.total ∙ c.requires.ready.total)
          (subst (λ (m : Meta). IsPlaced (area_len m) (content m) c.room-room.result.total a.like a.area) c.room-room.ensures.meta said.placed);
      allowed = subst (λ (k : Allowed). IsAllowed k.memory a.derivation) allows said.allowed;
    }

pub judge_renewal-requires-clause-there : goal.judge_renewal-requires-clause-there
judge_renewal-requires-clause-there g c =
    let j = content c.args.accepted.now.copy.now.meta in
    subst (λ (m : Meta). IsInUse (content m) c.in-Opened.slot) (sym c.room-room.ensures.meta)
    (used_of j c.args.edit.now c.in-Opened.slot c.in-Opened.secret
    (sealed_opens c.args.edit.now c.args.sealed.now c.requires.asked ∙ ap Some (opener_is c.args.sealed.now (Opened c.in-Opened.slot c.in-Opened.secret) c.in-Opened.is)) c.requires.ready.own.there)

pub returns-in_err-renewal-in-Opened-clause-refused : goal.returns-in_err-renewal-in-Opened-clause-refused
returns-in_err-renewal-in-Opened-clause-refused g c = λ tells is payload well judged.
    let read = read_as c.room-room.ensures.meta c.room-room.ensures.entries
    (g.met.D.Device.sized c.args.device.now tells ∙ sym c.requires.ready.total ∙ sym c.room-room.ensures.total) judged in
    let asked = sealed_opens c.args.edit.now c.args.sealed.now c.requires.asked ∙ ap Some (sym c.opener.ensures) in
    let place = Opened c.in-Opened.slot c.in-Opened.secret in
    let deed_is = sealed_as c.args.edit.now c.args.sealed.now place c.args.sealed.now.derivation c.requires.asked c.in-Opened.is refl in
    let allows = c.allowed-allowed.ensures ∙ allowed_at c.args.edit.now c.args.sealed.now place c.requires.asked c.in-Opened.is in
    let p = err_from_is_err_and c.from_residual-in_err-renewal-in-Opened.result c.from_residual-in_err-renewal-in-Opened.ensures.1 in
    let s = c.args.sealed.now in
    rw (p.1, p.2)
    (unchanged_refused read (c.in_ok-given.ensures.opened tells is c.args.edit.now (sym c.allowed-allowed.ensures) asked).past s.derivation deed_is c.in_err-renewal-in-Opened.field-0.0
    (subst (λ (k : Allowed). IsUnsealable (area_len c.room-room.result.meta.now + 4096) c.room-room.result.total payload (content c.room-room.result.meta.now) (Keyslot c.in-Opened.slot) k.memory s.derivation c.in_err-renewal-in-Opened.field-0.0)
    allows (c.in_err-renewal-in-Opened.ensures.refused payload read.lists)))

pub returns-in_ok-renewal-in-Opened-clause-seals : goal.returns-in_ok-renewal-in-Opened-clause-seals
returns-in_ok-renewal-in-Opened-clause-seals g c = λ tells is payload judged.
    let read = read_as c.room-room.ensures.meta c.room-room.ensures.entries
    (g.met.D.Device.sized c.args.device.now tells ∙ sym c.requires.ready.total ∙ sym c.room-room.ensures.total) judged in
    let asked = sealed_opens c.args.edit.now c.args.sealed.now c.requires.asked ∙ ap Some (sym c.opener.ensures) in (
      (c.in_ok-given.ensures.opened tells is c.args.edit.now (sym c.allowed-allowed.ensures) asked).gives,
      placed_of read c.room-room.ensures.meta (c.in_ok-renewal-in-Opened.ensures.area payload read.lists),
    )

pub returns-in_ok-renewal-in-Opened-clause-passed : goal.returns-in_ok-renewal-in-Opened-clause-passed
returns-in_ok-renewal-in-Opened-clause-passed g c = λ tells is payload judged.
    let read = read_as c.room-room.ensures.meta c.room-room.ensures.entries
    (g.met.D.Device.sized c.args.device.now tells ∙ sym c.requires.ready.total ∙ sym c.room-room.ensures.total) judged in
    let asked = sealed_opens c.args.edit.now c.args.sealed.now c.requires.asked ∙ ap Some (sym c.opener.ensures) in
    let place = Opened c.in-Opened.slot c.in-Opened.secret in
    let deed_is = sealed_as c.args.edit.now c.args.sealed.now place c.args.sealed.now.derivation c.requires.asked c.in-Opened.is refl in
    let allows = c.allowed-allowed.ensures ∙ allowed_at c.args.edit.now c.args.sealed.now place c.requires.asked c.in-Opened.is in
    let said = c.in_ok-renewal-in-Opened.ensures in
    changed_passed read (c.in_ok-given.ensures.opened tells is c.args.edit.now (sym c.allowed-allowed.ensures) asked).past c.args.sealed.now.derivation deed_is
    (subst (λ (k : Allowed). IsAllowed k.memory c.args.sealed.now.derivation) allows (rw said.derivation at said.allowed)) (rw said.slot at (said.area payload read.lists))

pub returns-in_ok-renewal-in-Opened-clause-takes : goal.returns-in_ok-renewal-in-Opened-clause-takes
returns-in_ok-renewal-in-Opened-clause-takes g c =
    let meta = c.args.accepted.now.copy.now.meta in
    let r = c.in_ok-renewal-in-Opened.renewal in
    let said = c.in_ok-renewal-in-Opened.ensures in
    let key = c.in_ok-given.given.key in
    let secret = c.in-Opened.secret in
    let place = Opened c.in-Opened.slot secret in
    let allows = c.allowed-allowed.ensures ∙ allowed_at c.args.edit.now c.args.sealed.now place c.requires.asked c.in-Opened.is in
    let used = used_of (content meta) c.args.edit.now c.in-Opened.slot secret (sealed_opens c.args.edit.now c.args.sealed.now c.requires.asked ∙ ap Some (opener_is c.args.sealed.now place c.in-Opened.is)) c.requires.ready.own.there in
    let is = subst (λ (m : Meta). IsKeyArea (content m) r.slot r.lost) c.room-room.ensures.meta said.lost in
    let made = subst (λ (o : Opener). IsLike (content meta) o c.in_ok-given.given.like) (c.opener.ensures ∙ opener_is c.args.sealed.now place c.in-Opened.is) c.in_ok-given.ensures.like in
    let long = subst (λ (l : Like). HasKeyBytesLike (content meta) l (length key)) made c.in_ok-given.ensures.length in
    record {
      old = secret;
      asked = rw said.slot (sealed_as c.args.edit.now c.args.sealed.now place r.derivation c.requires.asked c.in-Opened.is said.derivation);
      there = subst (λ (n : ℕ). IsInUse (content meta) n) (sym said.slot) used;
      key_length = subst (λ (n : ℕ). HasLuks2KeyBytes (content meta) n (length key)) (sym said.slot) long;
      placed = subst (λ (t : ℕ). IsPlaced (area_len meta) (content meta) t (Keyslot r.slot) r.area) (c.room-room.ensures.total ∙ c.requires.ready.total)
          (subst (λ (m : Meta). IsPlaced (area_len m) (content m) c.room-room.result.total (Keyslot r.slot) r.area) c.room-room.ensures.meta said.placed);
      allowed = rw said.slot (subst (λ (k : Allowed). IsAllowed k.memory r.derivation) allows said.allowed);
      lost = record { is = is; inside = subst (λ (t : ℕ). IsInside r.lost t) c.requires.ready.total (c.requires.ready.own.key_areas r.slot r.lost is) };
    }
