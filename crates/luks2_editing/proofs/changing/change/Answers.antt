use Rattle.std.proofs.Common.{◌≡◌, ℕ, false, length, refl, sym, ◌∙◌, subst}
use Rattle.std.proofs.lemmas.Result.{err_from_is_err_and}
use Rattle.luks_edit.specs.declared.edit.Edit.{Edit}
use Rattle.luks_edit.specs.declared.edit.Edit.TheVariants.{Change}
use Rattle.luks_making.specs.Derivations.{asked_beyond}
use Rattle.luks_making.proofs.KdfFacts.{unrefused_positive}
use Rattle.luks_meta.specs.Content.{area_len, content}
use Rattle.luks_slot.specs.declared.allowed.Allowed.{Allowed}
use Rattle.luks_slot.specs.declared.fault.SlotFault.{SlotFault}
use Rattle.luks2_judging.proofs.DeedFacts.{changed_is}
use Rattle.luks2_edit_laws.specs.declared.like.Like.TheVariants.{Keyslot}
use Rattle.luks2_judging.specs.Texts.{texts_of}
use Rattle.luks2_editing.specs.SealedKeyslot.{HasRefusedKeyslot}
use Rattle.luks2_editing.proofs.MadeMetadataFacts.{enough_random}
use Rattle.luks2_editing.specs.Prepared.{AreCopiesWithin}
use Rattle.luks2_editing.specs.Rewriting.{IsRenewing}
use Rattle.luks2_editing.proofs.ChangeFacts.{change_sealing, changed_after, renewal_seals, renewed_alike, renewed_unrefused, torn_lost}
use Rattle.luks2_editing.proofs.NewKeyslotFacts.{alike_sealable, unsealed_ends}
use Rattle.luks2_editing.proofs.RenewalFacts.{renewing}
use Rattle.luks2_editing.proofs.changing.change.Goals as goal

pub returns-in_err-made-clause-replies : goal.returns-in_err-made-clause-replies
returns-in_err-made-clause-replies g c = λ tells payload e_ old asked x well before same opened place.
    let v = g.D.Device.bytes c.args.device.now in
    let copy = c.args.copy in
    let r = c.args.renewal.now in
    let new = c.args.secrets.now.passphrase in
    let key = c.args.secrets.now.key.now in
    let random = c.args.secrets.now.random.now in
    let total : length v ≡ c.len.result = g.met.D.Device.sized c.args.device.now tells ∙ sym c.len.ensures in
    let is = changed_is e_ r.slot old new r.derivation asked in
    let e : Edit = Change r.slot old new r.derivation.iterations r.derivation.chosen in
    let seals = renewal_seals v payload copy r old new key random x well (rw is at before) opened place in
    let p = err_from_is_err_and c.from_residual.result c.from_residual.ensures.1 in
    rw (p.1, p.2, is) (c.in_err-made.ensures.refused v payload e seals total)

pub new_metadata-requires-clause-positive : goal.new_metadata-requires-clause-positive
new_metadata-requires-clause-positive g c =
    let derivation = c.args.renewal.now.derivation in
    unrefused_positive c.args.secrets.now.allowed.memory derivation.iterations derivation.chosen c.requires.allowed.turns c.requires.allowed.within

pub write_keyslot-requires-clause-sealable : goal.write_keyslot-requires-clause-sealable
write_keyslot-requires-clause-sealable g c =
    let copy = c.args.copy in
    let renewal = c.args.renewal.now in
    let made = c.in_ok-made.ensures in
    let j = content copy.meta in
    let k = content c.in_ok-made.made.meta in
    let within : AreCopiesWithin copy.header (area_len copy.meta) (g.D.Device.size c.args.device.now) =
    subst (λ (n : ℕ). AreCopiesWithin copy.header n (g.D.Device.size c.args.device.now)) made.length
    (subst (λ (n : ℕ). AreCopiesWithin copy.header (area_len c.in_ok-made.made.meta) n) c.len.ensures made.within) in
    alike_sealable j k (Keyslot renewal.slot) renewal.slot renewal.area (renewed_alike j k renewal.slot renewal.derivation _ renewal.area made.made)
    (area_len copy.meta) (g.D.Device.size c.args.device.now) copy.header c.args.secrets.now.key.now c.args.secrets.now.random.now made.counted c.requires.key_length c.requires.placed within

pub returns-in_err-write_keyslot-clause-replies : goal.returns-in_err-write_keyslot-clause-replies
returns-in_err-write_keyslot-clause-replies g c = λ tells payload e_ old asked x well before same opened place.
    let v = g.D.Device.bytes c.args.device.now in
    let copy = c.args.copy in
    let r = c.args.renewal.now in
    let new = c.args.secrets.now.passphrase in
    let key = c.args.secrets.now.key.now in
    let random = c.args.secrets.now.random.now in
    let total : length v ≡ c.len.result = g.met.D.Device.sized c.args.device.now tells ∙ sym c.len.ensures in
    let is = changed_is e_ r.slot old new r.derivation asked in
    let e : Edit = Change r.slot old new r.derivation.iterations r.derivation.chosen in
    let seals = renewal_seals v payload copy r old new key random x well (rw is at before) opened place in
    let made = c.in_ok-made.ensures in
    let k = content c.in_ok-made.made.meta in
    let free = made.unrefused v payload e seals total in
    let edited = made.edited v payload e seals total in
    let renews = subst (λ (n : ℕ). IsRenewing v e random copy.header (texts_of copy.header) n) (sym made.length) (renewing v payload copy x well e random (texts_of copy.header) (sym x.header.uuid) (sym x.header.label) (sym x.header.subsystem)) in
    let p = err_from_is_err_and c.from_residual-in_err-write_keyslot.result c.from_residual-in_err-write_keyslot.ensures.1 in
    rw (p.1, p.2, is)
    (unsealed_ends v payload copy x well e random k free edited (g.D.Device.bytes c.write_keyslot.new.device)
    c.args.secrets.now.allowed r.slot
    (subst (λ (m : Allowed). (g : SlotFault) → HasRefusedKeyslot m k r.slot g → ⊥) same (renewed_unrefused v payload copy x well r.slot old new r.derivation key random r.area k opened place made.made
    (enough_random (content copy.meta) (Keyslot r.slot) (length random) made.counted)
    (subst (λ (m : Allowed). asked_beyond m.memory r.derivation ≡ false) (sym same) c.requires.allowed.within)))
    (c.write_keyslot.ensures.torn tells payload e (content copy.meta) renews
    (change_sealing v payload copy x well r.slot old new r.derivation key random r.area k opened place made.made))
    c.in_err-write_keyslot.field-0.0 (c.in_err-write_keyslot.ensures.same tells) c.in_err-write_keyslot.ensures.fault)

pub returns-in-Ok-clause-replies : goal.returns-in-Ok-clause-replies
returns-in-Ok-clause-replies g c = λ tells payload e_ old asked x well before same opened place.
    let v = g.D.Device.bytes c.args.device.now in
    let copy = c.args.copy in
    let r = c.args.renewal.now in
    let new = c.args.secrets.now.passphrase in
    let key = c.args.secrets.now.key.now in
    let random = c.args.secrets.now.random.now in
    let total : length v ≡ c.len.result = g.met.D.Device.sized c.args.device.now tells ∙ sym c.len.ensures in
    let is = changed_is e_ r.slot old new r.derivation asked in
    let e : Edit = Change r.slot old new r.derivation.iterations r.derivation.chosen in
    let seals = renewal_seals v payload copy r old new key random x well (rw is at before) opened place in
    let made = c.in_ok-made.ensures in
    let k = content c.in_ok-made.made.meta in
    let free = made.unrefused v payload e seals total in
    let edited = made.edited v payload e seals total in
    let renews = subst (λ (n : ℕ). IsRenewing v e random copy.header (texts_of copy.header) n) (sym made.length) (renewing v payload copy x well e random (texts_of copy.header) (sym x.header.uuid) (sym x.header.label) (sym x.header.subsystem)) in
    let w = g.D.Device.bytes c.write_keyslot.new.device in
    let y = g.D.Device.bytes c.wipe_area.new.device in
    let written = c.in_ok-write_keyslot.ensures.written tells e renews in
    rw is (record {
      unrefused = free;
      after = changed_after v payload copy x well r.slot old new r.derivation key random r.area k opened place made.made free edited
          r.lost c.requires.lost.is w y written (c.wipe_area.ensures.rest tells) (c.in-Ok.ensures.wiped tells);
      told = refl;
    })

pub returns-clause-replies : goal.returns-clause-replies
returns-clause-replies g c = λ tells payload e_ old asked x well before same opened place.
    let v = g.D.Device.bytes c.args.device.now in
    let copy = c.args.copy in
    let r = c.args.renewal.now in
    let new = c.args.secrets.now.passphrase in
    let key = c.args.secrets.now.key.now in
    let random = c.args.secrets.now.random.now in
    let total : length v ≡ c.len.result = g.met.D.Device.sized c.args.device.now tells ∙ sym c.len.ensures in
    let is = changed_is e_ r.slot old new r.derivation asked in
    let e : Edit = Change r.slot old new r.derivation.iterations r.derivation.chosen in
    let seals = renewal_seals v payload copy r old new key random x well (rw is at before) opened place in
    let made = c.in_ok-made.ensures in
    let k = content c.in_ok-made.made.meta in
    let free = made.unrefused v payload e seals total in
    let edited = made.edited v payload e seals total in
    let renews = subst (λ (n : ℕ). IsRenewing v e random copy.header (texts_of copy.header) n) (sym made.length) (renewing v payload copy x well e random (texts_of copy.header) (sym x.header.uuid) (sym x.header.label) (sym x.header.subsystem)) in
    let w = g.D.Device.bytes c.write_keyslot.new.device in
    let y = g.D.Device.bytes c.wipe_area.new.device in
    let written = c.in_ok-write_keyslot.ensures.written tells e renews in
    rw is (torn_lost v payload copy x well r.slot old new r.derivation key random r.area k opened place made.made free edited
    r.lost c.requires.lost.is w y written (c.wipe_area.ensures.rest tells))
