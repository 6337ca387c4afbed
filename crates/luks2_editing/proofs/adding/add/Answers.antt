use Rattle.std.proofs.Common.{◌≡◌, ℕ, false, length, sym, ◌∙◌, subst}
use Rattle.std.proofs.lemmas.Result.{err_from_is_err_and}
use Rattle.luks_making.specs.Derivations.{asked_beyond}
use Rattle.luks_making.proofs.KdfFacts.{unrefused_positive}
use Rattle.luks_meta.specs.Content.{area_len, content}
use Rattle.luks_slot.specs.declared.allowed.Allowed.{Allowed}
use Rattle.luks_slot.specs.declared.fault.SlotFault.{SlotFault}
use Rattle.luks2_judging.specs.Texts.{texts_of}
use Rattle.luks2_editing.specs.SealedKeyslot.{HasRefusedKeyslot}
use Rattle.luks2_editing.proofs.MadeMetadataFacts.{enough_random}
use Rattle.luks2_editing.specs.Prepared.{AreCopiesWithin}
use Rattle.luks2_editing.specs.Rewriting.{IsRenewing}
use Rattle.luks2_editing.proofs.AdditionFacts.{added_after, addition_fine, addition_sealing, addition_seals, made_alike, made_in, IsJudgedAddition}
use Rattle.luks2_editing.proofs.NewKeyslotFacts.{alike_sealable, unsealed_ends}
use Rattle.luks2_editing.proofs.RenewalFacts.{renewing}
use Rattle.luks2_editing.proofs.adding.add.Goals as goal

pub returns-in_err-made-clause-replies : goal.returns-in_err-made-clause-replies
returns-in_err-made-clause-replies g c = λ tells payload e o to asked chosen well before same opened is_like is_new place.
    let v = g.D.Device.bytes c.args.device.now in
    let copy = c.args.copy in
    let addition = c.args.addition.now in
    let new = c.args.secrets.now.passphrase in
    let key = c.args.secrets.now.key.now in
    let random = c.args.secrets.now.random.now in
    let total : length v ≡ c.len.result = g.met.D.Device.sized c.args.device.now tells ∙ sym c.len.ensures in
    let x : IsJudgedAddition v payload copy addition e o new to key random =
    record { chosen = chosen; well = well; asked = asked; before = before; opened = opened; is_like = is_like; is_new = is_new; place = place } in
    let p = err_from_is_err_and c.from_residual.result c.from_residual.ensures.1 in
    rw (p.1, p.2)
    (c.in_err-made.ensures.refused v payload e (addition_seals v payload copy addition e o new to key random x) total)

pub new_metadata-requires-clause-positive : goal.new_metadata-requires-clause-positive
new_metadata-requires-clause-positive g c =
    let derivation = c.args.addition.now.derivation in
    unrefused_positive c.args.secrets.now.allowed.memory derivation.iterations derivation.chosen c.requires.allowed.turns c.requires.allowed.within

pub write_keyslot-requires-clause-sealable : goal.write_keyslot-requires-clause-sealable
write_keyslot-requires-clause-sealable g c =
    let copy = c.args.copy in
    let addition = c.args.addition.now in
    let within : AreCopiesWithin copy.header (area_len copy.meta) (g.D.Device.size c.args.device.now) =
    subst (λ (n : ℕ). AreCopiesWithin copy.header n (g.D.Device.size c.args.device.now)) c.in_ok-made.ensures.length
    (subst (λ (n : ℕ). AreCopiesWithin copy.header (area_len c.in_ok-made.made.meta) n) c.len.ensures c.in_ok-made.ensures.within) in
    let j = content copy.meta in
    let k = content c.in_ok-made.made.meta in
    alike_sealable j k addition.like addition.made addition.area (made_alike j k addition.made addition.like addition.derivation _ addition.area c.in_ok-made.ensures.made c.requires.free.small)
    (area_len copy.meta) (g.D.Device.size c.args.device.now) copy.header c.args.secrets.now.key.now c.args.secrets.now.random.now c.in_ok-made.ensures.counted c.requires.key_length c.requires.placed within

pub returns-in_err-write_keyslot-clause-replies : goal.returns-in_err-write_keyslot-clause-replies
returns-in_err-write_keyslot-clause-replies g c = λ tells payload e o to asked chosen well before same opened is_like is_new place.
    let v = g.D.Device.bytes c.args.device.now in
    let copy = c.args.copy in
    let addition = c.args.addition.now in
    let new = c.args.secrets.now.passphrase in
    let key = c.args.secrets.now.key.now in
    let random = c.args.secrets.now.random.now in
    let total : length v ≡ c.len.result = g.met.D.Device.sized c.args.device.now tells ∙ sym c.len.ensures in
    let x : IsJudgedAddition v payload copy addition e o new to key random =
    record { chosen = chosen; well = well; asked = asked; before = before; opened = opened; is_like = is_like; is_new = is_new; place = place } in
    let seals = addition_seals v payload copy addition e o new to key random x in
    let k = content c.in_ok-made.made.meta in
    let renews = subst (λ (n : ℕ). IsRenewing v e random copy.header (texts_of copy.header) n) (sym c.in_ok-made.ensures.length) (renewing v payload copy chosen well e random (texts_of copy.header) (rw asked (sym chosen.header.uuid)) (rw asked (sym chosen.header.label)) (rw asked (sym chosen.header.subsystem))) in
    let p = err_from_is_err_and c.from_residual-in_err-write_keyslot.result c.from_residual-in_err-write_keyslot.ensures.1 in
    rw (p.1, p.2)
    (unsealed_ends v payload copy chosen well e random k (c.in_ok-made.ensures.unrefused v payload e seals total) (c.in_ok-made.ensures.edited v payload e seals total)
    (g.D.Device.bytes c.write_keyslot.new.device) c.args.secrets.now.allowed addition.made (subst (λ (m : Allowed). (g : SlotFault) → HasRefusedKeyslot m k addition.made g → ⊥) same
    (addition_fine v payload copy addition e o new to key random x c.requires.free.small k c.in_ok-made.ensures.made
    (enough_random (content copy.meta) addition.like (length random) c.in_ok-made.ensures.counted)
    (subst (λ (m : Allowed). asked_beyond m.memory addition.derivation ≡ false) (sym same) c.requires.allowed.within)))
    (c.write_keyslot.ensures.torn tells payload e (content copy.meta) renews (addition_sealing v payload copy addition e o new to key random x c.requires.free.small k c.in_ok-made.ensures.made))
    c.in_err-write_keyslot.field-0.0 (c.in_err-write_keyslot.ensures.same tells) c.in_err-write_keyslot.ensures.fault)

pub returns-clause-replies : goal.returns-clause-replies
returns-clause-replies g c = λ tells payload e o to asked chosen well before same opened is_like is_new place.
    let v = g.D.Device.bytes c.args.device.now in
    let copy = c.args.copy in
    let addition = c.args.addition.now in
    let new = c.args.secrets.now.passphrase in
    let key = c.args.secrets.now.key.now in
    let random = c.args.secrets.now.random.now in
    let total : length v ≡ c.len.result = g.met.D.Device.sized c.args.device.now tells ∙ sym c.len.ensures in
    let x : IsJudgedAddition v payload copy addition e o new to key random =
    record { chosen = chosen; well = well; asked = asked; before = before; opened = opened; is_like = is_like; is_new = is_new; place = place } in
    let seals = addition_seals v payload copy addition e o new to key random x in
    let k = content c.in_ok-made.made.meta in
    let renews = subst (λ (n : ℕ). IsRenewing v e random copy.header (texts_of copy.header) n) (sym c.in_ok-made.ensures.length) (renewing v payload copy chosen well e random (texts_of copy.header) (rw asked (sym chosen.header.uuid)) (rw asked (sym chosen.header.label)) (rw asked (sym chosen.header.subsystem))) in
    let unrefused = c.in_ok-made.ensures.unrefused v payload e seals total in
    let edited = c.in_ok-made.ensures.edited v payload e seals total in
    let w = g.D.Device.bytes c.write_keyslot.new.device in
    record {
      unrefused = unrefused;
      after = added_after v payload copy addition e o new to key random x c.requires.free.small k c.in_ok-made.ensures.made edited w (c.in_ok-write_keyslot.ensures.written tells e renews);
      told = rw asked (made_in v payload copy addition e o new to key random x c.requires.free.small k c.in_ok-made.ensures.made edited w);
    }
