use Rattle.std.proofs.Common.{◌≡◌, ℕ, List, drop, sym, subst}
use Rattle.luks_area.proofs.RangeFacts.{same_but-either}
use Rattle.luks_slot.specs.Opening.{area_bytes}
use Rattle.luks_slot.specs.Sealing.{IsSealed}
use Rattle.serde_json.specs.Data.{Data as Value}
use Rattle.luks2_header.specs.declared.bin2.Bin2.{Bin2}
use Rattle.luks_edit.specs.declared.edit.Edit.{Edit}
use Rattle.luks2_judging.specs.Texts.{texts_of}
use Rattle.luks2_judging.specs.declared.judged.TextFields.{TextFields}
use Rattle.luks2_editing.specs.Rewriting.{IsRewriting}
use Rattle.luks2_editing.proofs.SealingFacts.{area_behind, half_sealed}
use Rattle.luks2_editing.proofs.sealing.write_sealed.Goals as goal

-- the texts that are written are those of the header
with_texts : (chosen : Bin2) (texts : TextFields) → texts ≡ texts_of chosen → (v : List ℕ) (e : Edit) (random : List ℕ) (j : Value) (json : List ℕ)
    → IsRewriting v e random chosen (texts_of chosen) j json → IsRewriting v e random chosen texts j json
with_texts chosen texts same v e random j json is = subst (λ (t : TextFields). IsRewriting v e random chosen t j json) (sym same) is

pub returns-in-Ok-clause-anew : goal.returns-in-Ok-clause-anew
returns-in-Ok-clause-anew g c tells v e j is = c.in-Ok.ensures.anew tells v e j (with_texts c.args.chosen.now c.of-texts.result c.of-texts.ensures v e c.args.secrets.now.random.now j c.args.json.now is)

pub returns-in-Ok-clause-sealed : goal.returns-in-Ok-clause-sealed
returns-in-Ok-clause-sealed g c tells =
    let u = g.D.Device.bytes c.args.device.now in
    let mid = g.D.Device.bytes c.seal.new.device in
    let w = g.D.Device.bytes c.write_copies.new.device in
    let plan = c.args.plan.now in
    let stays = area_behind c.args.chosen.now.hdr_size plan.area mid w c.requires.ready.behind (c.write_copies.ensures.rest tells) in
    let sealed : IsSealed plan (area_bytes w plan.area) c.args.secrets.now.passphrase.now c.args.secrets.now.key.now (drop 160 c.args.secrets.now.random.now) =
    subst (λ (l : List ℕ). IsSealed plan l c.args.secrets.now.passphrase.now c.args.secrets.now.key.now (drop 160 c.args.secrets.now.random.now)) (sym stays)
    (subst (λ (r : List ℕ). IsSealed plan (area_bytes mid plan.area) c.args.secrets.now.passphrase.now c.args.secrets.now.key.now r) c.stripes_in-stripes.ensures (c.in_ok-seal.ensures.sealed tells)) in
    sealed

pub returns-in-Ok-clause-torn : goal.returns-in-Ok-clause-torn
returns-in-Ok-clause-torn g c tells v e j is =
    let u = g.D.Device.bytes c.args.device.now in
    let mid = g.D.Device.bytes c.seal.new.device in
    let w = g.D.Device.bytes c.write_copies.new.device in
    let plan = c.args.plan.now in
    let stays = area_behind c.args.chosen.now.hdr_size plan.area mid w c.requires.ready.behind (c.write_copies.ensures.rest tells) in
    let sealed : IsSealed plan (area_bytes w plan.area) c.args.secrets.now.passphrase.now c.args.secrets.now.key.now (drop 160 c.args.secrets.now.random.now) =
    subst (λ (l : List ℕ). IsSealed plan l c.args.secrets.now.passphrase.now c.args.secrets.now.key.now (drop 160 c.args.secrets.now.random.now)) (sym stays)
    (subst (λ (r : List ℕ). IsSealed plan (area_bytes mid plan.area) c.args.secrets.now.passphrase.now c.args.secrets.now.key.now r) c.stripes_in-stripes.ensures (c.in_ok-seal.ensures.sealed tells)) in
    half_sealed v c.args.chosen.now.hdr_offset e c.args.secrets.now.random.now j plan c.args.secrets.now.passphrase.now c.args.secrets.now.key.now (drop 160 c.args.secrets.now.random.now) u mid w (c.seal.ensures.rest tells) sealed
    (c.write_copies.ensures.torn tells v e j (with_texts c.args.chosen.now c.of-texts.result c.of-texts.ensures v e c.args.secrets.now.random.now j c.args.json.now is))

pub returns-in-Ok-clause-rest : goal.returns-in-Ok-clause-rest
returns-in-Ok-clause-rest g c tells = same_but-either (c.seal.ensures.rest tells) (c.write_copies.ensures.rest tells)

pub returns-in-Err-clause-torn : goal.returns-in-Err-clause-torn
returns-in-Err-clause-torn g c tells v e j is =
    let u = g.D.Device.bytes c.args.device.now in
    let mid = g.D.Device.bytes c.seal.new.device in
    let w = g.D.Device.bytes c.write_copies.new.device in
    let plan = c.args.plan.now in
    let stays = area_behind c.args.chosen.now.hdr_size plan.area mid w c.requires.ready.behind (c.write_copies.ensures.rest tells) in
    let sealed : IsSealed plan (area_bytes w plan.area) c.args.secrets.now.passphrase.now c.args.secrets.now.key.now (drop 160 c.args.secrets.now.random.now) =
    subst (λ (l : List ℕ). IsSealed plan l c.args.secrets.now.passphrase.now c.args.secrets.now.key.now (drop 160 c.args.secrets.now.random.now)) (sym stays)
    (subst (λ (r : List ℕ). IsSealed plan (area_bytes mid plan.area) c.args.secrets.now.passphrase.now c.args.secrets.now.key.now r) c.stripes_in-stripes.ensures (c.in_ok-seal.ensures.sealed tells)) in
    half_sealed v c.args.chosen.now.hdr_offset e c.args.secrets.now.random.now j plan c.args.secrets.now.passphrase.now c.args.secrets.now.key.now (drop 160 c.args.secrets.now.random.now) u mid w (c.seal.ensures.rest tells) sealed
    (c.write_copies.ensures.torn tells v e j (with_texts c.args.chosen.now c.of-texts.result c.of-texts.ensures v e c.args.secrets.now.random.now j c.args.json.now is))

pub returns-in-Err-clause-rest : goal.returns-in-Err-clause-rest
returns-in-Err-clause-rest g c tells = same_but-either (c.seal.ensures.rest tells) (c.write_copies.ensures.rest tells)

pub seal-requires-clause-ready : goal.seal-requires-clause-ready
seal-requires-clause-ready g c = rw c.stripes_in-stripes.ensures c.requires.ready.sealed
