use Rattle.std.proofs.Common.{◌≡◌, ℕ, arith, subst, sym}
use Rattle.luks_area.specs.Ranges.{IsAt, SameBut}
use Rattle.luks_area.proofs.RangeFacts.{same_but-then, same_but-wider}
use Rattle.luks2_edit_laws.specs.Copies.{copy_salt, other_place}
use Rattle.luks2_editing.specs.NewCopy.{HasNewCopy, IsCopyPlace}
use Rattle.luks2_editing.proofs.NewCopyFacts.{area_fits, inside, new_copy, of_new_copy}
use Rattle.luks2_editing.proofs.RewritingFacts.{all_done, half_begun, half_done, of_chosen, of_other, other_inside, other_is_place, own_is_place}
use Rattle.luks2_editing.proofs.writing.write_copies.Goals as goal

pub write_summed_copy-requires-clause-json : goal.write_summed_copy-requires-clause-json
write_summed_copy-requires-clause-json g c = area_fits _ _ _ _ _ _ c.new_headers-headers.ensures.other c.requires.json

pub write_summed_copy-requires-clause-within : goal.write_summed_copy-requires-clause-within
write_summed_copy-requires-clause-within g c =
    inside _ _ _ _ _ _ c.new_headers-headers.ensures.other (g.D.Device.size c.args.device.now)
    (other_inside c.args.chosen.now.hdr_size c.args.chosen.now.hdr_offset (g.D.Device.size c.args.device.now) c.other_place-other.result c.other_place-other.ensures c.requires.within)

pub write_summed_copy-requires-2-clause-json : goal.write_summed_copy-requires-2-clause-json
write_summed_copy-requires-2-clause-json g c = area_fits _ _ _ _ _ _ c.new_headers-headers.ensures.own c.requires.json

pub write_summed_copy-requires-2-clause-within : goal.write_summed_copy-requires-2-clause-within
write_summed_copy-requires-2-clause-within g c =
    let size : g.D.Device.size c.write_summed_copy.new.device ≡ g.D.Device.size c.args.device.now = c.write_summed_copy.ensures.settles.size in
    let place = c.requires.place in
    let within = c.requires.within in
    inside _ _ _ _ _ _ c.new_headers-headers.ensures.own (g.D.Device.size c.write_summed_copy.new.device) (omega (arith, size, place, within))

pub returns-in_err-write_summed_copy-clause-rest : goal.returns-in_err-write_summed_copy-clause-rest
returns-in_err-write_summed_copy-clause-rest g c tells =
    let h = c.args.chosen.now.hdr_size in
    let o = c.args.chosen.now.hdr_offset in
    same_but-wider (of_other h o) (subst (λ (q : ℕ). SameBut (IsAt q h) (g.D.Device.bytes c.args.device.now) (g.D.Device.bytes c.write_summed_copy.new.device)) c.other_place-other.ensures (of_new_copy _ _ _ _ _ _ c.new_headers-headers.ensures.other (c.write_summed_copy.ensures.rest tells)))

pub returns-in_err-write_summed_copy-2-clause-rest : goal.returns-in_err-write_summed_copy-2-clause-rest
returns-in_err-write_summed_copy-2-clause-rest g c tells =
    let h = c.args.chosen.now.hdr_size in
    let o = c.args.chosen.now.hdr_offset in
    same_but-then (same_but-wider (of_other h o) (subst (λ (q : ℕ). SameBut (IsAt q h) (g.D.Device.bytes c.args.device.now) (g.D.Device.bytes c.write_summed_copy.new.device)) c.other_place-other.ensures (of_new_copy _ _ _ _ _ _ c.new_headers-headers.ensures.other (c.write_summed_copy.ensures.rest tells))))
    (same_but-wider (λ p at. of_chosen h o p c.requires.place at) (of_new_copy _ _ _ _ _ _ c.new_headers-headers.ensures.own (c.write_summed_copy-2.ensures.rest tells)))

pub returns-clause-rest : goal.returns-clause-rest
returns-clause-rest g c tells =
    let h = c.args.chosen.now.hdr_size in
    let o = c.args.chosen.now.hdr_offset in
    same_but-then (same_but-wider (of_other h o) (subst (λ (q : ℕ). SameBut (IsAt q h) (g.D.Device.bytes c.args.device.now) (g.D.Device.bytes c.write_summed_copy.new.device)) c.other_place-other.ensures (of_new_copy _ _ _ _ _ _ c.new_headers-headers.ensures.other (c.write_summed_copy.ensures.rest tells))))
    (same_but-wider (λ p at. of_chosen h o p c.requires.place at) (of_new_copy _ _ _ _ _ _ c.new_headers-headers.ensures.own (c.write_summed_copy-2.ensures.rest tells)))

pub returns-in_err-write_summed_copy-clause-torn : goal.returns-in_err-write_summed_copy-clause-torn
returns-in_err-write_summed_copy-clause-torn g c tells v e j is =
    let old = c.args.chosen.now in
    let h = old.hdr_size in
    half_begun v e old c.args.texts c.args.random.now j c.args.json.now is c.requires.json (g.D.Device.bytes c.args.device.now) (g.D.Device.bytes c.write_summed_copy.new.device)
    (subst (λ (q : ℕ). SameBut (IsAt q h) (g.D.Device.bytes c.args.device.now) (g.D.Device.bytes c.write_summed_copy.new.device)) c.other_place-other.ensures (of_new_copy _ _ _ _ _ _ c.new_headers-headers.ensures.other (c.write_summed_copy.ensures.rest tells)))

pub returns-in_err-write_summed_copy-2-clause-torn : goal.returns-in_err-write_summed_copy-2-clause-torn
returns-in_err-write_summed_copy-2-clause-torn g c tells v e j is =
    let old = c.args.chosen.now in
    let h = old.hdr_size in
    let o = old.hdr_offset in
    let w = g.D.Device.bytes c.write_summed_copy.new.device in
    let place : IsCopyPlace old c.other_place-other.result = subst (λ (q : ℕ). IsCopyPlace old q) (sym c.other_place-other.ensures) (other_is_place old v e c.args.random.now c.args.texts j c.args.json.now is) in
    let made : HasNewCopy old c.args.texts (copy_salt c.args.random.now c.other_place-other.result) c.args.json.now w c.other_place-other.result =
    new_copy _ _ _ _ _ _ c.new_headers-headers.ensures.other w place (c.in_ok-write_summed_copy.ensures.copy tells) in
    let other : HasNewCopy old c.args.texts (copy_salt c.args.random.now (other_place h o)) c.args.json.now w (other_place h o) =
    subst (λ (q : ℕ). HasNewCopy old c.args.texts (copy_salt c.args.random.now q) c.args.json.now w q) c.other_place-other.ensures made in
    half_done v e old c.args.texts c.args.random.now j c.args.json.now is c.requires.json (g.D.Device.bytes c.args.device.now) w
    (g.D.Device.bytes c.write_summed_copy-2.new.device) other
    (subst (λ (q : ℕ). SameBut (IsAt q h) (g.D.Device.bytes c.args.device.now) (g.D.Device.bytes c.write_summed_copy.new.device)) c.other_place-other.ensures (of_new_copy _ _ _ _ _ _ c.new_headers-headers.ensures.other (c.write_summed_copy.ensures.rest tells))) c.requires.place (of_new_copy _ _ _ _ _ _ c.new_headers-headers.ensures.own (c.write_summed_copy-2.ensures.rest tells))

pub returns-clause-torn : goal.returns-clause-torn
returns-clause-torn g c tells v e j is =
    let old = c.args.chosen.now in
    let h = old.hdr_size in
    let o = old.hdr_offset in
    let w = g.D.Device.bytes c.write_summed_copy.new.device in
    let place : IsCopyPlace old c.other_place-other.result = subst (λ (q : ℕ). IsCopyPlace old q) (sym c.other_place-other.ensures) (other_is_place old v e c.args.random.now c.args.texts j c.args.json.now is) in
    let made : HasNewCopy old c.args.texts (copy_salt c.args.random.now c.other_place-other.result) c.args.json.now w c.other_place-other.result =
    new_copy _ _ _ _ _ _ c.new_headers-headers.ensures.other w place (c.in_ok-write_summed_copy.ensures.copy tells) in
    let other : HasNewCopy old c.args.texts (copy_salt c.args.random.now (other_place h o)) c.args.json.now w (other_place h o) =
    subst (λ (q : ℕ). HasNewCopy old c.args.texts (copy_salt c.args.random.now q) c.args.json.now w q) c.other_place-other.ensures made in
    half_done v e old c.args.texts c.args.random.now j c.args.json.now is c.requires.json (g.D.Device.bytes c.args.device.now) w
    (g.D.Device.bytes c.write_summed_copy-2.new.device) other
    (subst (λ (q : ℕ). SameBut (IsAt q h) (g.D.Device.bytes c.args.device.now) (g.D.Device.bytes c.write_summed_copy.new.device)) c.other_place-other.ensures (of_new_copy _ _ _ _ _ _ c.new_headers-headers.ensures.other (c.write_summed_copy.ensures.rest tells))) c.requires.place (of_new_copy _ _ _ _ _ _ c.new_headers-headers.ensures.own (c.write_summed_copy-2.ensures.rest tells))

pub returns-clause-anew : goal.returns-clause-anew
returns-clause-anew g c tells v e j is =
    let old = c.args.chosen.now in
    let h = old.hdr_size in
    let o = old.hdr_offset in
    let w = g.D.Device.bytes c.write_summed_copy.new.device in
    let place : IsCopyPlace old c.other_place-other.result = subst (λ (q : ℕ). IsCopyPlace old q) (sym c.other_place-other.ensures) (other_is_place old v e c.args.random.now c.args.texts j c.args.json.now is) in
    let made : HasNewCopy old c.args.texts (copy_salt c.args.random.now c.other_place-other.result) c.args.json.now w c.other_place-other.result =
    new_copy _ _ _ _ _ _ c.new_headers-headers.ensures.other w place (c.in_ok-write_summed_copy.ensures.copy tells) in
    let other : HasNewCopy old c.args.texts (copy_salt c.args.random.now (other_place h o)) c.args.json.now w (other_place h o) =
    subst (λ (q : ℕ). HasNewCopy old c.args.texts (copy_salt c.args.random.now q) c.args.json.now w q) c.other_place-other.ensures made in
    all_done v e old c.args.texts c.args.random.now j c.args.json.now is c.requires.json (g.D.Device.bytes c.args.device.now) w
    (g.D.Device.bytes c.write_summed_copy-2.new.device) other
    (subst (λ (q : ℕ). SameBut (IsAt q h) (g.D.Device.bytes c.args.device.now) (g.D.Device.bytes c.write_summed_copy.new.device)) c.other_place-other.ensures (of_new_copy _ _ _ _ _ _ c.new_headers-headers.ensures.other (c.write_summed_copy.ensures.rest tells))) c.requires.place (of_new_copy _ _ _ _ _ _ c.new_headers-headers.ensures.own (c.write_summed_copy-2.ensures.rest tells))
    (new_copy _ _ _ _ _ _ c.new_headers-headers.ensures.own (g.D.Device.bytes c.write_summed_copy-2.new.device)
    (own_is_place old v e c.args.random.now c.args.texts j c.args.json.now is) (c.in_ok-write_summed_copy-2.ensures.copy tells))
