use Rattle.std.proofs.Common.{[], ap, subst, sym, ◌∙◌, MatchResult}
use Rattle.luks_edit.specs.Asked.{opener_at, sealed_in, uuid_in}
use Rattle.luks_edit.specs.NewUuids.{uuid_need}
use Rattle.luks1_edits.specs.Accepted.{IsNewFault, IsNewFree}
use Rattle.luks1_edits.specs.Edited.{number_asked}
use Rattle.luks1_edits.specs.Refused.{NeedsFor}
use Rattle.luks1_edits.proofs.KeyslotPlaces.{key_bytes_in}
use Rattle.luks1_edits.proofs.NeedFacts.{need_first, new_need_tells, uuid_needs}
use Rattle.luks1_edits.proofs.NewKeyslotFacts.{making}
use Rattle.luks1_edits.proofs.OpenerFacts.{slots_in}
use Rattle.luks1_edits.proofs.needing.needed_luks1.Goals as goal

pub returns-in-Err-clause-tells : goal.returns-in-Err-clause-tells
returns-in-Err-clause-tells c = λ v is size. need_first v c.args.payload c.args.edit.now c.in-Err.fault c.in-Err.ensures.early (c.in-Err.ensures.refused v [] is size)

pub returns-in-Seal-clause-tells : goal.returns-in-Seal-clause-tells
returns-in-Seal-clause-tells c = λ v is size.
    let a = c.in-Ok.header in
    let header = c.in-Ok.ensures.header v is size in
    let fields = c.in-Ok.ensures.accepted.fields in
    let slots = slots_in a.bytes.now c.args.payload v a.fields.slots header fields.slots in
    let s = c.in-Seal.sealed in
    new_need_tells v c.args.payload c.args.edit.now header.faultless (c.in-Ok.ensures.there v slots) (opener_at s.place) (number_asked s.place) s.derivation (making v c.args.edit.now s (sym c.in-Seal.ensures)) c.new_need.result
    (subst (λ t. MatchResult c.new_need.result (NeedsFor v (IsNewFree v t)) (IsNewFault v t)) c.number_asked.ensures
    (c.new_need.ensures.need v slots (key_bytes_in a.bytes.now a.fields c.args.payload v header fields)))

pub returns-in-Remove-clause-tells : goal.returns-in-Remove-clause-tells
returns-in-Remove-clause-tells c = λ v is size.
    let a = c.in-Ok.header in
    let header = c.in-Ok.ensures.header v is size in
    let slots = slots_in a.bytes.now c.args.payload v a.fields.slots header c.in-Ok.ensures.accepted.fields.slots in
    uuid_needs v c.args.payload c.args.edit.now header.faultless (c.in-Ok.ensures.there v slots) (ap sealed_in (sym c.in-Remove.ensures)) 0 (ap (λ d. uuid_need (uuid_in d)) c.in-Remove.ensures)

pub returns-in-Rewrite-clause-tells : goal.returns-in-Rewrite-clause-tells
returns-in-Rewrite-clause-tells c = λ v is size.
    let a = c.in-Ok.header in
    let header = c.in-Ok.ensures.header v is size in
    let slots = slots_in a.bytes.now c.args.payload v a.fields.slots header c.in-Ok.ensures.accepted.fields.slots in
    uuid_needs v c.args.payload c.args.edit.now header.faultless (c.in-Ok.ensures.there v slots) (ap sealed_in (sym c.in-Rewrite.ensures)) c.uuid_need.result
    (c.uuid_need.ensures ∙ ap (λ d. uuid_need (uuid_in d)) c.in-Rewrite.ensures)

pub returns-in-Erase-clause-tells : goal.returns-in-Erase-clause-tells
returns-in-Erase-clause-tells c = λ v is size.
    let a = c.in-Ok.header in
    let header = c.in-Ok.ensures.header v is size in
    let slots = slots_in a.bytes.now c.args.payload v a.fields.slots header c.in-Ok.ensures.accepted.fields.slots in
    uuid_needs v c.args.payload c.args.edit.now header.faultless (c.in-Ok.ensures.there v slots) (ap sealed_in (sym c.in-Erase.ensures)) 0 (ap (λ d. uuid_need (uuid_in d)) c.in-Erase.ensures)
