-- The first fault of the area that was kept or read is that of the copy's area.
use Rattle.std.proofs.Common.{◌∙◌, List, ℕ, rules, subst}
use Rattle.std.proofs.lemmas.Result.{err_from_is_err_and}
use Rattle.luks1_header.specs.declared.fault.HeadFault.{HeadFault}
use Rattle.luks2_header.specs.Header2.{IsUuidFault}
use Rattle.luks_meta.specs.Content.{content}
use Rattle.luks_reading.specs.ChosenCopies.{json_of, CopyRefused, IsCleared}
use Rattle.luks_reading.specs.Conversions.{meta_unread}
use Rattle.luks_reading.proofs.ReadFaults.{meta_refused, outside_refuses}
use Rattle.luks_reading.proofs.header.read_metadata.Goals as goal

pub returns-in_err-read-clause-refused : goal.returns-in_err-read-clause-refused
returns-in_err-read-clause-refused g c = λ tells.
    let clear : (f : HeadFault) → IsUuidFault c.args.header.now.uuid f → ⊥ = search rules in
    let area = c.requires.kept tells c.if-header-eq-LEAST_HEADER.true in
    let p = err_from_is_err_and c.from_residual-in_err-read.result c.from_residual-in_err-read.ensures.1 in
    rw (p.1, p.2)
    (subst (λ (json : List ℕ). CopyRefused c.args.header.now.uuid json (meta_unread c.in_err-read.field-0.0)) area
    (meta_refused c.args.header.now.uuid c.args.kept.now c.in_err-read.field-0.0 clear c.in_err-read.ensures.fault))

pub returns-in_err-json-clause-refused : goal.returns-in_err-json-clause-refused
returns-in_err-json-clause-refused g c = λ tells.
    let clear : (f : HeadFault) → IsUuidFault c.args.header.now.uuid f → ⊥ = search rules in
    let p = err_from_is_err_and c.from_residual-in_err-json.result c.from_residual-in_err-json.ensures.1 in
    rw (p.1, p.2)
    (outside_refuses c.args.header.now.uuid (json_of (g.D.Device.bytes c.args.device.now) c.args.header.now) c.in_err-json.field-0.0
    c.in_err-json.ensures.kinds clear)

pub returns-in_err-read-2-clause-refused : goal.returns-in_err-read-2-clause-refused
returns-in_err-read-2-clause-refused g c = λ tells.
    let clear : (f : HeadFault) → IsUuidFault c.args.header.now.uuid f → ⊥ = search rules in
    let area = c.deref.ensures.value ∙ c.in_ok-json.ensures.json tells in
    let p = err_from_is_err_and c.from_residual-in_err-read-2.result c.from_residual-in_err-read-2.ensures.1 in
    rw (p.1, p.2)
    (subst (λ (json : List ℕ). CopyRefused c.args.header.now.uuid json (meta_unread c.in_err-read-2.field-0.0)) area
    (meta_refused c.args.header.now.uuid c.deref.result.now c.in_err-read-2.field-0.0 clear c.in_err-read-2.ensures.fault))

pub returns-clause-cleared : goal.returns-clause-cleared
returns-clause-cleared g c = λ tells.
    let clear : (f : HeadFault) → IsUuidFault c.args.header.now.uuid f → ⊥ = search rules in
    subst (λ (json : List ℕ). IsCleared c.args.header.now.uuid json (content c.in_ok-read-2.field-0))
    (c.deref.ensures.value ∙ c.in_ok-json.ensures.json tells)
    (record { uuid_faultless = clear; faultless = c.in_ok-read-2.ensures.faultless; meta = c.in_ok-read-2.ensures.found })
