-- The first fault of the area that was kept or read is that of the copy's area.
use Rattle.std.proofs.Common.{◌≡◌, ◌∙◌, List, ℕ, rules, subst, sym, IfOk, IfErr, length}
use Rattle.std.proofs.lemmas.Result.{err_from_is_err_and, IfErr-weaker}
use Rattle.luks_area.specs.Device.{CountsFailure}
use Rattle.luks1_header.specs.declared.fault.HeadFault.{HeadFault}
use Rattle.luks2_header.specs.Header2.{IsUuidFault}
use Rattle.luks_reading.specs.ChosenCopies.{json_of}
use Rattle.luks_wider.specs.Underways.{area_len}
use Rattle.luks_wider.specs.Wide.{IsWiderOf}
use Rattle.luks_wider.specs.declared.wider.Wider.TheVariants as wider
use Rattle.luks_wide_reading.specs.Beside.{AreaRefused}
use Rattle.luks_wide_reading.specs.Faults.{is_wide_read_failure}
use Rattle.luks_wide_reading.proofs.WideUnread.{copy_refused, no_failure_counts, outside_refused}
use Rattle.luks_wide_reading.proofs.header.read_metadata.Goals as goal

-- ---- a copy of the least size

pub returns-then-header-eq-LEAST_HEADER-clause-count : goal.returns-then-header-eq-LEAST_HEADER-clause-count
returns-then-header-eq-LEAST_HEADER-clause-count g c = no_failure_counts c.read_area.result _ c.read_area.ensures.no_failure

pub returns-then-header-eq-LEAST_HEADER-clause-read : goal.returns-then-header-eq-LEAST_HEADER-clause-read
returns-then-header-eq-LEAST_HEADER-clause-read g c = λ tells.
    subst (λ (json : List ℕ). IfOk c.read_area.result (λ m. IsWiderOf json (wider.Underway m))) (c.requires.kept tells c.if-header-eq-LEAST_HEADER.true) c.read_area.ensures.read

pub returns-then-header-eq-LEAST_HEADER-clause-length : goal.returns-then-header-eq-LEAST_HEADER-clause-length
returns-then-header-eq-LEAST_HEADER-clause-length g c = λ tells.
    subst (λ (json : List ℕ). IfOk c.read_area.result (λ m. area_len m ≡ length json)) (c.requires.kept tells c.if-header-eq-LEAST_HEADER.true) c.read_area.ensures.length

pub returns-then-header-eq-LEAST_HEADER-clause-refused : goal.returns-then-header-eq-LEAST_HEADER-clause-refused
returns-then-header-eq-LEAST_HEADER-clause-refused g c = λ tells.
    let clear : (f : HeadFault) → IsUuidFault c.args.header.now.uuid f → ⊥ = search rules in
    IfErr-weaker c.read_area.result _ _
    (λ f. copy_refused c.args.header.now.uuid (json_of (g.D.Device.bytes c.args.device.now) c.args.header.now) c.args.narrow_fault.now f clear)
    (subst (λ (json : List ℕ). IfErr c.read_area.result (AreaRefused json c.args.narrow_fault.now)) (c.requires.kept tells c.if-header-eq-LEAST_HEADER.true)
    c.read_area.ensures.refused)

-- ---- a larger one

pub returns-in_err-json-clause-refused : goal.returns-in_err-json-clause-refused
returns-in_err-json-clause-refused g c = λ tells.
    let clear : (f : HeadFault) → IsUuidFault c.args.header.now.uuid f → ⊥ = search rules in
    let p = err_from_is_err_and c.from_residual-in_err-json.result c.from_residual-in_err-json.ensures.1 in
    rw (p.1, p.2)
    (outside_refused c.args.header.now.uuid (json_of (g.D.Device.bytes c.args.device.now) c.args.header.now) c.args.narrow_fault.now c.in_err-json.field-0.0 clear
    c.in_err-json.ensures.kinds)

pub returns-clause-count : goal.returns-clause-count
returns-clause-count g c =
    subst (λ (n : ℕ). CountsFailure is_wide_read_failure c.read_area-2.result (g.D.Device.failed c.args.device.now) n) (sym c.in_ok-json.ensures.count)
    (no_failure_counts c.read_area-2.result _ c.read_area-2.ensures.no_failure)

pub returns-clause-read : goal.returns-clause-read
returns-clause-read g c = λ tells.
    subst (λ (json : List ℕ). IfOk c.read_area-2.result (λ m. IsWiderOf json (wider.Underway m))) (c.deref.ensures.value ∙ c.in_ok-json.ensures.json tells)
    c.read_area-2.ensures.read

pub returns-clause-length : goal.returns-clause-length
returns-clause-length g c = λ tells.
    subst (λ (json : List ℕ). IfOk c.read_area-2.result (λ m. area_len m ≡ length json)) (c.deref.ensures.value ∙ c.in_ok-json.ensures.json tells)
    c.read_area-2.ensures.length

pub returns-clause-refused : goal.returns-clause-refused
returns-clause-refused g c = λ tells.
    let clear : (f : HeadFault) → IsUuidFault c.args.header.now.uuid f → ⊥ = search rules in
    IfErr-weaker c.read_area-2.result _ _
    (λ f. copy_refused c.args.header.now.uuid (json_of (g.D.Device.bytes c.args.device.now) c.args.header.now) c.args.narrow_fault.now f clear)
    (subst (λ (json : List ℕ). IfErr c.read_area-2.result (AreaRefused json c.args.narrow_fault.now)) (c.deref.ensures.value ∙ c.in_ok-json.ensures.json tells)
    c.read_area-2.ensures.refused)
