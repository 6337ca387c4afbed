-- What the narrow reading reads is what is read; where it refuses the metadata, that is judged by what is under way.
use Rattle.std.proofs.Common.{List, ℕ, subst, sym, IfOk, IfErr}
use Rattle.luks_reading.specs.declared.read_fault.ReadFault.TheVariants.{Head, Meta}
use Rattle.luks_reading.specs.Header.{IsUnread}
use Rattle.luks_wide_reading.specs.Headers.{IsWideHeader, IsWideUnread}
use Rattle.luks_wide_reading.proofs.WideUnread.{from_outside, no_meta, same_header}
use Rattle.luks_wide_reading.proofs.header.read_wide_header.Goals as goal

pub returns-in-Ok-clause-narrow : goal.returns-in-Ok-clause-narrow
returns-in-Ok-clause-narrow g c = λ tells header is. same_header (g.D.Device.bytes c.args.device.now) header c.in-Ok.header is (c.in-Ok.ensures.read tells)

pub returns-in-Err-Meta-clause-read : goal.returns-in-Err-Meta-clause-read
returns-in-Err-Meta-clause-read g c = λ tells.
    let v = g.D.Device.bytes c.args.device.now in
    let same = c.in-Err-Meta.ensures.unchanged.same tells in
    let was = subst (IsUnread v) c.in-Err-Meta.field-0-is (c.in-Err-Meta.ensures.refused tells) in
    subst (λ (w : List ℕ). IfOk c.read_beside.result (IsWideHeader w)) same
    (c.read_beside.ensures.read tells (subst (λ (w : List ℕ). IsUnread w (Meta c.in-Err-Meta.fault)) (sym same) was))

pub returns-in-Err-Meta-clause-refused : goal.returns-in-Err-Meta-clause-refused
returns-in-Err-Meta-clause-refused g c = λ tells.
    let v = g.D.Device.bytes c.args.device.now in
    let same = c.in-Err-Meta.ensures.unchanged.same tells in
    let was = subst (IsUnread v) c.in-Err-Meta.field-0-is (c.in-Err-Meta.ensures.refused tells) in
    subst (λ (w : List ℕ). IfErr c.read_beside.result (IsWideUnread w)) same
    (c.read_beside.ensures.refused tells (subst (λ (w : List ℕ). IsUnread w (Meta c.in-Err-Meta.fault)) (sym same) was))

pub returns-in-Err-Meta-clause-memory : goal.returns-in-Err-Meta-clause-memory
returns-in-Err-Meta-clause-memory g c = λ tells none.
    let v = g.D.Device.bytes c.args.device.now in
    absurd (no_meta v c.in-Err-Meta.fault none (subst (IsUnread v) c.in-Err-Meta.field-0-is (c.in-Err-Meta.ensures.refused tells)))

pub returns-in-Err-Meta-clause-narrow : goal.returns-in-Err-Meta-clause-narrow
returns-in-Err-Meta-clause-narrow g c = λ tells header is.
    let v = g.D.Device.bytes c.args.device.now in
    absurd (from_outside v header (Meta c.in-Err-Meta.fault) is (subst (IsUnread v) c.in-Err-Meta.field-0-is (c.in-Err-Meta.ensures.refused tells)))

pub returns-in-Err-Head-clause-narrow : goal.returns-in-Err-Head-clause-narrow
returns-in-Err-Head-clause-narrow g c = λ tells header is.
    let v = g.D.Device.bytes c.args.device.now in
    from_outside v header (Head c.in-Err-Head.fault) is (subst (IsUnread v) c.in-Err-Head.field-0-is (c.in-Err-Head.ensures.refused tells))

pub returns-in-Err-Memory-clause-memory : goal.returns-in-Err-Memory-clause-memory
returns-in-Err-Memory-clause-memory g c = λ tells none. absurd (c.in-Err-Memory.ensures.memory tells none c.in-Err-Memory.field-0-is)
