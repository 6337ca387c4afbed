use Rattle.std.proofs.Common.{◌≡◌, ℕ, ◌+◌, length, subst, sym}
use Rattle.std.proofs.lemmas.Result.{err_from_is_err_and}
use Rattle.luks_rules.specs.Held.{IsHeld}
use Rattle.luks_meta.specs.Content.{area_len, content}
use Rattle.luks2_editing.specs.Prepared.{AreCopiesWithin, IsPrepared, IsUnwritten}
use Rattle.luks_edit.specs.NewUuids.{uuid_need}
use Rattle.luks2_editing.specs.Rewriting.{with_uuid, IsRenewing}
use Rattle.luks2_editing.proofs.RenewalFacts.{copy_within}
use Rattle.luks2_editing.proofs.RepairFacts.{rewriting_done, rewriting_ends, rewriting_renews, unmade_ends}
use Rattle.luks2_editing.proofs.repairing.repair.Goals as goal

pub returns-in_err-meta-clause-replies : goal.returns-in_err-meta-clause-replies
returns-in_err-meta-clause-replies g c = λ tells payload e is x well before.
    let v = g.D.Device.bytes c.args.device.now in
    let p = err_from_is_err_and c.from_residual.result c.from_residual.ensures.1 in
    rw (p.1, p.2) (unmade_ends v payload c.args.copy x well e c.args.uuid c.args.texts c.args.change is c.args.random.now before c.in_err-meta.field-0.0 c.in_err-meta.ensures.refused)

pub returns-in_err-rewrite-clause-replies : goal.returns-in_err-rewrite-clause-replies
returns-in_err-rewrite-clause-replies g c = λ tells payload e is x well before.
    let v = g.D.Device.bytes c.args.device.now in
    let copy = c.args.copy in
    let random = c.args.random.now in
    let meta = c.in_ok-meta.meta in
    let new = content meta in
    let made = c.in_ok-meta.ensures.value in
    let len : area_len meta ≡ area_len copy.meta = c.in_ok-meta.ensures.length in
    let held : IsHeld (area_len copy.meta) new = subst (λ (n : ℕ). IsHeld n new) len meta.held in
    let size : length v ≡ g.D.Device.size c.args.device.now = g.met.D.Device.sized c.args.device.now tells in
    let within : AreCopiesWithin copy.header (area_len meta) (g.D.Device.size c.args.device.now) =
    subst (λ (n : ℕ). AreCopiesWithin copy.header n (g.D.Device.size c.args.device.now)) (sym len)
    (subst (λ (n : ℕ). AreCopiesWithin copy.header (area_len copy.meta) n) size (copy_within v payload copy x well)) in
    let renews = subst (λ (n : ℕ). IsRenewing v e random copy.header (with_uuid c.args.uuid random c.args.texts) n) (sym len) (rewriting_renews v payload copy x well e c.args.uuid c.args.texts c.args.change is random) in
    let p = err_from_is_err_and c.from_residual-in_err-rewrite.result c.from_residual-in_err-rewrite.ensures.1 in
    rw (p.1, p.2)
    (rewriting_ends v payload copy x well e c.args.uuid c.args.texts c.args.change is random before new made held (g.D.Device.bytes c.rewrite.new.device) c.in_err-rewrite.field-0.0
    (subst (λ (n : ℕ). IsUnwritten copy.header.seqid n new random (128 + uuid_need c.args.uuid) c.in_err-rewrite.field-0.0) len (c.in_err-rewrite.ensures.refused within))
    (c.in_err-rewrite.ensures.same tells) (c.rewrite.ensures.torn tells v e renews))

pub returns-clause-replies : goal.returns-clause-replies
returns-clause-replies g c = λ tells payload e is x well before.
    let v = g.D.Device.bytes c.args.device.now in
    let copy = c.args.copy in
    let random = c.args.random.now in
    let meta = c.in_ok-meta.meta in
    let new = content meta in
    let made = c.in_ok-meta.ensures.value in
    let len : area_len meta ≡ area_len copy.meta = c.in_ok-meta.ensures.length in
    let held : IsHeld (area_len copy.meta) new = subst (λ (n : ℕ). IsHeld n new) len meta.held in
    let renews = subst (λ (n : ℕ). IsRenewing v e random copy.header (with_uuid c.args.uuid random c.args.texts) n) (sym len) (rewriting_renews v payload copy x well e c.args.uuid c.args.texts c.args.change is random) in
    rewriting_done v payload copy x well e c.args.uuid c.args.texts c.args.change is random before new made held (g.D.Device.bytes c.rewrite.new.device)
    (subst (λ (n : ℕ). IsPrepared copy.header.seqid n new random (128 + uuid_need c.args.uuid)) len c.in_ok-rewrite.ensures.ready)
    (c.in_ok-rewrite.ensures.anew tells v e renews) (c.rewrite.ensures.rest tells)
