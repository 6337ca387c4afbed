use Rattle.std.proofs.Common.{◌≡◌, ℕ, ◌+◌, ◌-◌, ◌*◌, List, None, sym, ◌∙◌, subst, arith}
use Rattle.luks_finding.specs.Starts.{BeginsLuks}
use Rattle.luks_finding.specs.Telling.{joined, FindsWhole, IsFirstAt, IsSecondAt, IsWholeAt, TellsAt, TellsKind}
use Rattle.luks_finding.specs.declared.told.Told.{Told}
use Rattle.luks_finding.proofs.ToldFacts.{joined-told, text-header, text-none}
use Rattle.luks_finding.proofs.telling.told_by_text.Goals as goal

pub returns-then-is_luks-clause-told : goal.returns-then-is_luks-clause-told
returns-then-is_luks-clause-told g c = λ t.
    let h : ℕ = 512 * (c.args.sector - 8) in
    text-header (g.D.Device.bytes c.args.device.now) (512 * c.args.sector) h (omega arith) (c.requires.text t)
    (subst BeginsLuks (c.in_ok-beginning.ensures.read t) (c.is_luks.ensures.0 c.if-is_luks.true))

pub first_start-requires-clause-whole : goal.first_start-requires-clause-whole
first_start-requires-clause-whole g c = λ t.
    let W : List ℕ → Type 0 = λ w. IsWholeAt w (512 * (c.args.sector - 8)) c.in-Some.size in
    subst W (sym (c.in_ok-size.ensures.unchanged.same t)) (rw c.in-Some.is at c.in_ok-size.ensures.found t)

pub second_start-requires-clause-whole : goal.second_start-requires-clause-whole
second_start-requires-clause-whole g c = λ t.
    let W : List ℕ → Type 0 = λ w. IsWholeAt w (512 * (c.args.sector - 8)) c.in-Some.size in
    subst W (sym (c.in_ok-first-in-Some.ensures.unchanged.same t ∙ c.in_ok-size.ensures.unchanged.same t)) (rw c.in-Some.is at c.in_ok-size.ensures.found t)

pub returns-in_ok-second-in-Some-clause-told : goal.returns-in_ok-second-in-Some-clause-told
returns-in_ok-second-in-Some-clause-told g c = λ t.
    let v : List ℕ = g.D.Device.bytes c.args.device.now in
    let k : ℕ = c.args.sector - 8 in
    let h : ℕ = 512 * k in
    let size : ℕ = c.in-Some.size in
    let behind : h + 4096 ≡ 512 * c.args.sector = omega arith in
    let before : g.D.Device.bytes c.beginning_at.new.device ≡ v = c.in_ok-beginning.ensures.unchanged.same t in
    let same : g.D.Device.bytes c.whole_size.new.device ≡ v = c.in_ok-size.ensures.unchanged.same t ∙ before in
    let last : g.D.Device.bytes c.first_start.new.device ≡ v = c.in_ok-first-in-Some.ensures.unchanged.same t ∙ same in
    let W : List ℕ → Type 0 = λ w. IsWholeAt w h size in
    let F : List ℕ → Type 0 = λ w. TellsKind (IsFirstAt h) w (h + 4096) c.in_ok-first-in-Some.first in
    let K : List ℕ → Type 0 = λ w. TellsKind (IsSecondAt h) w (h + 4096) c.in_ok-second-in-Some.second in
    let whole : IsWholeAt v h size = subst W before (rw c.in-Some.is at c.in_ok-size.ensures.found t) in
    let first = subst F same (c.in_ok-first-in-Some.ensures.told t) in
    let second = subst K last (c.in_ok-second-in-Some.ensures.told t) in
    let told = joined-told v h size c.in_ok-second-in-Some.second c.in_ok-first-in-Some.first whole second first in
    let T : ℕ → Type 0 = λ p. TellsAt v p (joined c.in_ok-second-in-Some.second c.in_ok-first-in-Some.first) in
    let J : Told → Type 0 = λ x. TellsAt v (512 * c.args.sector) x in
    subst J (sym c.join.ensures) (subst T behind told)

pub returns-in-None-clause-told : goal.returns-in-None-clause-told
returns-in-None-clause-told g c = λ t.
    let h : ℕ = 512 * (c.args.sector - 8) in
    let N : List ℕ → Type 0 = λ w. FindsWhole w h None in
    text-none (g.D.Device.bytes c.args.device.now) (512 * c.args.sector) h (omega arith) (c.requires.text t)
    (subst N (c.in_ok-beginning.ensures.unchanged.same t) (rw c.in-None.is at c.in_ok-size.ensures.found t))
