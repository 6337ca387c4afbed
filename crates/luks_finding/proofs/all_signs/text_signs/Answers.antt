use Rattle.std.proofs.Common.{◌≡◌, ℕ, ◌+◌, ◌-◌, ◌*◌, List, sym, ◌∙◌, subst, arith}
use Rattle.luks_finding.specs.Readable.{HasAllAt, HasKindAt}
use Rattle.luks_finding.specs.Telling.{joined, IsFirstAt, IsSecondAt, IsWholeAt}
use Rattle.luks_finding.specs.declared.told.Told.{Told}
use Rattle.luks_finding.proofs.AllSignsFacts.{joined-all, texts-none}
use Rattle.luks_finding.proofs.all_signs.text_signs.Goals as goal

pub first_sign_of-requires-clause-whole : goal.first_sign_of-requires-clause-whole
first_sign_of-requires-clause-whole g c = λ t.
    let W : List ℕ → Type 0 = λ w. IsWholeAt w (512 * (c.args.sector - 8)) c.in-Some.size in
    subst W (sym (c.in_ok-size.ensures.unchanged.same t)) (rw c.in-Some.is at c.in_ok-size.ensures.found t)

pub second_sign_of-requires-clause-whole : goal.second_sign_of-requires-clause-whole
second_sign_of-requires-clause-whole g c = λ t.
    let W : List ℕ → Type 0 = λ w. IsWholeAt w (512 * (c.args.sector - 8)) c.in-Some.size in
    subst W (sym (c.in_ok-first-in-Some.ensures.unchanged.same t ∙ c.in_ok-size.ensures.unchanged.same t)) (rw c.in-Some.is at c.in_ok-size.ensures.found t)

pub returns-in_ok-second-in-Some-clause-all : goal.returns-in_ok-second-in-Some-clause-all
returns-in_ok-second-in-Some-clause-all g c = λ t.
    let v : List ℕ = g.D.Device.bytes c.args.device.now in
    let k : ℕ = c.args.sector - 8 in
    let h : ℕ = 512 * k in
    let size : ℕ = c.in-Some.size in
    let behind : h + 4096 ≡ 512 * c.args.sector = omega arith in
    let same : g.D.Device.bytes c.whole_size.new.device ≡ v = c.in_ok-size.ensures.unchanged.same t in
    let last : g.D.Device.bytes c.first_sign_of.new.device ≡ v = c.in_ok-first-in-Some.ensures.unchanged.same t ∙ same in
    let F : List ℕ → Type 0 = λ w. HasKindAt (IsFirstAt h) w (h + 4096) c.in_ok-first-in-Some.first in
    let K : List ℕ → Type 0 = λ w. HasKindAt (IsSecondAt h) w (h + 4096) c.in_ok-second-in-Some.second in
    let whole : IsWholeAt v h size = rw c.in-Some.is at c.in_ok-size.ensures.found t in
    let first = subst F same (c.in_ok-first-in-Some.ensures.all t) in
    let second = subst K last (c.in_ok-second-in-Some.ensures.all t) in
    let told = joined-all v h size c.in_ok-second-in-Some.second c.in_ok-first-in-Some.first whole second first in
    let T : ℕ → Type 0 = λ p. HasAllAt v p (joined c.in_ok-second-in-Some.second c.in_ok-first-in-Some.first) in
    let J : Told → Type 0 = λ x. HasAllAt v (512 * c.args.sector) x in
    subst J (sym c.join.ensures) (subst T behind told)

pub returns-in-None-clause-all : goal.returns-in-None-clause-all
returns-in-None-clause-all g c = λ t.
    let h : ℕ = 512 * (c.args.sector - 8) in
    texts-none (g.D.Device.bytes c.args.device.now) (512 * c.args.sector) h (omega arith) (c.requires.text t) (rw c.in-None.is at c.in_ok-size.ensures.found t)
