use Rattle.std.proofs.Common.{ℕ, List, sym, ap, ◌∙◌, subst}
use Rattle.std.proofs.lemmas.Bool.{false≢true}
use Rattle.luks_area.specs.Device.{unchanged-then}
use Rattle.luks2_header.specs.Header2.{hdr_size, IsSound}
use Rattle.luks2_header.specs.SoundCopies.{kept_at, FindsSoundCopy, IsFoundWithin}
use Rattle.luks2_header.proofs.BothCopiesFacts.{size_of_first, when_there}
use Rattle.luks2_header.proofs.selection.chosen_beside.Goals as goal

pub returns-in_ok-found-clause-within : goal.returns-in_ok-found-clause-within
returns-in_ok-found-clause-within g c =
    let F : ℕ → Type 0 = λ n. IsFoundWithin n c.in_ok-found.found.0 in
    let S : ℕ → Type 0 = λ n. IsFoundWithin n c.in_ok-found.found.1 in
    let size = c.in_ok-begins_at.ensures.unchanged.size in
    c.chosen_of.ensures.within (g.D.Device.size c.args.device.now) (subst F size c.in_ok-found.ensures.within.0) (subst S size c.in_ok-found.ensures.within.1)

pub returns-in_ok-found-clause-found : goal.returns-in_ok-found-clause-found
returns-in_ok-found-clause-found g c = λ t.
    let v : List ℕ = g.D.Device.bytes c.args.device.now in
    let o = hdr_size c.args.head.now in
    let F : List ℕ → Type 0 = λ w. FindsSoundCopy w 0 c.in_ok-found.found.0 in
    let S : List ℕ → Type 0 = λ w. FindsSoundCopy w o c.in_ok-found.found.1 in
    let same = c.in_ok-begins_at.ensures.unchanged.same t in
    let first = subst F same (c.in_ok-found.ensures.first t) in
    c.chosen_of.ensures.chosen v o first (size_of_first v c.args.head.now c.in_ok-found.found.0 (c.requires.begun t).head first)
    (subst S same (c.in_ok-found.ensures.second t))

pub returns-in_ok-found-clause-kept : goal.returns-in_ok-found-clause-kept
returns-in_ok-found-clause-kept g c = λ t.
    let v : List ℕ = g.D.Device.bytes c.args.device.now in
    let o = hdr_size c.args.head.now in
    let F : List ℕ → Type 0 = λ w. FindsSoundCopy w 0 c.in_ok-found.found.0 in
    let S : List ℕ → Type 0 = λ w. FindsSoundCopy w o c.in_ok-found.found.1 in
    let same = c.in_ok-begins_at.ensures.unchanged.same t in
    let begun = c.in_ok-begins_at.ensures.begun t c.if-branch.true in
    c.chosen_of.ensures.json v o (subst F same (c.in_ok-found.ensures.first t)) (subst S same (c.in_ok-found.ensures.second t))
    (c.requires.begun t).json (when_there c.in_ok-found.found.1 _ (begun.json ∙ ap (kept_at v) c.u64_at-size.ensures))

pub returns-in_ok-first-clause-unchanged : goal.returns-in_ok-first-clause-unchanged
returns-in_ok-first-clause-unchanged g c = unchanged-then c.in_ok-begins_at.ensures.unchanged c.in_ok-first.ensures.unchanged

pub returns-in_ok-first-clause-within : goal.returns-in_ok-first-clause-within
returns-in_ok-first-clause-within g c =
    let F : ℕ → Type 0 = λ n. IsFoundWithin n c.in_ok-first.first in
    c.chosen_of-else-branch.ensures.within (g.D.Device.size c.args.device.now) (subst F c.in_ok-begins_at.ensures.unchanged.size c.in_ok-first.ensures.within) tt

pub returns-in_ok-first-clause-found : goal.returns-in_ok-first-clause-found
returns-in_ok-first-clause-found g c = λ t.
    let v : List ℕ = g.D.Device.bytes c.args.device.now in
    let F : List ℕ → Type 0 = λ w. FindsSoundCopy w 0 c.in_ok-first.first in
    let first = subst F (c.in_ok-begins_at.ensures.unchanged.same t) (c.in_ok-first.ensures.judged t) in
    let U : ℕ → Type 0 = λ n. IsSound v n → ⊥ in
    let unsound = subst U c.u64_at-size.ensures (λ sound. false≢true (sym c.if-branch.false ∙ c.in_ok-begins_at.ensures.unsound t sound)) in
    c.chosen_of-else-branch.ensures.chosen v (hdr_size c.args.head.now) first
    (size_of_first v c.args.head.now c.in_ok-first.first (c.requires.begun t).head first) unsound

pub returns-in_ok-first-clause-kept : goal.returns-in_ok-first-clause-kept
returns-in_ok-first-clause-kept g c = λ t.
    let v : List ℕ = g.D.Device.bytes c.args.device.now in
    let F : List ℕ → Type 0 = λ w. FindsSoundCopy w 0 c.in_ok-first.first in
    let U : ℕ → Type 0 = λ n. IsSound v n → ⊥ in
    let unsound = subst U c.u64_at-size.ensures (λ sound. false≢true (sym c.if-branch.false ∙ c.in_ok-begins_at.ensures.unsound t sound)) in
    c.chosen_of-else-branch.ensures.json v (hdr_size c.args.head.now)
    (subst F (c.in_ok-begins_at.ensures.unchanged.same t) (c.in_ok-first.ensures.judged t)) unsound (c.requires.begun t).json tt
