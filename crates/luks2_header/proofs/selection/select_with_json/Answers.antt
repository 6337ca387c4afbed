use Rattle.std.proofs.Common.{◌≡◌, ◌≤◌, ℕ, List, length, arith, subst}
use Rattle.std.proofs.lemmas.Bool.{false≢true}
use Rattle.luks_area.specs.Ranges.{part}
use Rattle.luks2_header.specs.ChosenCopy.{HoldsChosenCopy, IsNoHeaderFault}
use Rattle.luks2_header.specs.Selection.{HasNoSoundCopy, IsVersion1}
use Rattle.luks2_header.proofs.ChosenCopyFacts.{not_version1, refused_by}
use Rattle.luks2_header.proofs.selection.select_with_json.Goals as goal

pub returns-in-Some-clause-found : goal.returns-in-Some-clause-found
returns-in-Some-clause-found g c = λ t.
    let v : List ℕ = g.D.Device.bytes c.args.device.now in
    let long : 592 ≤ length v = omega (arith, g.met.D.Device.sized c.args.device.now t) in
    let head : c.read_at.new.into ≡ part v 0 592 = c.in_ok-read_at.ensures.read t in
    let V : List ℕ → Type 0 = λ b. IsVersion1 b → ⊥ in
    let C : List ℕ → Type 0 = λ w. HoldsChosenCopy w c.in-Some.header c.in-Some.copies in
    let found = rw c.in-Some.is at c.in_ok-header.ensures.found t in
    let chosen_copy : HoldsChosenCopy v c.in-Some.header c.in-Some.copies = subst C (c.in_ok-read_at.ensures.unchanged.same t) found in
    ((not_version1 v long (subst V head (λ one. false≢true (c.if-is_version1.ensures.1 one))), chosen_copy.chosen), chosen_copy.fields)

pub returns-in-None-clause-refused : goal.returns-in-None-clause-refused
returns-in-None-clause-refused g c = λ t.
    let v : List ℕ = g.D.Device.bytes c.args.device.now in
    let long : 592 ≤ length v = omega (arith, g.met.D.Device.sized c.args.device.now t) in
    let head : c.read_at.new.into ≡ part v 0 592 = c.in_ok-read_at.ensures.read t in
    let V : List ℕ → Type 0 = λ b. IsVersion1 b → ⊥ in
    let W : List ℕ → Type 0 = λ b. IsNoHeaderFault b c.no_header_fault.result in
    let none : HasNoSoundCopy v = subst HasNoSoundCopy (c.in_ok-read_at.ensures.unchanged.same t) (rw c.in-None.is at c.in_ok-header.ensures.found t) in
    refused_by v c.no_header_fault.result (not_version1 v long (subst V head (λ one. false≢true (c.if-is_version1.ensures.1 one)))) none
    (subst W head c.no_header_fault.ensures)
