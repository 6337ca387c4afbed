use Rattle.std.proofs.Common.{ℕ, ◌∙◌, ◌<◌, ap, refl, subst, sym}
use Rattle.std.proofs.lemmas.Result.{err_from_is_err_and}
use Rattle.luks_area.specs.Area.{IsInside}
use Rattle.luks2_header.specs.Header2.{hdr_size, header_at}
use Rattle.luks_meta.specs.Content.{content}
use Rattle.luks_slot.specs.declared.allowed.Allowed.{Allowed}
use Rattle.luks_edit.proofs.AllowedMemory.{short_where_allowed}
use Rattle.luks_edit.specs.Asked.{allowed_in, AreShortIn}
use Rattle.luks2_judging.specs.declared.judged.JudgedEdit.TheVariants as judged
use Rattle.luks2_judging.specs.Judging.{IsLostArea, Seals, Takes}
use Rattle.luks2_judging.specs.Room.{IsAllowed}
use Rattle.luks2_judging.proofs.DeedFacts.{erased_is}
use Rattle.luks2_editing.proofs.AmendingFacts.{taken_numbered}
use Rattle.luks2_editing.proofs.JudgedFacts.{judged_edit, refused_ends, replied}
use Rattle.luks2_editing.proofs.applying.apply_luks2.Goals as goal

pub returns-in_err-judged-clause-replies : goal.returns-in_err-judged-clause-replies
returns-in_err-judged-clause-replies g c = λ tells is.
    let p = err_from_is_err_and c.from_residual.result c.from_residual.ensures.1 in
    rw (p.1, p.2)
    (refused_ends (g.D.Device.bytes c.args.device.now) c.args.payload c.args.edit.now c.args.random.now (g.D.Device.bytes c.judge_luks2.new.device) c.in_err-judged.field-0.0
    (c.judge_luks2.ensures.reads.unchanged.same tells) (c.in_err-judged.ensures.refused tells is))

pub remove-requires-clause-numbered : goal.remove-requires-clause-numbered
remove-requires-clause-numbered g c =
    let copy = c.in_ok-judged.judged.copy in
    let takes = subst (λ t. Takes copy (g.D.Device.size c.args.device.now) c.args.edit.now t) c.in-Remove.is c.in_ok-judged.ensures.judged.takes in
    takes.there.0

pub remove-requires-clause-lost : goal.remove-requires-clause-lost
remove-requires-clause-lost g c =
    let copy = c.in_ok-judged.judged.copy in
    let takes = subst (λ t. Takes copy (g.D.Device.size c.args.device.now) c.args.edit.now t) c.in-Remove.is c.in_ok-judged.ensures.judged.takes in
    subst (λ (n : ℕ). IsLostArea (content copy.meta) n c.in-Remove.slot c.in-Remove.area) (sym c.judge_luks2.ensures.reads.unchanged.size) takes.lost

pub repair-requires-clause-numbered : goal.repair-requires-clause-numbered
repair-requires-clause-numbered g c =
    let copy = c.in_ok-judged.judged.copy in
    let takes = subst (λ t. Takes copy (g.D.Device.size c.args.device.now) c.args.edit.now t) c.in-Rewrite.is c.in_ok-judged.ensures.judged.takes in
    taken_numbered (content copy.meta) takes.rewritten.change c.in-Rewrite.change takes.takes

pub repair-requires-clause-good : goal.repair-requires-clause-good
repair-requires-clause-good g c =
    let copy = c.in_ok-judged.judged.copy in
    let takes = subst (λ t. Takes copy (g.D.Device.size c.args.device.now) c.args.edit.now t) c.in-Rewrite.is c.in_ok-judged.ensures.judged.takes in
    takes.good

pub returns-in-Rewrite-clause-replies : goal.returns-in-Rewrite-clause-replies
returns-in-Rewrite-clause-replies g c = λ tells is.
    let copy = c.in_ok-judged.judged.copy in
    let takes = subst (λ t. Takes copy (g.D.Device.size c.args.device.now) c.args.edit.now t) c.in-Rewrite.is c.in_ok-judged.ensures.judged.takes in
    let same = c.judge_luks2.ensures.reads.unchanged.same tells in
    let now = judged_edit same refl c.in_ok-judged.judged c.in_ok-judged.ensures.judged.is is (c.in_ok-judged.ensures.unrefused tells is) in
    replied same refl c.args.payload c.args.random.now _ _ (c.repair.ensures.replies tells c.args.payload c.args.edit.now takes now.chosen now.well (now.none c.args.random.now))

pub returns-in-Remove-clause-replies : goal.returns-in-Remove-clause-replies
returns-in-Remove-clause-replies g c = λ tells is.
    let copy = c.in_ok-judged.judged.copy in
    let takes = subst (λ t. Takes copy (g.D.Device.size c.args.device.now) c.args.edit.now t) c.in-Remove.is c.in_ok-judged.ensures.judged.takes in
    let same = c.judge_luks2.ensures.reads.unchanged.same tells in
    let now = judged_edit same refl c.in_ok-judged.judged c.in_ok-judged.ensures.judged.is is (c.in_ok-judged.ensures.unrefused tells is) in
    replied same refl c.args.payload c.args.random.now _ _
    (c.remove.ensures.replies tells c.args.payload c.args.edit.now takes.by_ takes.passphrase takes.asked now.chosen now.well (now.none c.args.random.now))

pub returns-in-Opened-clause-replies : goal.returns-in-Opened-clause-replies
returns-in-Opened-clause-replies g c = λ tells is.
    let copy = c.in_ok-judged.judged.copy in
    let takes = subst (λ t. Takes copy (g.D.Device.size c.args.device.now) c.args.edit.now (judged.Seal t c.in-Seal.key c.in-Seal.passphrase)) c.in-Opened.is
    (subst (λ t. Takes copy (g.D.Device.size c.args.device.now) c.args.edit.now t) c.in-Seal.is c.in_ok-judged.ensures.judged.takes) in
    let same = c.judge_luks2.ensures.reads.unchanged.same tells in
    let now = judged_edit same refl c.in_ok-judged.judged c.in_ok-judged.ensures.judged.is is (c.in_ok-judged.ensures.unrefused tells is) in
    let v = g.D.Device.bytes c.judge_luks2.new.device in
    let seals = subst (λ t. Seals (hdr_size (header_at v copy.header.hdr_offset)) v c.args.payload (content copy.meta) c.args.edit.now (judged.Seal t c.in-Seal.key c.in-Seal.passphrase)) c.in-Opened.is
    (subst (λ t. Seals (hdr_size (header_at v copy.header.hdr_offset)) v c.args.payload (content copy.meta) c.args.edit.now t) c.in-Seal.is now.seals) in
    let replies = rw (c.new-secrets.ensures, c.in-Seal.is) at (c.change.ensures.replies tells c.args.payload) in
    replied same refl c.args.payload c.args.random.now _ _ (replies c.args.edit.now takes.old takes.asked now.chosen now.well (now.none c.args.random.now)
    (sym (c.allowed-allowed.ensures ∙ ap allowed_in takes.asked)) (rw takes.asked at seals.0) seals.1)

pub returns-in-New-clause-replies : goal.returns-in-New-clause-replies
returns-in-New-clause-replies g c = λ tells is.
    let copy = c.in_ok-judged.judged.copy in
    let takes = subst (λ t. Takes copy (g.D.Device.size c.args.device.now) c.args.edit.now (judged.Seal t c.in-Seal.key c.in-Seal.passphrase)) c.in-New.is
    (subst (λ t. Takes copy (g.D.Device.size c.args.device.now) c.args.edit.now t) c.in-Seal.is c.in_ok-judged.ensures.judged.takes) in
    let same = c.judge_luks2.ensures.reads.unchanged.same tells in
    let now = judged_edit same refl c.in_ok-judged.judged c.in_ok-judged.ensures.judged.is is (c.in_ok-judged.ensures.unrefused tells is) in
    let v = g.D.Device.bytes c.judge_luks2.new.device in
    let seals = subst (λ t. Seals (hdr_size (header_at v copy.header.hdr_offset)) v c.args.payload (content copy.meta) c.args.edit.now (judged.Seal t c.in-Seal.key c.in-Seal.passphrase)) c.in-New.is
    (subst (λ t. Seals (hdr_size (header_at v copy.header.hdr_offset)) v c.args.payload (content copy.meta) c.args.edit.now t) c.in-Seal.is now.seals) in
    let replies = rw (c.new-secrets.ensures, c.in-Seal.is) at (c.add.ensures.replies tells c.args.payload) in
    replied same refl c.args.payload c.args.random.now _ _ (replies c.args.edit.now takes.opener takes.to takes.asked now.chosen now.well (now.none c.args.random.now)
    (sym (c.allowed-allowed.ensures ∙ ap allowed_in takes.asked)) (rw takes.asked at seals.0) takes.is_like takes.number.is_new seals.1)

pub add-requires-clause-passphrase : goal.add-requires-clause-passphrase
add-requires-clause-passphrase g c =
    let copy = c.in_ok-judged.judged.copy in
    let takes = subst (λ t. Takes copy (g.D.Device.size c.args.device.now) c.args.edit.now (judged.Seal t c.in-Seal.key c.in-Seal.passphrase)) c.in-New.is
    (subst (λ t. Takes copy (g.D.Device.size c.args.device.now) c.args.edit.now t) c.in-Seal.is c.in_ok-judged.ensures.judged.takes) in
    rw (c.new-secrets.ensures, c.in-Seal.is)
    (λ some. (subst AreShortIn takes.asked (short_where_allowed c.args.edit.now (subst (λ (m : Allowed). 0 < m.memory) c.allowed-allowed.ensures some))).1)

pub change-requires-clause-passphrase : goal.change-requires-clause-passphrase
change-requires-clause-passphrase g c =
    let copy = c.in_ok-judged.judged.copy in
    let takes = subst (λ t. Takes copy (g.D.Device.size c.args.device.now) c.args.edit.now (judged.Seal t c.in-Seal.key c.in-Seal.passphrase)) c.in-Opened.is
    (subst (λ t. Takes copy (g.D.Device.size c.args.device.now) c.args.edit.now t) c.in-Seal.is c.in_ok-judged.ensures.judged.takes) in
    rw (c.new-secrets.ensures, c.in-Seal.is)
    (λ some. (subst AreShortIn takes.asked (short_where_allowed c.args.edit.now (subst (λ (m : Allowed). 0 < m.memory) c.allowed-allowed.ensures some))).1)

pub add-requires-clause-allowed : goal.add-requires-clause-allowed
add-requires-clause-allowed g c =
    let copy = c.in_ok-judged.judged.copy in
    let takes = subst (λ t. Takes copy (g.D.Device.size c.args.device.now) c.args.edit.now (judged.Seal t c.in-Seal.key c.in-Seal.passphrase)) c.in-New.is
    (subst (λ t. Takes copy (g.D.Device.size c.args.device.now) c.args.edit.now t) c.in-Seal.is c.in_ok-judged.ensures.judged.takes) in
    rw c.new-secrets.ensures (subst (λ (m : Allowed). IsAllowed m.memory c.in-New.addition.derivation) (sym (c.allowed-allowed.ensures ∙ ap allowed_in takes.asked)) takes.allowed)

pub change-requires-clause-allowed : goal.change-requires-clause-allowed
change-requires-clause-allowed g c =
    let copy = c.in_ok-judged.judged.copy in
    let takes = subst (λ t. Takes copy (g.D.Device.size c.args.device.now) c.args.edit.now (judged.Seal t c.in-Seal.key c.in-Seal.passphrase)) c.in-Opened.is
    (subst (λ t. Takes copy (g.D.Device.size c.args.device.now) c.args.edit.now t) c.in-Seal.is c.in_ok-judged.ensures.judged.takes) in
    rw c.new-secrets.ensures (subst (λ (m : Allowed). IsAllowed m.memory c.in-Opened.renewal.derivation) (sym (c.allowed-allowed.ensures ∙ ap allowed_in takes.asked)) takes.allowed)

pub erase-requires-clause-inside : goal.erase-requires-clause-inside
erase-requires-clause-inside g c = λ n a is.
    let copy = c.in_ok-judged.judged.copy in
    let takes = subst (λ t. Takes copy (g.D.Device.size c.args.device.now) c.args.edit.now t) c.in-Erase.is c.in_ok-judged.ensures.judged.takes in
    subst (λ (m : ℕ). IsInside a m) (sym c.judge_luks2.ensures.reads.unchanged.size) (takes.inside n a is)

pub returns-in-Erase-clause-replies : goal.returns-in-Erase-clause-replies
returns-in-Erase-clause-replies g c = λ tells is.
    let copy = c.in_ok-judged.judged.copy in
    let takes = subst (λ t. Takes copy (g.D.Device.size c.args.device.now) c.args.edit.now t) c.in-Erase.is c.in_ok-judged.ensures.judged.takes in
    let erases = erased_is c.args.edit.now takes.asked in
    let same = c.judge_luks2.ensures.reads.unchanged.same tells in
    let now = judged_edit same erases c.in_ok-judged.judged c.in_ok-judged.ensures.judged.is is (c.in_ok-judged.ensures.unrefused tells is) in
    replied same erases c.args.payload c.args.random.now _ _ (c.erase.ensures.replies tells c.args.payload now.chosen now.well (now.none c.args.random.now))
