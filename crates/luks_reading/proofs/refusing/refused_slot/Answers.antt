-- What the header that counts is refused by is what the volume is refused by.
use Rattle.std.proofs.Common.{ℕ, List, length, subst, sym, ◌∙◌}
use Rattle.luks2_header.specs.Header2.{header_at}
use Rattle.luks2_header.specs.Selection.{luks1, luks2}
use Rattle.luks_reading.specs.Answer.{FirstRefusal, IsLuks1Refusal, IsLuks2RefusalWithin}
use Rattle.luks_reading.specs.Header.{json_at, IsHeader}
use Rattle.luks_reading.proofs.KeyslotAnswers.{first_as}
use Rattle.luks_reading.proofs.ReadFaults.{cleared_copy}
use Rattle.luks_reading.proofs.refusing.refused_slot.Goals as goal

pub returns-in-Luks1 : goal.returns-in-Luks1
returns-in-Luks1 c = λ v is long.
    let chosen = subst (IsHeader v) c.in-Luks1.is is in
    first_as c.args.allowed v c.args.n luks1 c.luks1_refusal.result chosen.0
    (subst (λ (h : List ℕ). FirstRefusal (IsLuks1Refusal c.args.allowed.older h (length v) c.args.n) c.luks1_refusal.result) (c.as_slice.ensures ∙ chosen.1)
    (subst (λ (m : ℕ). FirstRefusal (IsLuks1Refusal c.args.allowed.older c.as_slice.result.now m c.args.n) c.luks1_refusal.result) (sym long) c.luks1_refusal.ensures))

pub returns-in-Luks2 : goal.returns-in-Luks2
returns-in-Luks2 c = λ v is long.
    let copy = subst (IsHeader v) c.in-Luks2.is is in
    let o = c.in-Luks2.copy.header.hdr_offset in
    let copies = c.in-Luks2.copy.copies in
    let cleared = cleared_copy v c.in-Luks2.copy copy in
    first_as c.args.allowed v c.args.n (luks2 o copies) c.luks2_refusal.result copy.chosen
    (subst (λ (m : ℕ). FirstRefusal (IsLuks2RefusalWithin c.args.allowed (header_at v o) (json_at v o) m c.args.n) c.luks2_refusal.result) (sym long)
    (c.luks2_refusal.ensures (header_at v o) (json_at v o) cleared))
