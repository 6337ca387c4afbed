-- The other use of a disk is one, and what is seen of an edit that it bars.
use Rattle.std.proofs.Common.{◌≡◌, ℕ, ◌*◌, ◌≤◌, nat_le, List, Bool, Option, Some, None, Result, Ok, Err, IfOk, IfSome, take, refl, sym, ap, ◌∙◌, subst}
use Rattle.std.proofs.lemmas.Bool.{leb-true}
use Rattle.luks_area.specs.declared.device.DeviceFault.{DeviceFault}
use Rattle.luks2_header.specs.Header2.{header_at, hdr_size, IsSound}
use Rattle.luks2_header.specs.Selection.{second_place, Chosen, luks2}
use Rattle.luks2_header.specs.Sizes.{listed_sizes}
use Rattle.luks2_header.specs.declared.selection.Copies.{Copies}
use Rattle.luks2_header.specs.declared.selection.Copies.TheVariants.{InStep, FirstNewer, SecondNewer, FirstOnly, SecondOnly}
use Rattle.luks2_header.proofs.ChoiceFacts.{choices_agree}
use Rattle.luks2_header.proofs.CopyFacts.{among_pass}
use Rattle.luks_signatures.specs.Signatures.{Finds, table}
use Rattle.luks_signatures.specs.declared.other_use.OtherUse.{OtherUse}
use Rattle.luks_signatures.proofs.FirstFacts.{finds-one}
use Rattle.luks_reading.specs.declared.report.Data.{Data}
use Rattle.luks_edit.specs.declared.edit_fault.EditFault.{EditFault}
use Rattle.luks_edit.specs.declared.edit_fault.EditFault.TheVariants as fault
use Rattle.luks_volume.specs.Unread.{IsHeaderRefused}
use Rattle.luks_edit_commands.specs.declared.edit.seen.Unseen.TheVariants.{Untold}
use Rattle.luks_edit_commands.specs.OtherUses.{AsksBefore, Bars, FindsOtherUse, HasOtherUse, IsBarred, unseen_answer}

-- where the copies stand so, it is asked before one place alone
one_end : (v : List ℕ) (place : ℕ) (copies : Copies) (end other : ℕ) → AsksBefore v place copies end → AsksBefore v place copies other → end ≡ other
one_end v place SecondOnly end other x y = x ∙ sym y
one_end v place FirstOnly end other x y = x ∙ sym y
one_end v place InStep end other x y = absurd x
one_end v place FirstNewer end other x y = absurd x
one_end v place SecondNewer end other x y = absurd x

-- the same of the other use that a volume has
asked_end : (v : List ℕ) (place : ℕ) (copies : Copies) (end : ℕ) (u : OtherUse) → Chosen v (luks2 place copies) → AsksBefore v place copies end
    → (has : HasOtherUse v u) → has.end ≡ end
asked_end v place copies end u chosen asked has =
    let e : luks2 has.place has.copies ≡ luks2 place copies = choices_agree v (luks2 has.place has.copies) (luks2 place copies) has.chosen chosen in
    let places : has.place ≡ place = cc in
    let stand : has.copies ≡ copies = cc in
    one_end v place copies has.end end (subst (λ c. AsksBefore v place c has.end) stand (subst (λ p. AsksBefore v p has.copies has.end) places has.asked)) asked

-- a volume has one other use at most
pub one_use : (v : List ℕ) (a b : OtherUse) → HasOtherUse v a → HasOtherUse v b → a ≡ b
one_use v a b x y =
    let moved : Finds table (take x.end v) (Some b) = subst (λ n. Finds table (take n v) (Some b)) (asked_end v x.place x.copies x.end b x.chosen x.asked y) y.finds in
    let e : Some a ≡ Some b = finds-one table (take x.end v) (Some a) (Some b) x.finds moved in
    cc

-- what the table finds in the place of the other copy
pub finds_use : (v : List ℕ) (place : ℕ) (copies : Copies) (end : ℕ) (result : Result (Option OtherUse) DeviceFault) → Chosen v (luks2 place copies)
    → AsksBefore v place copies end → IfOk result (Finds table (take end v)) → IfOk result (FindsOtherUse v)
finds_use v place copies end (Ok (Some found)) chosen asked finds =
    record { place = place; copies = copies; end = end; chosen = chosen; asked = asked; finds = finds }
finds_use v place copies end (Ok None) chosen asked finds = λ u has.
    let moved : Finds table (take end v) (Some u) = subst (λ n. Finds table (take n v) (Some u)) (asked_end v place copies end u chosen asked has) has.finds in
    let e : Some u ≡ None = finds-one table (take end v) (Some u) None moved finds in
    cc
finds_use v place copies end (Err f) chosen asked finds = finds

-- it is asked only where one copy alone is sound
asks_none : (v : List ℕ) (place : ℕ) (copies : Copies) (end : ℕ) → (copies ≡ SecondOnly → ⊥) → (copies ≡ FirstOnly → ⊥) → AsksBefore v place copies end → ⊥
asks_none v place SecondOnly end s f x = s refl
asks_none v place FirstOnly end s f x = f refl
asks_none v place InStep end s f x = x
asks_none v place FirstNewer end s f x = x
asks_none v place SecondNewer end s f x = x

-- where both copies are sound there is none
pub no_use : (v : List ℕ) (place : ℕ) (copies : Copies) → Chosen v (luks2 place copies) → (copies ≡ SecondOnly → ⊥) → (copies ≡ FirstOnly → ⊥)
    → FindsOtherUse v None
no_use v place copies chosen not_second not_first = λ u has.
    let e : luks2 has.place has.copies ≡ luks2 place copies = choices_agree v (luks2 has.place has.copies) (luks2 place copies) has.chosen chosen in
    let stand : has.copies ≡ copies = cc in
    asks_none v has.place has.copies has.end (λ s. not_second (sym stand ∙ s)) (λ s. not_first (sym stand ∙ s)) has.asked

-- a use that was found is one
pub some_use : (v : List ℕ) (found : Option OtherUse) → FindsOtherUse v found → IfSome found (HasOtherUse v)
some_use v (Some u) has = has
some_use v None none = tt

-- a second place is at most 4 MiB behind the first
pub second_low : (v : List ℕ) → IsSound v 0 → second_place v ≤ 4194304
second_low v sound = leb-true (second_place v) 4194304 (among_pass (λ m. nat_le m 4194304) listed_sizes (second_place v) refl sound.form.listed)

-- where the first copy alone is sound, it is asked before the end of the second one's place
pub first_asks : (v : List ℕ) (place size end : ℕ) → Chosen v (luks2 place FirstOnly) → hdr_size (header_at v place) ≡ size
    → (size ≤ 4194304 → end ≡ 2 * size) → AsksBefore v place FirstOnly end
first_asks v place size end chosen held twice =
    let here : second_place v ≡ size = subst (λ p. hdr_size (header_at v p) ≡ size) chosen.1.1 held in
    let low : size ≤ 4194304 = subst (λ n. n ≤ 4194304) here (second_low v chosen.1.0.first) in
    twice low ∙ ap (λ n. 2 * n) (sym here)

-- a header that isn't read may be barred
pub header_barred : (v : List ℕ) (payload : Data) (u : OtherUse) (f : EditFault) → IsHeaderRefused v payload f → IsBarred u (unseen_answer (Untold f))
header_barred v payload u (fault.NotAccepted f) is = tt
header_barred v payload u fault.Device is = tt
header_barred v payload u fault.Memory is = tt
header_barred v payload u f is = absurd is

-- an edit that no use bars, of what was found
pub unbarred_found : (over : Bool) (v : List ℕ) (found : Option OtherUse) → ((u : OtherUse) → found ≡ Some u → ⊥) → Bars over v found → Bars over v None
unbarred_found over v (Some u) not bars = absurd (not u refl)
unbarred_found over v None not bars = bars
