use Rattle.std.proofs.Common.{◌≡◌, true, ◌∙◌, subst, ap, arith}
use Rattle.std.proofs.lemmas.Bool.{eqb-true, eq-eqb, false≢true}
use Rattle.luks_area.specs.Device.{count_after}
use Rattle.luks_area.specs.Memory.{memory_bytes}
use Rattle.luks1_header.specs.Faults.{is_device_fault}
use Rattle.luks2_header.specs.Selection.{IsSelected, IsRefused}
use Rattle.luks2_header.specs.declared.selection.Selected.TheVariants.{V1, V2}
use Rattle.luks_notes.specs.BehindZeros.{behind_zeros}
use Rattle.luks_notes.proofs.BehindZerosFacts.{chosen_behind, no_luks1, unsound_if_refused}
use Rattle.luks_notes.proofs.leftover.is_sound.Goals as goal

-- the copy that is chosen behind zeros is the one at the place exactly where that is sound
pub returns-in-Ok-V2 : goal.returns-in-Ok-V2
returns-in-Ok-V2 c =
    let v = c.args.front.now in
    let h = c.in-Ok-V2.header in
    let w : memory_bytes c.new.result ≡ behind_zeros v c.args.place = c.new.ensures ∙ c.in_ok-bytes.ensures in
    let selected : IsSelected (behind_zeros v c.args.place) (V2 h c.in-Ok-V2.field-0-1) =
    subst (λ b. IsSelected b (V2 h c.in-Ok-V2.field-0-1)) w (subst (IsSelected (memory_bytes c.new.result)) c.in-Ok-V2.field-0-is (c.in-Ok-V2.ensures.found tt)) in
    let is = chosen_behind v c.args.place h.hdr_offset c.in-Ok-V2.field-0-1 (omega (arith, c.requires)) selected.0 in
    (λ e. is.0 (eqb-true h.hdr_offset c.args.place e), λ sound. eq-eqb h.hdr_offset c.args.place (is.1 sound))

-- behind zeros there is no LUKS1 header
pub returns-in-Ok-V1 : goal.returns-in-Ok-V1
returns-in-Ok-V1 c =
    let v = c.args.front.now in
    let w : memory_bytes c.new.result ≡ behind_zeros v c.args.place = c.new.ensures ∙ c.in_ok-bytes.ensures in
    let selected : IsSelected (behind_zeros v c.args.place) (V1 c.in-Ok-V1.field-0-0) =
    subst (λ b. IsSelected b (V1 c.in-Ok-V1.field-0-0)) w (subst (IsSelected (memory_bytes c.new.result)) c.in-Ok-V1.field-0-is (c.in-Ok-V1.ensures.found tt)) in
    let none : ⊥ = no_luks1 v c.args.place (omega (arith, c.requires)) selected.0 in
    absurd none

-- where nothing is chosen no copy is sound
pub returns : goal.returns
returns c =
    let v = c.args.front.now in
    let w : memory_bytes c.new.result ≡ behind_zeros v c.args.place = c.new.ensures ∙ c.in_ok-bytes.ensures in
    let refused : IsRefused (behind_zeros v c.args.place) c.in-Err.field-0 =
    subst (λ b. IsRefused b c.in-Err.field-0) w (c.in-Err.ensures.refused tt) in
    let never : is_device_fault c.in-Err.field-0 ≡ true → ⊥ = λ e. (let one : 0 ≡ count_after true 0 = c.in-Err.ensures.count ∙ ap (λ b. count_after b 0) e in omega (arith, one)) in
    (λ t. absurd (false≢true t), λ sound. absurd (unsound_if_refused v c.args.place c.in-Err.field-0 c.requires never refused sound))
