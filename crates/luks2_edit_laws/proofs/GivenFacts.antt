-- A keyslot that is kept gives by a secret what it gave, where the metadata that counts are the same.
use Rattle.std.proofs.Common.{◌≡◌, ℕ, List, [], Option, Some, None, refl, sym, subst, ◌∙◌}
use Rattle.luks_area.specs.Ranges.{part}
use Rattle.luks2_header.specs.Selection.{luks2, Chosen}
use Rattle.luks2_header.specs.declared.selection.Copies.{Copies}
use Rattle.luks2_header.proofs.ChoiceFacts.{choices_agree}
use Rattle.luks_slot.specs.declared.allowed.Allowed.{Allowed}
use Rattle.luks_slot.specs.Opening.{slot_key}
use Rattle.luks_reading.specs.declared.report.Data.{Data}
use Rattle.luks_reading.specs.Answer.{HasPlanAs, no_key, opens, OpensWithin}
use Rattle.luks_reading.specs.Header.{json_at}
use Rattle.luks_reading.specs.Plans.{HasLuks2Plan}
use Rattle.luks_edit.specs.declared.edit.SecretKind.{SecretKind}
use Rattle.luks_edit.specs.declared.edit.SecretKind.TheVariants.{Passphrase, Key}
use Rattle.luks_edit.specs.Kept.{KeepsSlot}
use Rattle.luks_edit.specs.Secrets.{GivesWithin}
use Rattle.luks_edit.proofs.SecretFacts.{gives_opens, one_plan, opens_gives, same_own}

-- what a kept keyslot opened to it opens to
opened_kept : (payload : Data) (v w : List ℕ) (n : ℕ) (allowed : Allowed) (p : List ℕ) (found : Option (List ℕ)) → KeepsSlot payload n v w → OpensWithin allowed v n p found → OpensWithin allowed w n p found
opened_kept payload v w n allowed p (Some key) kept x = (kept.answers allowed p (opens key)).0 x
opened_kept payload v w n allowed p None kept x = (kept.answers allowed p no_key).0 x

pub gives_kept : (kind : SecretKind) (allowed : Allowed) (payload : Data) (v w : List ℕ) (n : ℕ) (p : List ℕ) (found : Option (List ℕ)) (o : ℕ) (b c : Copies)
    → Chosen v (luks2 o b) → Chosen w (luks2 o c) → json_at w o ≡ json_at v o → KeepsSlot payload n v w
    → GivesWithin kind allowed v n p found → GivesWithin kind allowed w n p found
gives_kept Passphrase allowed payload v w n p found o b c was now json kept x =
    opens_gives allowed w n p found (opened_kept payload v w n allowed p found kept (gives_opens allowed v n p found x))
gives_kept Key allowed payload v w n p found o b c was now json kept x =
    let y : OpensWithin allowed w n [] (slot_key x.plan (part v x.plan.area.start x.plan.area.len) []) =
    opened_kept payload v w n allowed [] (slot_key x.plan (part v x.plan.area.start x.plan.area.len) []) kept
    (record { choice = x.choice; chosen = x.chosen; plan = x.plan; is = x.is; unrefused = x.unrefused; key = refl }) in
    let here : HasLuks2Plan (json_at w o) n y.plan = subst (λ d. HasPlanAs w n d y.plan) (choices_agree w y.choice (luks2 o c) y.chosen now) y.is in
    let there : HasLuks2Plan (json_at v o) n y.plan = subst (λ j. HasLuks2Plan j n y.plan) json here in
    let before : HasPlanAs v n x.choice y.plan = subst (λ d. HasPlanAs v n d y.plan) (sym (choices_agree v x.choice (luks2 o b) x.chosen was)) there in
    record {
      choice = y.choice;
      chosen = y.chosen;
      plan = y.plan;
      is = y.is;
      unrefused = y.unrefused;
      key = same_own y.plan x.plan p (one_plan allowed v n x.choice y.plan x.plan before x.is x.unrefused) ∙ x.key;
    }
