-- Where a volume's header and key areas stand byte by byte, each keyslot answers as it does in the volume.
use Rattle.std.proofs.Common.{◌≡◌, ℕ, ◌+◌, ◌≤◌, ◌<◌, List, [], codes, length, Option, Some, None, option_and_then, sym, ap, subst, ◌∙◌, arith, Bool}
use Rattle.serde_json.specs.Data.{Data as Value}
use Rattle.serde_json.specs.Find.{get}
use Rattle.luks_area.specs.Ranges.{part}
use Rattle.luks_area.specs.declared.area.Area.{Area}
use Rattle.luks_area.specs.declared.area.AreaName.TheVariants.{Slot}
use Rattle.luks1_header.specs.Header1.{active_word, disabled_word, enabled_word, entry, word_of, IsLuks1}
use Rattle.luks1_header.specs.declared.luks1.Luks1.{Luks1}
use Rattle.luks1_header.specs.declared.luks1.Luks1Slot.{Luks1Slot}
use Rattle.luks1_header.specs.declared.luks1.SlotState.{SlotState}
use Rattle.luks1_header.specs.declared.luks1.SlotState.TheVariants.{Disabled, Enabled}
use Rattle.luks2_header.proofs.ChoiceFacts.{choices_agree}
use Rattle.luks2_header.specs.Header2.{header_at}
use Rattle.luks2_header.specs.Selection.{Choice, luks1, luks2, nothing, Chosen}
use Rattle.luks2_header.specs.declared.selection.Copies.{Copies}
use Rattle.luks_rules.proofs.AreaFaults.{one_value}
use Rattle.luks_meta.specs.Reading.{decimal_in}
use Rattle.luks_slot.specs.Opening.{slot_key}
use Rattle.luks_slot.specs.declared.plan.SlotPlan.{SlotPlan}
use Rattle.luks_slot.specs.declared.allowed.Allowed.{Allowed}
use Rattle.luks_reading.specs.Answer.{opens, no_key, refused, AnswerWithin, HasPlanAs, IsLuks1Refusal, IsLuks2RefusalWithin, IsRefusalAsWithin, IsRefusalWithin, Opened, OpensWithin}
use Rattle.luks_reading.specs.Checked.{HasLuks2Area, IsLuks1Volume, IsLuks2Volume}
use Rattle.luks_reading.specs.Header.{json_at}
use Rattle.luks_reading.specs.Layout2.{Luks2Area}
use Rattle.luks_reading.specs.Plans.{HasLuks1Plan, HasLuks2Plan}
use Rattle.luks_reading.specs.declared.open_fault.OpenFault.{OpenFault}
use Rattle.luks_reading.specs.declared.open_fault.OpenFault.TheVariants.{SlotFree, Outside}
use Rattle.luks_reading.specs.declared.report.Data.{Data}
use Rattle.luks_reading.specs.declared.report.Data.TheVariants.{Elsewhere}
use Rattle.luks_keeping.specs.Judged.{IsFormedOnAs}
use Rattle.luks_keeping.specs.Kept.{HasHeader, KeptArea}
use Rattle.luks_keeping.proofs.KeptFacts.{fields_same, header_same, json_same}

-- two volumes of which the same counts: nothing refuses a keyslot of the one that doesn't in the other, it
-- has the same plan, and where it opens its area has the same bytes, if it is of these keyslots
pub record AreAlike (v w : List ℕ) (c : Choice) (slots : ℕ → Type 0) : Type 0 where
  pub chosen : Chosen v c
  pub other_chosen : Chosen w c
  pub refusals : (allowed : Allowed) (n : ℕ) (f : OpenFault) → IsRefusalAsWithin allowed v n c f → IsRefusalAsWithin allowed w n c f
  pub refusals_back : (allowed : Allowed) (n : ℕ) (f : OpenFault) → IsRefusalAsWithin allowed w n c f → IsRefusalAsWithin allowed v n c f
  pub plans : (n : ℕ) (plan : SlotPlan) → HasPlanAs v n c plan → HasPlanAs w n c plan
  pub plans_back : (n : ℕ) (plan : SlotPlan) → HasPlanAs w n c plan → HasPlanAs v n c plan
  pub bytes : (allowed : Allowed) (n : ℕ) (plan : SlotPlan) → slots n → HasPlanAs v n c plan → ((f : OpenFault) → IsRefusalAsWithin allowed v n c f → ⊥)
      → part w plan.area.start plan.area.len ≡ part v plan.area.start plan.area.len

turned : (v w : List ℕ) (c : Choice) (slots : ℕ → Type 0) → AreAlike v w c slots → AreAlike w v c slots
turned v w c slots x = record {
  chosen = x.other_chosen;
  other_chosen = x.chosen;
  refusals = x.refusals_back;
  refusals_back = x.refusals;
  plans = x.plans_back;
  plans_back = x.plans;
  bytes = λ allowed n plan own is free. sym (x.bytes allowed n plan own (x.plans_back n plan is) (λ f bad. free f (x.refusals allowed n f bad)));
}

module _ (v w : List ℕ) (c : Choice) (slots : ℕ → Type 0) (x : AreAlike v w c slots) (allowed : Allowed) (n : ℕ) (own : slots n) where
  refused_there : (f : OpenFault) → IsRefusalWithin allowed v n f → IsRefusalWithin allowed w n f
  refused_there f z = record {
    choice = c;
    chosen = x.other_chosen;
    fault = x.refusals allowed n f (subst (λ (d : Choice). IsRefusalAsWithin allowed v n d f) (choices_agree v z.choice c z.chosen x.chosen) z.fault);
  }

  refused_here : (f : OpenFault) → IsRefusalWithin allowed w n f → IsRefusalWithin allowed v n f
  refused_here f z = record {
    choice = c;
    chosen = x.chosen;
    fault = x.refusals_back allowed n f (subst (λ (d : Choice). IsRefusalAsWithin allowed w n d f) (choices_agree w z.choice c z.chosen x.other_chosen) z.fault);
  }

  opens_there : (p : List ℕ) (found : Option (List ℕ)) → OpensWithin allowed v n p found → OpensWithin allowed w n p found
  opens_there p found z =
      let same : z.choice ≡ c = choices_agree v z.choice c z.chosen x.chosen in
      let plan : HasPlanAs v n c z.plan = subst (λ (d : Choice). HasPlanAs v n d z.plan) same z.is in
      let free : (f : OpenFault) → IsRefusalAsWithin allowed v n c f → ⊥ = λ f bad. z.unrefused f (subst (λ (d : Choice). IsRefusalAsWithin allowed v n d f) (sym same) bad) in
      record {
        choice = c;
        chosen = x.other_chosen;
        plan = z.plan;
        is = x.plans n z.plan plan;
        unrefused = λ f bad. free f (x.refusals_back allowed n f bad);
        key = ap (λ (b : List ℕ). slot_key z.plan b p) (x.bytes allowed n z.plan own plan free) ∙ z.key;
      }

  answers_one_way : (p : List ℕ) (a : Opened) → AnswerWithin allowed v n p a → AnswerWithin allowed w n p a
  answers_one_way p (refused f) z = (refused_there f z.0, λ g bad. z.1 g (refused_here g bad))
  answers_one_way p (opens k) z = opens_there p (Some k) z
  answers_one_way p no_key z = opens_there p None z

pub answers_there : (v w : List ℕ) (c : Choice) (slots : ℕ → Type 0) → AreAlike v w c slots → (allowed : Allowed) (n : ℕ) → slots n → (p : List ℕ) (a : Opened) → AnswerWithin allowed v n p a → AnswerWithin allowed w n p a
answers_there v w c slots x allowed n own p a z = answers_one_way v w c slots x allowed n own p a z

pub answers_here : (v w : List ℕ) (c : Choice) (slots : ℕ → Type 0) → AreAlike v w c slots → (allowed : Allowed) (n : ℕ) → slots n → (p : List ℕ) (a : Opened) → AnswerWithin allowed w n p a → AnswerWithin allowed v n p a
answers_here v w c slots x allowed n own p a z = answers_one_way w v c slots (turned v w c slots x) allowed n own p a z

-- the key areas of these keyslots are there
abbrev pub HasAreasOf : (ℕ → Type 0) → List ℕ → Choice → List ℕ → Type 0
HasAreasOf slots v c w = (n : ℕ) (a : Area) → slots n → KeptArea v c n a → part w a.start a.len ≡ part v a.start a.len

-- ---- LUKS1

-- a keyslot whose plan lies inside is refused alike whatever the length
moved1 : (older : Bool) (h : List ℕ) (n t u : ℕ) → ((plan : SlotPlan) → HasLuks1Plan h n plan → plan.area.start + plan.area.len ≤ t) → (f : OpenFault) → IsLuks1Refusal older h t n f → IsLuks1Refusal older h u n f
moved1 older h n t u inside Outside z = absurd (let within = inside z.plan z.is in let past = z.past in omega (arith, within, past))
moved1 older h n t u inside other z = z

plan1_inside : (h : List ℕ) (payload : Data) (total n : ℕ) → IsLuks1Volume h payload total → (plan : SlotPlan) → HasLuks1Plan h n plan → plan.area.start + plan.area.len ≤ total
plan1_inside h payload total n formed plan is = formed.fit.inside (Slot n) plan.area (is.numbered, is.is.start, is.is.len)

-- an entry that isn't free is in use
state_word : (s : SlotState) (word : ℕ) → word ≡ word_of s → (word ≡ disabled_word → ⊥) → word ≡ enabled_word
state_word Enabled word is free = is
state_word Disabled word is free = absurd (free is)

in_use : (h : List ℕ) (n : ℕ) → n < 8 → ((d : Luks1) × IsLuks1 h d) → (active_word (entry h n) ≡ disabled_word → ⊥) → active_word (entry h n) ≡ enabled_word
in_use h n low read free =
    let any : Luks1Slot = record { state = Disabled; iterations = 0; salt = []; key_material_offset = 0; stripes = 0 } in
    let is = read.1.slots.each n any low in
    state_word _ (active_word (entry h n)) is.fields.state free

module _ (v w : List ℕ) (payload other : Data) (x : Chosen v luks1) (y : Chosen w luks1) (h : HasHeader v luks1 w) (slots : ℕ → Type 0) (areas : HasAreasOf slots v luks1 w)
    (formed : IsLuks1Volume (part v 0 592) payload (length v)) (formed_w : IsLuks1Volume (part w 0 592) other (length w)) where
  same : part w 0 592 ≡ part v 0 592
  same = fields_same v w h

  pub alike1 : AreAlike v w luks1 slots
  alike1 = record {
    chosen = x;
    other_chosen = y;
    refusals = λ allowed n f z. subst (λ (h : List ℕ). IsLuks1Refusal allowed.older h (length w) n f) (sym same)
        (moved1 allowed.older (part v 0 592) n (length v) (length w) (plan1_inside (part v 0 592) payload (length v) n formed) f z);
    refusals_back = λ allowed n f z. subst (λ (h : List ℕ). IsLuks1Refusal allowed.older h (length v) n f) same
        (moved1 allowed.older (part w 0 592) n (length w) (length v) (plan1_inside (part w 0 592) other (length w) n formed_w) f z);
    plans = λ n plan is. subst (λ (h : List ℕ). HasLuks1Plan h n plan) (sym same) is;
    plans_back = λ n plan is. subst (λ (h : List ℕ). HasLuks1Plan h n plan) same is;
    bytes = λ allowed n plan own is free. areas n plan.area own (record {
      area = (is.numbered, is.is.start, is.is.len);
      enabled = in_use (part v 0 592) n is.numbered formed.header (λ off. free SlotFree (is.numbered, off));
    });
  }

-- ---- LUKS2

moved2 : (allowed : Allowed) (b json : List ℕ) (n t u : ℕ) → ((plan : SlotPlan) → HasLuks2Plan json n plan → plan.area.start + plan.area.len ≤ t)
    → (f : OpenFault) → IsLuks2RefusalWithin allowed b json t n f → IsLuks2RefusalWithin allowed b json u n f
moved2 allowed b json n t u inside Outside z = absurd (let within = inside z.plan z.is in let past = z.past in omega (arith, within, past))
moved2 allowed b json n t u inside other z = z

plan_area : (b json : List ℕ) (n : ℕ) (plan : SlotPlan) → HasLuks2Plan json n plan → HasLuks2Area b json Elsewhere 0 (Slot n) plan.area
plan_area b json n plan z = record {
  value = z.value;
  holds = z.holds;
  area = (
    z.numbered,
    ap (λ o. decimal_in (option_and_then (get (codes "offset")) (option_and_then (get (codes "area")) o))) z.there ∙ z.is.start,
    ap (λ o. decimal_in (option_and_then (get (codes "size")) (option_and_then (get (codes "area")) o))) z.there ∙ z.is.len,
  );
}

plan2_inside : (b json : List ℕ) (payload : Data) (total n : ℕ) → IsLuks2Volume b json payload total → (plan : SlotPlan) → HasLuks2Plan json n plan → plan.area.start + plan.area.len ≤ total
plan2_inside b json payload total n formed plan is =
    let its = plan_area b json n plan is in
    let same : its.value ≡ formed.layout.0 = one_value json its.value formed.layout.0 its.holds formed.layout.1.metadata.json in
    formed.layout.1.fit.inside (Slot n) plan.area (subst (λ (j : Value). Luks2Area j 0 Elsewhere 0 (Slot n) plan.area) same its.area)

module _ (v w : List ℕ) (payload other : Data) (o : ℕ) (copies : Copies) (x : Chosen v (luks2 o copies)) (y : Chosen w (luks2 o copies)) (h : HasHeader v (luks2 o copies) w) (slots : ℕ → Type 0) (areas : HasAreasOf slots v (luks2 o copies) w)
    (formed : IsLuks2Volume (header_at v o) (json_at v o) payload (length v)) (formed_w : IsLuks2Volume (header_at w o) (json_at w o) other (length w)) where
  b_same : header_at w o ≡ header_at v o
  b_same = header_same v w o copies x.1 h

  j_same : json_at w o ≡ json_at v o
  j_same = json_same v w o copies x.1 h

  to_w : (allowed : Allowed) (n : ℕ) (f : OpenFault) → IsLuks2RefusalWithin allowed (header_at v o) (json_at v o) (length v) n f → IsLuks2RefusalWithin allowed (header_at w o) (json_at w o) (length w) n f
  to_w allowed n f z =
      subst (λ (b : List ℕ). IsLuks2RefusalWithin allowed b (json_at w o) (length w) n f) (sym b_same)
      (subst (λ (j : List ℕ). IsLuks2RefusalWithin allowed (header_at v o) j (length w) n f) (sym j_same)
      (moved2 allowed (header_at v o) (json_at v o) n (length v) (length w) (plan2_inside (header_at v o) (json_at v o) payload (length v) n formed) f z))

  to_v : (allowed : Allowed) (n : ℕ) (f : OpenFault) → IsLuks2RefusalWithin allowed (header_at w o) (json_at w o) (length w) n f → IsLuks2RefusalWithin allowed (header_at v o) (json_at v o) (length v) n f
  to_v allowed n f z =
      subst (λ (b : List ℕ). IsLuks2RefusalWithin allowed b (json_at v o) (length v) n f) b_same
      (subst (λ (j : List ℕ). IsLuks2RefusalWithin allowed (header_at w o) j (length v) n f) j_same
      (moved2 allowed (header_at w o) (json_at w o) n (length w) (length v) (plan2_inside (header_at w o) (json_at w o) other (length w) n formed_w) f z))

  pub alike2 : AreAlike v w (luks2 o copies) slots
  alike2 = record {
    chosen = x;
    other_chosen = y;
    refusals = to_w;
    refusals_back = to_v;
    plans = λ n plan is. subst (λ (j : List ℕ). HasLuks2Plan j n plan) (sym j_same) is;
    plans_back = λ n plan is. subst (λ (j : List ℕ). HasLuks2Plan j n plan) j_same is;
    bytes = λ allowed n plan own is free. areas n plan.area own (plan_area (header_at v o) (json_at v o) n plan is);
  }

-- ---- whatever counts

pub alike : (v w : List ℕ) (payload other : Data) (c : Choice) → Chosen v c → Chosen w c → HasHeader v c w → (slots : ℕ → Type 0) → HasAreasOf slots v c w
    → IsFormedOnAs v payload (length v) c → IsFormedOnAs w other (length w) c → AreAlike v w c slots
alike v w payload other luks1 x y h slots areas formed formed_w = alike1 v w payload other x y h slots areas formed formed_w
alike v w payload other (luks2 o copies) x y h slots areas formed formed_w = alike2 v w payload other o copies x y h slots areas formed formed_w
alike v w payload other nothing x y h slots areas formed formed_w = absurd formed
