-- A keyslot that was tried in vain doesn't open.
use Rattle.std.proofs.Common.{◌≡◌, ◌≢◌, ℕ, ◌==◌, List, length, Bool, true, false, Option, Some, None, IfOk, IfSome, refl, subst, sym, ◌∙◌, eq-eqb}
use Rattle.serde_json.specs.Data.{Data}
use Rattle.luks1_header.specs.declared.fault.HeadFault.TheVariants as head
use Rattle.luks1_header.specs.Header1.{active_word, disabled_word, enabled_word, entry}
use Rattle.luks_slot.specs.declared.allowed.Allowed.{Allowed}
use Rattle.luks_reading.specs.declared.open_fault.OpenFault.{OpenFault}
use Rattle.luks_reading.specs.declared.open_fault.OpenFault.TheVariants.{Head, SlotFree, Memory}
use Rattle.luks_reading.specs.Luks1Keyslots.{Luks1Opens, Luks1Refused}
use Rattle.luks_reading.specs.Luks2Keyslots.{Luks2Opens, Luks2Refused}
use Rattle.luks_reading.specs.KeyslotsTried.{passed_over, Luks1Tried, Luks2Tried}
use Rattle.luks_reading.proofs.OpenFaults.{passed, passed_own}
use Rattle.luks_reading.proofs.SamePlans.{same_answer}
use Rattle.luks_reading.proofs.Luks1Plans.{one_luks1_plan}
use Rattle.luks_reading.proofs.Luks2Plans.{IsOnly, one_luks2_plan}

-- a keyslot opens to one key
luks1_once : (older : Bool) (h v : List ℕ) (n : ℕ) (p : List ℕ) (found other : Option (List ℕ)) → Luks1Opens older h v n p found → Luks1Opens older h v n p other → found ≡ other
luks1_once older h v n p found other x y = sym x.key ∙ same_answer x.plan y.plan v p (one_luks1_plan h n x.plan y.plan x.is y.is) ∙ y.key

luks2_once : (allowed : Allowed) (b json v : List ℕ) (n : ℕ) (p : List ℕ) (j : Data) (found other : Option (List ℕ)) → IsOnly json j n
    → Luks2Opens allowed b json v n p found → Luks2Opens allowed b json v n p other → found ≡ other
luks2_once allowed b json v n p j found other only x y = sym x.key ∙ same_answer x.plan y.plan v p (one_luks2_plan json j n x.plan y.plan only x.is y.is) ∙ y.key

-- a keyslot that is refused doesn't open
pub luks1_refused_tried : (older : Bool) (h v : List ℕ) (n : ℕ) (p : List ℕ) (f : OpenFault) → Luks1Refused older h (length v) n f → IfOk (passed_over f) (Luks1Tried older h v n p)
luks1_refused_tried older h v n p f x = passed (Luks1Tried older h v n p) f (λ own k y. y.unrefused f (x own).0)

pub luks2_refused_tried : (allowed : Allowed) (b json v : List ℕ) (n : ℕ) (p : List ℕ) (f : OpenFault) → Luks2Refused allowed b json (length v) n f → IfOk (passed_over f) (Luks2Tried allowed b json v n p)
luks2_refused_tried allowed b json v n p f x =
    passed_own (Luks2Tried allowed b json v n p) f (λ own k y. y.unrefused f (x.0 own).0)

-- what a keyslot opens to, once it has been tried
pub luks1_tried : (older : Bool) (h v : List ℕ) (n : ℕ) (p : List ℕ) (found : Option (List ℕ)) → Luks1Opens older h v n p found → Luks1Tried older h v n p found
luks1_tried older h v n p (Some k) x = x
luks1_tried older h v n p None x = λ k y. let e = luks1_once older h v n p (Some k) None y x in absurd (cc)

pub luks2_tried : (allowed : Allowed) (b json v : List ℕ) (n : ℕ) (p : List ℕ) (j : Data) (found : Option (List ℕ)) → IsOnly json j n
    → Luks2Opens allowed b json v n p found → Luks2Tried allowed b json v n p found
luks2_tried allowed b json v n p j (Some k) only x = x
luks2_tried allowed b json v n p j None only x = λ k y. let e = luks2_once allowed b json v n p j (Some k) None only y x in absurd (cc)

pub passed_none : (P : List ℕ → Type 0) (f : OpenFault) → IfOk (passed_over f) (λ found. IfSome found P)
passed_none P f = passed (λ found. IfSome found P) f (λ own. tt)

pub luks1_own : (older : Bool) (h : List ℕ) (total n : ℕ) (f : OpenFault) → Luks1Refused older h total n f → f ≢ Memory
luks1_own older h total n f x e = (subst (Luks1Refused older h total n) e x refl).0

-- a keyslot of LUKS1 that opens is in use
in_use : (older : Bool) (h v : List ℕ) (n : ℕ) (p : List ℕ) (found : Option (List ℕ)) (b : Bool) → (active_word (entry h n) == enabled_word) ≡ b
    → Luks1Opens older h v n p found → (active_word (entry h n) == enabled_word) ≡ true
in_use older h v n p found true is x = is
in_use older h v n p found false is x =
    let other : active_word (entry h n) ≢ enabled_word = λ e. let yes = eq-eqb (active_word (entry h n)) enabled_word e in cc in
    let on : active_word (entry h n) ≢ disabled_word = λ e. x.unrefused SlotFree (x.is.numbered, e) in
    absurd (x.unrefused (Head (head.SlotState n)) (x.is.numbered, (refl, (other, on))))

pub opened_in_use : (older : Bool) (h v : List ℕ) (n : ℕ) (p : List ℕ) (found : Option (List ℕ)) → Luks1Opens older h v n p found → (active_word (entry h n) == enabled_word) ≡ true
opened_in_use older h v n p found x = in_use older h v n p found (active_word (entry h n) == enabled_word) refl x
