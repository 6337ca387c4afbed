-- The keyslot of the type `reencrypt`, of which there is one at most.
use Rattle.std.proofs.Common.{◌≡◌, ℕ, ◌<◌, true, false, Option, Some, None, option_map, is_some, IfSome, refl, sym, ap, subst, ◌∙◌, inl, inr, arith}
use Rattle.std.specs.Option.{option_map_or}
use Rattle.std.proofs.lemmas.Bool.{and_from, cases_lt, false≢true, lt-ltb}
use Rattle.serde_json.specs.Data.{Data}
use Rattle.luks_rules.specs.declared.table.Section.TheVariants.{Keyslots}
use Rattle.luks_rules.specs.Faults.{object_at}
use Rattle.luks_rules.specs.Sizes.{IsFirst}
use Rattle.luks_meta.specs.Objects.{IsObject}
use Rattle.luks_underway.specs.declared.reencryption.Reencryption.{Reencryption}
use Rattle.luks_underway.specs.Kinds.{has_reencrypt, is_reencrypt}
use Rattle.luks_underway.specs.Reencryptions.{IsReencryption, TellsReencryption}
use Rattle.luks_underway.specs.Slots.{IsWideKeyslot, plain, reencrypt}
use Rattle.luks_underway.proofs.Typed.{not_reencrypt}
use Rattle.luks_contradictions.specs.Contradicted.{contradicts}
use Rattle.luks_contradictions.specs.declared.contradiction.Contradiction.{Contradiction}
use Rattle.luks_contradictions.specs.declared.contradiction.Contradiction.TheVariants.{Keyslot}
use Rattle.luks_contradictions.proofs.Counted.{any_at}
use Rattle.luks_wider.specs.Accepted.{IsWideAccepted}
use Rattle.luks_wider.specs.Reencrypting.{IsReencryptSlot}

pub slot_there : {A : Type 0} (f : A → Data) (o : Option A) (v : Option Data) → option_map f o ≡ v → option_map_or is_reencrypt v false ≡ true → is_some o ≡ true
slot_there f None v e h = absurd (false≢true (rw (← e) at h))
slot_there f (Some x) v e h = refl

pub slot_is : {A : Type 0} (f : A → Data) (o : Option A) (x : A) (v : Option Data) → option_map f o ≡ v → o ≡ Some x → v ≡ Some (f x)
slot_is f o x v e is = sym e ∙ ap (option_map f) is

by_kind : (d : Data) → is_reencrypt d ≡ true → IsWideKeyslot d → IsReencryption d
by_kind d is (plain read) = absurd (not_reencrypt d (sym is) read)
by_kind d is (reencrypt r) = r

pub is_reencryption : (j : Data) → IsWideAccepted j → (n : ℕ) (d : Data) → IsFirst (has_reencrypt j) n → object_at j Keyslots n ≡ Some d → IsReencryption d
is_reencryption j a n d first is =
    let typed : is_reencrypt d ≡ true = rw is at first.holds in
    by_kind d typed (a.rules.keyslots n d (record { numbered = refl; named = first.below; is = is }))

some_same : {A : Type 0} (x y : A) → Some x ≡ Some y → x ≡ y
some_same x y e = cc

alone : (j : Data) → ((p : Contradiction) → contradicts j p ≡ false) → (n : ℕ) → IsFirst (has_reencrypt j) n → (m : ℕ) → m < 32 → has_reencrypt j m ≡ true → m ≡ n
alone j off n first m less is = elim (cases_lt n m) [
  | inl behind ↦
      let h : contradicts j (Keyslot m) ≡ true = and_from _ _ (lt-ltb m 32 less) (and_from _ _ is (any_at (has_reencrypt j) n m behind first.holds)) in
      absurd (false≢true (sym (off (Keyslot m)) ∙ h))
  | inr before ↦ elim (cases_lt m n) [
    | inl ahead ↦ absurd (false≢true (sym (first.first m ahead) ∙ is))
    | inr at ↦ omega (arith, before, at)
  ]
]

-- what is told of a record that is there
pub told_by : {A : Type 0} (P : A → Type 0) (r : Option A) (x : A) → IfSome r P → r ≡ Some x → P x
told_by P None x h e = absurd (cc)
told_by P (Some y) x h e = let same : y ≡ x = some_same y x e in subst P same h

pub is_slot : (j : Data) → ((p : Contradiction) → contradicts j p ≡ false) → (n : ℕ) (r : Reencryption) → IsFirst (has_reencrypt j) n → IsObject TellsReencryption j Keyslots n r
    → IsReencryptSlot j (record { number = n; members = r })
is_slot j off n r first is = record { is = first; only = alone j off n first; tells_members = is }
