-- Nothing is under way in what `luks_rules` accepts.
use Rattle.std.proofs.Common.{◌≡◌, ℕ, ◌<◌, Bool, true, false, Option, Some, None, refl, sym, ◌∙◌, MatchOption}
use Rattle.std.specs.Option.{option_map_or}
use Rattle.std.specs.Prelude.{is_some}
use Rattle.std.proofs.lemmas.Bool.{false≢true}
use Rattle.serde_json.specs.Data.{Data}
use Rattle.luks_rules.specs.declared.table.Section.TheVariants.{Keyslots, Segments}
use Rattle.luks_rules.specs.Accepted.{IsContent}
use Rattle.luks_rules.specs.Faults.{object_at}
use Rattle.luks_rules.specs.Sizes.{IsFirst}
use Rattle.luks_underway.specs.Kinds.{has_opal, has_reencrypt, is_opal, is_reencrypt, IsUnderWay, reencryption, opal}
use Rattle.luks_underway.proofs.Typed.{not_opal, not_reencrypt}

-- the object of which the test holds
pub held_by : (test : Data → Bool) (o : Option Data) → option_map_or test o false ≡ true → (d : Data) × (o ≡ Some d) × (test d ≡ true)
held_by test None h = absurd (false≢true h)
held_by test (Some d) h = (d, refl, h)

pub not_under_way : (len : ℕ) (j : Data) → IsContent len j → IsUnderWay j → ⊥
not_under_way len j c (reencryption n lt is) =
    let p = held_by is_reencrypt (object_at j Keyslots n) is in
    not_reencrypt p.0 (sym p.2) (c.objects Keyslots n p.0 (record { numbered = refl; named = lt; is = p.1 }))
not_under_way len j c (opal n lt is) =
    let p = held_by is_opal (object_at j Segments n) is in
    not_opal p.0 p.2 (c.objects Segments n p.0 (record { numbered = refl; named = lt; is = p.1 }))

pub none_under_way : (j : Data) → ((n : ℕ) → n < 32 → has_reencrypt j n ≡ false) → ((n : ℕ) → n < 32 → has_opal j n ≡ false) → IsUnderWay j → ⊥
none_under_way j none other (reencryption n lt is) = false≢true (sym (none n lt) ∙ is)
none_under_way j none other (opal n lt is) = false≢true (sym (other n lt) ∙ is)

pub under_way_by : (j : Data) (a : Option ℕ) → MatchOption a ((n : ℕ) → n < 32 → has_reencrypt j n ≡ false) (λ n. IsFirst (has_reencrypt j) n) → is_some a ≡ true → IsUnderWay j
under_way_by j (Some n) first h = reencryption n first.below first.holds
under_way_by j None none h = absurd (false≢true h)

pub opal_by : (j : Data) (b : Option ℕ) → MatchOption b ((n : ℕ) → n < 32 → has_opal j n ≡ false) (λ n. IsFirst (has_opal j) n) → is_some b ≡ true → IsUnderWay j
opal_by j (Some n) first h = opal n first.below first.holds
opal_by j None none h = absurd (false≢true h)

pub not_by : (j : Data) (a b : Option ℕ)
    → MatchOption a ((n : ℕ) → n < 32 → has_reencrypt j n ≡ false) (λ n. IsFirst (has_reencrypt j) n)
    → MatchOption b ((n : ℕ) → n < 32 → has_opal j n ≡ false) (λ n. IsFirst (has_opal j) n)
    → is_some a ≡ false → is_some b ≡ false → IsUnderWay j → ⊥
not_by j (Some n) b first other h k under = absurd (false≢true (sym h))
not_by j None (Some n) none first h k under = absurd (false≢true (sym k))
not_by j None None none other h k under = none_under_way j none other under
