-- Whether a key is a volume's, step by step: the first refusal of a step is the first of all, where no earlier step
-- has any.
use Rattle.std.proofs.Common.{◌≡◌, ◌∙◌, ◌<◌, ◌≤◌, ℕ, List, [], length, Bool, true, false, Option, Some, None, Result, Ok, Err, IfOk, IfErr, unwrap_or, inl, inr, refl, sym, ap, subst, arith}
use Rattle.std.proofs.lemmas.Bool.{cases_lt}
use Rattle.serde_json.specs.Data.{Data}
use Rattle.luks_area.specs.First.{NotAfter, IsLeast}
use Rattle.luks1_header.specs.declared.fault.HeadFault.{HeadFault}
use Rattle.luks1_header.specs.Faults.{head_key, IsCommonFault}
use Rattle.luks2_header.specs.Header2.{header_at, uuid_field}
use Rattle.luks2_header.specs.Selection.{Choice, luks1, luks2, nothing}
use Rattle.luks_rules.specs.declared.fault.MetaFault.{MetaFault}
use Rattle.luks_rules.proofs.AreaFaults.{one_value}
use Rattle.luks_meta.specs.Faults.{object_at}
use Rattle.luks_meta.specs.MetaFault.{Json, meta_key}
use Rattle.luks_meta.specs.Reading.{text_of}
use Rattle.luks_meta.specs.Says.{member_at}
use Rattle.luks_rules.specs.declared.table.Member.TheVariants as name
use Rattle.luks_rules.specs.declared.table.Outer.TheVariants as outer
use Rattle.luks_rules.specs.declared.table.Section.TheVariants.{Digests}
use Rattle.luks_slot.specs.declared.plan.DigestPlan.{DigestPlan}
use Rattle.luks_slot.specs.Refusal.{is_known_hash}
use Rattle.luks_reading.specs.declared.key_fault.KeyFault.{KeyFault}
use Rattle.luks_reading.specs.declared.key_fault.KeyFault.TheVariants.{Head, Meta, NoSuchDigest, KeyLength, Hash, Device, Memory}
use Rattle.luks_reading.specs.declared.matching.KeyMatch.{KeyMatch}
use Rattle.luks_reading.specs.declared.read_fault.ReadFault.{ReadFault}
use Rattle.luks_reading.specs.declared.read_fault.ReadFault.TheVariants as reading
use Rattle.luks_reading.specs.ChosenCopies.{IsCleared}
use Rattle.luks_reading.specs.Conversions.{head_unread, unread_key}
use Rattle.luks_reading.specs.Header.{json_at, read_key, IsReadFault, IsReadFaultAs, IsUnread}
use Rattle.luks_reading.specs.KeyAnswers.{key_row, is_own_key_fault, luks1_says, luks2_says, says_as, HasRefusedDigest, IsKeyAnswer, IsKeyAnswerBy, IsKeyAnswered, IsKeyRefusalBy, IsMet, IsUnknown, KeySays}
use Rattle.luks_reading.specs.KeyDigests.{HasLuks1Digest, HasLuks2Digest, HasLuks2KeyLength, IsFirstDigestOf, IsLuks1Number, IsLuks2KeyLength, IsLuks2Number}
use Rattle.luks_reading.proofs.Luks1Refusals.{common_own, sooner, together}
use Rattle.luks_reading.proofs.ReadFaults.{as_unread}

-- ---- whatever the header says

-- neither its fields nor its metadata have faults
pub record IsFaultless (says : KeySays) : Type 0 where
  pub heads : (f : HeadFault) → says.heads f → ⊥
  pub metas : (f : MetaFault) → says.metas f → ⊥

-- the digest is the one that is asked for
pub record IsAskedFor (says : KeySays) (m : ℕ) (digest : DigestPlan) : Type 0 where
  pub asked : says.digests m digest
  pub number : (n : ℕ) (b : DigestPlan) → says.digests n b → m ≡ n
  pub hash : (n : ℕ) (b : DigestPlan) → says.digests n b → digest.hash.now ≡ b.hash.now

pub head_first : (says : KeySays) (older : Bool) (len : ℕ) (f : HeadFault) → IsLeast head_key says.heads f
    → IsLeast key_row (IsKeyRefusalBy says older len) (Head f)
head_first says older len f least = (least.0, after)
  where
    after : (g : KeyFault) → IsKeyRefusalBy says older len g → NotAfter (key_row (Head f)) (key_row g)
    after (Head g) x = together 1 1 (head_key f) (head_key g) refl (least.1 g x)
    after (Meta g) x = sooner 1 2 (head_key f) (meta_key g) (omega arith)
    after NoSuchDigest x = sooner 1 3 (head_key f) [] (omega arith)
    after KeyLength x = sooner 1 4 (head_key f) [] (omega arith)
    after Hash x = sooner 1 5 (head_key f) [] (omega arith)
    after other x = absurd x

pub meta_first : (says : KeySays) (older : Bool) (len : ℕ) (f : MetaFault) → ((g : HeadFault) → says.heads g → ⊥) → IsLeast meta_key says.metas f
    → IsLeast key_row (IsKeyRefusalBy says older len) (Meta f)
meta_first says older len f heads least = (least.0, after)
  where
    after : (g : KeyFault) → IsKeyRefusalBy says older len g → NotAfter (key_row (Meta f)) (key_row g)
    after (Head g) x = absurd (heads g x)
    after (Meta g) x = together 2 2 (meta_key f) (meta_key g) refl (least.1 g x)
    after NoSuchDigest x = sooner 2 3 (meta_key f) [] (omega arith)
    after KeyLength x = sooner 2 4 (meta_key f) [] (omega arith)
    after Hash x = sooner 2 5 (meta_key f) [] (omega arith)
    after other x = absurd x

pub none_first : (says : KeySays) (older : Bool) (len : ℕ) → IsFaultless says → ((m : ℕ) (digest : DigestPlan) → says.digests m digest → ⊥)
    → IsLeast key_row (IsKeyRefusalBy says older len) NoSuchDigest
none_first says older len clear none = (none, after)
  where
    after : (g : KeyFault) → IsKeyRefusalBy says older len g → NotAfter (key_row NoSuchDigest) (key_row g)
    after (Head g) x = absurd (clear.heads g x)
    after (Meta g) x = absurd (clear.metas g x)
    after NoSuchDigest x = together 3 3 [] [] refl tt
    after KeyLength x = sooner 3 4 [] [] (omega arith)
    after Hash x = sooner 3 5 [] [] (omega arith)
    after other x = absurd x

pub length_first : (says : KeySays) (older : Bool) (len m : ℕ) (digest : DigestPlan) → IsFaultless says → IsAskedFor says m digest
    → (says.lengths m len → ⊥) → IsLeast key_row (IsKeyRefusalBy says older len) KeyLength
length_first says older len m digest clear is unlike =
    (record { number = m; digest = digest; asked = is.asked; refused = unlike }, after)
  where
    after : (g : KeyFault) → IsKeyRefusalBy says older len g → NotAfter (key_row KeyLength) (key_row g)
    after (Head g) x = absurd (clear.heads g x)
    after (Meta g) x = absurd (clear.metas g x)
    after NoSuchDigest x = absurd (x m digest is.asked)
    after KeyLength x = together 4 4 [] [] refl tt
    after Hash x = sooner 4 5 [] [] (omega arith)
    after other x = absurd x

-- a length that the digest allows isn't refused
no_length : (says : KeySays) (len m : ℕ) (digest : DigestPlan) → IsAskedFor says m digest → says.lengths m len
    → HasRefusedDigest says (λ n b. says.lengths n len → ⊥) → ⊥
no_length says len m digest is long x = x.refused (subst (λ (n : ℕ). says.lengths n len) (is.number x.number x.digest x.asked) long)

pub hash_first : (says : KeySays) (older : Bool) (len m : ℕ) (digest : DigestPlan) → IsFaultless says → IsAskedFor says m digest
    → says.lengths m len → is_known_hash older digest.hash.now ≡ false → IsLeast key_row (IsKeyRefusalBy says older len) Hash
hash_first says older len m digest clear is long unknown =
    (record { number = m; digest = digest; asked = is.asked; refused = unknown }, after)
  where
    after : (g : KeyFault) → IsKeyRefusalBy says older len g → NotAfter (key_row Hash) (key_row g)
    after (Head g) x = absurd (clear.heads g x)
    after (Meta g) x = absurd (clear.metas g x)
    after NoSuchDigest x = absurd (x m digest is.asked)
    after KeyLength x = absurd (no_length says len m digest is long x)
    after Hash x = together 5 5 [] [] refl tt
    after other x = absurd x

-- nothing refuses a key of a length that its digest allows, where the digest's hash is known
pub key_unrefused : (says : KeySays) (older : Bool) (len m : ℕ) (digest : DigestPlan) → IsFaultless says → IsAskedFor says m digest
    → says.lengths m len → is_known_hash older digest.hash.now ≡ true → (f : KeyFault) → IsKeyRefusalBy says older len f → ⊥
key_unrefused says older len m digest clear is long known (Head f) x = clear.heads f x
key_unrefused says older len m digest clear is long known (Meta f) x = clear.metas f x
key_unrefused says older len m digest clear is long known NoSuchDigest x = x m digest is.asked
key_unrefused says older len m digest clear is long known KeyLength x = no_length says len m digest is long x
key_unrefused says older len m digest clear is long known Hash x =
    let same = is.hash x.number x.digest x.asked in
    let unknown = x.refused in
    absurd (cc (known, same, unknown))
key_unrefused says older len m digest clear is long known other x = x

-- what testing the key gave is answered
pub answered : (says : KeySays) (older : Bool) (m : ℕ) (key : List ℕ) (digest : DigestPlan) (r : Result KeyMatch KeyFault) → IsFaultless says → IsAskedFor says m digest
    → says.lengths m (length key) → IfOk r (IsMet digest m older key) → IfErr r (IsUnknown digest older) → IsKeyAnswerBy says older key r
answered says older m key digest (Ok found) clear is long met unknown = record {
  unrefused = key_unrefused says older (length key) m digest clear is long met.known;
  digest = digest;
  asked = subst (λ (n : ℕ). says.digests n digest) (sym met.number_is) is.asked;
  matches = met.matches;
}
answered says older m key digest (Err f) clear is long met unknown =
    subst (λ g. IsLeast key_row (IsKeyRefusalBy says older (length key)) g) (sym unknown.is) (hash_first says older (length key) m digest clear is long unknown.unknown)

pub unknown_is_own : (digest : DigestPlan) (older : Bool) (r : Result KeyMatch KeyFault) → IfErr r (IsUnknown digest older) → IfErr r (λ f. is_own_key_fault f ≡ true)
unknown_is_own digest older (Ok found) x = tt
unknown_is_own digest older (Err f) x = subst (λ g. is_own_key_fault g ≡ true) (sym x.is) refl

-- ---- LUKS1

luks1_number : (asked : Option ℕ) (m n : ℕ) → IsLuks1Number asked m → IsLuks1Number asked n → m ≡ n
luks1_number None m n x y = x ∙ sym y
luks1_number (Some a) m n x y = x.1 ∙ sym y.1

pub luks1_numbered : (asked : Option ℕ) → unwrap_or asked 0 ≤ 0 → IsLuks1Number asked 0
luks1_numbered None le = refl
luks1_numbered (Some a) le = (omega (arith, le), refl)

pub luks1_unnumbered : (asked : Option ℕ) → 0 < unwrap_or asked 0 → (m : ℕ) → IsLuks1Number asked m → ⊥
luks1_unnumbered None lt m x = omega (arith, lt)
luks1_unnumbered (Some a) lt m x = let zero_ = x.0 in omega (arith, lt, zero_)

pub luks1_asked : (h : List ℕ) (asked : Option ℕ) (m : ℕ) (digest : DigestPlan) → HasLuks1Digest h asked m digest → IsAskedFor (luks1_says h asked) m digest
luks1_asked h asked m digest x = record {
  asked = x;
  number = λ n b y. luks1_number asked m n x.numbered y.numbered;
  hash = λ n b y. x.is.hash ∙ sym y.is.hash;
}

-- the first fault of the fields before the keyslots
pub common_first : (h : List ℕ) (asked : Option ℕ) (older : Bool) (key : List ℕ) (f : HeadFault) → IsLeast head_key (IsCommonFault h) f
    → IsKeyAnswerBy (luks1_says h asked) older key (Err (unread_key (head_unread f)))
common_first h asked older key f least =
    subst (λ r. IsLeast key_row (IsKeyRefusalBy (luks1_says h asked) older (length key)) (unread_key r)) (sym (common_own h f least))
    (head_first (luks1_says h asked) older (length key) f least)

pub common_is_own : (h : List ℕ) (f : HeadFault) → IsLeast head_key (IsCommonFault h) f → is_own_key_fault (unread_key (head_unread f)) ≡ true
common_is_own h f least = subst (λ r. is_own_key_fault (unread_key r) ≡ true) (sym (common_own h f least)) refl

-- ---- LUKS2

same_some : {A : Type 0} (o : Option A) (a b : A) → o ≡ Some a → o ≡ Some b → a ≡ b
same_some o a b p q = ap (λ v. unwrap_or v a) (sym p ∙ q)

same_first : (j : Data) (s m n : ℕ) → IsFirstDigestOf j s m → IsFirstDigestOf j s n → m ≡ n
same_first j s m n x y = elim (cases_lt m n) [
  | inl lt ↦ absurd (y.first m lt x.is)
  | inr le ↦ (elim (cases_lt n m) [
    | inl lt ↦ absurd (x.first n lt y.is)
    | inr ge ↦ omega (arith, le, ge)
  ])
]

pub luks2_number : (j : Data) (asked : Option ℕ) (m n : ℕ) → IsLuks2Number j asked m → IsLuks2Number j asked n → m ≡ n
luks2_number j None m n x y = same_first j 0 m n x y
luks2_number j (Some a) m n x y = x.1 ∙ sym y.1

pub luks2_low : (j : Data) (asked : Option ℕ) (m : ℕ) → IsLuks2Number j asked m → m < 32
luks2_low j None m x = x.is.numbered
luks2_low j (Some a) m x = let lt = x.0 in let e = x.1 in omega (arith, lt, e)

same_number : (json : List ℕ) (asked : Option ℕ) (m n : ℕ) (a b : DigestPlan) (x : HasLuks2Digest json asked m a) (y : HasLuks2Digest json asked n b) → m ≡ n
same_number json asked m n a b x y =
    luks2_number y.value asked m n (subst (λ i. IsLuks2Number i asked m) (one_value json x.value y.value x.holds y.holds) x.numbered) y.numbered

same_object : (json : List ℕ) (asked : Option ℕ) (m n : ℕ) (a b : DigestPlan) (x : HasLuks2Digest json asked m a) (y : HasLuks2Digest json asked n b) → x.object ≡ y.object
same_object json asked m n a b x y =
    let value = one_value json x.value y.value x.holds y.holds in
    let number = same_number json asked m n a b x y in
    let there = subst (λ k. object_at y.value Digests k ≡ Some x.object) number (subst (λ i. object_at i Digests m ≡ Some x.object) value x.there) in
    same_some (object_at y.value Digests n) x.object y.object there y.there

pub luks2_asked : (uuid json : List ℕ) (asked : Option ℕ) (m : ℕ) (digest : DigestPlan) → HasLuks2Digest json asked m digest → IsAskedFor (luks2_says uuid json asked) m digest
luks2_asked uuid json asked m digest x = record {
  asked = x;
  number = λ n b y. same_number json asked m n digest b x y;
  hash = λ n b y.
      same_some (text_of (member_at y.object outer.Top name.Hash)) digest.hash.now b.hash.now
      (subst (λ o. text_of (member_at o outer.Top name.Hash) ≡ Some digest.hash.now) (same_object json asked m n digest b x y) x.says.hash) y.says.hash;
}

pub luks2_faultless : (uuid json : List ℕ) (j : Data) (asked : Option ℕ) → IsCleared uuid json j → IsFaultless (luks2_says uuid json asked)
luks2_faultless uuid json j asked clear = record { heads = clear.uuid_faultless; metas = clear.faultless }

-- where the value has no digest of the number, none is there
pub luks2_none : (json : List ℕ) (j : Data) (asked : Option ℕ) → Json json j → ((m : ℕ) → IsLuks2Number j asked m → object_at j Digests m ≡ None)
    → (m : ℕ) (digest : DigestPlan) → HasLuks2Digest json asked m digest → ⊥
luks2_none json j asked holds none m digest x =
    let e = one_value json x.value j x.holds holds in
    let gone = none m (subst (λ i. IsLuks2Number i asked m) e x.numbered) in
    let there = subst (λ i. object_at i Digests m ≡ Some x.object) e x.there in
    cc (gone, there)

pub luks2_unlike : (json : List ℕ) (j : Data) (m len : ℕ) → Json json j → (IsLuks2KeyLength j m len → ⊥) → HasLuks2KeyLength json m len → ⊥
luks2_unlike json j m len holds unlike x = unlike (subst (λ i. IsLuks2KeyLength i m len) (one_value json x.value j x.holds holds) x.long)

-- ---- a header that isn't read

read_first : (v : List ℕ) (asked : Option ℕ) (older : Bool) (len : ℕ) (c : Choice) (f : ReadFault) → IsLeast read_key (IsReadFaultAs v c) f
    → IsLeast key_row (IsKeyRefusalBy (says_as v asked c) older len) (unread_key f)
read_first v asked older len luks1 f least = absurd least.0
read_first v asked older len (luks2 o copies) (reading.Head f) least =
    head_first (luks2_says (uuid_field (header_at v o)) (json_at v o) asked) older len f (least.0, λ g x. (least.1 (reading.Head g) x).1 refl)
read_first v asked older len (luks2 o copies) (reading.Meta f) least =
    meta_first (luks2_says (uuid_field (header_at v o)) (json_at v o) asked) older len f
    (λ g x. let after = (least.1 (reading.Head g) x).0 in omega (arith, after)) (least.0, λ g x. (least.1 (reading.Meta g) x).1 refl)
read_first v asked older len (luks2 o copies) reading.Device least = absurd least.0
read_first v asked older len (luks2 o copies) reading.Memory least = absurd least.0
read_first v asked older len nothing (reading.Head f) least =
    head_first (says_as v asked nothing) older len f (least.0, λ g x. (least.1 (reading.Head g) x).1 refl)
read_first v asked older len nothing (reading.Meta f) least = absurd least.0
read_first v asked older len nothing reading.Device least = absurd least.0
read_first v asked older len nothing reading.Memory least = absurd least.0

unread_own : (v : List ℕ) (asked : Option ℕ) (older : Bool) (key : List ℕ) (f : ReadFault) → IsLeast read_key (IsReadFault v) f
    → IsKeyAnswer v asked older key (Err (unread_key f))
unread_own v asked older key f least =
    let x = as_unread v f least in
    record { choice = x.choice; chosen = x.chosen; is = read_first v asked older (length key) x.choice f x.least }

pub unread_answered : (v : List ℕ) (asked : Option ℕ) (older : Bool) (key : List ℕ) (f : ReadFault) → IsUnread v f
    → IsKeyAnswered v asked older key (Err (unread_key f))
unread_answered v asked older key (reading.Head f) x = unread_own v asked older key (reading.Head f) x
unread_answered v asked older key (reading.Meta f) x = unread_own v asked older key (reading.Meta f) x
unread_answered v asked older key reading.Device x = tt
unread_answered v asked older key reading.Memory x = x

-- an answer that is neither the device's nor a failed allocation
pub own_answered : (v : List ℕ) (asked : Option ℕ) (older : Bool) (key : List ℕ) (r : Result KeyMatch KeyFault) → IfErr r (λ f. is_own_key_fault f ≡ true)
    → IsKeyAnswer v asked older key r → IsKeyAnswered v asked older key r
own_answered v asked older key (Ok found) own x = x
own_answered v asked older key (Err Device) own x = absurd (cc)
own_answered v asked older key (Err Memory) own x = absurd (cc)
own_answered v asked older key (Err other) own x = x
