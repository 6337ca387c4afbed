-- What a new keyslot is made like is one, and is there.
use Rattle.std.proofs.Common.{◌≡◌, ℕ, ◌≤◌, List, length, Bool, inl, inr, refl, sym, ap, subst, ◌∙◌, arith}
use Rattle.serde_json.specs.Data.{Data as Value}
use Rattle.luks_rules.specs.declared.table.Section.TheVariants.{Digests}
use Rattle.luks_rules.specs.Accepted.{HasObject}
use Rattle.luks_making.specs.Conditions.{Between, IsThere}
use Rattle.luks_slot.specs.declared.plan.DigestPlan.{DigestPlan}
use Rattle.luks_reading.specs.KeyDigests.{IsLuks2KeyLength, NamesKeyslot}
use Rattle.luks_edit.specs.declared.edit.Opener.{Opener}
use Rattle.luks_edit.specs.declared.edit.Opener.TheVariants as opener
use Rattle.luks2_edit_laws.specs.declared.like.Like.{Like}
use Rattle.luks2_edit_laws.specs.declared.like.Like.TheVariants.{Keyslot, Digest}
use Rattle.luks2_edit_laws.specs.Likes.{ForLike, IsKeyDigest, IsLike, IsLikeByKey, IsLikeOf, TakesKey}

-- ---- it is one

no_less : {m n : ℕ} → m ≤ n → n ≤ m → m ≡ n
no_less low high = omega (arith, low, high)

-- the first digest that the key meets
pub one_key_digest : (older : Bool) (j : Value) (key : List ℕ) (m k : ℕ) → IsKeyDigest older j key m → IsKeyDigest older j key k → m ≡ k
one_key_digest older j key m k x y =
    let one = x.first k y.meets in
    let other = y.first m x.meets in
    no_less (one.number other.assigned) (other.number one.assigned)

one_like_of : (j : Value) (m len : ℕ) (a b : Like) → IsLikeOf j m len a → IsLikeOf j m len b → a ≡ b
one_like_of j m len (Keyslot n) (Keyslot k) x y = ap Keyslot (no_less (x.first k y.names y.long) (y.first n x.names x.long))
one_like_of j m len (Keyslot n) (Digest number key_bytes) x y = absurd (y.none (record { slot = n; names = x.names }))
one_like_of j m len (Digest number key_bytes) (Keyslot k) x y = absurd (x.none (record { slot = k; names = y.names }))
one_like_of j m len (Digest a b) (Digest c d) x y =
    ap (λ n. Digest n b) (x.number_is ∙ sym y.number_is) ∙ ap (λ n. Digest c n) (x.key_bytes_are ∙ sym y.key_bytes_are)

pub one_like_by_key : (older : Bool) (j : Value) (key : List ℕ) (a b : Like) → IsLikeByKey older j key a → IsLikeByKey older j key b → a ≡ b
one_like_by_key older j key a b x y =
    let digest : y.digest ≡ x.digest = one_key_digest older j key y.digest x.digest y.is x.is in
    one_like_of j x.digest (length key) a b x.like_is (subst (λ m. IsLikeOf j m (length key) b) digest y.like_is)

pub one_like : (j : Value) (o : Opener) (a b : Like) → IsLike j o a → IsLike j o b → a ≡ b
one_like j (opener.Keyslot slot secret) a b x y = x ∙ sym y
one_like j (opener.Key key) a b x y = one_like_by_key key.allowed.older j key.bytes.now a b x y

-- so what holds of it holds of each that it is
pub for_like : (j : Value) (o : Opener) (P : Like → Type 0) (like : Like) → IsLike j o like → ForLike j o P → P like
for_like j o P like is x = subst P (one_like j o x.like like x.is_like is) x.has

-- ---- it is there

-- a keyslot is, or the digest, whose key has a length that the metadata may say
pub record IsDigestThere (j : Value) (number key_bytes : ℕ) : Type 0 where
  pub object : Value
  pub there : HasObject j Digests number object
  pub long : Between 1 128 key_bytes

abbrev pub IsModel : Value → Like → Type 0
IsModel j (Keyslot n) = IsThere j n
IsModel j (Digest number key_bytes) = IsDigestThere j number key_bytes

-- a digest without a keyslot takes any length that the metadata may say
bare_length : (j : Value) (m len : ℕ) → (NamesKeyslot j m → ⊥) → IsLuks2KeyLength j m len → Between 1 128 len
bare_length j m len none (inl of) = absurd (none (record { slot = of.slot; names = of.names }))
bare_length j m len none (inr free) = record { from = free.1; to = free.2 }

model_of : (j : Value) (m len : ℕ) (digest : DigestPlan) (like : Like) → TakesKey j m len digest → IsLikeOf j m len like → IsModel j like
model_of j m len digest (Keyslot n) takes x = record {
  object = x.long.object;
  there = record { numbered = refl; named = x.names.named; is = x.long.there };
}
model_of j m len digest (Digest number key_bytes) takes x = record {
  object = takes.object;
  there = subst (λ n. HasObject j Digests n takes.object) (sym x.number_is) takes.there;
  long = subst (λ n. Between 1 128 n) (sym x.key_bytes_are) (bare_length j m len x.none takes.long);
}

pub model_by_key : (older : Bool) (j : Value) (key : List ℕ) (like : Like) → IsLikeByKey older j key like → IsModel j like
model_by_key older j key like x = model_of j x.digest (length key) x.is.meets.digest like x.is.meets.takes x.like_is
