-- What a new keyslot of a LUKS2 volume is made like, if anything, and so is decided of it what is decided of each.
use Rattle.std.proofs.Common.{◌≡◌, ℕ, List, length, Bool, refl, sym, ◌∙◌, inl, inr}
use Rattle.serde_json.specs.Data.{Data as Value}
use Rattle.luks_making.specs.Naming.{IsDigestOf}
use Rattle.luks_reading.specs.KeyDigests.{IsLuks2KeyLength, NamesKeyslot}
use Rattle.luks_reading.specs.Plans.{HasLuks2KeyBytes}
use Rattle.luks_edit.specs.declared.edit.Opener.{Opener}
use Rattle.luks_edit.specs.declared.edit.Opener.TheVariants as opener
use Rattle.luks2_edit_laws.specs.declared.like.Like.{Like}
use Rattle.luks2_edit_laws.specs.declared.like.Like.TheVariants.{Keyslot, Digest}
use Rattle.luks2_edit_laws.specs.Likes.{ForLike, HasStripesLike, IsLike, IsLikeByKey, IsLikeOf}
use Rattle.luks2_edit_laws.proofs.LikeFacts.{for_like}
use Rattle.luks2_judging.specs.Keys.{IsThereLike}
use Rattle.luks_laws.proofs.DecidedFacts.{alike_decided, Decided}
use Rattle.luks_laws.proofs.SearchFacts.{OneOrNone, SomeOrNone}
use Rattle.luks_laws.proofs.DigestDecisions2.{first_keyslot, key_digest_or_none}
use Rattle.luks_laws.proofs.MemberDecisions2.{in_use_decided, one_key_length, one_stripes, stripes_in_use, stripes_or_none}

-- ---- by the volume key

-- a digest that takes the key, but has no keyslot with such a key, has none
none_named : (j : Value) (m len : ℕ) → IsLuks2KeyLength j m len → ((n : ℕ) → IsDigestOf j n m × HasLuks2KeyBytes j n len → ⊥) → NamesKeyslot j m → ⊥
none_named j m len (inl of) none named = none of.slot (of.names, of.long)
none_named j m len (inr free) none named = free.0 named

-- the first keyslot of the digest, or that of a new volume
like_of : (j : Value) (m len : ℕ) → IsLuks2KeyLength j m len → (like : Like) × IsLikeOf j m len like
like_of j m len long = elim (first_keyslot j m len) [
  | inl found ↦ (Keyslot found.0, record { names = found.1.0; long = found.1.1; first = λ k names same. found.2 k (names, same) })
  | inr none ↦ (Digest m len, record { number_is = refl; key_bytes_are = refl; none = none_named j m len long none })
]

-- the key meets a digest, and a keyslot is made like one, or it meets none
pub like_by_key_or_none : (older : Bool) (j : Value) (key : List ℕ) → SomeOrNone Like (IsLikeByKey older j key)
like_by_key_or_none older j key = elim (key_digest_or_none older j key) [
  | inl m ↦ (let l = like_of j m.0 (length key) m.1.meets.takes.long in inl (l.0, record { digest = m.0; is = m.1; like_is = l.1 }))
  | inr none ↦ inr (λ l x. none x.digest x.is)
]

-- ---- by each opener

-- a keyslot is made like one, or like none
like_or_none : (j : Value) (o : Opener) → SomeOrNone Like (IsLike j o)
like_or_none j (opener.Keyslot slot secret) = inl (Keyslot slot, refl)
like_or_none j (opener.Key key) = like_by_key_or_none key.allowed.older j key.bytes.now

-- what is decided of each that a keyslot may be made like is decided of the one that it is made like
pub for_like_decided : (j : Value) (o : Opener) (P : Like → Type 0) → ((l : Like) → Decided (P l)) → Decided (ForLike j o P)
for_like_decided j o P decide = elim (like_or_none j o) [
  | inl l ↦ alike_decided (P l.0) (ForLike j o P) (λ has. record { like = l.0; is_like = l.1; has = has }) (for_like j o P l.0 l.1) (decide l.0)
  | inr none ↦ inr (λ x. none x.like x.is_like)
]

-- what each has some of or none, it has
pub for_like_or_none : {A : Type 0} (j : Value) (o : Opener) (P : A → Like → Type 0) → ((l : Like) → SomeOrNone A (λ a. P a l)) → SomeOrNone A (λ a. ForLike j o (P a))
for_like_or_none j o P find = elim (like_or_none j o) [
  | inl l ↦ elim (find l.0) [
    | inl a ↦ inl (a.0, record { like = l.0; is_like = l.1; has = a.1 })
    | inr none ↦ inr (λ a x. none a (for_like j o (P a) l.0 l.1 x))
  ]
  | inr none ↦ inr (λ a x. none x.like x.is_like)
]

-- and what each has one number of or none
pub for_like_one : (j : Value) (o : Opener) (P : ℕ → Like → Type 0) → ((l : Like) → OneOrNone (λ k. P k l)) → OneOrNone (λ k. ForLike j o (P k))
for_like_one j o P find = elim (like_or_none j o) [
  | inl l ↦ elim (find l.0) [
    | inl k ↦ inl (k.0, record { like = l.0; is_like = l.1; has = k.1 }, λ m x. k.2 m (for_like j o (P m) l.0 l.1 x))
    | inr none ↦ inr (λ k x. none k (for_like j o (P k) l.0 l.1 x))
  ]
  | inr none ↦ inr (λ k x. none x.like x.is_like)
]

-- ---- what it says

-- a keyslot that one is made like is there, or it isn't
pub there_decided : (j : Value) (l : Like) → Decided (IsThereLike j l)
there_decided j (Keyslot n) = in_use_decided j n
there_decided j (Digest number len) = inl tt

-- the key's length and the stripes of a keyslot that is made so
pub stripes_like_or_none : (j : Value) (l : Like) → SomeOrNone (ℕ × ℕ) (λ x. HasStripesLike j l x.0 x.1)
stripes_like_or_none j (Keyslot n) = stripes_or_none j n
stripes_like_or_none j (Digest number len) = inl ((len, 4000), (refl, refl))

-- where it has them, what it is made like is there
pub stripes_there : (j : Value) (l : Like) (a b : ℕ) → HasStripesLike j l a b → IsThereLike j l
stripes_there j (Keyslot n) a b x = stripes_in_use j n a b x
stripes_there j (Digest number len) a b x = tt

-- its key has one length
pub one_length_like : (j : Value) (l : Like) (a b c d : ℕ) → HasStripesLike j l a b → HasStripesLike j l c d → a ≡ c
one_length_like j (Keyslot n) a b c d x y = one_key_length j n a b c d x y
one_length_like j (Digest number len) a b c d x y = x.0 ∙ sym y.0

-- and it has one number of stripes
pub one_stripes_like : (j : Value) (l : Like) (a b c d : ℕ) → HasStripesLike j l a b → HasStripesLike j l c d → b ≡ d
one_stripes_like j (Keyslot n) a b c d x y = one_stripes j n a b c d x y
one_stripes_like j (Digest number len) a b c d x y = x.1 ∙ sym y.1
