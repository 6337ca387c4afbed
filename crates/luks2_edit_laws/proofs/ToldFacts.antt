-- What the metadata tells is one thing: a keyslot's stripes, how many random bytes an edit takes, and a
-- number in its range.
use Rattle.std.proofs.Common.{◌≡◌, ℕ, ◌+◌, ◌-◌, ◌*◌, Some, None, Option, sym, ap, ◌∙◌, refl, codes, true, false, cond, Bool, option_and_then}
use Rattle.std.proofs.lemmas.Bool.{and_parts, leb-true}
use Rattle.std.proofs.lemmas.Option.{same_Some}
use Rattle.serde_json.specs.Data.{Data as Value}
use Rattle.luks_rules.specs.declared.table.Outer.TheVariants as outer
use Rattle.luks_rules.specs.Reading.{is_between, kept, number_in}
use Rattle.luks_rules.specs.Reading.{number_of as whole_of}
use Rattle.luks_rules.specs.Sizes.{inside_at}
use Rattle.luks_making.specs.Conditions.{Between}
use Rattle.luks_edit.specs.declared.edit.Edit.{Edit}
use Rattle.luks_edit.specs.declared.edit.Edit.TheVariants.{Add, AddByKey, Change, Remove, Erase, Repair, Label, Uuid, Amend}
use Rattle.luks_edit.specs.declared.edit.Opener.{Opener}
use Rattle.luks_edit.specs.declared.edit.Opener.TheVariants as opener
use Rattle.luks2_edit_laws.specs.declared.like.Like.{Like}
use Rattle.luks2_edit_laws.specs.declared.like.Like.TheVariants.{Keyslot, Digest}
use Rattle.luks2_edit_laws.specs.Likes.{ForLike, HasStripesLike}
use Rattle.luks2_edit_laws.specs.Metadata.{HasStripes}
use Rattle.luks2_edit_laws.specs.Refused.{Need2, NeedsLike}
use Rattle.luks2_edit_laws.proofs.LikeFacts.{for_like}

-- the numbers of a keyslot are one pair
pub record SameStripes (a b x y : ℕ) : Type 0 where
  pub key_bytes : a ≡ x
  pub stripes : b ≡ y

pub same_stripes : (j : Value) (n a b x y : ℕ) → HasStripes j n a b → HasStripes j n x y → SameStripes a b x y
same_stripes j n a b x y one two =
    let object : one.object ≡ two.object = same_Some one.object two.object (sym one.there.is ∙ two.there.is) in
    record {
      key_bytes = same_Some a x (sym one.key_bytes_are ∙ ap (λ d. number_in 1 128 (inside_at outer.Top (codes "key_size") d)) object ∙ two.key_bytes_are);
      stripes = same_Some b y (sym one.stripes_are ∙ ap (λ d. number_in 1 4294967295 (inside_at outer.Af (codes "stripes") d)) object ∙ two.stripes_are);
    }

-- and those of what a new keyslot is made like
pub same_stripes_like : (j : Value) (like : Like) (a b x y : ℕ) → HasStripesLike j like a b → HasStripesLike j like x y → SameStripes a b x y
same_stripes_like j (Keyslot n) a b x y one two = same_stripes j n a b x y one two
same_stripes_like j (Digest number key_bytes) a b x y one two = record { key_bytes = one.0 ∙ sym two.0; stripes = one.1 ∙ sym two.1 }

needed_like : (j : Value) (like : Like) (a b : ℕ) → NeedsLike j a like → NeedsLike j b like → a ≡ b
needed_like j like a b x y =
    let s = same_stripes_like j like x.key_bytes x.stripes y.key_bytes y.stripes x.slot y.slot in
    x.count ∙ ap (λ k. 64 + 64 + 32 + (x.stripes - 1) * k) s.key_bytes ∙ ap (λ k. 64 + 64 + 32 + (k - 1) * y.key_bytes) s.stripes ∙ sym y.count

needed_once : (j : Value) (o : Opener) (a b : ℕ) → ForLike j o (NeedsLike j a) → ForLike j o (NeedsLike j b) → a ≡ b
needed_once j o a b x y = needed_like j x.like a b x.has (for_like j o (NeedsLike j b) x.like x.is_like y)

pub need_once : (j : Value) (e : Edit) (a b : ℕ) → Need2 j e a → Need2 j e b → a ≡ b
need_once j (Add by_ old new to iterations d) a b x y = needed_once j (opener.Keyslot by_ old) a b x y
need_once j (AddByKey key new to iterations d) a b x y = needed_once j (opener.Key key) a b x y
need_once j (Change slot old new iterations d) a b x y = needed_once j (opener.Keyslot slot old) a b x y
need_once j (Remove slot by_ passphrase) a b x y = x ∙ sym y
need_once j Erase a b x y = x ∙ sym y
need_once j Repair a b x y = x ∙ sym y
need_once j (Label text subsystem) a b x y = x ∙ sym y
need_once j (Uuid uuid) a b x y = x ∙ sym y
need_once j (Amend c) a b x y = x ∙ sym y

-- a number that is read is in its range
kept_by : (b : Bool) (x n : ℕ) → cond b (Some x) None ≡ Some n → (b ≡ true) × (x ≡ n)
kept_by true x n e = (refl, cc)
kept_by false x n e = absurd (cc)

between_of : (least most n : ℕ) (o : Option ℕ) → option_and_then (kept (is_between least most)) o ≡ Some n → Between least most n
between_of least most n None e = absurd (cc)
between_of least most n (Some x) e =
    let p = kept_by (is_between least most x) x n e in
    let q = and_parts _ _ p.0 in
    rw (← p.1) record { from = leb-true least x q.0; to = leb-true x most q.1 }

pub in_between : (least most n : ℕ) (v : Option Value) → number_in least most v ≡ Some n → Between least most n
in_between least most n v e = between_of least most n (whole_of v) e
