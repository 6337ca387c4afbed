-- The metadata that an edit makes is one except for the salt.
use Rattle.std.proofs.Common.{◌≡◌, ℕ, ◌*◌, List, length, codes, Option, Some, None, refl, sym, ap, subst, ◌∙◌, arith}
use Rattle.std.proofs.lemmas.Option.{same_Some}
use Rattle.base64.specs.GeneralPurpose.{IsBytes}
use Rattle.serde_json.specs.Data.{Data as Value}
use Rattle.serde_json.specs.Written.{compact_text}
use Rattle.luks_area.specs.declared.area.Area.{Area}
use Rattle.luks_making.specs.Changed.{changed_slot}
use Rattle.luks_rules.specs.declared.table.Outer.TheVariants as outer
use Rattle.luks_rules.specs.Faults.{type_at}
use Rattle.luks_making.specs.declared.derivation.Argon2Costs.{Argon2Costs}
use Rattle.luks_making.specs.declared.derivation.AskedDerivation.{AskedDerivation}
use Rattle.luks_making.specs.declared.derivation.NewDerivation.{NewDerivation}
use Rattle.luks_making.specs.Keyslots.{IsMadeFrom, NewMembers, SlotMembers, by_argon2i, by_argon2id, by_pbkdf2, derivation_by, Deriving, HasCosts, IsDerivedLike, IsDerivedOr}
use Rattle.luks_making.specs.With.{with_slot}
use Rattle.luks_reading.specs.declared.report.Data.{Data}
use Rattle.luks_reading.specs.Layout2.{Luks2Area}
use Rattle.luks_edit.specs.declared.edit.Edit.{Edit}
use Rattle.luks_edit.specs.declared.edit.Edit.TheVariants.{Add, AddByKey, Change, Remove, Erase, Repair, Label, Uuid, Amend}
use Rattle.luks_edit.specs.declared.edit.Opener.{Opener}
use Rattle.luks_edit.specs.declared.edit.Opener.TheVariants as opener
use Rattle.luks_edit.specs.Asked.{chosen_or}
use Rattle.luks2_edit_laws.specs.declared.like.Like.{Like}
use Rattle.luks2_edit_laws.specs.declared.like.Like.TheVariants.{Keyslot, Digest}
use Rattle.luks2_edit_laws.specs.Likes.{fresh_members, ForLike}
use Rattle.luks2_edit_laws.specs.Edited.{HasAdded, HasChanged, IsEdited, members_of}
use Rattle.luks2_edit_laws.specs.Gap.{IsGap}
use Rattle.luks2_edit_laws.specs.Metadata.{IsNewKeyslot}
use Rattle.luks2_edit_laws.specs.Places.{key_areas_end, rounded_to_blocks, IsNewArea}
use Rattle.luks2_judging.specs.Salts.{HasOneDigest}
use Rattle.luks2_judging.proofs.EncodedFacts.{quoted_length}
use Rattle.luks2_judging.proofs.SaltFacts.{AsLong, changed_as_long, SaltsAsLong, SameButSalt, with_as_long}
use Rattle.luks2_edit_laws.proofs.AmendedFacts.{amended_once}
use Rattle.luks2_edit_laws.proofs.ToldFacts.{same_stripes_like}
use Rattle.luks2_edit_laws.proofs.LikeFacts.{for_like}

pub new_once : (j : Value) (to : Option ℕ) (n m : ℕ) → IsNewKeyslot j to n → IsNewKeyslot j to m → n ≡ m
new_once j (Some t) n m x y = x ∙ sym y
new_once j None n m x y = let low = x.least m y.free in let high = y.least n x.free in omega (arith, low, high)

-- ---- the new area

module _ (h total : ℕ) (payload : Data) (j : Value) (like : Like) (a b : Area) (x : IsNewArea h total payload j like a) (y : IsNewArea h total payload j like b) where
  pub len_once : a.len ≡ b.len
  len_once =
      let s = same_stripes_like j like x.key_bytes x.stripes y.key_bytes y.stripes x.slot y.slot in
      x.len ∙ ap (λ k. rounded_to_blocks (k * x.stripes)) s.key_bytes ∙ ap (λ k. rounded_to_blocks (y.key_bytes * k)) s.stripes ∙ sym y.len

  region_once : x.region ≡ y.region
  region_once = same_Some x.region y.region (sym x.region_is ∙ y.region_is)

  there : IsGap (Luks2Area j h payload total) (2 * h) (key_areas_end h total x.region) a.len b.start
  there =
      subst (λ k. IsGap (Luks2Area j h payload total) (2 * h) (key_areas_end h total x.region) k b.start) (sym len_once)
      (subst (λ r. IsGap (Luks2Area j h payload total) (2 * h) (key_areas_end h total r) b.len b.start) (sym region_once) y.gap.gap)

  back : IsGap (Luks2Area j h payload total) (2 * h) (key_areas_end h total y.region) b.len a.start
  back =
      subst (λ k. IsGap (Luks2Area j h payload total) (2 * h) (key_areas_end h total y.region) k a.start) len_once
      (subst (λ r. IsGap (Luks2Area j h payload total) (2 * h) (key_areas_end h total r) a.len a.start) region_once x.gap.gap)

  pub start_once : a.start ≡ b.start
  start_once = let low = x.gap.least b.start there in let high = y.gap.least a.start back in omega (arith, low, high)

-- ---- a keyslot that is made

-- costs of these numbers
abbrev costs_of : ℕ → ℕ → ℕ → Argon2Costs
costs_of t m c = record { time = t; memory = m; cpus = c }

-- the costs of Argon2 are those of the other keyslot
costs_once : (d : Value) (a b : Argon2Costs) → HasCosts d a → HasCosts d b → a ≡ b
costs_once d a b x y =
    ap (λ t. costs_of t a.memory a.cpus) (same_Some a.time b.time (sym x.time ∙ y.time))
    ∙ (ap (λ m. costs_of b.time m a.cpus) (same_Some a.memory b.memory (sym x.memory ∙ y.memory))
    ∙ ap (λ c. costs_of b.time b.memory c) (same_Some a.cpus b.cpus (sym x.cpus ∙ y.cpus)))

-- a keyslot has one type of derivation
other_kind : (d : Value) (k l : List ℕ) → type_at d outer.Kdf ≡ Some k → type_at d outer.Kdf ≡ Some l → (Some k ≡ Some l → ⊥) → ⊥
other_kind d k l x y off = off (sym x ∙ y)

-- so a keyslot that is made with its members has one derivation
derived_once : (d : Value) (m n : ℕ) (a b : Deriving) → m ≡ n → IsDerivedLike d m a → IsDerivedLike d n b → a ≡ b
derived_once d m n (by_pbkdf2 h i) (by_pbkdf2 g k) same x y =
    let hash : h ≡ g = same_Some h g (sym x.1 ∙ y.1) in
    let turns : i ≡ k = x.2 ∙ same ∙ sym y.2 in
    rw (hash, turns) refl
derived_once d m n (by_pbkdf2 h i) (by_argon2i c) same x y = absurd (other_kind d (codes "pbkdf2") (codes "argon2i") x.0 y.0 (λ e. cc))
derived_once d m n (by_pbkdf2 h i) (by_argon2id c) same x y = absurd (other_kind d (codes "pbkdf2") (codes "argon2id") x.0 y.0 (λ e. cc))
derived_once d m n (by_argon2i c) (by_pbkdf2 g k) same x y = absurd (other_kind d (codes "argon2i") (codes "pbkdf2") x.0 y.0 (λ e. cc))
derived_once d m n (by_argon2i c) (by_argon2i e) same x y = ap by_argon2i (costs_once d c e x.1 y.1)
derived_once d m n (by_argon2i c) (by_argon2id e) same x y = absurd (other_kind d (codes "argon2i") (codes "argon2id") x.0 y.0 (λ e. cc))
derived_once d m n (by_argon2id c) (by_pbkdf2 g k) same x y = absurd (other_kind d (codes "argon2id") (codes "pbkdf2") x.0 y.0 (λ e. cc))
derived_once d m n (by_argon2id c) (by_argon2i e) same x y = absurd (other_kind d (codes "argon2id") (codes "argon2i") x.0 y.0 (λ e. cc))
derived_once d m n (by_argon2id c) (by_argon2id e) same x y = ap by_argon2id (costs_once d c e x.1 y.1)

-- or the one that is chosen
derived_or_once : (d : Value) (n : ℕ) (g h : List ℕ) (chosen : Option NewDerivation) (a b : Deriving) → g ≡ h → IsDerivedOr d n g chosen a → IsDerivedOr d n h chosen b → a ≡ b
derived_or_once d n g h None a b hash x y = derived_once d n n a b refl x y
derived_or_once d n g h (Some c) a b hash x y = x ∙ ap (λ k. derivation_by k c) hash ∙ sym y

made_once : (d : Value) (f g : NewMembers) (s t : SlotMembers) → IsMadeFrom d f s → IsMadeFrom d g t
    → f.offset ≡ g.offset → f.size ≡ g.size → f.derivation ≡ g.derivation → SaltsAsLong f.salt g.salt → SameButSalt s t
made_once d f g s t x y offset size asked salts = record {
  key_size = same_Some s.key_size t.key_size (sym x.key_size ∙ y.key_size);
  stripes = same_Some s.stripes t.stripes (sym x.stripes ∙ y.stripes);
  splitter_hash = same_Some s.splitter_hash t.splitter_hash (sym x.splitter_hash ∙ y.splitter_hash);
  offset = x.offset ∙ offset ∙ sym y.offset;
  size = x.size ∙ size ∙ sym y.size;
  encryption = same_Some s.encryption t.encryption (sym x.encryption ∙ y.encryption);
  area_key_size = same_Some s.area_key_size t.area_key_size (sym x.area_key_size ∙ y.area_key_size);
  derivation = derived_or_once d g.derivation.iterations s.splitter_hash t.splitter_hash g.derivation.chosen s.derivation t.derivation
      (same_Some s.splitter_hash t.splitter_hash (sym x.splitter_hash ∙ y.splitter_hash))
      (subst (λ a. IsDerivedOr d a.iterations s.splitter_hash a.chosen s.derivation) asked x.derivation) y.derivation;
  salt = subst (λ l. SaltsAsLong l t.salt) (sym x.salt) (subst (λ l. SaltsAsLong f.salt l) (sym y.salt) salts);
}

-- ---- the new metadata

module _ (h total : ℕ) (payload : Data) (j : Value) (a b : List ℕ) (salts : SaltsAsLong a b) (digests : HasOneDigest j) where
  added_like_as_long : (by_ : ℕ) (to : Option ℕ) (asked : AskedDerivation) (x y : Value)
      → HasAdded h total payload to asked a j x (Keyslot by_) → HasAdded h total payload to asked b j y (Keyslot by_) → AsLong x y
  added_like_as_long by_ to asked x y one two =
      let slot : one.slot ≡ two.slot = new_once j to one.slot two.slot one.is_new two.is_new in
      let from : one.is.from ≡ two.is.from = same_Some one.is.from two.is.from (sym one.is.there.is ∙ two.is.there.is) in
      let digest : one.is.digest ≡ two.is.digest = digests.one by_ one.is.digest two.is.digest one.is.names two.is.names in
      let made : SameButSalt one.is.slot two.is.slot =
      made_once two.is.from (members_of asked a one.area) (members_of asked b two.area) one.is.slot two.is.slot
      (subst (λ d. IsMadeFrom d (members_of asked a one.area) one.is.slot) from one.is.made) two.is.made
      (start_once h total payload j (Keyslot by_) one.area two.area one.place two.place) (len_once h total payload j (Keyslot by_) one.area two.area one.place two.place) refl salts in
      let long : AsLong (with_slot one.slot one.is.digest one.is.slot j) (with_slot one.slot one.is.digest two.is.slot j) =
      with_as_long one.slot one.is.digest one.is.slot two.is.slot j made in
      let same : AsLong (with_slot one.slot one.is.digest one.is.slot j) (with_slot two.slot two.is.digest two.is.slot j) =
      subst (λ m. AsLong (with_slot one.slot one.is.digest one.is.slot j) (with_slot two.slot m two.is.slot j)) digest
      (subst (λ n. AsLong (with_slot one.slot one.is.digest one.is.slot j) (with_slot n one.is.digest two.is.slot j)) slot long) in
      subst (λ v. AsLong v y) (sym one.is.is) (subst (λ v. AsLong (with_slot one.slot one.is.digest one.is.slot j) v) (sym two.is.is) same)

  -- of one like that of a new volume
  fresh_as_long : (number key_bytes : ℕ) (to : Option ℕ) (asked : AskedDerivation) (x y : Value)
      → HasAdded h total payload to asked a j x (Digest number key_bytes) → HasAdded h total payload to asked b j y (Digest number key_bytes) → AsLong x y
  fresh_as_long number key_bytes to asked x y one two =
      let f : NewMembers = members_of asked a one.area in
      let g : NewMembers = members_of asked b two.area in
      let slot : one.slot ≡ two.slot = new_once j to one.slot two.slot one.is_new two.is_new in
      let made : SameButSalt (fresh_members key_bytes f) (fresh_members key_bytes g) = record {
        key_size = refl;
        stripes = refl;
        splitter_hash = refl;
        offset = start_once h total payload j (Digest number key_bytes) one.area two.area one.place two.place;
        size = len_once h total payload j (Digest number key_bytes) one.area two.area one.place two.place;
        encryption = refl;
        area_key_size = refl;
        derivation = refl;
        salt = salts;
      } in
      let long : AsLong (with_slot one.slot number (fresh_members key_bytes f) j) (with_slot one.slot number (fresh_members key_bytes g) j) =
      with_as_long one.slot number (fresh_members key_bytes f) (fresh_members key_bytes g) j made in
      let same : AsLong (with_slot one.slot number (fresh_members key_bytes f) j) (with_slot two.slot number (fresh_members key_bytes g) j) =
      subst (λ n. AsLong (with_slot one.slot number (fresh_members key_bytes f) j) (with_slot n number (fresh_members key_bytes g) j)) slot long in
      subst (λ v. AsLong v y) (sym one.is) (subst (λ v. AsLong (with_slot one.slot number (fresh_members key_bytes f) j) v) (sym two.is) same)

  made_as_long : (like : Like) (to : Option ℕ) (asked : AskedDerivation) (x y : Value)
      → HasAdded h total payload to asked a j x like → HasAdded h total payload to asked b j y like → AsLong x y
  made_as_long (Keyslot by_) to asked x y one two = added_like_as_long by_ to asked x y one two
  made_as_long (Digest number key_bytes) to asked x y one two = fresh_as_long number key_bytes to asked x y one two

  added_as_long : (o : Opener) (to : Option ℕ) (asked : AskedDerivation) (x y : Value)
      → ForLike j o (HasAdded h total payload to asked a j x) → ForLike j o (HasAdded h total payload to asked b j y) → AsLong x y
  added_as_long o to asked x y one two = made_as_long one.like to asked x y one.has (for_like j o (HasAdded h total payload to asked b j y) one.like one.is_like two)

  renewed_as_long : (slot : ℕ) (asked : AskedDerivation) (x y : Value)
      → HasChanged h total payload slot asked a j x → HasChanged h total payload slot asked b j y → AsLong x y
  renewed_as_long slot asked x y one two =
      let start = start_once h total payload j (Keyslot slot) one.area two.area one.place two.place in
      let len = len_once h total payload j (Keyslot slot) one.area two.area one.place two.place in
      let same : changed_slot slot (members_of asked b one.area) j ≡ changed_slot slot (members_of asked b two.area) j =
      ap (λ n. changed_slot slot (record { derivation = asked; salt = b; offset = n; size = one.area.len }) j) start
      ∙ ap (λ n. changed_slot slot (record { derivation = asked; salt = b; offset = two.area.start; size = n }) j) len in
      let long : AsLong (changed_slot slot (members_of asked a one.area) j) (changed_slot slot (members_of asked b one.area) j) =
      changed_as_long asked a b one.area slot j salts in
      subst (λ v. AsLong v y) (sym one.is) (subst (λ v. AsLong (changed_slot slot (members_of asked a one.area) j) v) (same ∙ sym two.is) long)

  edited_as_long : (e : Edit) (x y : Value) → IsEdited h total payload e a j x → IsEdited h total payload e b j y → AsLong x y
  edited_as_long (Add by_ old new to iterations chosen) x y one two = added_as_long (opener.Keyslot by_ old) to (record { iterations = iterations; chosen = chosen }) x y one two
  edited_as_long (AddByKey key new to iterations chosen) x y one two =
      added_as_long (opener.Key key) to (record { iterations = iterations; chosen = Some (chosen_or iterations chosen) }) x y one two
  edited_as_long (Change slot old new iterations chosen) x y one two = renewed_as_long slot (record { iterations = iterations; chosen = chosen }) x y one two
  edited_as_long (Remove slot by_ passphrase) x y one two = subst (λ v. AsLong x v) (one ∙ sym two) refl
  edited_as_long Erase x y one two = subst (λ v. AsLong x v) (one ∙ sym two) refl
  edited_as_long Repair x y one two = subst (λ v. AsLong x v) (one ∙ sym two) refl
  edited_as_long (Label text subsystem) x y one two = subst (λ v. AsLong x v) (one ∙ sym two) refl
  edited_as_long (Uuid uuid) x y one two = subst (λ v. AsLong x v) (one ∙ sym two) refl
  edited_as_long (Amend c) x y one two = subst (λ v. AsLong x v) (amended_once (Some c) j x y one two) refl

salts_long : (a b : List ℕ) → IsBytes a → IsBytes b → length a ≡ length b → SaltsAsLong a b
salts_long a b one two same = record { same = quoted_length a b one two same }

-- so its text is as long with one salt as with another
pub texts_as_long : (h total : ℕ) (payload : Data) (e : Edit) (a b : List ℕ) (j x y : Value) → IsBytes a → IsBytes b → length a ≡ length b → HasOneDigest j
    → IsEdited h total payload e a j x → IsEdited h total payload e b j y → length (compact_text x) ≡ length (compact_text y)
texts_as_long h total payload e a b j x y one two same digests first second = edited_as_long h total payload j a b (salts_long a b one two same) digests e x y first second
