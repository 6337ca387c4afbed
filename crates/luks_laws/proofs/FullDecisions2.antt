-- The metadata that an edit of a LUKS2 volume makes is there or not, and its text leaves room in the JSON area or doesn't.
use Rattle.std.proofs.Common.{◌≡◌, ◌⊎◌, ℕ, zero, suc, ◌-◌, ◌≤◌, ◌<◌, List, length, slice_index, replicate, Option, refl, sym, subst, ◌∙◌, arith, inl, inr}
use Rattle.std.proofs.lemmas.List.{length-replicate}
use Rattle.base64.specs.GeneralPurpose.{IsBytes}
use Rattle.serde_json.specs.Data.{Data as Value}
use Rattle.serde_json.specs.Written.{compact_text}
use Rattle.luks_area.specs.declared.area.Area.{Area}
use Rattle.luks2_header.specs.Header2.{binary_header_size}
use Rattle.luks_making.specs.Changed.{changed_slot}
use Rattle.luks_making.specs.declared.derivation.AskedDerivation.{AskedDerivation}
use Rattle.luks_making.specs.Keyslots.{IsDerivedOr, IsMadeFrom, NewMembers}
use Rattle.luks_making.specs.With.{IsAdded, with_slot}
use Rattle.luks_making.specs.Without.{without_slot, without_slots}
use Rattle.luks_reading.specs.declared.report.Data.{Data}
use Rattle.luks_edit.specs.declared.deed.Deed.{Deed}
use Rattle.luks_edit.specs.declared.deed.Deed.TheVariants as deed
use Rattle.luks_edit.specs.declared.deed.Place.{Place}
use Rattle.luks_edit.specs.declared.deed.Place.TheVariants.{New, Opened}
use Rattle.luks_edit.specs.declared.edit.Edit.{Edit}
use Rattle.luks_edit.specs.declared.edit.Opener.{Opener}
use Rattle.luks_edit.specs.Asked.{deed_of, MatchDeed, MatchPlace}
use Rattle.luks2_edit_laws.specs.declared.like.Like.{Like}
use Rattle.luks2_edit_laws.specs.declared.like.Like.TheVariants.{Keyslot, Digest}
use Rattle.luks2_edit_laws.specs.Edited.{HasAdded, HasChanged, IsAmended, IsEdited, members_of}
use Rattle.luks2_edit_laws.specs.Likes.{ForLike, fresh_members, IsAddedLike}
use Rattle.luks2_edit_laws.specs.Places.{HasNoNewArea, IsNewArea}
use Rattle.luks2_edit_laws.specs.Refused.{IsFull}
use Rattle.luks2_judging.specs.Keys.{IsThereLike}
use Rattle.luks_laws.proofs.ChangeDecisions2.{amended_or_none}
use Rattle.luks_laws.proofs.DecidedFacts.{at_most_decided, Decided}
use Rattle.luks_laws.proofs.SearchFacts.{some_same, SomeOrNone}
use Rattle.luks_laws.proofs.LikeDecisions2.{for_like_or_none}
use Rattle.luks_laws.proofs.MemberDecisions2.{digest_or_none, made_or_none, new_number, object_or_none}
use Rattle.luks_laws.proofs.RowDecisions2.{area_or_none}

-- ---- a value with one more keyslot

-- whether a keyslot is added depends neither on its number nor on its salt and its area
added_alike : (to other by : ℕ) (f g : NewMembers) (j new : Value) → f.derivation ≡ g.derivation → IsAdded to by f j new → (k : Value) × IsAdded other by g j k
added_alike to other by f g j new asked x =
    let slot = record x.slot { offset = g.offset; size = g.size; salt = g.salt } in (
      with_slot other x.digest slot j,
      record {
        from = x.from;
        there = x.there;
        slot = slot;
        made = record {
          key_size = x.made.key_size;
          stripes = x.made.stripes;
          splitter_hash = x.made.splitter_hash;
          encryption = x.made.encryption;
          area_key_size = x.made.area_key_size;
          derivation = subst (λ a. IsDerivedOr x.from a.iterations x.slot.splitter_hash a.chosen x.slot.derivation) asked x.made.derivation;
          offset = refl;
          size = refl;
          salt = refl;
        };
        digest = x.digest;
        names = x.names;
        is = refl;
      },
    )

-- a keyslot is added, or its members or its digest aren't there
added_or_none : (to by : ℕ) (f : NewMembers) (j : Value) → SomeOrNone Value (IsAdded to by f j)
added_or_none to by f j = elim (object_or_none j by) [
  | inl d ↦ elim (made_or_none d.0 f) [
    | inl s ↦ elim (digest_or_none j by) [
      | inl m ↦ inl (
        with_slot to m.0 s.0 j,
        record {
          from = d.0;
          there = record { numbered = refl; named = d.1.0; is = d.1.1 };
          slot = s.0;
          made = s.1;
          digest = m.0;
          names = m.1;
          is = refl;
        },
      )
      | inr none ↦ inr (λ k x. none x.digest x.names)
    ]
    | inr none ↦ inr (λ k x. none x.slot (subst (λ o. IsMadeFrom o f x.slot) (some_same x.from d.0 (sym x.there.is ∙ d.1.1)) x.made))
  ]
  | inr none ↦ inr (λ k x. none x.from (x.there.named, x.there.is))
]

-- ---- whatever it is made like

-- the same of each keyslot that one may be made like
added_like_alike : (to other : ℕ) (l : Like) (f g : NewMembers) (j new : Value) → f.derivation ≡ g.derivation → IsAddedLike to l f j new → (k : Value) × IsAddedLike other l g j k
added_like_alike to other (Keyslot by) f g j new asked x = added_alike to other by f g j new asked x
added_like_alike to other (Digest number len) f g j new asked x = (with_slot other number (fresh_members len g) j, refl)

added_like_or_none : (to : ℕ) (l : Like) (f : NewMembers) (j : Value) → SomeOrNone Value (IsAddedLike to l f j)
added_like_or_none to (Keyslot by) f j = added_or_none to by f j
added_like_or_none to (Digest number len) f j = inl (with_slot to number (fresh_members len f) j, refl)

-- ---- the value that an edit makes

-- the value that is made by what the edit does
abbrev EditedIn : ℕ → ℕ → Data → Deed → List ℕ → Value → Value → Type 0
EditedIn h total payload d salt j k = MatchDeed d
    (λ s. MatchPlace s.place (λ o to. ForLike j o (HasAdded h total payload to s.derivation salt j k)) (λ slot secret. HasChanged h total payload slot s.derivation salt j k))
    (λ r. k ≡ without_slot r.slot j) (λ r. IsAmended r.change j k) (k ≡ without_slots j)

module _ (h total : ℕ) (payload : Data) (j : Value)
    (area : (l : Like) → IsThereLike j l → ((a : Area) × IsNewArea h total payload j l a) ⊎ HasNoNewArea h total payload j l) where
  -- an addition like this one makes a value, or it lacks a number, an area, a member or a digest
  add_like_or_none : (to : Option ℕ) (asked : AskedDerivation) (salt : List ℕ) (l : Like) → SomeOrNone Value (λ k. HasAdded h total payload to asked salt j k l)
  add_like_or_none to asked salt l = elim (new_number j to) [
    | inl n ↦ elim (area_or_none h total payload j area l) [
      | inl a ↦ elim (added_like_or_none n.0 l (members_of asked salt a.0) j) [
        | inl new ↦ inl (new.0, record { slot = n.0; is_new = n.1; area = a.0; place = a.1; is = new.1 })
        | inr none ↦ inr (λ k x. (let y = added_like_alike x.slot n.0 l (members_of asked salt x.area) (members_of asked salt a.0) j k refl x.is in none y.0 y.1))
      ]
      | inr none ↦ inr (λ k x. none x.area x.place)
    ]
    | inr none ↦ inr (λ k x. none x.slot x.is_new)
  ]

  -- or by the opener nothing is there that it would be made like
  add_or_none : (o : Opener) (to : Option ℕ) (asked : AskedDerivation) (salt : List ℕ) → SomeOrNone Value (λ k. ForLike j o (HasAdded h total payload to asked salt j k))
  add_or_none o to asked salt = for_like_or_none j o (λ k. HasAdded h total payload to asked salt j k) (add_like_or_none to asked salt)

  -- a change makes a value, or it lacks an area
  change_or_none : (slot : ℕ) (asked : AskedDerivation) (salt : List ℕ) → SomeOrNone Value (HasChanged h total payload slot asked salt j)
  change_or_none slot asked salt = elim (area_or_none h total payload j area (Keyslot slot)) [
    | inl a ↦ inl (changed_slot slot (members_of asked salt a.0) j, record { area = a.0; place = a.1; is = refl })
    | inr none ↦ inr (λ k x. none x.area x.place)
  ]

  -- a key that is sealed makes a value, or none
  sealed_or_none : (p : Place) (asked : AskedDerivation) (salt : List ℕ)
      → SomeOrNone Value (λ k. MatchPlace p (λ o to. ForLike j o (HasAdded h total payload to asked salt j k)) (λ slot secret. HasChanged h total payload slot asked salt j k))
  sealed_or_none (New o to) asked salt = add_or_none o to asked salt
  sealed_or_none (Opened slot secret) asked salt = change_or_none slot asked salt

  -- an edit makes a value with a salt, or it makes none
  edited_in : (d : Deed) (salt : List ℕ) → SomeOrNone Value (λ k. EditedIn h total payload d salt j k)
  edited_in (deed.Seal s) salt = sealed_or_none s.place s.derivation salt
  edited_in (deed.Remove r) salt = inl (without_slot r.slot j, refl)
  edited_in (deed.Rewrite r) salt = amended_or_none j r.change
  edited_in deed.Erase salt = inl (without_slots j, refl)

  edited_or_none : (e : Edit) (salt : List ℕ) → SomeOrNone Value (IsEdited h total payload e salt j)
  edited_or_none e = edited_in (deed_of e)

-- with another salt an edit makes a value too
module _ (h total : ℕ) (payload : Data) (a b : List ℕ) (j x : Value) where
  added_anew : (o : Opener) (to : Option ℕ) (asked : AskedDerivation) → ForLike j o (HasAdded h total payload to asked a j x) → (y : Value) × ForLike j o (HasAdded h total payload to asked b j y)
  added_anew o to asked is =
      let has = is.has in
      let y = added_like_alike has.slot has.slot is.like (members_of asked a has.area) (members_of asked b has.area) j x refl has.is in
      (y.0, record { like = is.like; is_like = is.is_like; has = record { slot = has.slot; is_new = has.is_new; area = has.area; place = has.place; is = y.1 } })

  sealed_anew : (p : Place) (asked : AskedDerivation)
      → MatchPlace p (λ o to. ForLike j o (HasAdded h total payload to asked a j x)) (λ slot secret. HasChanged h total payload slot asked a j x)
      → (y : Value) × MatchPlace p (λ o to. ForLike j o (HasAdded h total payload to asked b j y)) (λ slot secret. HasChanged h total payload slot asked b j y)
  sealed_anew (New o to) asked is = added_anew o to asked is
  sealed_anew (Opened slot secret) asked is = (changed_slot slot (members_of asked b is.area) j, record { area = is.area; place = is.place; is = refl })

  salted_in : (d : Deed) → EditedIn h total payload d a j x → (y : Value) × EditedIn h total payload d b j y
  salted_in (deed.Seal s) is = sealed_anew s.place s.derivation is
  salted_in (deed.Remove r) is = (x, is)
  salted_in (deed.Rewrite r) is = (x, is)
  salted_in deed.Erase is = (x, is)

salted_anew : (h total : ℕ) (payload : Data) (e : Edit) (a b : List ℕ) (j x : Value) → IsEdited h total payload e a j x → (y : Value) × IsEdited h total payload e b j y
salted_anew h total payload e a b j x = salted_in h total payload a b j x (deed_of e)

-- ---- its text

-- a salt of zeros
zero_salt : List ℕ
zero_salt = replicate 32 0

-- its places hold bytes
zero_at : (n i : ℕ) → slice_index (replicate n 0) i < 256
zero_at zero i = omega arith
zero_at (suc n) zero = omega arith
zero_at (suc n) (suc i) = zero_at n i

-- it is of bytes
zeros_are_bytes : IsBytes zero_salt
unfolding zero_salt
zeros_are_bytes i = zero_at 32 i

-- and has the length of a salt
zero_salt_length : length zero_salt ≡ 32
unfolding zero_salt
zero_salt_length = length-replicate {A = ℕ} 32 0

module _ (h total : ℕ) (payload : Data) (j : Value)
    (area : (l : Like) → IsThereLike j l → ((a : Area) × IsNewArea h total payload j l a) ⊎ HasNoNewArea h total payload j l) (e : Edit)
    (alike : (a b : List ℕ) (x y : Value) → IsBytes a → IsBytes b → length a ≡ length b → IsEdited h total payload e a j x → IsEdited h total payload e b j y
    → length (compact_text x) ≡ length (compact_text y)) where
  -- with any salt the text is as long as with zeros, so it is too long or isn't
  full_by_zeros : (new : Value) → IsEdited h total payload e zero_salt j new → Decided (IsFull h total payload j e)
  full_by_zeros new is = elim (at_most_decided (h - binary_header_size) (length (compact_text new))) [
    | inl full ↦ inl (record { salt = zero_salt; salt_bytes = zeros_are_bytes; salt_length = zero_salt_length; new = new; edited = is; full = full })
    | inr room ↦ inr (λ x. room (subst (λ n. h - binary_header_size ≤ n)
        (alike x.salt zero_salt x.new new x.salt_bytes zeros_are_bytes (x.salt_length ∙ sym zero_salt_length) x.edited is) x.full))
  ]

  -- the text of the metadata that an edit makes is too long, or it isn't, or there is none
  pub full_decided : Decided (IsFull h total payload j e)
  full_decided = elim (edited_or_none h total payload j area e zero_salt) [
    | inl new ↦ full_by_zeros new.0 new.1
    | inr none ↦ inr (λ x. (let y = salted_anew h total payload e x.salt zero_salt j x.new x.edited in none y.0 y.1))
  ]
