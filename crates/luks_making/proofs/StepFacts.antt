-- New values that are made in several steps.
use Rattle.std.proofs.Common.{◌≡◌, ℕ, List, [], codes, Option, Some, option_and_then, refl, ap, ◌∙◌}
use Rattle.std.specs.Option.{unwrap_or}
use Rattle.serde_json.specs.Data.{Data, no_members, number, string, unsigned, put}
use Rattle.serde_json.specs.Find.{get}
use Rattle.luks_json.specs.Number.{number_text}
use Rattle.luks_making.specs.Changing.{at_member, drop_member, each_member, in_object, set_member}
use Rattle.luks_rules.specs.Reading.{text_of}
use Rattle.luks_making.specs.Amended.{with_priority_number, with_token, without_token}
use Rattle.luks_making.specs.Changed.{renewed_area, renewed_kdf, renewed_slot, resalted_kdf, splitter_hash}
use Rattle.luks_making.specs.Converted.{with_region}
use Rattle.luks_making.specs.Formatted.{VolumeMembers, formatted}
use Rattle.luks_making.specs.Keyslots.{NewMembers, SlotMembers, base64_text, slot_value}
use Rattle.luks_making.specs.With.{with_name, with_slot}
use Rattle.luks_making.specs.Without.{without_name, without_names, without_slot, without_slots}
use Rattle.luks_making.proofs.MemberFacts.{get_kept}

-- a keyslot is taken out
pub without_steps : (n : ℕ) (t : List ℕ) (j a b : Data) → t ≡ number_text n
    → a ≡ at_member (codes "tokens") (in_object (each_member (without_name t))) j
    → b ≡ at_member (codes "digests") (in_object (each_member (without_name t))) a
    → at_member (codes "keyslots") (in_object (drop_member t)) b ≡ without_slot n j
without_steps n t j a b named first second = rw (second, first, named) refl

-- all are
pub emptied_steps : (j a b : Data) → a ≡ at_member (codes "tokens") (in_object (each_member without_names)) j
    → b ≡ at_member (codes "digests") (in_object (each_member without_names)) a
    → at_member (codes "keyslots") (in_object (λ _. no_members)) b ≡ without_slots j
emptied_steps j a b first second = rw (second, first) refl

-- a keyslot is put in
pub with_steps : (n m : ℕ) (s : SlotMembers) (tm tn tk : List ℕ) (j a made : Data) → tm ≡ number_text m → tn ≡ number_text n → tk ≡ number_text n → made ≡ slot_value s
    → a ≡ at_member (codes "digests") (at_member tm (with_name tn)) j → at_member (codes "keyslots") (in_object (put tk made)) a ≡ with_slot n m s j
with_steps n m s tm tn tk j a made first second third is named_by = rw (named_by, is, first, second, third) refl

-- a derivation gets a new salt and new iterations
pub kdf_steps : (f : NewMembers) (k a salt : Data) (count : Data) → count ≡ number (unsigned f.derivation.iterations) → salt ≡ string (base64_text f.salt) → a ≡ set_member (codes "salt") salt k
    → set_member (codes "iterations") count a ≡ resalted_kdf f k
kdf_steps f k a salt count counted encoded salted = rw (salted, encoded, counted) refl

-- a keyslot gets a new area, which doesn't change the hash of its splitter, and then a new derivation
pub slot_steps : (f : NewMembers) (d a : Data) → a ≡ at_member (codes "area") (renewed_area f) d → at_member (codes "kdf") (renewed_kdf f (splitter_hash a)) a ≡ renewed_slot f d
slot_steps f d a moved =
    let same : splitter_hash (at_member (codes "area") (renewed_area f) d) ≡ splitter_hash d =
    ap (λ v. unwrap_or (text_of (option_and_then (get (codes "hash")) v)) []) (get_kept (codes "af") (codes "area") (renewed_area f) d refl) in
    rw moved (ap (λ hash. at_member (codes "kdf") (renewed_kdf f hash) (at_member (codes "area") (renewed_area f) d)) same)

-- a new volume loses its keyslot, and gets another region
pub region_steps : (u : VolumeMembers) (size n : ℕ) (a b : Data) → a ≡ formatted u → b ≡ without_slot 0 a → n ≡ size → with_region n b ≡ with_region size (without_slot 0 (formatted u))
region_steps u size n a b made bare same = ap (λ k. with_region k b) same ∙ ap (with_region size) (bare ∙ ap (without_slot 0) made)

-- a keyslot gets a priority
pub priority_steps : (o : Option ℕ) (p : ℕ) (k v : Data) → o ≡ Some p → v ≡ number (unsigned p) → in_object (put (codes "priority") v) k ≡ with_priority_number o k
priority_steps o p k v has is = rw (has, is) refl

-- a token is put in, and one is taken out
pub token_steps : (n : ℕ) (name : List ℕ) (t own j : Data) → name ≡ number_text n → own ≡ t → at_member (codes "tokens") (in_object (put name own)) j ≡ with_token n t j
token_steps n name t own j named same = rw (named, same) refl

pub token_left : (n : ℕ) (name : List ℕ) (j : Data) → name ≡ number_text n → at_member (codes "tokens") (in_object (drop_member name)) j ≡ without_token n j
token_left n name j named = rw named refl
