-- The metadata with a keyslot's priority, with a token and without one: what is there of the old, and that
-- it meets every rule that the old met.
use Rattle.std.proofs.Common.{◌≡◌, ◌≢◌, ℕ, true, false, List, [], ◌∷◌, Option, Some, None, option_map, option_and_then, is_some, bytes_eq, codes, refl, sym, ap, subst, ◌∙◌, inl, inr, arith}
use Rattle.std.specs.Prelude.{slice_get}
use Rattle.std.specs.List.{list_any}
use Rattle.std.proofs.lemmas.Bool.{cases_eq}
use Rattle.serde_json.specs.Data.{Data, number, put, unsigned}
use Rattle.serde_json.specs.Find.{get, as_object}
use Rattle.luks_json.specs.Arrays.{all_named, naming_count}
use Rattle.luks_json.specs.Number.{number_text}
use Rattle.luks_rules.specs.declared.table.Section.{Section}
use Rattle.luks_rules.specs.declared.table.Section.TheVariants.{Digests, Keyslots, Tokens}
use Rattle.luks_rules.specs.declared.table.Outer.{Outer}
use Rattle.luks_rules.specs.declared.table.Outer.TheVariants as outer
use Rattle.luks_rules.specs.declared.table.Rule.TheVariants as rule
use Rattle.luks_rules.specs.declared.table.Row.{Row}
use Rattle.luks_rules.specs.Accepted.{HasObject, IsContent, IsRead}
use Rattle.luks_rules.specs.Faults.{is_judged, is_section, object_at, outer_at, section_at}
use Rattle.luks_rules.specs.Held.{IsHeld}
use Rattle.luks_rules.specs.Reading.{decimal_in, number_in, reads}
use Rattle.luks_rules.specs.Table.{keyslot_rows, member_name, section_name}
use Rattle.luks_making.specs.declared.amended.Priority.{Priority}
use Rattle.luks_making.specs.declared.amended.Priority.TheVariants.{Ignore, Normal, Prefer}
use Rattle.luks_making.specs.Amended.{priority_number, with_priority, with_priority_number, with_token, without_token}
use Rattle.luks_making.specs.Changing.{at_member, drop_member, in_object}
use Rattle.luks_making.specs.Naming.{IsDigestOf}
use Rattle.luks_making.specs.Unchanged.{AddsToken, KeepsObjects, KeepsOthers, KeepsUnnamed, LosesToken, SetsPriority}
use Rattle.luks_making.proofs.ChangeFacts.{judged_by}
use Rattle.luks_making.proofs.EachFacts.{IsFine, KeepsFine, Named, each_left, fine_at, fine_left, fine_put, named_map, neither}
use Rattle.luks_making.proofs.EditFacts.{SlotBack, held_edited, kept, made, naming_kept, naming_same, object_same}
use Rattle.luks_making.proofs.MemberFacts.{beside, get_changed, get_gone, get_kept, get_left, mapped, no_some, nowhere, put_beside, put_here, some_same, still_object, tested_object}
use Rattle.luks_making.proofs.NameFacts.{texts_differ}
use Rattle.luks_making.proofs.RowFacts.{RowRead, rows_read}
use Rattle.luks_making.proofs.SlotFacts.{beside_held, maps_edited, naming, other_section, slot_beside, slot_held, slot_here, slots_more}

-- ---- a keyslot with a priority, or without one

-- its other members are as they were
beside_priority : (p : Option ℕ) (d : Data) → KeepsOthers (codes "priority" ∷ []) d (with_priority_number p d)
beside_priority None d k off = get_left k (codes "priority") d (neither _ _ off).0
beside_priority (Some x) d k off = put_beside k (codes "priority") (number (unsigned x)) (Some d) (neither _ _ off).0

still_slot : (p : Option ℕ) (d : Data) → is_some (as_object (with_priority_number p d)) ≡ is_some (as_object d)
still_slot None d = still_object (drop_member (codes "priority")) d
still_slot (Some x) d = still_object (put (codes "priority") (number (unsigned x))) d

-- it says the priority
abbrev said : Option ℕ → Option Data
said = option_map (λ k. number (unsigned k))

says_priority : (p : Option ℕ) (d : Data) → is_some (as_object d) ≡ true → get (codes "priority") (with_priority_number p d) ≡ said p
says_priority None d h = get_gone (codes "priority") d
says_priority (Some x) d h = put_here (codes "priority") (number (unsigned x)) (Some d) h

-- which meets its rule
priority_read : (q : Priority) → is_some (reads (rule.MayBeNumber 0 2) (said (priority_number q))) ≡ true
priority_read Ignore = refl
priority_read Normal = refl
priority_read Prefer = refl

-- the members that may be new, by the object that they are in
abbrev edited_in : Outer → List (List ℕ)
edited_in outer.Top = codes "priority" ∷ []
edited_in outer.Af = []
edited_in outer.Area = []
edited_in outer.Kdf = []

module _ (q : Priority) (d : Data) where
  abbrev slot : Data
  slot = with_priority_number (priority_number q) d

  beside_it : KeepsOthers (codes "priority" ∷ []) d slot
  beside_it = beside_priority (priority_number q) d

  -- a member whose value stays
  member_same : (o : Outer) (k : List ℕ) → list_any (bytes_eq k) (edited_in o) ≡ false → option_and_then (get k) (outer_at slot o) ≡ option_and_then (get k) (outer_at d o)
  member_same outer.Top k off = beside_it k off
  member_same outer.Af k off = ap (option_and_then (get k)) (beside_it (codes "af") refl)
  member_same outer.Area k off = ap (option_and_then (get k)) (beside_it (codes "area") refl)
  member_same outer.Kdf k off = ap (option_and_then (get k)) (beside_it (codes "kdf") refl)

  -- each row is judged as it was
  object_stays : (o : Outer) → is_some (option_and_then as_object (outer_at slot o)) ≡ is_some (option_and_then as_object (outer_at d o))
  object_stays outer.Top = still_slot (priority_number q) d
  object_stays outer.Af = ap (λ v. is_some (option_and_then as_object v)) (beside_it (codes "af") refl)
  object_stays outer.Area = ap (λ v. is_some (option_and_then as_object v)) (beside_it (codes "area") refl)
  object_stays outer.Kdf = ap (λ v. is_some (option_and_then as_object v)) (beside_it (codes "kdf") refl)

  type_off : (o : Outer) → list_any (bytes_eq (codes "type")) (edited_in o) ≡ false
  type_off outer.Top = refl
  type_off o = refl

  judged_same : (r : Row) → is_judged slot r ≡ is_judged d r
  judged_same r = judged_by slot d r (object_stays r.outer) (member_same r.outer (codes "type") (type_off r.outer))

  module _ (read : IsRead keyslot_rows d) where
    kept_row : (i : ℕ) (r : Row) → slice_get keyslot_rows i ≡ Some r → list_any (bytes_eq (member_name r.name)) (edited_in r.outer) ≡ false → RowRead slot r
    kept_row i r here off judged = ap (λ v. is_some (reads r.rule v)) (member_same r.outer (member_name r.name) off) ∙ read.each i r here (sym (judged_same r) ∙ judged)

    says : get (codes "priority") slot ≡ said (priority_number q)
    says = says_priority (priority_number q) d read.is_object

    -- the keyslot meets the rules
    slot_read : IsRead keyslot_rows slot
    slot_read =
        rows_read keyslot_rows slot (still_slot (priority_number q) d ∙ read.is_object) (kept_row 0 _ refl refl) (kept_row 1 _ refl refl) (kept_row 2 _ refl refl) (kept_row 3 _ refl refl)
        (kept_row 4 _ refl refl) (kept_row 5 _ refl refl) (kept_row 6 _ refl refl) (kept_row 7 _ refl refl) (kept_row 8 _ refl refl) (kept_row 9 _ refl refl) (kept_row 10 _ refl refl)
        (kept_row 11 _ refl refl) (kept_row 12 _ refl refl) (kept_row 13 _ refl refl) (kept_row 14 _ refl refl) (kept_row 15 _ refl refl) (kept_row 16 _ refl refl) (kept_row 17 _ refl refl)
        (kept_row 18 _ refl refl) (λ judged. ap (λ v. is_some (reads (rule.MayBeNumber 0 2) v)) says ∙ priority_read q) (kept_row 20 _ refl refl)

-- ---- the metadata with a keyslot's priority

fine_priority : (p : Option ℕ) → KeepsFine 125 (with_priority_number p)
fine_priority None = fine_left 124 (codes "priority")
fine_priority (Some x) = fine_put 124 (codes "priority") (number (unsigned x)) (record { whole = refl; nests = omega arith })

module _ (n : ℕ) (q : Priority) (j : Data) where
  abbrev own : Data → Data
  own = with_priority_number (priority_number q)

  abbrev prior : Data
  prior = with_priority n q j

  fine_prior : IsFine 127 j → IsFine 127 prior
  fine_prior h = fine_at 126 (codes "keyslots") (at_member (number_text n) own) (fine_at 125 (number_text n) own (fine_priority (priority_number q))) j h

  other_slot : (m : ℕ) → Some n ≢ Some m → object_at prior Keyslots m ≡ object_at j Keyslots m
  other_slot m other = slot_beside n own j m (λ same. other (ap Some (sym same)))

  -- each keyslot is there as it was, except for its priority
  slots_kept : KeepsObjects (codes "priority" ∷ []) Keyslots j prior
  slots_kept = record {
    there = λ m was is. elim (cases_eq m n) [
      | inl same ↦ rw same (own was, slot_here n own j ∙ ap (option_map own) (rw same at is), beside_priority (priority_number q) was)
      | inr other ↦ (was, slot_beside n own j m other ∙ is, λ k off. refl)
    ];
    back = λ m d is. elim (cases_eq m n) [
      | inl same ↦ (
          let p = mapped own (object_at j Keyslots n) d (sym (slot_here n own j) ∙ (rw same at is)) in
          rw same (p.0, p.1, λ k off. ap (get k) p.2 ∙ beside_priority (priority_number q) p.0 k off))
      | inr other ↦ (d, sym (slot_beside n own j m other) ∙ is, λ k off. refl)
    ];
  }

  other_token : (m : ℕ) → object_at prior Tokens m ≡ object_at j Tokens m
  other_token m = ap (option_and_then (get (number_text m))) (other_section n own j (codes "tokens") refl)

  prior_rest : KeepsUnnamed (Some n) None j prior
  prior_rest = record {
    keyslots = other_slot;
    named = slots_kept;
    tokens = λ m off. other_token m;
    naming = naming n own j;
    others = λ k off. (let p = neither _ _ off in get_kept k (codes "keyslots") (at_member (number_text n) own) j p.0);
  }

  module _ (len : ℕ) (c : IsContent len j) where
    -- the keyslot that is there, edited
    slot_was : (d : Data) → HasObject prior Keyslots n d → (was : Data) × HasObject j Keyslots n was × (d ≡ own was)
    slot_was d h =
        let p = mapped own (object_at j Keyslots n) d (sym (slot_here n own j) ∙ h.is) in
        (p.0, record { numbered = refl; named = h.named; is = p.1 }, p.2)

    slot_back : (i : ℕ) (d : Data) → HasObject prior Keyslots i d → SlotBack len j i d
    slot_back i d h = elim (cases_eq i n) [
      | inl same ↦ (
          let w = slot_was d (rw same at h) in
          subst (SlotBack len j i) (sym w.2) (made (slot_read q w.0 (c.objects Keyslots n w.0 w.1))
          (λ key stripes size a b z. c.large n w.0 key stripes size w.1 (ap (number_in 1 128) (sym (member_same q w.0 outer.Top (codes "key_size") refl)) ∙ a)
          (ap (number_in 1 4294967295) (sym (member_same q w.0 outer.Af (codes "stripes") refl)) ∙ b) (ap decimal_in (sym (member_same q w.0 outer.Area (codes "size") refl)) ∙ z))
          (λ bytes start size region o z. c.within n w.0 bytes start size w.1 region (ap decimal_in (sym (member_same q w.0 outer.Area (codes "offset") refl)) ∙ o)
          (ap decimal_in (sym (member_same q w.0 outer.Area (codes "size") refl)) ∙ z))))
      | inr other ↦ kept (slot_held n own j i d other h)
    ]

    slot_once : (i : ℕ) (d : Data) → HasObject prior Keyslots i d → naming_count (codes "keyslots") (number_text i) (section_at prior Digests) ≡ 1
    slot_once i d h = rw (other_section n own j (codes "digests") refl) (elim (cases_eq i n) [
      | inl same ↦ (let w = slot_was d (rw same at h) in rw same (c.resolves.keyslots n w.0 w.1))
      | inr other ↦ c.resolves.keyslots i d (slot_held n own j i d other h)
    ])

    prior_says : (d : Data) → HasObject prior Keyslots n d → get (codes "priority") d ≡ said (priority_number q)
    prior_says d h = let w = slot_was d h in subst (λ (x : Data). get (codes "priority") x ≡ said (priority_number q)) (sym w.2) (says q w.0 (c.objects Keyslots n w.0 w.1))

-- the value with the priority says it, and is as it was except for that
pub priority_set : (len n : ℕ) (q : Priority) (j : Data) → IsHeld len j → SetsPriority n q j (with_priority n q j)
priority_set len n q j h = record { says = prior_says n q j len h.content; rest = prior_rest n q j }

-- it meets every rule
pub held_prior : (len n : ℕ) (q : Priority) (j : Data) → IsHeld len j → IsHeld len (with_priority n q j)
held_prior len n q j h =
    let own = with_priority_number (priority_number q) in
    held_edited len j (with_priority n q j) h.content (record {
      fine = fine_prior n q j (record { whole = h.content.whole; nests = h.nests });
      config = other_section n own j (codes "config") refl;
      segments = other_section n own j (codes "segments") refl;
      maps = maps_edited n own j;
      digest = λ i d o. naming_same len j (with_priority n q j) Digests h.content (inr (inr (inr (inl refl)))) (slots_more n own j) i d (beside_held n own j Digests i d refl o);
      token = λ i d o. naming_same len j (with_priority n q j) Tokens h.content (inl refl) (slots_more n own j) i d (beside_held n own j Tokens i d refl o);
      slot = slot_back n q j len h.content;
      slot_once = slot_once n q j len h.content;
      segment_once = λ t. ap (naming_count (codes "segments") t) (other_section n own j (codes "digests") refl);
    })

-- ---- the metadata with another section of tokens

module _ (into : Data → Data) (j : Data) where
  abbrev other_tokens : Data
  other_tokens = at_member (codes "tokens") into j

  beside_tokens : KeepsOthers (codes "tokens" ∷ []) j other_tokens
  beside_tokens k off = get_kept k (codes "tokens") into j (neither _ _ off).0

  same_object : (s : Section) (m : ℕ) → list_any (bytes_eq (section_name s)) (codes "tokens" ∷ []) ≡ false → object_at other_tokens s m ≡ object_at j s m
  same_object s m off = ap (option_and_then (get (number_text m))) (beside_tokens (section_name s) off)

  same_held : (s : Section) (i : ℕ) (d : Data) → list_any (bytes_eq (section_name s)) (codes "tokens" ∷ []) ≡ false → HasObject other_tokens s i d → HasObject j s i d
  same_held s i d off h = record { numbered = h.numbered; named = h.named; is = sym (same_object s i off) ∙ h.is }

  tokens_are : section_at other_tokens Tokens ≡ option_map into (section_at j Tokens)
  tokens_are = get_changed (codes "tokens") into j

  -- all but the one token is as it was
  tokens_rest : (n : ℕ) → ((m : ℕ) → (m ≡ n → ⊥) → object_at other_tokens Tokens m ≡ object_at j Tokens m) → KeepsUnnamed None (Some n) j other_tokens
  tokens_rest n others = record {
    keyslots = λ m off. same_object Keyslots m refl;
    named = record {
      there = λ m was is. (was, same_object Keyslots m refl ∙ is, λ k off. refl);
      back = λ m d is. (d, sym (same_object Keyslots m refl) ∙ is, λ k off. refl);
    };
    tokens = λ m other. others m (λ same. other (ap Some (sym same)));
    naming = λ m k. naming_kept m k j other_tokens (ap is_some (same_object Keyslots m refl)) (object_same Digests k j other_tokens (same_object Digests k refl)) (λ d. refl);
    others = λ k off. beside_tokens k (neither _ _ off).1;
  }

-- ---- the metadata with a token

module _ (n : ℕ) (t j : Data) where
  added_beside : (m : ℕ) → (m ≡ n → ⊥) → object_at (with_token n t j) Tokens m ≡ object_at j Tokens m
  added_beside m other =
      ap (option_and_then (get (number_text m))) (tokens_are (in_object (put (number_text n) t)) j) ∙ put_beside (number_text m) (number_text n) t (section_at j Tokens) (texts_differ m n other)

  -- the token is there, where the tokens are an object
  added_here : is_section Tokens (section_at j Tokens) ≡ true → object_at (with_token n t j) Tokens n ≡ Some t
  added_here h =
      ap (option_and_then (get (number_text n))) (tokens_are (in_object (put (number_text n) t)) j) ∙ put_here (number_text n) t (section_at j Tokens) (tested_object all_named (section_at j Tokens) h)

-- the value with the token is as it was except for that
pub token_added : (len n : ℕ) (t j : Data) → IsHeld len j → AddsToken n t j (with_token n t j)
token_added len n t j h = record {
  there = added_here n t j (h.content.sections Tokens);
  rest = tokens_rest (in_object (put (number_text n) t)) j n (added_beside n t j);
}

-- ---- the metadata without a token

module _ (n : ℕ) (j : Data) where
  abbrev dropped : Data → Data
  dropped = in_object (drop_member (number_text n))

  left_beside : (m : ℕ) → (m ≡ n → ⊥) → object_at (without_token n j) Tokens m ≡ object_at j Tokens m
  left_beside m other =
      ap (option_and_then (get (number_text m))) (tokens_are dropped j) ∙ beside (number_text m) dropped (section_at j Tokens) (λ d. get_left (number_text m) (number_text n) d (texts_differ m n other))

  token_gone : object_at (without_token n j) Tokens n ≡ None
  token_gone = ap (option_and_then (get (number_text n))) (tokens_are dropped j) ∙ nowhere (number_text n) dropped (section_at j Tokens) (get_gone (number_text n))

  token_held : (i : ℕ) (d : Data) → HasObject (without_token n j) Tokens i d → HasObject j Tokens i d
  token_held i d h =
      let other : i ≡ n → ⊥ = λ same. no_some d (sym token_gone ∙ (rw same at h.is)) in
      record { numbered = refl; named = h.named; is = sym (left_beside i other) ∙ h.is }

  maps_left : (k : Section) → is_section k (section_at j k) ≡ true → is_section k (section_at (without_token n j) k) ≡ true
  maps_left Tokens h = rw (tokens_are dropped j) (named_map (drop_member (number_text n)) (section_at j Tokens) (each_left Named (number_text n)) h)
  maps_left k h = rw (beside_tokens dropped j (section_name k) refl) h

-- the value without the token is as it was except for that
pub token_lost : (n : ℕ) (j : Data) → LosesToken n j (without_token n j)
token_lost n j = record { gone = token_gone n j; rest = tokens_rest (dropped n j) j n (left_beside n j) }

-- it meets every rule
pub held_without_token : (len n : ℕ) (j : Data) → IsHeld len j → IsHeld len (without_token n j)
held_without_token len n j h =
    let into = in_object (drop_member (number_text n)) in
    let same : section_at (without_token n j) Keyslots ≡ section_at j Keyslots = beside_tokens into j (codes "keyslots") refl in
    let digests : section_at (without_token n j) Digests ≡ section_at j Digests = beside_tokens into j (codes "digests") refl in
    held_edited len j (without_token n j) h.content (record {
      fine = fine_at 126 (codes "tokens") into (fine_left 125 (number_text n)) j (record { whole = h.content.whole; nests = h.nests });
      config = beside_tokens into j (codes "config") refl;
      segments = beside_tokens into j (codes "segments") refl;
      maps = maps_left n j;
      digest = λ i d o. naming_same len j (without_token n j) Digests h.content (inr (inr (inr (inl refl)))) (λ t is. rw same is) i d (same_held into j Digests i d refl o);
      token = λ i d o. naming_same len j (without_token n j) Tokens h.content (inl refl) (λ t is. rw same is) i d (token_held n j i d o);
      slot = λ i d o. kept (same_held into j Keyslots i d refl o);
      slot_once = λ i d o. ap (naming_count (codes "keyslots") (number_text i)) digests ∙ h.content.resolves.keyslots i d (same_held into j Keyslots i d refl o);
      segment_once = λ t. ap (naming_count (codes "segments") t) digests;
    })
