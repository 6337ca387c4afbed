-- What trying the keyslots one by one gives, of what trying each gave.
use Rattle.std.proofs.Common.{◌≡◌, ℕ, ◌+◌, ◌<◌, ◌≤◌, ◌==◌, List, [], ◌∷◌, ◌++◌, length, filter, Bool, true, false, Option, Some, None, Result, Ok, Err, inl, inr, refl, sym, subst, ◌∙◌, arith, below_more}
use Rattle.std.proofs.lemmas.List.{length-append}
use Rattle.std.proofs.lemmas.List.Elements.{Contains-append_left, Contains-append_right, Contains-push}
use Rattle.luks_area.specs.Device.{count_after, CountsFailure}
use Rattle.luks_area.specs.Ranges.{part}
use Rattle.luks1_header.specs.Header1.{active_word, enabled_word, entry}
use Rattle.luks2_header.specs.Selection.{luks1, luks2, Chosen}
use Rattle.luks2_header.proofs.ChoiceFacts.{choices_agree}
use Rattle.luks_meta.specs.Content.{content}
use Rattle.luks_slot.specs.declared.allowed.Allowed.{Allowed}
use Rattle.luks_reading.specs.declared.header.Header.{Header}
use Rattle.luks_reading.specs.declared.header.Header.TheVariants.{Luks1, Luks2}
use Rattle.luks_reading.specs.declared.open_fault.OpenFault.{OpenFault}
use Rattle.luks_reading.specs.Answer.{opens, no_key, refused, AnswerWithin, HasPlanAs, IsRefusalAsWithin}
use Rattle.luks_reading.specs.Failures.{is_open_failure}
use Rattle.luks_reading.specs.Header.{IsHeader}
use Rattle.luks_reading.specs.HeaderAnswers.{IsSlotOpening}
use Rattle.luks_reading.specs.Luks1Keyslots.{Luks1Opens}
use Rattle.luks_reading.specs.Unlocking.{is_normal, is_preferred, luks1_order, luks2_order, numbers_below, priority_of, DoesNotOpen, IsFirstOf}
use Rattle.luks_reading.proofs.KeyslotOrders.{all_shut, first_shut, gives_left, gives_right}
use Rattle.luks_reading.proofs.OpenFaults.{ending}
use Rattle.luks_reading.proofs.TriedKeyslots.{opened_in_use}
use Rattle.luks_reading.proofs.VolumeLaws.{one_answer}
use Rattle.luks_commands.specs.declared.open.searching.Turn.{Turn}
use Rattle.luks_commands.specs.declared.open.searching.Turn.TheVariants.{First, Later}
use Rattle.luks_commands.specs.Searched.{IsPassedOver, OpensTo, Searches, StaysShut, UnlocksBeside, WithKey}
use Rattle.luks_commands.specs.Turns.{is_in_turn, is_opened, GivesPicked, IsFirstPicked, TriesOne, TriesTurn}

-- ---- one keyslot

-- one that gives no key doesn't open
shut_none : (allowed : Allowed) (v p : List ℕ) (n : ℕ) → AnswerWithin allowed v n p no_key → DoesNotOpen allowed v p n
shut_none allowed v p n x = λ k y. one_answer allowed v n p (opens k) no_key y x

-- nor does one that is refused
shut_refused : (allowed : Allowed) (v p : List ℕ) (n : ℕ) (f : OpenFault) → AnswerWithin allowed v n p (refused f) → DoesNotOpen allowed v p n
shut_refused allowed v p n f x = λ k y. one_answer allowed v n p (opens k) (refused f) y x

-- what opening it gave, once it has been tried
pub tries_one : (tells : Type 0) (v : List ℕ) (header : Header) (allowed : Allowed) (p : List ℕ) (n before after : ℕ) (r : Result (Option (List ℕ)) OpenFault)
    → CountsFailure is_open_failure r before after → IsSlotOpening tells v header allowed n p r → TriesOne tells v header allowed p n before after (is_opened r)
tries_one tells v header allowed p n before after (Ok (Some key)) count is = (count, λ t h. (key, is.opens t h))
tries_one tells v header allowed p n before after (Ok None) count is = inl (count, λ t h. inr (shut_none allowed v p n (is.opens t h)))
tries_one tells v header allowed p n before after (Err f) count is = elim (ending f) [
  | inl device ↦ inr (subst (λ g. after ≡ count_after (is_open_failure g) before) device count)
  | inr other ↦ (elim other [
    | inl memory ↦ inl (subst (λ g. after ≡ count_after (is_open_failure g) before) memory count, λ t h. inl (is.memory t h memory))
    | inr own ↦ inl (subst (λ b. after ≡ count_after b before) own.no_failure count, λ t h. inr (shut_refused allowed v p n f (own.refused allowed v n p (is.refused t h))))
  ])
]

-- ---- those that are lost

-- with more that are lost it is passed over still
pub passed_left : (allowed : Allowed) (v p lost other : List ℕ) (n : ℕ) → IsPassedOver allowed v p lost n → IsPassedOver allowed v p (lost ++ other) n
passed_left allowed v p lost other n (inl is) = inl (Contains-append_left lost other n is)
passed_left allowed v p lost other n (inr shut) = inr shut

pub passed_right : (allowed : Allowed) (v p lost other : List ℕ) (n : ℕ) → IsPassedOver allowed v p other n → IsPassedOver allowed v p (lost ++ other) n
passed_right allowed v p lost other n (inl is) = inl (Contains-append_right lost other n is)
passed_right allowed v p lost other n (inr shut) = inr shut

-- the first that is picked stays so where more is passed over
picked_more : (S T : ℕ → Type 0) (O : ℕ → List ℕ → Type 0) (test : ℕ → Bool) (found : Option ℕ) → ((n : ℕ) → S n → T n) → GivesPicked S O test found → GivesPicked T O test found
picked_more S T O test None more x = λ m low on. more m (x m low on)
picked_more S T O test (Some n) more x = record { low = x.low; is_picked = x.is_picked; key = x.key; opens = x.opens; all_shut = λ m low on. more m (x.all_shut m low on) }

-- ---- LUKS1: the numbers below 32 are more than its keyslots

-- what opens is a keyslot of its header
luks1_opening : (allowed : Allowed) (v p : List ℕ) (n : ℕ) (k : List ℕ) → Chosen v luks1 → OpensTo allowed v p n k → Luks1Opens allowed.older (part v 0 592) v n p (Some k)
luks1_opening allowed v p n k chosen y =
    let e : luks1 ≡ y.choice = choices_agree v luks1 y.choice chosen y.chosen in
    record {
      plan = y.plan;
      is = subst (λ d. HasPlanAs v n d y.plan) (sym e) y.is;
      unrefused = λ f r. y.unrefused f (subst (λ d. IsRefusalAsWithin allowed v n d f) e r);
      key = y.key;
    }

luks1_gives : (allowed : Allowed) (v p lost : List ℕ) (found : Option ℕ) → Chosen v luks1 → GivesPicked (IsPassedOver allowed v p lost) (OpensTo allowed v p) (λ _. true) found
    → WithKey (UnlocksBeside allowed v p lost) found
unfolding luks1_order
luks1_gives allowed v p lost None chosen x = record {
  choice = luks1;
  chosen = chosen;
  order = luks1_order (part v 0 592);
  ordered = refl;
  gives = all_shut (IsPassedOver allowed v p lost) (λ m. active_word (entry (part v 0 592) m) == enabled_word) 8 (λ m low on. x m (omega (arith, low)) refl);
}
luks1_gives allowed v p lost (Some n) chosen x =
    let h = part v 0 592 in
    let is = luks1_opening allowed v p n x.key chosen x.opens in (
      x.key,
      record {
        choice = luks1;
        chosen = chosen;
        order = luks1_order h;
        ordered = refl;
        gives = first_shut (IsPassedOver allowed v p lost) (OpensTo allowed v p) (λ m. active_word (entry h m) == enabled_word) 8 n x.key is.is.numbered
            (opened_in_use allowed.older h v n p (Some x.key) is) x.opens (λ m low on. x.all_shut m low refl);
      },
    )

-- ---- the numbers that a test picks, in their order

picked_first : (S : ℕ → Type 0) (O : ℕ → List ℕ → Type 0) (test : ℕ → Bool) (n : ℕ) → (x : IsFirstPicked S O test n) → IsFirstOf S O (filter test (numbers_below 32)) n x.key
picked_first S O test n x = first_shut S O test 32 n x.key x.low x.is_picked x.opens x.all_shut

-- ---- both turns

first_gives : (v : List ℕ) (header : Header) (allowed : Allowed) (p lost : List ℕ) (n : ℕ) → IsHeader v header
    → IsFirstPicked (IsPassedOver allowed v p lost) (OpensTo allowed v p) (is_in_turn First header) n → WithKey (UnlocksBeside allowed v p lost) (Some n)
unfolding luks2_order
first_gives v (Luks1 bytes) allowed p lost n is x = let off = x.is_picked in absurd (cc)
first_gives v (Luks2 copy) allowed p lost n is x =
    let j = content copy.meta in
    let S = IsPassedOver allowed v p lost in (
      x.key,
      record {
        choice = luks2 copy.header.hdr_offset copy.copies;
        chosen = is.chosen;
        order = luks2_order j;
        ordered = (j, (is.metadata.json, refl));
        gives = gives_left S (OpensTo allowed v p) (filter (λ m. is_preferred (priority_of j m)) (numbers_below 32)) (filter (λ m. is_normal (priority_of j m)) (numbers_below 32)) n x.key
            (picked_first S (OpensTo allowed v p) (λ m. is_preferred (priority_of j m)) n x);
      },
    )

later_gives : (v : List ℕ) (header : Header) (allowed : Allowed) (p lost : List ℕ) (found : Option ℕ) → IsHeader v header
    → GivesPicked (IsPassedOver allowed v p lost) (OpensTo allowed v p) (is_in_turn First header) None
    → GivesPicked (IsPassedOver allowed v p lost) (OpensTo allowed v p) (is_in_turn Later header) found → WithKey (UnlocksBeside allowed v p lost) found
unfolding luks2_order
later_gives v (Luks1 bytes) allowed p lost found is before x = luks1_gives allowed v p lost found is.0 x
later_gives v (Luks2 copy) allowed p lost None is before x =
    let j = content copy.meta in
    let S = IsPassedOver allowed v p lost in
    record {
      choice = luks2 copy.header.hdr_offset copy.copies;
      chosen = is.chosen;
      order = luks2_order j;
      ordered = (j, (is.metadata.json, refl));
      gives = gives_right S (OpensTo allowed v p) (filter (λ m. is_preferred (priority_of j m)) (numbers_below 32)) (filter (λ m. is_normal (priority_of j m)) (numbers_below 32)) None
          (all_shut S (λ m. is_preferred (priority_of j m)) 32 before) (all_shut S (λ m. is_normal (priority_of j m)) 32 x);
    }
later_gives v (Luks2 copy) allowed p lost (Some n) is before x =
    let j = content copy.meta in
    let S = IsPassedOver allowed v p lost in (
      x.key,
      record {
        choice = luks2 copy.header.hdr_offset copy.copies;
        chosen = is.chosen;
        order = luks2_order j;
        ordered = (j, (is.metadata.json, refl));
        gives = gives_right S (OpensTo allowed v p) (filter (λ m. is_preferred (priority_of j m)) (numbers_below 32)) (filter (λ m. is_normal (priority_of j m)) (numbers_below 32)) (Some (n, x.key))
            (all_shut S (λ m. is_preferred (priority_of j m)) 32 before) (picked_first S (OpensTo allowed v p) (λ m. is_normal (priority_of j m)) n x);
      },
    )

-- a keyslot that is tried first opens
pub found_first : (tells : Type 0) (v : List ℕ) (header : Header) (allowed : Allowed) (p : List ℕ) (before after n : ℕ)
    → TriesTurn tells v header allowed p First before after (Some n) → Searches (tells × IsHeader v header) allowed v p before after (Some n)
found_first tells v header allowed p before after n x = record {
  lost = x.lost;
  count = x.count;
  gives = λ t. first_gives v header allowed p x.lost n t.1 (x.gives t.0 t.1);
}

-- none of them opens, and this is found of the others; `w` are the device's bytes then
pub found_later : (tells : Type 0) (v w : List ℕ) (header : Header) (allowed : Allowed) (p : List ℕ) (before mid after : ℕ) (found : Option ℕ) → (tells → w ≡ v)
    → TriesTurn tells v header allowed p First before mid None → TriesTurn tells w header allowed p Later mid after found
    → Searches (tells × IsHeader v header) allowed v p before after found
found_later tells v w header allowed p before mid after found same x y = record {
  lost = x.lost ++ y.lost;
  count = let long : length (x.lost ++ y.lost) ≡ length x.lost + length y.lost = length-append x.lost y.lost in let first = x.count in let later = y.count in omega (arith, long, first, later);
  gives = λ t.
      let given : GivesPicked (IsPassedOver allowed v p y.lost) (OpensTo allowed v p) (is_in_turn Later header) found =
      subst (λ u. GivesPicked (IsPassedOver allowed u p y.lost) (OpensTo allowed u p) (is_in_turn Later header) found) (same t.0)
      (y.gives t.0 (subst (λ u. IsHeader u header) (sym (same t.0)) t.1)) in
      later_gives v header allowed p (x.lost ++ y.lost) found t.1
      (picked_more (IsPassedOver allowed v p x.lost) (IsPassedOver allowed v p (x.lost ++ y.lost)) (OpensTo allowed v p) (is_in_turn First header) None
      (passed_left allowed v p x.lost y.lost) (x.gives t.0 t.1))
      (picked_more (IsPassedOver allowed v p y.lost) (IsPassedOver allowed v p (x.lost ++ y.lost)) (OpensTo allowed v p) (is_in_turn Later header) found
      (passed_right allowed v p x.lost y.lost) given);
}

-- ---- the keyslots of one turn

-- what is known of the turn's keyslots before the number `n`
pub record TurnSoFar (tells : Type 0) (v : List ℕ) (header : Header) (allowed : Allowed) (p : List ℕ) (turn : Turn) (before after n : ℕ) : Type 0 where
  pub lost : List ℕ
  pub count : after ≡ before + length lost
  pub few : length lost ≤ n
  pub shut : tells → IsHeader v header → (m : ℕ) → m < n → is_in_turn turn header m ≡ true → IsPassedOver allowed v p lost m

-- one more, that isn't of the turn
pub not_of_turn : (tells : Type 0) (v : List ℕ) (header : Header) (allowed : Allowed) (p : List ℕ) (turn : Turn) (before after n : ℕ) → is_in_turn turn header n ≡ false
    → TurnSoFar tells v header allowed p turn before after n → TurnSoFar tells v header allowed p turn before after (n + 1)
not_of_turn tells v header allowed p turn before after n off x = record {
  lost = x.lost;
  count = x.count;
  few = let few = x.few in omega (arith, few);
  shut = λ t is. below_more (λ m. is_in_turn turn header m ≡ true → IsPassedOver allowed v p x.lost m) n (x.shut t is) (λ on. absurd (cc (off, on)));
}

-- one more, that was tried while the device's bytes were `w`
pub tried_of_turn : (tells : Type 0) (v w : List ℕ) (header : Header) (allowed : Allowed) (p : List ℕ) (turn : Turn) (before mid after n : ℕ) → (tells → w ≡ v)
    → TurnSoFar tells v header allowed p turn before mid n → TriesOne tells w header allowed p n mid after false → TurnSoFar tells v header allowed p turn before after (n + 1)
tried_of_turn tells v w header allowed p turn before mid after n same x (inl shut) = record {
  lost = x.lost;
  count = shut.0 ∙ x.count;
  few = let few = x.few in omega (arith, few);
  shut = λ t is. below_more (λ m. is_in_turn turn header m ≡ true → IsPassedOver allowed v p x.lost m) n (x.shut t is)
      (λ on. inr (subst (λ u. StaysShut allowed u p n) (same t) (shut.1 t (subst (λ u. IsHeader u header) (sym (same t)) is))));
}
tried_of_turn tells v w header allowed p turn before mid after n same x (inr failed) = record {
  lost = x.lost ++ n ∷ [];
  count = let long : length (x.lost ++ n ∷ []) ≡ length x.lost + 1 = length-append x.lost (n ∷ []) in let before_it = x.count in omega (arith, long, before_it, failed);
  few = let long : length (x.lost ++ n ∷ []) ≡ length x.lost + 1 = length-append x.lost (n ∷ []) in let few = x.few in omega (arith, long, few);
  shut = λ t is. below_more (λ m. is_in_turn turn header m ≡ true → IsPassedOver allowed v p (x.lost ++ n ∷ []) m) n
      (λ m low on. passed_left allowed v p x.lost (n ∷ []) m (x.shut t is m low on)) (λ on. inl (Contains-push x.lost n));
}

-- none opens
pub turn_ended : (tells : Type 0) (v : List ℕ) (header : Header) (allowed : Allowed) (p : List ℕ) (turn : Turn) (before after n : ℕ) → n ≡ 32
    → TurnSoFar tells v header allowed p turn before after n → TriesTurn tells v header allowed p turn before after None
turn_ended tells v header allowed p turn before after n all x = record {
  lost = x.lost;
  count = x.count;
  few = let few = x.few in omega (arith, few, all);
  gives = λ t is m low on. x.shut t is m (omega (arith, low, all)) on;
}

-- one opens, that was tried while the device's bytes were `w`
pub turn_found : (tells : Type 0) (v w : List ℕ) (header : Header) (allowed : Allowed) (p : List ℕ) (turn : Turn) (before mid after n : ℕ) → (tells → w ≡ v) → n < 32
    → is_in_turn turn header n ≡ true → TurnSoFar tells v header allowed p turn before mid n → TriesOne tells w header allowed p n mid after true
    → TriesTurn tells v header allowed p turn before after (Some n)
turn_found tells v w header allowed p turn before mid after n same low on x opened = record {
  lost = x.lost;
  count = opened.0 ∙ x.count;
  few = let few = x.few in omega (arith, few, low);
  gives = λ t is.
      let found : (key : List ℕ) × OpensTo allowed v p n key =
      subst (λ u. (key : List ℕ) × OpensTo allowed u p n key) (same t) (opened.1 t (subst (λ u. IsHeader u header) (sym (same t)) is)) in
      record { low = low; is_picked = on; key = found.0; opens = found.1; all_shut = x.shut t is };
}
