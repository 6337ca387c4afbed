-- Texts that are parted at a bracket and at commas.
use Rattle.std.proofs.Common.{◌≡◌, ◌≢◌, ℕ, ◌+◌, ◌<◌, List, [], ◌∷◌, ◌++◌, length, get_or, ◌==◌, Some, Bor, refl, sym, subst, ap, ◌∙◌, inl, inr, arith, lit<}
use Rattle.std.specs.Prelude.{codes}
use Rattle.std.proofs.lemmas.Bool.Decides.{eqb_tells}
use Rattle.std.proofs.lemmas.List.{length-append}
use Rattle.std.proofs.lemmas.List.Elements.{All-cons, All-nil, All-from_get_or, All-head, All-tail}
use Rattle.std.proofs.lemmas.List.Splits.{join_with_byte-slice_split, length-slice_split, slice_split-cons_no, slice_split-cons_yes}
use Rattle.std.proofs.lemmas.Str.Pattern.{IsSplitOnceResult, split_after, split_parts}
use Rattle.std.proofs.Math.Seq.{get_or-append_seam}
use Rattle.std.specs.List.{All, join_with_byte, onto_first, slice_split}
use Rattle.luks_execution.specs.Parted.{HasParts, IsClosed, IsParted, LacksBracket, LacksComma}

-- parts without commas stay so where an element that is none is put before the first
onto : (b : ℕ) (parts : List (List ℕ)) → b ≢ 44 → All LacksComma parts → All LacksComma (onto_first b parts)
onto b [] other apart = All-cons LacksComma (b ∷ []) [] (All-cons (λ c. c ≢ 44) b [] other (All-nil _)) (All-nil _)
onto b (part ∷ parts) other apart =
    All-cons LacksComma (b ∷ part) parts (All-cons (λ c. c ≢ 44) b part other (All-head LacksComma part parts apart)) (All-tail LacksComma part parts apart)

-- no part of a text that is cut at each comma has one
parts_apart : (bs : List ℕ) → All LacksComma (slice_split (λ b. b == 44) bs)
parts_apart [] = All-cons LacksComma [] [] (All-nil _) (All-nil _)
parts_apart (b ∷ bs) = elim (eqb_tells b 44) [
  | inl is ↦ subst (All LacksComma) (sym (slice_split-cons_yes (λ c. c == 44) b bs is.0)) (All-cons LacksComma [] _ (All-nil _) (parts_apart bs))
  | inr is ↦ subst (All LacksComma) (sym (slice_split-cons_no (λ c. c == 44) b bs is.0)) (onto b _ is.1 (parts_apart bs))
]

-- it has at least one part
parts_some : (bs : List ℕ) → slice_split (λ b. b == 44) bs ≢ []
parts_some bs none =
    let zero : length (slice_split (λ b. b == 44) bs) ≡ 0 = ap length none in
    absurd (omega (arith, length-slice_split (λ b. b == 44) bs, zero))

-- a text with no bracket is a name
pub bare_parts : (text : List ℕ) → ((i : ℕ) → i < length text → get_or text i 0 ≢ 40) → IsParted text text []
bare_parts text none = record { plain = All-from_get_or (λ c. c ≢ 40) text 0 none; apart = All-nil LacksComma; is = inl (refl, refl) }

-- a name, and what its brackets hold, which is cut at each comma
pub cut_parts : (text name rest inside : List ℕ) (places : List (List ℕ)) → text ≡ name ++ (40 ∷ rest) → ((i : ℕ) → i < length name → get_or name i 0 ≢ 40)
    → rest ≡ inside ++ codes ")" → places ≡ slice_split (λ b. b == 44) inside → IsParted text name places
cut_parts text name rest inside places is plain closed cut = record {
  plain = All-from_get_or (λ c. c ≢ 40) name 0 plain;
  apart = subst (All LacksComma) (sym cut) (parts_apart inside);
  is = inr (
    λ none. parts_some inside (sym cut ∙ none),
    is ∙ ap (λ r. name ++ (40 ∷ r)) (closed ∙ ap (λ i. i ++ codes ")") (sym (ap (join_with_byte 44) cut ∙ join_with_byte-slice_split 44 inside))),
  );
}

-- a text with a bracket has one
bare_absurd : (text name rest : List ℕ) → LacksBracket text → text ≡ name ++ (40 ∷ rest) → ⊥
bare_absurd text name rest plain is =
    let long : length text ≡ length name + length (40 ∷ rest) = ap length is ∙ length-append name (40 ∷ rest) in
    plain (length name) 0 (omega (arith, long)) (ap (λ t. get_or t (length name) 0) is ∙ get_or-append_seam name 40 rest 0)

-- what follows the first bracket of a text that has parts ends with one
pub closed_rest : (text : List ℕ) (found : Bor (List ℕ) × Bor (List ℕ)) → HasParts text → IsSplitOnceResult 40 text (Some found) → IsClosed found.1.now
closed_rest text found has cases = elim has.is [
  | inl bare ↦ absurd (bare_absurd text found.0.now found.1.now (subst LacksBracket (sym bare) has.plain) (split_parts 40 text (Some found) cases (lit< tt)).0)
  | inr around ↦ (around.0, (split_after 40 text has.name (around.0 ++ codes ")") (Some found) cases (lit< tt) around.1 (λ i lt. has.plain i 0 lt)).1)
]
