-- The lines on the tokens that name a keyslot.
use Rattle.std.proofs.Common.{◌≡◌, ℕ, ◌+◌, ◌==◌, List, [], ◌++◌, codes, append_assoc, Bool, true, false, if◌then◌else◌, Option, Some, ap, sym, ◌∙◌, subst, refl, add-one}
use Rattle.std.specs.Option.{unwrap_or}
use Rattle.std.specs.List.{list_any}
use Rattle.std.specs.Io.KnownBytes.{Appends}
use Rattle.std.proofs.KnownBytes.{Appends-nil, Appends-trans}
use Rattle.serde_json.specs.Data.{Data}
use Rattle.luks_rules.specs.declared.table.Section.TheVariants.{Tokens}
use Rattle.luks_rules.specs.Faults.{object_at}
use Rattle.luks_meta.specs.Says.{TellsToken}
use Rattle.luks_meta.specs.declared.tokens.Token.{Token}
use Rattle.luks_edit_commands.specs.declared.edit.noted.Fate.{Fate}
use Rattle.luks_edit_commands.specs.declared.edit.noted.Fate.TheVariants.{Removed}
use Rattle.luks_edit_commands.specs.EditNotes.{erased_lines, erasure_line, kind_of, named_line, slot_lines, slots_of, token_line, token_lines}

-- the text before it, piece by piece
pub joined_naming : (m k n : List ℕ) → codes "token " ++ (m ++ (codes " (" ++ (k ++ (codes ") names keyslot " ++ (n ++ codes ": ")))))
    ≡ codes "token " ++ m ++ codes " (" ++ k ++ codes ") names keyslot " ++ n ++ codes ": "
joined_naming m k n = simp append_assoc refl

-- no token is told of at first
pub no_token : (fate : Fate) (n : ℕ) (j : Data) (a : Option (List ℕ)) → Appends a a (token_lines fate n j 0)
unfolding token_lines
no_token fate n j a = Appends-nil a

-- one token more
pub next_token : (fate : Fate) (n : ℕ) (j : Data) (m : ℕ) (a b c : Option (List ℕ)) → Appends a b (token_lines fate n j m)
    → Appends b c (token_line fate n m (object_at j Tokens m)) → Appends a c (token_lines fate n j (m + 1))
unfolding token_lines
next_token fate n j m a b c so_far more =
    subst (λ (k : ℕ). Appends a c (token_lines fate n j k)) (sym (add-one m)) (Appends-trans a b c _ _ so_far more)

-- of an erasure no keyslot is told of at first
pub no_slot : (j : Data) (a : Option (List ℕ)) → Appends a a (slot_lines j 0)
unfolding slot_lines
no_slot j a = Appends-nil a

-- one keyslot more
pub next_slot : (j : Data) (n : ℕ) (a b c : Option (List ℕ)) → Appends a b (slot_lines j n) → Appends b c (token_lines Removed n j 32)
    → Appends a c (slot_lines j (n + 1))
unfolding slot_lines
next_slot j n a b c so_far more =
    subst (λ (k : ℕ). Appends a c (slot_lines j k)) (sym (add-one n)) (Appends-trans a b c _ _ so_far more)

-- and at last all of them, behind what brings the data back
pub every_slot : (j : Data) (n : ℕ) (a b c : Option (List ℕ)) → n ≡ 32 → Appends a b erasure_line → Appends b c (slot_lines j n)
    → Appends a c (erased_lines j)
every_slot j n a b c whole before so_far =
    Appends-trans a b c _ _ before (subst (λ (k : ℕ). Appends b c (slot_lines j k)) whole so_far)

chosen : (b : Bool) (x y : List ℕ) → b ≡ true → (if b then x else y) ≡ x
chosen true x y is = refl
chosen false x y is = cc

left : (b : Bool) (x y : List ℕ) → b ≡ false → (if b then x else y) ≡ y
left true x y is = cc
left false x y is = refl

slots_told : (d : Data) (k : Token) → TellsToken d k → slots_of d ≡ k.keyslots.items
slots_told d k told = ap (λ (o : Option (List ℕ)). unwrap_or o []) told.1

kind_told : (d : Data) (k : Token) → TellsToken d k → kind_of d ≡ k.kind.now
kind_told d k told = ap (λ (o : Option (List ℕ)). unwrap_or o []) told.0

-- the line of a token that names the keyslot
pub naming_line : (fate : Fate) (n m : ℕ) (o : Option Data) (d : Data) (k : Token) → o ≡ Some d → TellsToken d k
    → list_any (λ i. i == n) k.keyslots.items ≡ true → token_line fate n m o ≡ named_line fate n m k.kind.now
naming_line fate n m o d k is told names =
    ap (token_line fate n m) is
    ∙ chosen (list_any (λ i. i == n) (slots_of d)) (named_line fate n m (kind_of d)) [] (ap (list_any (λ i. i == n)) (slots_told d k told) ∙ names)
    ∙ ap (named_line fate n m) (kind_told d k told)

-- of one that doesn't
pub other_line : (fate : Fate) (n m : ℕ) (o : Option Data) (d : Data) (k : Token) → o ≡ Some d → TellsToken d k
    → list_any (λ i. i == n) k.keyslots.items ≡ false → token_line fate n m o ≡ []
other_line fate n m o d k is told names =
    ap (token_line fate n m) is
    ∙ left (list_any (λ i. i == n) (slots_of d)) (named_line fate n m (kind_of d)) [] (ap (list_any (λ i. i == n)) (slots_told d k told) ∙ names)
