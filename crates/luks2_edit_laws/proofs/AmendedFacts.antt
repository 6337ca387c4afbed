-- What a change makes of the metadata is one value.
use Rattle.std.proofs.Common.{◌≡◌, ℕ, Option, Some, None, arith, sym, ap, ◌∙◌}
use Rattle.serde_json.specs.Data.{Data as Value}
use Rattle.serde_json.specs.View.{view}
use Rattle.luks_making.specs.Amended.{with_token}
use Rattle.luks_making.specs.declared.amended.Change.{Change}
use Rattle.luks_making.specs.declared.amended.Change.TheVariants as changes
use Rattle.luks2_edit_laws.specs.Edited.{HasNewToken, IsAmended}
use Rattle.luks2_edit_laws.specs.Metadata.{IsNewToken}

-- a token has one new number
pub token_once : (j : Value) (to : Option ℕ) (n m : ℕ) → IsNewToken j to n → IsNewToken j to m → n ≡ m
token_once j (Some t) n m x y = x ∙ sym y
token_once j None n m x y = let low = x.least m y.free in let high = y.least n x.free in omega (arith, low, high)

added_once : (j : Value) (to : Option ℕ) (token a b : Value) → HasNewToken to token j a → HasNewToken to token j b → a ≡ b
added_once j to token a b x y = x.is ∙ ap (λ n. with_token n token j) (token_once j to x.number y.number x.is_new y.is_new) ∙ sym y.is

changed_once : (c : Change) (j a b : Value) → IsAmended (Some c) j a → IsAmended (Some c) j b → a ≡ b
changed_once (changes.Priority slot priority) j a b x y = x ∙ sym y
changed_once (changes.AddToken to token) j a b x y = added_once j to (view token.now) a b x y
changed_once (changes.RemoveToken number) j a b x y = x ∙ sym y

pub amended_once : (o : Option Change) (j a b : Value) → IsAmended o j a → IsAmended o j b → a ≡ b
amended_once None j a b x y = x ∙ sym y
amended_once (Some c) j a b x y = changed_once c j a b x y
