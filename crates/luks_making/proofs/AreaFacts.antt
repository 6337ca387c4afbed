-- A JSON area that was written holds its value.
use Rattle.std.proofs.Common.{◌≡◌, ℕ, ◌-◌, ◌<◌, List, ◌∷◌, ◌++◌, length, true, Option, Some, Result, Ok, IfOk, IfSome, Vec, Global, refl, ap, ◌∙◌, arith, length-append}
use Rattle.std.specs.Prelude.{◌≢◌, All, IsUtf8, replicate}
use Rattle.std.proofs.lemmas.Bool.{false≢true}
use Rattle.std.proofs.lemmas.List.{length-replicate}
use Rattle.serde_json.specs.Data.{Data, object, Members}
use Rattle.serde_json.specs.Read.{read}
use Rattle.serde_json.specs.Written.{compact_text}
use Rattle.luks_rules.specs.declared.table.Section.TheVariants.{Config}
use Rattle.luks_rules.specs.Accepted.{IsContent}
use Rattle.luks_rules.specs.Faults.{is_section, section_at}
use Rattle.luks_making.specs.WrittenArea.{IsWrittenArea}

-- metadata is an object
is_object : (j : Data) → is_section Config (section_at j Config) ≡ true → (ms : Members) × (j ≡ object ms)
is_object (object ms) h = (ms, refl)
is_object d h = absurd (false≢true h)

-- an object's text begins with a brace
begun : (j : Data) (ms : Members) → j ≡ object ms → (rest : List ℕ) × (compact_text j ≡ 123 ∷ rest)
begun j ms is = rw is (_, refl)

-- the area that is the text and zeros after it
pub written_area : (len : ℕ) (j : Data) (text area : List ℕ) → IsContent len j → text ≡ compact_text j → IsUtf8 text → All (λ c. c ≢ 0) text → read text ≡ Some j
    → area ≡ text ++ replicate (len - length text) 0 → length text < len → IsWrittenArea len j area
written_area len j text area c is utf8 whole back filled room =
    let bytes : area ≡ compact_text j ++ replicate (len - length (compact_text j)) 0 = rw is at filled in
    let fits : length (compact_text j) < len = rw is at room in
    let o = is_object j (c.sections Config) in
    let first = begun j o.0 o.1 in
    record {
      bytes = bytes;
      room = fits;
      long = ap length bytes ∙ (length-append (compact_text j) (replicate (len - length (compact_text j)) 0) ∙ (omega (arith, fits, length-replicate {A = ℕ} (len - length (compact_text j)) 0)));
      json = record {
        text = compact_text j;
        placed = record {
          rest = first.0;
          begins = first.1;
          whole = rw is at whole;
          zeros = len - length (compact_text j);
          ended = omega (arith, fits);
          filled = bytes;
        };
        utf8 = rw is at utf8;
        reads = rw is at back;
      };
    }

-- the same of what a call answered
pub area_ok : {E : Type 0} (r : Result (Option (Vec ℕ Global)) E) (text : List ℕ) (len : ℕ) (j : Data)
    → IfOk r (λ o. IfSome o (λ a. a.items ≡ text ++ replicate (len - length text) 0)) → IfOk r (λ o. IfSome o (λ a. length text < len))
    → ((area : List ℕ) → area ≡ text ++ replicate (len - length text) 0 → length text < len → IsWrittenArea len j area)
    → IfOk r (λ o. IfSome o (λ a. IsWrittenArea len j a.items))
area_ok (Ok (Some a)) text len j filled room made = made a.items filled room
area_ok d text len j filled room made = tt
