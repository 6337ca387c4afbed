-- The objects of JSON of fragments, piece by piece.
use Rattle.std.proofs.Common.{◌≡◌, ◌∙◌, ℕ, List, ◌++◌, Bool, true, Option, None, Some, append_assoc, ap, codes, refl, subst, sym}
use Rattle.std.specs.Fmt.{decimal}
use Rattle.luks_commands.specs.Answer.{line}
use Rattle.luks_fragments.specs.declared.kinds.Kind.{Kind}
use Rattle.luks_find_command.specs.FragmentLines.{fragment_line, kind_text}

joined : (p k n : List ℕ) → codes "{\"offset\":" ++ (p ++ (codes ",\"kind\":\"" ++ (k ++ (codes "\",\"number\":" ++ (n ++ codes "}\n")))))
    ≡ line (codes "{\"offset\":" ++ p ++ codes ",\"kind\":\"" ++ k ++ codes "\",\"number\":" ++ n ++ codes "}")
joined p k n = simp append_assoc refl

joined_null : (p k : List ℕ) → codes "{\"offset\":" ++ (p ++ (codes ",\"kind\":\"" ++ (k ++ codes "\",\"number\":null}\n")))
    ≡ line (codes "{\"offset\":" ++ p ++ codes ",\"kind\":\"" ++ k ++ codes "\",\"number\":" ++ codes "null" ++ codes "}")
joined_null p k = simp append_assoc refl

-- the text is the line of what the fragment is
is-line : (text : List ℕ) (as_json : Bool) (place : ℕ) (kind : Kind) (number told : Option ℕ) → as_json ≡ true → number ≡ told → text ≡ fragment_line true place kind told
    → text ≡ fragment_line as_json place kind number
is-line text as_json place kind number told json is same =
    subst (λ (b : Bool). text ≡ fragment_line b place kind number) (sym json) (subst (λ (o : Option ℕ). text ≡ fragment_line true place kind o) (sym is) same)

pub json_number : (as_json : Bool) (place : ℕ) (kind : Kind) (number : Option ℕ) (k : List ℕ) (n : ℕ) → as_json ≡ true → number ≡ Some n → k ≡ kind_text kind
    → codes "{\"offset\":" ++ (decimal place ++ (codes ",\"kind\":\"" ++ (k ++ (codes "\",\"number\":" ++ (decimal n ++ codes "}\n"))))) ≡ fragment_line as_json place kind number
json_number as_json place kind number k n json is named =
    is-line _ as_json place kind number (Some n) json is
    (ap (λ (l : List ℕ). codes "{\"offset\":" ++ (decimal place ++ (codes ",\"kind\":\"" ++ (l ++ (codes "\",\"number\":" ++ (decimal n ++ codes "}\n")))))) named
    ∙ joined (decimal place) (kind_text kind) (decimal n))

pub json_null : (as_json : Bool) (place : ℕ) (kind : Kind) (number : Option ℕ) (k : List ℕ) → as_json ≡ true → number ≡ None → k ≡ kind_text kind
    → codes "{\"offset\":" ++ (decimal place ++ (codes ",\"kind\":\"" ++ (k ++ codes "\",\"number\":null}\n"))) ≡ fragment_line as_json place kind number
json_null as_json place kind number k json is named =
    is-line _ as_json place kind number None json is
    (ap (λ (l : List ℕ). codes "{\"offset\":" ++ (decimal place ++ (codes ",\"kind\":\"" ++ (l ++ codes "\",\"number\":null}\n")))) named
    ∙ joined_null (decimal place) (kind_text kind))
