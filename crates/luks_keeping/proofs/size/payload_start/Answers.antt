use Rattle.std.proofs.Common.{rules, ◌≡◌, ℕ, ◌*◌, ◌≤◌, List, min, sym, ap, subst, refl, ◌∙◌, arith}
use Rattle.luks1_header.specs.Header1.{payload_offset_of, IsLuks1}
use Rattle.luks_reading.specs.Header.{IsHeader}
use Rattle.luks_reading.specs.declared.header.Header.{Header}
use Rattle.luks_reading.specs.declared.header.Header.TheVariants.{Luks1, Luks2}
use Rattle.luks_reading.specs.declared.report.Data.{Data}
use Rattle.luks_reading.specs.declared.report.Data.TheVariants.{Here}
use Rattle.luks_keeping.specs.Backup.{IsSizeAs}
use Rattle.luks_keeping.specs.Laid.{choice_of}
use Rattle.luks_keeping.specs.Restored.{IsFrontAs}
use Rattle.luks_keeping.proofs.LaidFacts.{chosen_of}
use Rattle.luks_keeping.proofs.SizeFacts.{size_by}
use Rattle.luks_keeping.proofs.size.payload_start.Goals as goal

-- the payload is here, and the header is this one
front_of : (v : List ℕ) (payload : Data) (total limit : ℕ) (header own : Header) → payload ≡ Here → header ≡ own → IsFrontAs v Here total (choice_of own) limit → IsFrontAs v payload total (choice_of header) limit
front_of v payload total limit header own here is front =
    subst (λ (d : Data). IsFrontAs v d total (choice_of header) limit) (sym here) (subst (λ (h : Header). IsFrontAs v Here total (choice_of h) limit) (sym is) front)

pub returns-in-Luks1-clause-start : goal.returns-in-Luks1-clause-start
returns-in-Luks1-clause-start c = λ v is.
    let own : IsLuks1 c.in-Luks1.bytes c.unwrap.result = search rules in
    let most : c.min.result ≡ min c.args.total c.payload_place.result = search rules in
    let it : IsHeader v (Luks1 c.in-Luks1.bytes) = subst (IsHeader v) c.in-Luks1.is is in
    front_of v c.args.payload c.args.total c.min.result c.args.header.now (Luks1 c.in-Luks1.bytes) c.in-Here.is c.in-Luks1.is
    (most ∙ ap (min c.args.total) (c.payload_place.ensures c.in-Luks1.bytes own ∙ ap (λ (l : List ℕ). payload_offset_of l * 512) it.1))

pub returns-in-Some-clause-start : goal.returns-in-Some-clause-start
returns-in-Some-clause-start c = λ v is.
    let it : IsHeader v (Luks2 c.in-Luks2.field-0) = subst (IsHeader v) c.in-Luks2.is is in
    let most : c.min-in-Some.result ≡ min c.args.total c.in-Some.size = search rules in
    let sized : IsSizeAs v c.args.payload (choice_of (Luks2 c.in-Luks2.field-0)) c.in-Some.size =
    size_by v c.args.payload (choice_of (Luks2 c.in-Luks2.field-0)) c.in-Some.size (chosen_of v (Luks2 c.in-Luks2.field-0) it) (c.in-Some.ensures.some v is) in
    front_of v c.args.payload c.args.total c.min-in-Some.result c.args.header.now (Luks2 c.in-Luks2.field-0) c.in-Here.is c.in-Luks2.is (c.in-Some.size, (sized, most))

pub returns-in-None-clause-start : goal.returns-in-None-clause-start
returns-in-None-clause-start c = λ v is.
    let it : IsHeader v (Luks2 c.in-Luks2.field-0) = subst (IsHeader v) c.in-Luks2.is is in
    let lacks = c.in-None.ensures.none v is refl in
    let long : 18446744073709551616 ≤ lacks.size = lacks.long in
    let sized : IsSizeAs v c.args.payload (choice_of (Luks2 c.in-Luks2.field-0)) lacks.size =
    size_by v c.args.payload (choice_of (Luks2 c.in-Luks2.field-0)) lacks.size (chosen_of v (Luks2 c.in-Luks2.field-0) it) lacks.is_size in
    front_of v c.args.payload c.args.total c.args.total c.args.header.now (Luks2 c.in-Luks2.field-0) c.in-Here.is c.in-Luks2.is (lacks.size, (sized, omega (arith, long)))
