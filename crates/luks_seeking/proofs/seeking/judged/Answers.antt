use Rattle.std.proofs.Common.{◌≡◌, ◌+◌, ◌-◌, ◌≤◌, length, inl, inr, subst, sym, arith}
use Rattle.luks_area.specs.Ranges.{part}
use Rattle.luks_fragments.specs.Fragments.{HasNoneFrom, IsFirstFragment}
use Rattle.luks_seeking.specs.Seeking.{IsFirstFound}
use Rattle.luks_seeking.proofs.PartFacts.{found_up, none_up, passes_first, passes_none}
use Rattle.luks_seeking.proofs.seeking.judged.Goals.{in_default-via-in-Some-next+else-f-len, in_default-via-in_default}
use Rattle.luks_seeking.proofs.seeking.judged.Goals as goal

pub returns-in-Some-clause-tells : goal.returns-in-Some-clause-tells
returns-in-Some-clause-tells c = λ v long finds.
    let start = c.args.start in
    let len = c.args.len in
    let from = c.args.from in
    let all : start + len ≡ length v = (let total = c.if-start-len.true in omega (arith, total, long)) in
    let first : IsFirstFragment (part v start len) (from - start) c.in-Some.f = rw c.in-Some.is at finds in
    subst (IsFirstFound v from) (sym c.found_at.ensures)
    (found_up v start len (omega (arith, all)) from c.in-Some.f (inl all) c.requires.low c.requires.lead first)

pub returns-in-None-clause-tells : goal.returns-in-None-clause-tells
returns-in-None-clause-tells c = λ v long finds.
    let start = c.args.start in
    let len = c.args.len in
    let from = c.args.from in
    let all : start + len ≡ length v = (let total = c.if-start-len.true in omega (arith, total, long)) in
    let none : HasNoneFrom (part v start len) (from - start) = rw c.in-None.is at finds in
    none_up v start len (omega (arith, all)) from all c.requires.low none

pub returns-in-Some-next-clause-tells : goal.returns-in-Some-next-clause-tells
returns-in-Some-next-clause-tells c = λ v long finds.
    let start = c.args.start in
    let len = c.args.len in
    let from = c.args.from in
    let inside : start + len ≤ length v = (let fits = c.requires.inside in omega (arith, fits, long)) in
    let first : IsFirstFragment (part v start len) (from - start) c.in-Some-next.f = rw c.in-Some-next.is at finds in
    let near : c.in-Some-next.f.start + 4096 ≤ len = (
    let few = c.if-f-len.true in
    let some : 8192 ≤ len = elim c.requires.enough [ inl all ↦ absurd (c.if-start-len.false all) | inr enough ↦ enough ] in
    omega (arith, few, some)) in
    subst (IsFirstFound v from) (sym c.found_at-in-Some-next.ensures)
    (found_up v start len inside from c.in-Some-next.f (inr near) c.requires.low c.requires.lead first)

pub returns-in_default-clause-tells : goal.returns-in_default-clause-tells
returns-in_default-clause-tells c = λ v long finds.
    let start = c.args.start in
    let len = c.args.len in
    let from = c.args.from in
    let inside : start + len ≤ length v = (let fits = c.requires.inside in omega (arith, fits, long)) in
    let some : 8192 ≤ len = elim c.requires.enough [ inl all ↦ absurd (c.if-start-len.false all) | inr enough ↦ enough ] in
    elim c.in_default.branch [
      | in_default-via-in-Some-next+else-f-len w ↦ (
          let first : IsFirstFragment (part v start len) (from - start) w.in-Some-next.f = rw w.in-Some-next.is at finds in
          let far = w.if-f-len.false in
          passes_first v start len inside from w.in-Some-next.f some c.requires.low c.requires.high (omega (arith, far)) first)
      | in_default-via-in_default w ↦ (
          let none : HasNoneFrom (part v start len) (from - start) = rw w.in_default.is at finds in
          passes_none v start len inside from some c.requires.low c.requires.high none)
    ]
