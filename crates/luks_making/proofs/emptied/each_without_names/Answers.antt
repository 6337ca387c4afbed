use Rattle.std.proofs.Common.{◌≡◌, [], ◌∷◌, ◌++◌, sym, ap, ◌∙◌, subst, append_assoc}
use Rattle.std.specs.List.Sorted.{IsStrictlySortedBy}
use Rattle.std.specs.Map.{keys_of}
use Rattle.std.specs.String.{string_cmp}
use Rattle.serde_json.specs.View.{members_view}
use Rattle.serde_json.proofs.Views.{Entry, members_view-insert_entry}
use Rattle.luks_making.specs.Without.{without_names}
use Rattle.luks_making.proofs.MapFacts.{each_next}
use Rattle.luks_making.proofs.emptied.each_without_names.Goals as goal

pub loop-key-preserved : goal.loop-key-preserved
loop-key-preserved c =
    let l = c.loop-key in
    let done = l.invariant.0 in
    let e : Entry = (c.in-Some.key, c.in-Some.member) in
    let left = c.next.new.self in
    let all : c.args.members.entries ≡ done ++ e ∷ left = l.invariant.1 ∙ ap (λ es. done ++ es) c.in-Some.ensures.steps in
    let last = each_next without_names done e left (subst (λ es. IsStrictlySortedBy string_cmp (keys_of es)) all c.into_iter-key-iterator.ensures.into_iter_gives.5) in (
      done ++ e ∷ [],
      all ∙ sym (append_assoc done (e ∷ []) left),
      ap members_view c.in_ok-insert.ensures.entries ∙ members_view-insert_entry l.changed.entries c.in-Some.key c.in_ok-without_names.field-0
          ∙ rw (c.in_ok-without_names.ensures, l.invariant.2) last,
    )
