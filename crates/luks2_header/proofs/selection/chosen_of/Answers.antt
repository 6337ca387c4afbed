use Rattle.std.proofs.Common.{◌≡◌, Option, IfSome, arith, ap, sym, ◌∙◌, subst}
use Rattle.luks2_header.specs.SoundCopies.{kept_at, FindsSoundCopy}
use Rattle.luks2_header.specs.declared.bin2.Bin2.{Bin2}
use Rattle.luks2_header.proofs.ChosenCopyFacts.{chosen_first, chosen_newer, newer_first, newer_second, place_is}
use Rattle.luks2_header.proofs.selection.chosen_of.Goals as goal
use Rattle.luks2_header.proofs.selection.chosen_of.Goals.{then-second-first, else-second-first}

pub returns-after-second-first-clause-chosen : goal.returns-after-second-first-clause-chosen
returns-after-second-first-clause-chosen c = λ v o one size two.
    chosen_newer v o c.args.first c.args.second c.in_ok-first.first c.in-Some.second _ _ c.in_ok-first.was c.in-Some.is one size two c.newer.ensures

pub returns-after-second-first-clause-json : goal.returns-after-second-first-clause-json
returns-after-second-first-clause-json c = λ v o one two kept other.
    let P : Option Bin2 → Type 0 = λ x. FindsSoundCopy v 0 x in
    let Q : Option Bin2 → Type 0 = λ x. FindsSoundCopy v o x in
    let K : Option Bin2 → Type 0 = λ x. IfSome x (λ _. c.args.second_json.now ≡ kept_at v o) in
    elim c.if-second-first.branch [
      | then-second-first w ↦
          let newest = newer_second c.in_ok-first.first c.in-Some.second _ _ (omega arith) c.newer.ensures in
          w.json-is ∙ w.copy_from_slice.ensures.after ∙ subst K c.in-Some.is other
          ∙ ap (kept_at v) (sym (ap (λ h. h.hdr_offset) newest ∙ place_is v o c.in-Some.second (subst Q c.in-Some.is two)))
      | else-second-first w ↦
          let newest = newer_first c.in_ok-first.first c.in-Some.second _ _ (omega arith) c.newer.ensures in
          w.json-is ∙ kept
          ∙ ap (kept_at v) (sym (ap (λ h. h.hdr_offset) newest ∙ place_is v 0 c.in_ok-first.first (subst P c.in_ok-first.was one)))
    ]

pub returns-in-None-clause-chosen : goal.returns-in-None-clause-chosen
returns-in-None-clause-chosen c = λ v o one size two.
    chosen_first v o c.args.first c.args.second c.in_ok-first.first c.in_ok-first.was c.in-None.is one size two

pub returns-in-None-clause-json : goal.returns-in-None-clause-json
returns-in-None-clause-json c = λ v o one two kept other.
    let P : Option Bin2 → Type 0 = λ x. FindsSoundCopy v 0 x in
    kept ∙ ap (kept_at v) (sym (place_is v 0 c.in_ok-first.first (subst P c.in_ok-first.was one)))
