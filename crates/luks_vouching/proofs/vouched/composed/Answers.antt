use Rattle.std.proofs.Common.{◌≡◌, ℕ, List, ◌++◌, inl, length, take, drop, sym, ap, ◌∙◌, subst}
use Rattle.sha2.specs.Sha256.{sha256}
use Rattle.luks2_header.specs.Header2.{with_zero_checksum}
use Rattle.luks_vouching.specs.Tried.{IsFirstTried, IsNoneTried}
use Rattle.luks_vouching.specs.Vouched.{MeetsSum}
use Rattle.luks_vouching.proofs.FoundFacts.{judged_area, same_items}
use Rattle.luks_vouching.proofs.vouched.composed.Goals as goal

pub returns-clause-found : goal.returns-clause-found
returns-clause-found g c =
    let F : List ℕ → Type 0 = λ s. IsFirstTried c.args.most c.deref.result.now c.deref-2.result.now (λ j. s ≡ sha256 (with_zero_checksum c.args.head.now ++ j)) c.compose-is_met.new.json in
    let of_derefs : IsFirstTried c.args.most c.deref.result.now c.deref-2.result.now (MeetsSum c.args.head.now) c.compose-is_met.new.json =
    subst F c.sum_of.ensures (c.compose-is_met.ensures.found (with_zero_checksum c.args.head.now) c.hasher_of.ensures c.if-not-is_met.false) in
    let tried : IsFirstTried c.args.most c.args.first.items c.args.second.items (MeetsSum c.args.head.now) c.compose-is_met.new.json =
    subst (λ (l : List ℕ). IsFirstTried c.args.most l c.args.second.items (MeetsSum c.args.head.now) c.compose-is_met.new.json) c.deref.ensures.value
    (subst (λ (l : List ℕ). IsFirstTried c.args.most c.deref.result.now l (MeetsSum c.args.head.now) c.compose-is_met.new.json) c.deref-2.ensures.value of_derefs) in
    let same : take c.in_ok-json.json.len (c.compose-is_met.new.json ++ drop (length c.compose-is_met.new.json) c.in_ok-json.json.items) ≡ c.compose-is_met.new.json =
    same_items c.in_ok-json.json.items c.compose-is_met.new.json c.in_ok-json.json.len c.in_ok-json.json.ok.0 (c.compose-is_met.auto.json ∙ ap length c.deref_mut.ensures.value) in
    judged_area c.judged.result c.args.most c.args.head.now c.args.first.items c.args.second.items _
    (subst (IsFirstTried c.args.most c.args.first.items c.args.second.items (MeetsSum c.args.head.now)) (sym same) tried) c.judged.ensures.found c.judged.ensures.same

pub returns-then-not-is_met-clause-found : goal.returns-then-not-is_met-clause-found
returns-then-not-is_met-clause-found g c =
    let F : List ℕ → Type 0 = λ s. IsNoneTried c.args.most c.deref.result.now c.deref-2.result.now (λ j. s ≡ sha256 (with_zero_checksum c.args.head.now ++ j)) in
    let of_derefs : IsNoneTried c.args.most c.deref.result.now c.deref-2.result.now (MeetsSum c.args.head.now) =
    subst F c.sum_of.ensures (c.compose-is_met.ensures.none (with_zero_checksum c.args.head.now) c.hasher_of.ensures c.if-not-is_met.true) in
    inl (subst (λ (l : List ℕ). IsNoneTried c.args.most l c.args.second.items (MeetsSum c.args.head.now)) c.deref.ensures.value
    (subst (λ (l : List ℕ). IsNoneTried c.args.most c.deref.result.now l (MeetsSum c.args.head.now)) c.deref-2.ensures.value of_derefs))
