-- What was composed and judged is what the copy's binary header vouches for.
use Rattle.std.proofs.Common.{◌≡◌, ℕ, List, ◌++◌, inr, length, take, drop, sym, ap, ◌∙◌, arith, subst, Option, Some, None, Result, Ok, Err, IfOk, IfErr, IfSome}
use Rattle.std.proofs.lemmas.List.{append-nil, drop_all, take_all}
use Rattle.luks_meta.specs.MetaFault.{IsMetaFault}
use Rattle.luks_rules.specs.declared.fault.MetaFault.{MetaFault}
use Rattle.luks_vouching.specs.Faults.{IsMemoryWhereStands}
use Rattle.luks_vouching.specs.Tried.{IsFirstTried}
use Rattle.luks_vouching.specs.Vouched.{area_at, mended_header, FindsComposed, FindsVouched, JudgesArea, MeetsSum, Stands}
use Rattle.luks_vouching.specs.declared.vouch_fault.VouchFault.{VouchFault}
use Rattle.luks_vouching.specs.declared.vouch_fault.VouchFault.TheVariants.{Memory, Device}
use Rattle.luks_vouching.specs.declared.vouched.Vouched.{Vouched}

-- what a vector holds after all of it was written
pub same_items : (items new : List ℕ) (len : ℕ) → len ≡ length items → length new ≡ length items → take len (new ++ drop (length new) items) ≡ new
same_items items new len long same =
    ap (λ l. take len (new ++ l)) (drop_all (length new) items (omega (arith, same)))
    ∙ ap (take len) (append-nil new) ∙ take_all len new (omega (arith, long, same))

-- the first composition, judged
pub judged_area : {F : Type 0} (r : Result (Option Vouched) F) (most : ℕ) (head first second j : List ℕ) → IsFirstTried most first second (MeetsSum head) j
    → IfOk r (JudgesArea head j) → IfOk r (λ found. IfSome found (λ w. w.json.items ≡ j)) → IfOk r (FindsComposed most head first second)
judged_area (Ok None) most head first second j tried x same = inr (record { area = j; meeting = tried; fault = x.0; is = x.1 })
judged_area (Ok (Some w)) most head first second j tried x same =
    (subst (IsFirstTried most first second (MeetsSum head)) (sym same) tried, subst (λ (l : List ℕ). (f : MetaFault) → IsMetaFault l f → ⊥) (sym same) x.0, x.1)
judged_area (Err f) most head first second j tried x same = tt

module _ (most : ℕ) (v : List ℕ) (size o : ℕ) (stands : Stands v size o) where
  -- of a header that stands
  pub composed_vouched : {F : Type 0} (r : Result (Option Vouched) F)
      → IfOk r (FindsComposed most (mended_header v o) (area_at v 0 size) (area_at v size size)) → IfOk r (FindsVouched most v size o)
  composed_vouched (Ok None) x = inr x
  composed_vouched (Ok (Some w)) x = (record { stands = stands; meeting = x.0; faultless = x.1 }, x.2)
  composed_vouched (Err f) x = tt

  pub stands_refused : {A : Type 0} (r : Result A VouchFault) → IfErr r (IsMemoryWhereStands v size o)
  stands_refused (Ok a) = tt
  stands_refused (Err Memory) = stands
  stands_refused (Err Device) = tt
