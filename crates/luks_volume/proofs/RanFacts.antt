-- Lists of edits, step by step, and what they keep.
use Rattle.std.proofs.Common.{ℕ, List, [], ◌∷◌, refl, sym, ◌∙◌, subst, inl, inr}
use Rattle.luks_area.specs.declared.area.AreaName.{AreaName}
use Rattle.luks_area.specs.declared.area.AreaName.TheVariants.{Slot, Segment}
use Rattle.luks_edit.specs.declared.edit.Edit.{Edit}
use Rattle.luks_edit.specs.declared.edit.Step.{Step}
use Rattle.luks_reading.specs.declared.report.Data.{Data}
use Rattle.luks_reading.specs.Checked.{WellFormed}
use Rattle.luks_edit.specs.Kept.{Keeps, KeepsArea, KeepsSlot}
use Rattle.luks_edit.specs.Ran.{AreRun, HasNoFailure, IsCompleted, IsFailure, IsNamedIn, Naming, Reply, Replying}

-- what is kept twice is kept
pub area_then : (payload : Data) (n : AreaName) (v u w : List ℕ) → KeepsArea payload n v u → KeepsArea payload n u w → KeepsArea payload n v w
area_then payload n v u w x y = record {
  same = λ a. ((λ is. (y.same a).0 ((x.same a).0 is)), (λ is. (x.same a).1 ((y.same a).1 is)));
  bytes = λ a is. y.bytes a ((x.same a).0 is) ∙ x.bytes a is;
}

pub slot_then : (payload : Data) (n : ℕ) (v u w : List ℕ) → KeepsSlot payload n v u → KeepsSlot payload n u w → KeepsSlot payload n v w
slot_then payload n v u w x y = record {
  area = area_then payload (Slot n) v u w x.area y.area;
  entry = λ b. ((λ is. (y.entry b).0 ((x.entry b).0 is)), (λ is. (x.entry b).1 ((y.entry b).1 is)));
  value = λ d. ((λ is. (y.value d).0 ((x.value d).0 is)), (λ is. (x.value d).1 ((y.value d).1 is)));
  answers = λ allowed p a. ((λ is. (y.answers allowed p a).0 ((x.answers allowed p a).0 is)), (λ is. (x.answers allowed p a).1 ((y.answers allowed p a).1 is)));
}

area_same : (payload : Data) (n : AreaName) (v : List ℕ) → KeepsArea payload n v v
area_same payload n v = record { same = λ a. ((λ is. is), (λ is. is)); bytes = λ a is. refl }

slot_same : (payload : Data) (n : ℕ) (v : List ℕ) → KeepsSlot payload n v v
slot_same payload n v = record {
  area = area_same payload (Slot n) v;
  entry = λ b. ((λ is. is), (λ is. is));
  value = λ d. ((λ is. is), (λ is. is));
  answers = λ allowed p a. ((λ is. is), (λ is. is));
}

-- a volume keeps itself
pub kept_same : (payload : Data) (named : ℕ → Type 0) (v : List ℕ) → WellFormed v payload → Keeps payload named v v
kept_same payload named v well = record {
  size = refl;
  well = well;
  segments = λ n. area_same payload (Segment n) v;
  slots = λ n not. slot_same payload n v;
}

-- what two edits keep, both together keep
kept_then : (payload : Data) (first second both : ℕ → Type 0) (v u w : List ℕ) → ((n : ℕ) → first n → both n) → ((n : ℕ) → second n → both n)
    → Keeps payload first v u → Keeps payload second u w → Keeps payload both v w
kept_then payload first second both v u w of_first of_second x y = record {
  size = y.size ∙ x.size;
  well = y.well;
  segments = λ n. area_then payload (Segment n) v u w (x.segments n) (y.segments n);
  slots = λ n not. slot_then payload n v u w (x.slots n (λ is. not (of_first n is))) (y.slots n (λ is. not (of_second n is)));
}

module _ (R : Replying) (N : Naming) (payload : Data)
    (one : (v w : List ℕ) (e : Edit) (b : List ℕ) (r : Reply) → WellFormed v payload → R v e b r w → (IsFailure r → ⊥)
    → Keeps payload (λ n. IsCompleted r × N v e n) v w)
  where
    -- a list of edits in which the device didn't fail keeps what no completed edit of it names
    pub list_keeps : (ss : List Step) (rs : List Reply) (us : List (List ℕ)) (v w : List ℕ) → WellFormed v payload → AreRun R v ss rs us w → HasNoFailure rs
        → Keeps payload (IsNamedIn N v ss rs us) v w
    list_keeps [] [] [] v w well run fine = subst (λ u. Keeps payload (IsNamedIn N v [] [] []) v u) (sym run) (kept_same payload (IsNamedIn N v [] [] []) v well)
    list_keeps [] [] (u ∷ us) v w well run fine = absurd run
    list_keeps [] (r ∷ rs) us v w well run fine = absurd run
    list_keeps (s ∷ ss) [] us v w well run fine = absurd run
    list_keeps (s ∷ ss) (r ∷ rs) [] v w well run fine = absurd run
    list_keeps (s ∷ ss) (r ∷ rs) (u ∷ us) v w well run fine =
        let first = one v u s.edit s.random.now r well run.0 fine.0 in
        elim run.1 [
          | inl on ↦ kept_then payload (λ n. IsCompleted r × N v s.edit n) (IsNamedIn N u ss rs us) (IsNamedIn N v (s ∷ ss) (r ∷ rs) (u ∷ us)) v u w (λ n is. inl is) (λ n is. inr is) first (list_keeps ss rs us u w first.well on.1 fine.1)
          | inr stop ↦ absurd (fine.0 stop.0)
        ]
