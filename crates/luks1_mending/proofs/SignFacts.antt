-- Two of four statements.
use Rattle.std.proofs.Common.{Bool, IsTrue, ◌↔◌, inl, inr}
use Rattle.luks1_mending.specs.Signs.{AreTwo}

-- of four that imply others two of these hold
pub two_so : (A B C D P Q R S : Type 0) → (A → P) → (B → Q) → (C → R) → (D → S) → AreTwo A B C D → AreTwo P Q R S
two_so A B C D P Q R S a b c d (inl (x, y)) = inl (a x, b y)
two_so A B C D P Q R S a b c d (inr (inl (x, y))) = inr (inl (a x, c y))
two_so A B C D P Q R S a b c d (inr (inr (inl (x, y)))) = inr (inr (inl (a x, d y)))
two_so A B C D P Q R S a b c d (inr (inr (inr (inl (x, y))))) = inr (inr (inr (inl (b x, c y))))
two_so A B C D P Q R S a b c d (inr (inr (inr (inr (inl (x, y)))))) = inr (inr (inr (inr (inl (b x, d y)))))
two_so A B C D P Q R S a b c d (inr (inr (inr (inr (inr (x, y)))))) = inr (inr (inr (inr (inr (c x, d y)))))

-- so by tests
pub two_by : (A B C D : Type 0) (a b c d r : Bool) → IsTrue a ↔ A → IsTrue b ↔ B → IsTrue c ↔ C → IsTrue d ↔ D
    → IsTrue r ↔ AreTwo (IsTrue a) (IsTrue b) (IsTrue c) (IsTrue d) → IsTrue r ↔ AreTwo A B C D
two_by A B C D a b c d r e f g h said = (
  λ yes. two_so (IsTrue a) (IsTrue b) (IsTrue c) (IsTrue d) A B C D e.0 f.0 g.0 h.0 (said.0 yes),
  λ x. said.1 (two_so A B C D (IsTrue a) (IsTrue b) (IsTrue c) (IsTrue d) e.1 f.1 g.1 h.1 x),
)
