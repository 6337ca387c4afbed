-- Bytes that are put behind others, piece by piece.
use Rattle.std.proofs.Common.{◌≡◌, ◌∙◌, ℕ, List, ◌++◌, ap, append_assoc}

-- one piece more
pub put_more : (t s d b : List ℕ) {u v : List ℕ} → u ≡ t ++ s → v ≡ u ++ d → d ≡ b → v ≡ t ++ (s ++ b)
put_more t s d b before put is = put ∙ ap (λ l. l ++ d) before ∙ ap (λ x. (t ++ s) ++ x) is ∙ append_assoc t s b
