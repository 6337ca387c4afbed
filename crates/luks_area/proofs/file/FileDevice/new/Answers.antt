use Rattle.std.proofs.Common.{◌≡◌, ℕ, ◌+◌, List, length, Option, None, Some, IfSome, arith}
use Rattle.luks_area.proofs.file.FileDevice.new.Goals as goal

-- where a file tells its bytes, the place of its end is their number
end_place : (position : Option ℕ) (bytes : Option (List ℕ)) (total : ℕ) (Moved : ℕ → Type 0)
    → IfSome position (λ p. IfSome bytes (λ xs. total ≡ length xs + 0) × Moved p)
    → IfSome position (λ _. IfSome bytes (λ xs. total ≡ length xs))
end_place None bytes total Moved known = tt
end_place (Some p) None total Moved known = tt
end_place (Some p) (Some xs) total Moved known = let is : total ≡ length xs + 0 = known.0 in omega (arith, is)

pub returns-clause-length : goal.returns-clause-length
returns-clause-length g c = end_place _ _ _ _ c.in_ok-total.ensures.moves
