-- The lines that `find` prints.
use Rattle.std.specs.Prelude.{◌≡◌, ◌⊎◌, ℕ, ◌+◌, List, [], ◌∷◌, ◌++◌, codes, Option, Some, drop, option_map}
use Rattle.std.specs.Fmt.{decimal}
use Rattle.luks_reading.specs.Checked.{First}
use Rattle.luks_reading.specs.declared.report.Data.TheVariants.{Here}
use Rattle.luks_commands.specs.Answer.{line, line_of}
use Rattle.luks_commands.specs.CheckAnswers.{IsAccepted}
use Rattle.luks_commands.specs.declared.answers.Answer.{Answer}
use Rattle.luks_commands.specs.declared.answers.Answer.TheVariants.{Accepted, DeviceFault, Refused}
use Rattle.luks_commands.specs.declared.answers.Refusal.TheVariants.{Check}

-- what `check` answers of the volume `v`, which has its payload itself, where no call fails and memory is given
abbrev pub IsVerdict : List ℕ → Answer → Type 0
IsVerdict v (Accepted version areas) = IsAccepted v Here version areas
IsVerdict v (Refused (Check f)) = First v Here f
IsVerdict v a = ⊥

-- a volume begins at the byte `offset` of the file, of which `check` prints this answer
abbrev pub start_line : ℕ → Answer → Option (List ℕ)
start_line offset verdict = option_map (λ text. decimal offset ++ codes " " ++ text) (line_of verdict)

-- no volume was found
abbrev pub none_found : List ℕ
none_found = line (codes "none found")

-- the line of the volume that begins at `s` of the bytes `v`, which begin at the byte `offset` of their file
pub record IsStartLine (offset : ℕ) (v : List ℕ) (s : ℕ) (text : List ℕ) : Type 0 where
  pub verdict : Answer
  pub says : IsVerdict (drop s v) verdict
  pub is : start_line (offset + s) verdict ≡ Some text

-- the text is a line for each of the starts, in their order
abbrev pub AreLines : ℕ → List ℕ → List ℕ → List ℕ → Type 0
AreLines offset v [] text = text ≡ []
AreLines offset v (s ∷ starts) text = (first : List ℕ) × (rest : List ℕ) × IsStartLine offset v s first × AreLines offset v starts rest × (text ≡ first ++ rest)

-- the same where not all could be read that `check` needs
pub record IsUnreadLine (offset s : ℕ) (text : List ℕ) : Type 0 where
  pub is : start_line (offset + s) DeviceFault ≡ Some text

-- either of these, the second one only where `failing` holds
abbrev pub IsLineBy : Type 0 → ℕ → List ℕ → ℕ → List ℕ → Type 0
IsLineBy failing offset v s text = IsStartLine offset v s text ⊎ (failing × IsUnreadLine offset s text)

abbrev pub AreLinesBy : Type 0 → ℕ → List ℕ → List ℕ → List ℕ → Type 0
AreLinesBy failing offset v [] text = text ≡ []
AreLinesBy failing offset v (s ∷ starts) text =
    (first : List ℕ) × (rest : List ℕ) × IsLineBy failing offset v s first × AreLinesBy failing offset v starts rest × (text ≡ first ++ rest)

-- what follows the lines of all starts: where there is none, that line
abbrev pub end_line : List ℕ → List ℕ
end_line [] = none_found
end_line (s ∷ starts) = []

-- the exit status
abbrev pub found_status : List ℕ → ℕ
found_status [] = 1
found_status (s ∷ starts) = 0
