-- What a text gives: the plant's file of its readings, or what is wrong with it. Assumes nothing.
use Rattle.std.specs.Prelude.{cond, ◌≡◌, List, [], ◌∷◌, ◌++◌, ℕ, ◌+◌, ◌-◌, ◌/◌, ◌%◌, ◌^◌, min, eqb, ltb, length, Some, None, Ok, Err}
use Rattle.words.specs.Refusals.{longest}
use Rattle.words.specs.PlantFile.{file_no}
use Rattle.ppm_line.specs.declared.LineFault.{LineFault}
use Rattle.ppm_line.specs.declared.LineFault.TheVariants as line_fault
use Rattle.ppm_text.specs.declared.Fault.{Fault}
use Rattle.ppm_text.specs.declared.Fault.TheVariants as fault
use Rattle.ppm_line.specs.Lines.{Said, symbol_of, says}

-- the byte that ends a line
abbrev pub line_end : ℕ
line_end = 10

-- The lines of a text. The last one may lack its line end
unfoldable pub joined : ℕ → List (List ℕ) → List (List ℕ)
joined b [] = (b ∷ []) ∷ []
joined b (x ∷ xs) = (b ∷ x) ∷ xs

unfoldable pub lines : List ℕ → List (List ℕ)
lines [] = []
lines (b ∷ t) = cond (eqb b line_end) ([] ∷ lines t) (joined b (lines t))

-- What a text gives: the symbols of its readings; a fault with the number of its line; the news that it has no reading
pub data Outcome : Type 0 where
  symbols : List ℕ → Outcome
  wrong : Fault → ℕ → Outcome
  no_reading : Outcome

-- the number of the line after line k; the count stops at the greatest number
abbrev pub next_number : ℕ → ℕ
next_number k = min (k + 1) (2 ^ 64 - 1)

-- a text at its end, after the readings ss
unfoldable pub whole : List ℕ → Outcome
whole ss = cond (eqb (length ss) 0) no_reading (symbols ss)

-- what is wrong with a line, as a fault of its text
abbrev pub fault_of : LineFault → Fault
fault_of line_fault.NoNumber = fault.NoNumber
fault_of line_fault.LongNumber = fault.LongNumber

-- line k says this, after the readings ss; go is what the readings then give with the lines after it
unfoldable pub given : Said → ℕ → List ℕ → (List ℕ → Outcome) → Outcome
given (Ok None) k ss go = go ss
given (Ok (Some ppm)) k ss go = cond (ltb (length ss) longest) (go (ss ++ (symbol_of ppm ∷ []))) (wrong fault.Many k)
given (Err f) k ss go = wrong (fault_of f) k

-- the lines from line k on, after the readings ss
unfoldable pub from : ℕ → List ℕ → List (List ℕ) → Outcome
from k ss [] = whole ss
from k ss (x ∷ xs) = given (says x) k ss (λ r. from (next_number k) r xs)

unfoldable pub outcome : List ℕ → Outcome
outcome text = from 1 [] (lines text)

-- the plant's file of these symbols
unfoldable pub file_of : List ℕ → List ℕ
file_of ss = 1 ∷ length ss / 256 ∷ length ss % 256 ∷ ss

-- The file of some text, which the plant's reader accepts
pub record Made (file : List ℕ) : Type 0 where
  pub text : List ℕ
  pub readings : List ℕ
  pub meaning : outcome text ≡ symbols readings
  pub is : file ≡ file_of readings
  pub accepted : file_no file ≡ 0
