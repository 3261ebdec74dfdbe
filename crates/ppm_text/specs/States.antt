-- What the contracts say of a text that is being read: its state, and the file that takes its symbols. Assumes nothing.
use Rattle.std.specs.Prelude.{◌≡◌, List, [], ◌∷◌, ◌++◌, ℕ, ◌+◌, ◌/◌, ◌%◌, ◌≤◌, length, take, drop, set, Option, Some, None, refl}
use borrow.Author.Tests.{leb-true}
use Rattle.words.specs.Refusals.{longest}
use Rattle.ppm_line.specs.declared.Line.{Line}
use Rattle.ppm_line.specs.declared.Line.TheVariants.{Blank}
use Rattle.ppm_line.specs.Lines.{Said, says_after}
use Rattle.ppm_text.specs.declared.Fault.{Fault}
use Rattle.ppm_text.specs.declared.Fault.TheVariants as fault
use Rattle.ppm_text.specs.declared.State.{State}
use Rattle.ppm_text.specs.Texts.{Outcome, symbols, wrong, no_reading, lines, next_number, given, from, outcome, file_of}

-- What a state of the reading gives with the lines xs to come. Its own line goes on with the first of them

-- the symbols of n readings in a file
unfoldable pub heard : ℕ → List ℕ → List ℕ
heard n file = take n (drop 3 file)

-- the file has room for the longest log, which the readings keep to
pub record Room (n : ℕ) (file : List ℕ) : Type 0 where
  pub few : n ≤ longest
  pub long : length file ≡ 3 + longest

-- where the state's line says this
unfoldable pub line_gives : State → List ℕ → Said → List (List ℕ) → Outcome
line_gives s file w xs = given w s.number (heard s.readings file) (λ r. from (next_number s.number) r xs)

unfoldable pub ahead : State → List ℕ → List (List ℕ) → Outcome
ahead s file [] = line_gives s file (says_after s.line []) []
ahead s file (x ∷ xs) = line_gives s file (says_after s.line x) xs

-- a fault, with the number of its line where it has one
abbrev pub fault_at : Fault → ℕ → Outcome
fault_at fault.NoNumber k = wrong fault.NoNumber k
fault_at fault.LongNumber k = wrong fault.LongNumber k
fault_at fault.Many k = wrong fault.Many k
fault_at fault.Empty k = no_reading

-- o where there is no fault
unfoldable pub stopped : Option Fault → ℕ → Outcome → Outcome
stopped None k o = o
stopped (Some f) k o = fault_at f k

unfoldable pub gives : State → List ℕ → List (List ℕ) → Outcome
gives s file xs = stopped s.fault s.number (ahead s file xs)

-- at the end of the text
unfoldable pub ended : State → List ℕ → Outcome
ended s file = stopped s.fault s.number (symbols (heard s.readings file))

-- The states and the file that the code makes
pub none_yet : 0 ≤ longest
none_yet = leb-true 0 longest refl

abbrev pub start_state : State
start_state = record { line = Blank; number = 1; readings = 0; fault = None; few = none_yet }

abbrev pub stop_at : State → Fault → State
stop_at s f = record { line = s.line; number = s.number; readings = s.readings; fault = Some f; few = s.few }

abbrev pub with_line : State → Line → State
with_line s l = record { line = l; number = s.number; readings = s.readings; fault = s.fault; few = s.few }

abbrev pub line_after : State → (n : ℕ) → n ≤ longest → State
line_after s n h = record { line = Blank; number = next_number s.number; readings = n; fault = None; few = h }

abbrev pub headed : ℕ → List ℕ → List ℕ
headed n file = set (set (set file 0 1) 1 (n / 256)) 2 (n % 256)

-- where nothing is wrong, the state is at the front of a line
pub record AtFront (s : State) (file : List ℕ) : Type 0 where
  pub room : Room s.readings file
  pub front : s.fault ≡ None → s.line ≡ Blank

-- What a piece of code does to a state s and its file, which become r and file'

-- it ends the state's line, which says w
pub record EndsLine (s : State) (file : List ℕ) (w : Said) (r : State) (file' : List ℕ) : Type 0 where
  pub after : AtFront r file'
  pub meaning : (xs : List (List ℕ)) → gives r file' xs ≡ line_gives s file w xs

-- it takes this piece of the text
pub record Takes (piece : List ℕ) (s : State) (file : List ℕ) (r : State) (file' : List ℕ) : Type 0 where
  pub room : Room r.readings file'
  pub meaning : (t : List ℕ) → gives r file' (lines t) ≡ gives s file (lines (piece ++ t))

-- it ends the text; where nothing is wrong the file stands, header and all
pub record EndsText (s : State) (file : List ℕ) (r : State) (file' : List ℕ) : Type 0 where
  pub room : Room r.readings file'
  pub meaning : ended r file' ≡ gives s file []
  pub made : r.fault ≡ None → take (3 + r.readings) file' ≡ file_of (heard r.readings file')

-- The state and the file after some text, whatever pieces it came in
pub record After (s : State) (file : List ℕ) : Type 0 where
  pub text : List ℕ
  pub room : Room s.readings file
  pub meaning : (t : List ℕ) → gives s file (lines t) ≡ outcome (text ++ t)
