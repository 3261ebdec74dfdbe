-- The texts that the programs `report` and `rows` write. Assumes nothing.
use Rattle.std.specs.Prelude.{List, [], ◌∷◌, ◌++◌, map, ℕ, zero, suc, ◌+◌, ◌*◌, ◌≤◌, ◌<◌, eqb, length, slice_index}
use Rattle.std.specs.Borrow.{Bor}
use Rattle.std.specs.List.{slice_index_or}
use Rattle.words.specs.Words.{total}
use Rattle.words.specs.Tables.{Column, border_row, prefix_row, cover_row, best_row, count_row}
use Rattle.words.specs.Refusals.{longest}
use Rattle.words.specs.Answers.{answer}
use Rattle.words.specs.PlantFile.{file_no, symbols}
use Rattle.lines.specs.Text.{bytes, decimal, line, decimal_room, field_room}
use Rattle.facts.specs.Report.{refused_text}

-- a file f is refused, or its symbols have the text
unfoldable pub file_text : (List ℕ → List ℕ) → List ℕ → List ℕ
file_text text f = answer (file_no f) (text (symbols f)) refused_text

-- row r of a log x, from 0: the prefix's length, and what each column says of it
unfoldable pub row_line : List Column → List ℕ → ℕ → List ℕ
row_line cs x r = line (decimal (r + 1)) (map (λ f. f x r) cs)

unfoldable pub row_lines : List Column → List ℕ → ℕ → List ℕ
row_lines cs x zero = []
row_lines cs x (suc r) = row_lines cs x r ++ row_line cs x r

-- all rows of the five columns, and the weighed total
abbrev pub five : List Column
five = border_row ∷ prefix_row ∷ cover_row ∷ best_row ∷ count_row ∷ []

unfoldable pub rows_text : List ℕ → List ℕ
rows_text x = row_lines five x (length x) ++ line (bytes "total") (total eqb x ∷ [])

-- the room of a row, and of a row for each reading of the longest log and the total's line
abbrev pub row_room : ℕ
row_room = decimal_room + field_room * 5 + 1

abbrev pub rows_room : ℕ
rows_room = row_room * (longest + 1)

-- what the tables ts have in row r, and a line for each of the first rows, with its number before it
unfoldable pub entries : List (Bor (List ℕ)) → ℕ → List ℕ
entries ts r = map (λ t. slice_index t.now r) ts

unfoldable pub table_lines : List (Bor (List ℕ)) → ℕ → List ℕ
table_lines ts zero = []
table_lines ts (suc r) = table_lines ts r ++ line (decimal (r + 1)) (entries ts r)

-- no more than five tables, each with n rows
pub record Tables (ts : List (Bor (List ℕ))) (n : ℕ) : Type 0 where
  pub few : length ts ≤ 5
  pub most : n ≤ longest
  pub rows : (k : ℕ) (t : Bor (List ℕ)) → k < length ts → n ≤ length (slice_index_or ts k t).now
