-- The text that the program `left` writes. Assumes nothing.
use Rattle.std.specs.Prelude.{List, [], ◌∷◌, ℕ, length}
use Rattle.words.specs.Tables.{Column}
use Rattle.repeats.specs.Repeats.{left_cover_row, left_count_row, left_seed_row, seed_count_row}
use Rattle.reporting.specs.Texts.{row_lines}

-- a line for each reading: the prefix's length, its left cover with what that covers, its left seed with what that reaches
abbrev pub four : List Column
four = left_cover_row ∷ left_count_row ∷ left_seed_row ∷ seed_count_row ∷ []

unfoldable pub left_text : List ℕ → List ℕ
left_text x = row_lines four x (length x)
