-- What a copy of a table holds, as a column of any log. Assumes nothing.
use Rattle.std.specs.Prelude.{List, get_or, ℕ}
use Rattle.words.specs.Tables.{Column}

unfoldable pub copy_row : List ℕ → Column
copy_row t x r = get_or t r 0
