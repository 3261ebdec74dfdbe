-- Where the symbols lie in the file. Assumes nothing.
use Rattle.std.specs.Prelude.{List, ℕ, ◌+◌}
use Rattle.words.specs.Answers.{accepted}
use Rattle.words.specs.PlantFile.{file_no}

-- the place of the symbols of a file that lies at p: after its third byte, or at its start where it is refused
unfoldable pub part_place : List ℕ → ℕ × ℕ → ℕ × ℕ
part_place f p = (p.0, accepted (file_no f) (3 + p.1) p.1)
