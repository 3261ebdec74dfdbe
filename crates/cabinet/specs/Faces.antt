-- What the C face answers where it differs from the calls: an enum and two parts, each as numbers. Assumes nothing.
use Rattle.std.specs.Prelude.{List, ℕ, length}
use Rattle.words.specs.Answers.{CoverTest, Yes, No, Refused}
use Rattle.words.specs.Answers.{accepted, best_pattern_no, best_pattern_part}
use Rattle.words.specs.PlantFile.{file_no, symbols}
use Rattle.cabinet.specs.declared.Covers.{Covers}
use Rattle.cabinet.specs.declared.Span.{Span}

unfoldable pub covers_of : CoverTest → Covers
covers_of Yes = record { number = 0; covers = 1 }
covers_of No = record { number = 0; covers = 0 }
covers_of (Refused k) = record { number = k; covers = 0 }

-- the best pattern begins where the log begins
unfoldable pub pattern_span : List ℕ → Span
pattern_span x = record { number = best_pattern_no x; start = 0; len = length (best_pattern_part x) }

-- the symbols begin after the third byte
unfoldable pub file_span : List ℕ → Span
file_span f = record { number = file_no f; start = accepted (file_no f) 3 0; len = length (symbols f) }
