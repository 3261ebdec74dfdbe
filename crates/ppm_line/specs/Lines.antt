-- What a line says. A line is the list of its bytes without its line end. Assumes nothing.
use Rattle.std.specs.Prelude.{Bool, true, cond, ◌&&◌, ◌||◌, List, [], ◌∷◌, ℕ, ◌+◌, ◌-◌, ◌*◌, ◌/◌, ◌%◌, min, eqb, leb, Option, Some, None, Result, Ok, Err}
use Rattle.words.specs.PlantFile.{ceiling_symbol}
use Rattle.ppm_line.specs.declared.Number.{Number}
use Rattle.ppm_line.specs.declared.Line.{Line}
use Rattle.ppm_line.specs.declared.Line.TheVariants.{Blank, Remark, Digits, Spaced, Other}
use Rattle.ppm_line.specs.declared.LineFault.{LineFault}
use Rattle.ppm_line.specs.declared.LineFault.TheVariants.{NoNumber, LongNumber}

-- What a whole line says: a reading, nothing, or what is wrong with it
abbrev pub Said : Type 0
Said = Result (Option ℕ) LineFault

-- the symbol of a reading: whole hundreds of ppm, and the ceiling's from 2000 ppm on
abbrev pub symbol_of : ℕ → ℕ
symbol_of ppm = min (ppm / 100) ceiling_symbol

-- a space, a tab or a carriage return; a digit; the mark of a remark
unfoldable pub blank : ℕ → Bool
blank b = eqb b 32 || eqb b 9 || eqb b 13

unfoldable pub digit : ℕ → Bool
digit b = leb 48 b && leb b 57

abbrev pub mark : ℕ
mark = 35

-- nothing but blanks
unfoldable pub blanks : List ℕ → Bool
blanks [] = true
blanks (b ∷ t) = blank b && blanks t

-- The digits of a number so far. They are counted to seven, and of their value the last six digits are kept:
-- a number of at most six digits is known exactly, a longer one is known to be longer
unfoldable pub no_digits : Number
no_digits = record { digits = 0; ppm = 0 }

unfoldable pub longer : Number → ℕ → Number
longer n b = record { digits = min (n.digits + 1) 7; ppm = n.ppm % 100000 * 10 + (b - 48) }

-- what a whole number says
unfoldable pub of_number : Number → Said
of_number n = cond (leb n.digits 6) (Ok (Some n.ppm)) (Err LongNumber)

-- what a line says after the digits n: more digits, and then nothing but blanks
unfoldable pub after_number : Number → List ℕ → Said
after_number n t = cond (blanks t) (of_number n) (Err NoNumber)

unfoldable pub after_digits : Number → List ℕ → Said
after_digits n [] = of_number n
after_digits n (b ∷ t) = cond (digit b) (after_digits (longer n b) t) (after_number n (b ∷ t))

-- what a line says: after blanks nothing, a remark or a number
unfoldable pub says : List ℕ → Said
says [] = Ok None
says (b ∷ t) = cond (blank b) (says t) (cond (eqb b mark) (Ok None) (cond (digit b) (after_digits (longer no_digits b) t) (Err NoNumber)))

-- what a line says that begins with what amounts to l, where t is the rest of it
unfoldable pub says_after : Line → List ℕ → Said
says_after Blank t = says t
says_after Remark t = Ok None
says_after (Digits n) t = after_digits n t
says_after (Spaced n) t = after_number n t
says_after Other t = Err NoNumber

-- For the laws that say in plain words what a line says: nothing but digits, and the number that they spell after v
unfoldable pub digits : List ℕ → Bool
digits [] = true
digits (b ∷ t) = digit b && digits t

unfoldable pub spelt : ℕ → List ℕ → ℕ
spelt v [] = v
spelt v (b ∷ t) = spelt (v * 10 + (b - 48)) t
