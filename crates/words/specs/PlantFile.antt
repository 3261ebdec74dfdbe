-- The plant's file: a version byte, the number of readings in two bytes, the greater first, and one symbol a reading. Assumes nothing.
use Rattle.std.specs.Prelude.{not, List, [], ◌∷◌, ℕ, ◌+◌, ◌*◌, eqb, ltb, length, get_or, drop}
use Rattle.words.specs.Search.{any}
use Rattle.words.specs.Refusals.{Refusal, first_no, empty, long}
use Rattle.words.specs.Answers.{accepted}

-- the symbol of a reading at the ceiling, 2000 ppm or above; no symbol is greater
abbrev pub ceiling_symbol : ℕ
ceiling_symbol = 20

-- the length field
unfoldable pub field_of : List ℕ → ℕ
field_of f = get_or f 1 0 * 256 + get_or f 2 0

-- 6 VERSION: the first byte is not 1
abbrev pub version : List ℕ → Refusal
version f = (not (eqb (get_or f 0 0) 1), 6)

-- 7 FILE: no header; not exactly the length that the header says
abbrev pub headless : List ℕ → Refusal
headless f = (ltb (length f) 3, 7)

abbrev pub missized : List ℕ → Refusal
missized f = (not (eqb (length f) (3 + field_of f)), 7)

-- 8 SYMBOL: a symbol above the ceiling's
abbrev pub unknown : List ℕ → Refusal
unknown f = (any (λ p. ltb ceiling_symbol (get_or f (3 + p) 0)) (field_of f), 8)

unfoldable pub file_no : List ℕ → ℕ
file_no f = first_no (headless f ∷ version f ∷ empty (field_of f) ∷ long (field_of f) ∷ missized f ∷ unknown f ∷ [])

-- the symbols: the part of the file after its third byte
unfoldable pub symbols : List ℕ → List ℕ
symbols f = accepted (file_no f) (drop 3 f) []
