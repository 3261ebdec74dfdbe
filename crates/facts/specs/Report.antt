-- The text of the report. Assumes nothing.
use Rattle.std.specs.Prelude.{◌≡◌, List, [], ◌∷◌, ◌++◌, ℕ, ◌+◌, ◌*◌, eqb, length}
use Rattle.words.specs.declared.Part.{Part}
use Rattle.words.specs.Words as W
use Rattle.words.specs.Refusals.{longest}
use Rattle.words.specs.Answers.{weighed_places}
use Rattle.words.proofs.Refusals.{Judged}
use Rattle.ceilings.specs.declared.Ceiling.{Ceiling}
use Rattle.ceilings.specs.Ceilings.{ceiling_of}
use Rattle.summary.specs.declared.Summary.{Summary}
use Rattle.summary.specs.Whole.{summary_of}
use Rattle.lines.specs.Text.{bytes, field_room, line, Page, Fits}

-- the text on a refused file: its number
unfoldable pub refused_text : ℕ → List ℕ
refused_text k = line (bytes "refused") (k ∷ [])

-- the lines on a log's shape, on its borders, and on its readings at the ceiling
unfoldable pub shape_lines : ℕ → Part → List ℕ → List ℕ
shape_lines n f covers = line (bytes "log") (n ∷ []) ++ line (bytes "normal") (f.k1 ∷ f.k2 ∷ f.k ∷ []) ++ line (bytes "covers") covers

unfoldable pub border_lines : ℕ → ℕ → List ℕ → List ℕ
border_lines best count weighed = line (bytes "best") (best ∷ count ∷ []) ++ line (bytes "weighed") weighed

unfoldable pub ceiling_lines : Ceiling → List ℕ
ceiling_lines c = line (bytes "ceiling") (c.ceiling ∷ []) ++ line (bytes "held") (c.held ∷ [])

-- the text on the symbols x of an accepted file
unfoldable pub report_text : List ℕ → List ℕ
report_text x =
    let n = length x in
    shape_lines n (W.normal eqb x n) (W.cover_list eqb x)
    ++ border_lines (W.best eqb x n) (W.count eqb x n) (W.weighed eqb x n)
    ++ ceiling_lines (ceiling_of x)

-- the room of a line: a word of at most seven letters, k entries of a table, and the line's end
abbrev pub line_room : ℕ → ℕ
line_room k = 8 + field_room * k

-- the room of the text: six lines with no more entries than a weighed list has places, and the covers of the longest log
abbrev pub report_room : ℕ
report_room = 6 * line_room weighed_places + line_room longest

-- what is put of an accepted log x, and the room for it
pub record Facts (x : List ℕ) (s : Summary) (covers weighed : List ℕ) (text : Page) : Type 0 where
  pub judged : Judged (length x)
  pub summed : s ≡ summary_of x
  pub covered : covers ≡ W.cover_list eqb x
  pub weighs : weighed ≡ W.weighed eqb x (length x)
  pub room : Fits text report_room
