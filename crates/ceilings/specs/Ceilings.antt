-- How a log stands to the ceiling: how many of its readings are at it, and whether the head is held there now. Assumes nothing.
use Rattle.std.specs.Prelude.{Bool, cond, List, ℕ, ◌-◌, eqb, length, get_or, drop}
use Rattle.words.specs.Search.{all, how_many}
use Rattle.words.specs.Refusals.{log_no}
use Rattle.words.specs.Answers.{answer}
use Rattle.words.specs.PlantFile.{ceiling_symbol}
use Rattle.ceilings.specs.declared.Ceiling.{Ceiling}

-- the reading after the first p is at the ceiling
abbrev pub at_ceiling : List ℕ → ℕ → Bool
at_ceiling x p = eqb (get_or x p 0) ceiling_symbol

-- how many readings of a log are
unfoldable pub ceiling : List ℕ → ℕ
ceiling x = how_many (at_ceiling x) (length x)

-- every reading of it is
unfoldable pub stuck : List ℕ → Bool
stuck x = all (at_ceiling x) (length x)

-- how many of the last readings say where the head stands now
abbrev pub recent : ℕ
recent = 60

-- the last 60 readings of a log, or all of them where they are fewer: a difference is never below 0
unfoldable pub latest : List ℕ → List ℕ
latest x = drop (length x - recent) x

-- the head is held at the ceiling now
unfoldable pub held : List ℕ → Bool
held x = stuck (latest x)

-- What the call answers on a log that it accepts, and on any
unfoldable pub ceiling_of : List ℕ → Ceiling
ceiling_of x = record { number = 0; held = cond (held x) 1 0; ceiling = ceiling x }

unfoldable pub ceiling_answer : List ℕ → Ceiling
ceiling_answer x = answer (log_no (length x)) (ceiling_of x) (λ k. record { number = k; held = 0; ceiling = 0 })
