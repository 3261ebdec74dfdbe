-- What a picture says of the readings in words. Assumes nothing.
use Rattle.std.specs.Prelude.{cond, List, ◌++◌, ℕ, suc, ◌-◌, eqb, length, drop}
use Rattle.words.specs.Search.{greatest}
use Rattle.ceilings.specs.declared.Ceiling.{Ceiling}
use Rattle.ceilings.specs.Ceilings.{stuck, ceiling_of}
use Rattle.lines.specs.Text.{bytes, decimal}

-- one of two texts: the first where n is m
unfoldable pub pick : ℕ → ℕ → List ℕ → List ℕ → List ℕ
pick n m s t = cond (eqb n m) s t

abbrev pub readings : ℕ → List ℕ
readings n = pick n 1 (bytes " reading") (bytes " readings")

-- whether the head is held, or the log only ends at the ceiling
abbrev pub kind : ℕ → List ℕ
kind held = pick held 1 (bytes "HELD AT CEILING: ") (bytes "ENDS AT CEILING: ")

-- the last k readings of n
abbrev pub last_of : ℕ → ℕ → List ℕ
last_of n k = pick k n (decimal k) (bytes "the last " ++ decimal k)

-- which readings are at the ceiling, where some are: those of the run that ends the log, or, where no run does, any
abbrev pub standing : ℕ → Ceiling → ℕ → List ℕ
standing n c k = pick k 0 (bytes "REACHED CEILING: " ++ decimal c.ceiling) (kind c.held ++ last_of n k)

abbrev pub of_all : ℕ → List ℕ
of_all n = bytes " of " ++ decimal n ++ readings n

-- the same as a part of all n; or that no reading is
abbrev pub told : ℕ → Ceiling → ℕ → List ℕ
told n c k = pick c.ceiling 0 (bytes "No reading at the ceiling, 2000 ppm.") (standing n c k ++ of_all n)

-- how many readings the run at the ceiling has that ends a log: the most of its last ones that are all at it
unfoldable pub last_run : List ℕ → ℕ
last_run x = greatest (λ k. stuck (drop (length x - k) x)) (suc (length x))

-- the band under the title of a log's picture
unfoldable pub band : List ℕ → List ℕ
band x = told (length x) (ceiling_of x) (last_run x)
