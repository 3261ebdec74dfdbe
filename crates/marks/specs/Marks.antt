-- How a pattern lies in a log: x is the log, q the pattern's length, p the number of readings skipped. Assumes nothing.
use Rattle.std.specs.Prelude.{Bool, true, cond, ◌&&◌, ◌≡◌, List, ◌⊎◌, ℕ, ◌+◌, ◌-◌, ◌≤◌, ◌<◌, eqb, leb, length, get_or}
use Rattle.words.specs.Words.{occurs, inside}
use Rattle.words.specs.Tables.{Column}

-- the pattern occurs after p readings, and ends within the log
unfoldable pub starts : List ℕ → ℕ → ℕ → Bool
starts x q p = leb (p + q) (length x) && occurs eqb x q p

-- the mark of the reading after p readings: 2 where the pattern starts, 1 elsewhere inside an occurrence, 0 outside
unfoldable pub mark_of : ℕ → Column
mark_of q x p = cond (starts x q p) 2 (cond (inside eqb x (length x) q p) 1 0)

-- reach is where the last occurrence ends that starts among the first p readings; 0 if there is none
pub record Reaches (x : List ℕ) (q p reach : ℕ) : Type 0 where
  pub most : (j : ℕ) → j < p → starts x q j ≡ true → j + q ≤ reach
  pub some : (reach ≡ 0) ⊎ ((j : ℕ) × (j < p) × (starts x q j ≡ true) × (reach ≡ j + q))

-- a run of v: the readings after p, up to the first e of the log
pub record Run (x : List ℕ) (v p e : ℕ) : Type 0 where
  pub rises : p ≤ e
  pub within : e ≤ length x
  pub same : (k : ℕ) → p ≤ k → k < e → get_or x k 0 ≡ v

-- the last n readings are a run of v, and no more of them are
pub record LastRun (x : List ℕ) (v n : ℕ) : Type 0 where
  pub few : n ≤ length x
  pub run : Run x v (length x - n) (length x)
  pub no_more : n < length x → get_or x (length x - n - 1) 0 ≡ v → ⊥
