-- What a window is lent. Assumes nothing.
use Rattle.std.specs.Prelude.{List, ℕ, ◌+◌, ◌≤◌, length}
use Rattle.words.specs.Refusals.{longest}

-- the window lies in the log, and there is room for its rows in each table
pub record Within (x : List ℕ) (a m : ℕ) (border prefix cover best count : List ℕ) : Type 0 where
  pub most : length x ≤ longest
  pub inside : a + m ≤ length x
  pub borders : a + m ≤ length border
  pub prefixes : a + m ≤ length prefix
  pub covers : a + m ≤ length cover
  pub bests : a + m ≤ length best
  pub counts : a + m ≤ length count
