-- The tree of the longest proper covers, on line. The parent of m is its longest proper cover; a node lives while it covers a prefix from the
-- period on, which never falls, and so the dead stay dead. In `up` a node that lives names itself, and a dead one an ancestor that no
-- living ancestor passes by; `kids` counts the living children. 0 is the root, and its own child, so it lives and has a child for good.
-- Assumes nothing.
use Rattle.std.specs.Prelude.{Bool, ◌&&◌, ◌≡◌, List, ◌⊎◌, ℕ, ◌+◌, ◌-◌, ◌≤◌, ◌<◌, length, get_or, eqb}
use Rattle.words.specs.Search.{how_many}
use Rattle.words.specs.Words.{cover}
use Rattle.words.specs.Tables.{border_row, cover_row}
use Rattle.words.proofs.Covers.{Covers}
use Rattle.words.specs.Refusals.{longest}
use Rattle.words.proofs.Tables.{Holds}

abbrev pub Live : List ℕ → ℕ → Type 0
Live up m = get_or up m 0 ≡ m

-- u is 0 or covers m, and no cover of m that lives is longer
pub record Jump (x up : List ℕ) (m u : ℕ) : Type 0 where
  pub to : (u ≡ 0) ⊎ Covers eqb x m u
  pub most : (p : ℕ) → Covers eqb x m p → Live up p → p ≤ u

-- m lives, and a is its parent
unfoldable pub kid_test : List ℕ → List ℕ → ℕ → ℕ → Bool
kid_test x up a m = eqb (get_or up m 0) m && eqb (cover eqb x m) a

-- the tree of the lengths up to j, where the lengths from per on live. Of the others each that lives has a child that lives, but it may be e
pub record Forest (x up kids : List ℕ) (per j e : ℕ) : Type 0 where
  pub some : 0 < per
  pub inside : j ≤ length x
  pub ups : length x < length up
  pub counts : length x < length kids
  pub root : Live up 0
  pub young : (m : ℕ) → per ≤ m → m ≤ j → Live up m
  pub climb : (m : ℕ) → m ≤ j → Live up m → Live up (cover eqb x m)
  pub held : (m : ℕ) → 0 < m → m < per → m ≤ j → (m ≡ e → ⊥) → Live up m → 0 < get_or kids m 0
  pub jump : (m : ℕ) → m ≤ j → Jump x up m (get_or up m 0)
  pub kid : (a : ℕ) → a ≤ length x → get_or kids a 0 ≡ how_many (kid_test x up a) (j + 1)

-- what `find` leaves at row j, whose border is b: r is the longest proper cover, and it lives
pub record Found (x up kids : List ℕ) (j b r : ℕ) : Type 0 where
  pub forest : Forest x up kids (j + 1 - b) j 0
  pub live : Live up r
  pub cover : r ≡ cover_row x j

-- up and kids have an entry for each length, from 0; what the tree starts from is 0
pub record Blank (x up kids : List ℕ) : Type 0 where
  pub ups : length x < length up
  pub counts : length x < length kids
  pub root : Live up 0
  pub none : (a : ℕ) → a ≤ length x → get_or kids a 0 ≡ 0

-- what `grow` is lent: t with the border table, which the cover table is laid over, and in kids the root counted alone, as its own child
pub record Ready (x up kids t : List ℕ) : Type 0 where
  pub most : length x ≤ longest
  pub border : Holds border_row x t
  pub ups : length x < length up
  pub counts : length x < length kids
  pub root : Live up 0
  pub one : get_or kids 0 0 ≡ 1
  pub none : (a : ℕ) → 0 < a → a ≤ length x → get_or kids a 0 ≡ 0
