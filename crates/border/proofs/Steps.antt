-- What each way through the border table's functions comes to, on plain lists and numbers. Assumes nothing.
use Rattle.std.proofs.Common.{◌≡◌, refl, ap, ◌∙◌, List, ℕ, ◌+◌, ◌-◌, ◌≤◌, ◌<◌, arith, length, get_or, eqb}
use Rattle.words.specs.Words.{border}
use Rattle.words.specs.Tables.{border_row}
use Rattle.words.proofs.Tables.{Filled, Room, Rows, rows_first}
use Rattle.words.proofs.Borders.{Candidate, candidate_first, candidate_next, border_lt, border_one}

-- the entry for the prefix of length k stands at row k - 1
row_of : {x t : List ℕ} {r : ℕ} (k : ℕ) → Filled border_row x t r → 0 < k → k ≤ r → get_or t (k - 1) 0 ≡ border eqb x k
row_of {x} k f h l = f.rows (k - 1) (omega arith) ∙ ap (border eqb x) (omega arith)

-- the first candidate is the border of the row before
pub chain_start : (x : List ℕ) (r b : ℕ) → 0 < r → b ≡ border_row x (r - 1) → Candidate x r b
chain_start x r b h e =
    let i : r - 1 + 1 ≡ r = omega arith in
    rw (e ∙ ap (border eqb x) i) (candidate_first x r h)

module _ {x t : List ℕ} {r : ℕ} (f : Filled border_row x t r) where
  module _ (k b : ℕ) (e : b ≡ get_or t (k - 1) 0) (c : Candidate x r k) (nz : k ≡ 0 → ⊥) where
    is_row : b ≡ border eqb x k
    is_row = e ∙ row_of k f (omega arith) (omega (arith, c.border.below))

    -- the next candidate is the row that k names, and it is shorter
    pub chain_next : (get_or x k 0 ≡ get_or x r 0 → ⊥) → Candidate x r b
    chain_next ne = rw is_row (candidate_next x r k c ne (omega arith))

    pub chain_falls : b < k
    chain_falls = rw is_row (border_lt eqb x k (omega arith))

-- ---- `fill` and `rows`

pub first_row : (x : List ℕ) → 0 ≡ border_row x 0
first_row x = border_one eqb x 0 refl

pub fill_start : {x t : List ℕ} → Room x t → 0 < length x → get_or t 0 0 ≡ 0 → Rows border_row x t t 1
fill_start {x} h s e = rows_first h.room s (e ∙ first_row x)

pub row_before : (x : List ℕ) (r : ℕ) {b : ℕ} → b ≡ border_row x r → b ≡ border_row x (r + 1 - 1)
row_before x r e = e ∙ ap (border_row x) (omega arith)
