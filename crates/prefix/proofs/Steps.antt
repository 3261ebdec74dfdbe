-- What each way through the prefix table's functions comes to, on plain lists and numbers: of lengths, and of places of the log, which is what the functions hand each other. Assumes nothing.
use Rattle.std.proofs.Common.{◌≡◌, sym, ◌∙◌, List, ℕ, ◌+◌, ◌-◌, ◌^◌, ◌≤◌, ◌<◌, arith, length, get_or, eqb, eq-eqb, eqb-true, w16, w64, Fits}
use Rattle.prefix.specs.Stretch.{Stretch, Reached}
use Rattle.words.specs.Tables.{prefix_row}
use Rattle.words.specs.Refusals.{longest}
use Rattle.words.proofs.Tables.{Filled, Room, Rows, rows_first}
use Rattle.words.proofs.Occurrences.{eqb_refl, same, at}
use Rattle.words.proofs.Prefixes.{Reaches, reaches_none, reaches_more, reaches_inside, reaches_shorter, prefix_reaches, prefix_most, prefix_is, prefix_first}

row_bound : (x : List ℕ) (r p : ℕ) → p ≡ prefix_row x r → r < length x → r + p ≤ length x
row_bound x r p e h = rw e (prefix_reaches eqb x r (omega arith)).within

-- ---- `scan`

module _ {x : List ℕ} {r k : ℕ} (c : Reaches eqb x r k) where
  pub scan_stop : (get_or x k 0 ≡ get_or x (r + k) 0 → ⊥) → k ≡ prefix_row x r
  scan_stop ne = prefix_is eqb x r k c (λ _ e. ne (eqb-true _ _ e))

  pub scan_end : length x - r ≤ k → length x - r ≡ prefix_row x r
  scan_end h = let e : length x - r ≡ k = omega arith in e ∙ prefix_is eqb x r k c (λ l _. omega arith)

-- the same of the place k
module _ {x : List ℕ} {r k : ℕ} (h : r ≤ k) (c : Reaches eqb x r (k - r)) where
  pub stretch_stop : (get_or x (k - r) 0 ≡ get_or x k 0 → ⊥) → k ≡ r + prefix_row x r
  stretch_stop ne = omega (arith, h, scan_stop c (λ e. ne (e ∙ at x (omega arith))))

  pub stretch_end : length x ≤ k → length x ≡ r + prefix_row x r
  stretch_end u = omega (arith, h, c.within, scan_end c (omega arith))

-- ---- `compare`

-- the place where the stretch ends fits a word
pub compare_fits : (x : List ℕ) (r p : ℕ) → p ≡ prefix_row x r → r < length x → length x < 2 ^ 64 → Fits w64 (r + p)
compare_fits x r p e h u = omega (arith, row_bound x r p e h)

pub compare_done : (x : List ℕ) (r p : ℕ) → p ≡ prefix_row x r → 0 < r → r < length x → Reached x r p r (r + p)
compare_done x r p e s h =
    let w : r + p - r ≡ p = omega arith in record {
      row = e;
      stretch = record { later = s; left = omega arith; order = omega arith; reaches = rw (w, e) (prefix_reaches eqb x r (omega arith)) };
    }

-- the same of the place where the stretch ends
pub stretch_done : (x : List ℕ) (r end : ℕ) → end ≡ r + prefix_row x r → 0 < r → r < length x → Reached x r (end - r) r end
stretch_done x r end e s h = let w : r + (end - r) ≡ end = omega arith in rw w at (compare_done x r (end - r) (omega arith) s h)

-- ---- `step`

module _ {x t : List ℕ} {r from to : ℕ} (f : Filled prefix_row x t r) (s : Stretch x r from to) where
  pub step_none : Reaches eqb x r 0
  step_none = reaches_none eqb x r (omega (arith, f.inside))

  -- the same of the place r
  pub step_anew : Reaches eqb x r (r - r)
  step_anew = reaches_shorter eqb x r (r - r) 0 step_none (omega arith)

  module _ (z : ℕ) (e : z ≡ get_or t (r - from) 0) where
    back : r - from < r
    back = omega (arith, s.later, s.left)

    is_row : z ≡ prefix_row x (r - from)
    is_row = e ∙ f.rows (r - from) back

    known : Reaches eqb x (r - from) z
    known = rw is_row (prefix_reaches eqb x (r - from) (omega (arith, f.inside)))

    -- an earlier row that stays inside the stretch is this row too: the reading that stopped it stops this one
    pub step_inside : r + z < to → Reached x r z from to
    step_inside u = record {
      row = prefix_is eqb x r z (reaches_inside x from to r z s.reaches s.left known (omega arith)) (λ l q.
          let one = same s.reaches.occurs (r - from + z) (omega (arith, s.left)) in
          let more = reaches_more eqb x (r - from) z known (omega (arith, s.left, l))
          (eq-eqb _ _ (eqb-true _ _ q ∙ sym (one ∙ at x (omega (arith, s.left))))) in
          omega (arith, is_row, prefix_most eqb x (r - from) (z + 1) more));
      stretch = record { later = s.later; left = omega (arith, s.left); order = s.order; reaches = s.reaches };
    }

    pub step_edge : r < to → to ≤ r + z → Reaches eqb x r (to - r)
    step_edge h u = reaches_inside x from to r (to - r) s.reaches s.left (reaches_shorter eqb x (r - from) (to - r) z known (omega arith)) (omega arith)

  -- the same, with z against how many readings of the stretch are left
  module _ (h : r < to) (z : ℕ) (e : z ≡ get_or t (r - from) 0) where
    pub step_known : z < to - r → Reached x r z from to
    step_known u = step_inside z e (omega arith)

    pub step_rest : to - r ≤ z → Reaches eqb x r (to - r)
    step_rest u = step_edge z e h (omega arith)

-- ---- `fill` and `rows`

pub fill_start : {x t : List ℕ} → Room x t → 0 < length x → get_or t 0 0 ≡ length x → Rows prefix_row x t t 1
fill_start {x} h s e = rows_first h.room s (e ∙ sym (prefix_first eqb x eqb_refl))

pub first_stretch : (x : List ℕ) → 0 < length x → Stretch x 1 1 1
first_stretch x h = record { later = omega arith; left = omega arith; order = omega arith; reaches = reaches_none eqb x 1 h }

pub row_fits : (x : List ℕ) (r : ℕ) {p from to : ℕ} → Reached x r p from to → r < length x → length x ≤ longest → Fits w16 p
row_fits x r {p} w h s = omega (arith, row_bound x r p w.row h)
