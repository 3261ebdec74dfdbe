-- What each way through the cover table's functions comes to, on plain lists and numbers. Assumes nothing.
use Rattle.std.proofs.Common.{◌≡◌, refl, sym, ap, ◌∙◌, List, ℕ, ◌+◌, ◌-◌, ◌≤◌, ◌<◌, arith, length, get_or, set, length-set, get_or-set_same, get_or-set_other, eqb, w16, Fits}
use Rattle.words.specs.Words.{border, cover}
use Rattle.words.specs.Tables.{border_row, cover_row}
use Rattle.words.specs.Refusals.{longest}
use Rattle.words.proofs.Tables.{Filled, Holds, Rows, rows_under}
use Rattle.words.proofs.Borders.{border_lt, border_step}
use Rattle.words.proofs.Covers.{cover_lt}
use Rattle.cover.specs.Tree.{Forest, Found, Blank, Ready}
use Rattle.cover.proofs.Walk.{Walk, walk_start}
use Rattle.cover.proofs.Tree.{Falling, fall_some, fall_below, fall_counted, fall_next, find_hit, find_next, find_short, forest_first, count_fits, tree_grow}

-- ---- `retire`

module _ {x t up kids : List ℕ} {per j q : ℕ} (k : Filled cover_row x t j) (w : Falling x up kids per j q) (none : get_or kids q 0 ≡ 0) where
  pub retire_some : 1 ≤ q
  retire_some = fall_some w none

  module _ (r : ℕ) (e : r ≡ get_or t (q - 1) 0) where
    row : r ≡ cover eqb x q
    row = e ∙ k.rows (q - 1) (omega (arith, w.below, retire_some)) ∙ ap (cover eqb x) (omega (arith, retire_some))

    pub retire_falls : r < q
    retire_falls = fall_below w none r row

    pub retire_inside : r < length kids
    retire_inside = omega (arith, retire_falls, w.below, w.forest.inside, w.forest.counts)

    pub retire_counted : 1 ≤ get_or kids r 0
    retire_counted = fall_counted w none r row

    pub retire_next : (v : ℕ) → v ≡ get_or kids r 0 - 1 → Falling x (set up q (get_or t (q - 1) 0)) (set kids r v) per j r
    retire_next v ev = rw (← e) (fall_next w none r row v ev)

-- ---- `find`

pub find_first : {x up kids : List ℕ} {j f : ℕ} → Forest x up kids (j + 1 - f) j 0 → f ≡ border_row x j → Walk x j f
find_first g e = walk_start _ e

module _ {x up kids : List ℕ} {j b q : ℕ} (f : Forest x up kids (j + 1 - b) j 0) (eb : b ≡ border_row x j) (w : Walk x j q) where
  at : j + 1 - b ≡ j + 1 - border eqb x (j + 1)
  at = ap (λ (k : ℕ). j + 1 - k) eb

  module _ (u : ℕ) (eu : u ≡ get_or up q 0) where
    pub find_found : u ≡ q → Found x up kids j b q
    find_found z = record { forest = f; live = sym eu ∙ z; cover = find_hit f w at (sym eu ∙ z) }

    module _ (dead : u ≡ q → ⊥) where
      pub find_shorter : Forest x (set up q (get_or up u 0)) kids (j + 1 - b) j 0
      find_shorter = find_short f w.below dead eu refl

      pub find_on : (g : ℕ) → g ≡ get_or up u 0 → Walk x j g
      find_on g eg = rw eg (find_next f (rw eu (find_next f w at)) at)

-- ---- `grow`

module _ {x up kids t₀ : List ℕ} (r : Ready x up kids t₀) where
  pub grow_first : Forest x up kids 1 0 0
  grow_first = forest_first r.ups r.counts r.root r.one r.none

  module _ {t : List ℕ} {f : ℕ} (j : ℕ) (w : Rows cover_row x t₀ t j) (e : f ≡ get_or t j 0) (h : j < length x) where
    pub grow_border : f ≡ border_row x j
    grow_border = rows_under cover_row border_row e w r.border h

    pub grow_below : f ≤ j + 1
    grow_below = omega (arith, grow_border, border_lt eqb x (j + 1) (omega arith))

    pub grow_later : {per : ℕ} → per ≤ j + 1 - border_row x j → per ≤ j + 1 - f
    grow_later l = omega (arith, grow_border)

    -- the window of a row starts no lower than that of the row before
    pub grow_window : j + 1 - f ≤ j + 1 + 1 - border_row x (j + 1)
    grow_window = omega (arith, grow_border, border_step eqb x (j + 1))

pub window_first : (x : List ℕ) → 1 ≤ 0 + 1 - border_row x 0
window_first x = omega (arith, border_lt eqb x 1 (omega arith))

module _ {x up kids : List ℕ} {j f q : ℕ} (w : Found x up kids j f q) (h : j < length x) where
  pub grow_low : q ≤ j
  grow_low = omega (arith, w.cover, cover_lt eqb x (j + 1) (omega arith))

  pub grow_inside : q < length kids
  grow_inside = omega (arith, grow_low, w.forest.counts)

  pub grow_count : length x ≤ longest → Fits w16 (get_or kids q 0 + 1)
  grow_count s = omega (arith, count_fits w.forest h (omega arith) q grow_low)

  pub grow_more : Forest x (set up (j + 1) (j + 1)) (set kids q (get_or kids q 0 + 1)) (j + 1 - f) (j + 1) 0
  grow_more = tree_grow w.forest h (omega arith) refl w.cover w.live refl

-- ---- `rows`: the root is counted

pub root_counted : {x up kids t : List ℕ} → Holds border_row x t → length x ≤ longest → Blank x up kids → Ready x up (set kids 0 1) t
root_counted {x} {up} {kids} b m l = record {
  most = m;
  border = b;
  ups = l.ups;
  counts = rw (length-set kids 0 1) l.counts;
  root = l.root;
  one = get_or-set_same kids 0 1 0 (omega (arith, l.counts));
  none = λ a h g. get_or-set_other kids 0 a 1 0 (λ z. omega arith) ∙ l.none a g;
}
