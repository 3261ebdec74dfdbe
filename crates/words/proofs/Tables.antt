-- Tables: the list that a loop has made when it has stored f 0, .., f (n - 1) from the front, and the same in a middle part. Assumes nothing.
use mathlib.Core.Path.{◌≡◌, refl, sym, ap, ◌∙◌}
use mathlib.Core.List.{List, [], ◌∷◌, ◌++◌, append_assoc}
use Prim.Native.Nat.{ℕ, zero, suc, ◌+◌, ◌-◌, ◌≤◌, ◌<◌}
use native.Mathlib.Nat.{not-suc-le-zero}
use native.Mathlib.Numerals.{add-one}
use native.Mathlib.Omega.{arith}
use lib.ListN.{length, get_or, take, drop, set, length-append, length-drop, length-set, get_or-append}
use lib.Seq.{drop-cons, set_at, get_or_at, get_or-take, get_or-drop, get_or-append-add, get_or-set_same, length-take-le, set-get_or, drop_at, drop-set-lt}
use Rattle.words.specs.Tables.{Column, tabulate, written, window, placed}
use Rattle.words.specs.Refusals.{longest}
use Rattle.words.proofs.Tests.{last_or}

module _ (f : ℕ → ℕ) where
  pub length_tabulate : (n : ℕ) → length (tabulate f n) ≡ n
  unfolding tabulate
  length_tabulate zero = refl
  length_tabulate (suc n) = simp (length-append, length_tabulate n, add-one)

  pub get_or_tabulate : (n r : ℕ) → r < n → get_or (tabulate f n) r 0 ≡ f r
  unfolding tabulate
  get_or_tabulate zero r h = absurd (not-suc-le-zero h)
  get_or_tabulate (suc n) r h =
      let ih = get_or_tabulate n in
      last_or (λ k. get_or (tabulate f n ++ (f n ∷ [])) k 0 ≡ f k) n (get_or_at (tabulate f n) (f n) [] 0 n (length_tabulate n))
      (λ k l. get_or-append (tabulate f n) (f n ∷ []) 0 k (rw (length_tabulate n) l) ∙ ih k l) r h

  -- before the first store, and after one more
  pub written_none : (t : List ℕ) → written f 0 t ≡ t
  unfolding written tabulate
  written_none t = refl

  pub written_more : (n : ℕ) (t : List ℕ) → n < length t → set (written f n t) n (f n) ≡ written f (n + 1) t
  unfolding written tabulate
  written_more n t h =
      rw (add-one, drop-cons t n 0) (set_at (tabulate f n) (get_or t n 0) (drop (suc n) t) (f n) n (length_tabulate n)
      ∙ simp append_assoc)

  pub length_written : (n : ℕ) (t : List ℕ) → n ≤ length t → length (written f n t) ≡ length t
  unfolding written
  length_written n t h = simp (length-append, length_tabulate n, length-drop) (omega arith)

  -- row by row: what is written, and what stays
  pub get_or_written : (n : ℕ) (t : List ℕ) (r : ℕ) → r < n → get_or (written f n t) r 0 ≡ f r
  unfolding written
  get_or_written n t r h = get_or-append (tabulate f n) (drop n t) 0 r (rw (length_tabulate n) h) ∙ get_or_tabulate n r h

  pub written_stays : (n : ℕ) (t : List ℕ) (r : ℕ) → n ≤ r → get_or (written f n t) r 0 ≡ get_or t r 0
  unfolding written
  written_stays n t r h =
      let e : length (tabulate f n) + (r - n) ≡ r = omega (arith, length_tabulate n) in
      rw e at (get_or-append-add (tabulate f n) (drop n t) (r - n) 0) ∙ get_or-drop n t (r - n) 0 ∙ ap (λ (k : ℕ). get_or t k 0) (omega arith)

  -- what a row held that is written makes no difference
  pub written_over : (n : ℕ) (t : List ℕ) (r v : ℕ) → r < n → written f n (set t r v) ≡ written f n t
  unfolding written
  written_over n t r v h = ap (λ (y : List ℕ). tabulate f n ++ y) (drop-set-lt n t r v h)

  -- ---- a middle part

  module _ (a m : ℕ) (t : List ℕ) (fits : a + m ≤ length t) where
    front : length (take a t) ≡ a
    front = length-take-le a t (omega arith)

    pub length_placed : length (placed f a m t) ≡ length t
    unfolding placed
    length_placed = simp (length-append, front, length_written m (drop a t) (simp length-drop (omega arith)), length-drop) (omega arith)

    pub get_or_placed : (r : ℕ) → r < m → get_or (placed f a m t) (a + r) 0 ≡ f r
    unfolding placed
    get_or_placed r h =
        ap (λ (k : ℕ). get_or (take a t ++ written f m (drop a t)) (k + r) 0) (sym front)
        ∙ get_or-append-add (take a t) (written f m (drop a t)) r 0 ∙ get_or_written m (drop a t) r h

    pub placed_before : (r : ℕ) → r < a → get_or (placed f a m t) r 0 ≡ get_or t r 0
    unfolding placed
    placed_before r h = get_or-append (take a t) (written f m (drop a t)) 0 r (rw front h) ∙ get_or-take a t r 0 h

    pub placed_after : (r : ℕ) → a + m ≤ r → get_or (placed f a m t) r 0 ≡ get_or t r 0
    unfolding placed
    placed_after r h =
        let e : length (take a t) + (r - a) ≡ r = omega (arith, front) in
        rw e at (get_or-append-add (take a t) (written f m (drop a t)) (r - a) 0)
        ∙ written_stays m (drop a t) (r - a) (omega arith) ∙ get_or-drop a t (r - a) 0 ∙ ap (λ (k : ℕ). get_or t k 0) (omega arith)

-- written twice: what the second writes
written_again : (f g : ℕ → ℕ) (n : ℕ) (t : List ℕ) → written g n (written f n t) ≡ written g n t
unfolding written
written_again f g n t = ap (λ (y : List ℕ). tabulate g n ++ y) (drop_at (tabulate f n) (drop n t) n (length_tabulate f n))

-- written from equal rows
tabulate_same : (f g : ℕ → ℕ) (n : ℕ) → ((r : ℕ) → r < n → f r ≡ g r) → tabulate f n ≡ tabulate g n
unfolding tabulate
tabulate_same f g zero e = refl
tabulate_same f g (suc n) e = rw (tabulate_same f g n (λ r h. e r (omega arith)), e n (omega arith))

pub written_same : (f g : ℕ → ℕ) (n : ℕ) (t : List ℕ) → ((r : ℕ) → r < n → f r ≡ g r) → written f n t ≡ written g n t
unfolding written
written_same f g n t e = ap (λ (y : List ℕ). y ++ drop n t) (tabulate_same f g n e)

-- the window: its length and its readings
module _ (a m : ℕ) (x : List ℕ) (fits : a + m ≤ length x) where
  pub length_window : length (window a m x) ≡ m
  unfolding window
  length_window = length-take-le m (drop a x) (simp length-drop (omega arith))

  pub get_or_window : (p : ℕ) → p < m → get_or (window a m x) p 0 ≡ get_or x (a + p) 0
  unfolding window
  get_or_window p h = get_or-take m (drop a x) p 0 h ∙ get_or-drop a x p 0

-- ---- what a function that trusts its tables is lent

-- a log of at most the longest length, and a table with room for its rows
pub record Room (x t : List ℕ) : Type 0 where
  pub most : length x ≤ longest
  pub room : length x ≤ length t

-- t holds the column f of x
pub record Holds (f : Column) (x t : List ℕ) : Type 0 where
  pub room : length x ≤ length t
  pub rows : (r : ℕ) → r < length x → get_or t r 0 ≡ f x r

-- t holds the first r rows of it, and there is a row to come
pub record Filled (f : Column) (x t : List ℕ) (r : ℕ) : Type 0 where
  pub inside : r < length x
  pub room : length x ≤ length t
  pub rows : (j : ℕ) → j < r → get_or t j 0 ≡ f x j

pub written_holds : (f : Column) (x s : List ℕ) {t : List ℕ} → length x ≤ length s → t ≡ written (f x) (length x) s → Holds f x t
written_holds f x s h e = record {
  room = omega (arith, ap length e, length_written (f x) (length x) s h);
  rows = λ r l. ap (λ (y : List ℕ). get_or y r 0) e ∙ get_or_written (f x) (length x) s r l;
}

pub holds_row : (f : Column) {x t : List ℕ} {r v : ℕ} → v ≡ get_or t r 0 → Holds f x t → r < length x → v ≡ f x r
holds_row f {r = r} e h l = e ∙ h.rows r l

-- the first row is stored before the others are filled in, whatever it held
module _ (f : Column) (x t : List ℕ) where
  pub written_empty : length x ≡ 0 → t ≡ written (f x) (length x) t
  written_empty e = rw e (sym (written_none (f x) t))

  pub written_first : (v : ℕ) {s : List ℕ} → (length x ≡ 0 → ⊥) → s ≡ written (f x) (length x) (set t 0 v) → s ≡ written (f x) (length x) t
  written_first v nz e = e ∙ written_over (f x) (length x) t 0 v (omega arith)

module _ (x t : List ℕ) (v : ℕ) (h : Room x t) where
  pub first_room : Room x (set t 0 v)
  first_room = record { most = h.most; room = rw (length-set t 0 v) h.room }

  pub first_stored : (length x ≡ 0 → ⊥) → get_or (set t 0 v) 0 0 ≡ v
  first_stored nz = get_or-set_same t 0 v 0 (omega (arith, h.room))

-- A loop that fills a table: t is t₀ with the first r rows of the column written. Its invariant, and what each turn and the end make of it.
pub record Rows (f : Column) (x t₀ t : List ℕ) (r : ℕ) : Type 0 where
  pub within : r ≤ length x
  pub room : length x ≤ length t₀
  pub made : t ≡ written (f x) r t₀

pub rows_none : {f : Column} {x t : List ℕ} → length x ≤ length t → Rows f x t t 0
rows_none {f} {x} {t} h = record { within = omega arith; room = h; made = sym (written_none (f x) t) }

-- the first row is there already
pub rows_first : {f : Column} {x t : List ℕ} → length x ≤ length t → 0 < length x → get_or t 0 0 ≡ f x 0 → Rows f x t t 1
rows_first {f} {x} {t} h s e = record {
  within = s;
  room = h;
  made = sym (set-get_or t 0 0) ∙ ap (set t 0) e ∙ ap (λ (y : List ℕ). set y 0 (f x 0)) (sym (written_none (f x) t)) ∙ written_more (f x) 0 t (omega arith);
}

module _ {f : Column} {x t₀ t : List ℕ} {r : ℕ} (w : Rows f x t₀ t r) where
  pub rows_length : length t ≡ length t₀
  rows_length = ap length w.made ∙ length_written (f x) r t₀ (omega (arith, w.room, w.within))

  pub rows_inside : r < length x → r < length t
  rows_inside h = omega (arith, rows_length, w.room)

  rows_at : (j : ℕ) → j < r → get_or t j 0 ≡ f x j
  rows_at j h = ap (λ (y : List ℕ). get_or y j 0) w.made ∙ get_or_written (f x) r t₀ j h

  pub rows_filled : r < length x → Filled f x t r
  rows_filled h = record { inside = h; room = omega (arith, rows_length, w.room); rows = rows_at }

  pub rows_more : {v : ℕ} → r < length x → v ≡ f x r → Rows f x t₀ (set t r v) (r + 1)
  rows_more h e = record {
    within = omega arith;
    room = w.room;
    made = rw (e, w.made) (written_more (f x) r t₀ (omega (arith, w.room)));
  }

  pub rows_done : length x ≤ r → t ≡ written (f x) (length x) t₀
  rows_done h = w.made ∙ ap (λ (k : ℕ). written (f x) k t₀) (omega (arith, w.within))

-- ---- two columns in one table: t held the column g, and f is laid over it from the front

-- row r is the next to be laid over: it is still that of g
pub rows_under : (f g : Column) {x t₀ t : List ℕ} {r v : ℕ} → v ≡ get_or t r 0 → Rows f x t₀ t r → Holds g x t₀ → r < length x → v ≡ g x r
rows_under f g {x} {t₀} {t} {r} e w h l = e ∙ ap (λ (y : List ℕ). get_or y r 0) w.made ∙ written_stays (f x) r t₀ r (omega arith) ∙ h.rows r l

-- the whole of g, then the whole of f: there is room as before, and of g nothing is left
pub still_room : (g : Column) {x t s : List ℕ} → Room x t → s ≡ written (g x) (length x) t → Room x s
still_room g {x} {t} h e = record { most = h.most; room = omega (arith, ap length e, length_written (g x) (length x) t h.room, h.room) }

pub laid_over : (f g : Column) (x t : List ℕ) {s u : List ℕ} → s ≡ written (g x) (length x) t → u ≡ written (f x) (length x) s → u ≡ written (f x) (length x) t
laid_over f g x t e d = d ∙ ap (written (f x) (length x)) e ∙ written_again (g x) (f x) (length x) t
