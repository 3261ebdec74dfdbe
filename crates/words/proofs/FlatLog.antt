-- The flat log: n equal readings, n at least 2. It comes out as what it is, a pattern of one reading, at every prefix. Assumes nothing.
use mathlib.Core.Path.{◌≡◌, sym, ap, ◌∙◌}
use mathlib.Core.List.{List, [], ◌∷◌, ◌++◌}
use mathlib.Core.Logic.{inr, ⊎_elim}
use Prim.Native.Nat.{ℕ, zero, suc, ◌+◌, ◌-◌, ◌/◌, ◌%◌, ◌≤◌, ◌<◌}
use native.Mathlib.Omega.{arith}
use lib.Dec.{eqb}
use lib.ListN.{get_or, replicate, length-replicate, get_or-replicate}
use Rattle.words.specs.Search.{rising}
use Rattle.words.specs.Words.{border, cover, best, count, normal, cover_list, weighed}
use Rattle.words.specs.Tables.{tabulate}
use Rattle.words.proofs.Tests.{le_or_lt}
use Rattle.words.proofs.Occurrences.{Occurs, is_same}
use Rattle.words.proofs.Borders.{Border, border_is}
use Rattle.words.proofs.Covers.{Covers, covers_iff, cover_is, cover_lt}
use Rattle.words.proofs.Counts.{covered_le, covered_all}
use Rattle.words.proofs.Bests.{Best, best_best, best_one}
use Rattle.words.proofs.Weighs.{Weighs, heaviest, heaviest_lt, heaviest_most, heaviest_weighs, rest, rest_first, rest_next, rest_none}
use Rattle.words.proofs.CoverLists.{up_to, up_to_all, up_to_none}

-- what a prefix of length i, at least 2, of a flat log x is
pub record Flat (x : List ℕ) (i : ℕ) : Type 0 where
  pub border : border eqb x i ≡ i - 1
  pub cover : cover eqb x i ≡ i - 1
  pub best : best eqb x i ≡ 1
  pub count : count eqb x i ≡ i
  pub weighed : weighed eqb x i ≡ 1 ∷ []
  pub normal : normal eqb x i ≡ record { len = i; k1 = 1; k2 = 0; k = i }

module _ (a n : ℕ) where
  abbrev x : List ℕ
  x = replicate n a

  reads : (k : ℕ) → k < n → get_or x k 0 ≡ a
  reads k h = get_or-replicate n k a 0 h

  flat_occurs : (q j : ℕ) → j + q ≤ n → Occurs eqb x q j
  flat_occurs q j h = is_same (λ k l. reads k (omega arith) ∙ sym (reads (j + k) (omega arith)))

  flat_border : (i m : ℕ) → m < i → i ≤ n → Border eqb x i m
  flat_border i m h l = record { below = h; ends = flat_occurs m (i - m) (omega arith) }

  pub flat_covers : (i q : ℕ) → 0 < q → q ≤ i → i ≤ n → Covers eqb x i q
  flat_covers i q h l u = record {
    some = h;
    most = l;
    each = λ p b. ⊎_elim
        (λ (g : p + q ≤ i). record { start = p; from = omega arith; to = omega arith; ends = g; occurs = flat_occurs q p (omega arith) })
        (λ (g : i < p + q). record { start = i - q; from = omega arith; to = omega arith; ends = omega arith; occurs = flat_occurs q (i - q) (omega arith) })
        (le_or_lt (p + q) i);
  }

  module _ (i : ℕ) (two : 2 ≤ i) (within : i ≤ n) where
    borders : border eqb x i ≡ i - 1
    borders = border_is eqb x i (i - 1) (flat_border i (i - 1) (omega arith) within) (λ m b. omega (arith, b.below))

    cover_of : (m : ℕ) → 2 ≤ m → m ≤ n → cover eqb x m ≡ m - 1
    cover_of m h l = cover_is eqb x m (m - 1) (flat_covers m (m - 1) (omega arith) (omega arith) l) (omega arith) (λ p _ u. omega arith)

    bests : Best eqb x i 1 i
    bests = record {
      most = λ m _. covered_le eqb x i m;
      least = λ m h _. h.0;
      is = inr ((omega arith, flat_border i 1 (omega arith) within), sym (covered_all eqb x i 1 (flat_covers i 1 (omega arith) (omega arith) within)));
    }

    -- a pattern of one reading has no proper cover, a longer one has
    one : Weighs eqb x i 1
    one = record {
      some = omega arith;
      border = flat_border i 1 (omega arith) within;
      bare = omega (arith, cover_lt eqb x 1 (omega arith));
    }

    only : (m : ℕ) → Weighs eqb x i m → m ≤ 1
    only m w = ⊎_elim
        (λ (l : m ≤ 1). l)
        (λ (l : 1 < m). absurd (omega (arith, w.bare, cover_of m l (omega (arith, w.border.below)))))
        (le_or_lt m 1)

    top : heaviest x i ≡ 1
    top = ⊎_elim
        (λ z. absurd (omega (arith, heaviest_most x i 1 one)))
        (λ w. omega (arith, only (heaviest x i) w, heaviest_most x i 1 one))
        (heaviest_weighs x i)

    weighs_one : weighed eqb x i ≡ 1 ∷ []
    weighs_one =
        let z : heaviest x 1 ≡ 0 = omega (arith, heaviest_lt x 1 (omega arith)) in
        sym (rest_first x i) ∙ ap (rest x i) top ∙ rest_next x i 1 one ∙ ap (λ (k : ℕ). 1 ∷ rest x i k) z ∙ ap (λ (l : List ℕ). 1 ∷ l) (rest_none x i)

    normals : normal eqb x i ≡ record { len = i; k1 = 1; k2 = 0; k = i }
    unfolding normal
    normals =
        let e : i - border eqb x i ≡ 1 = omega (arith, borders) in
        let m : i % 1 ≡ 0 = omega arith in
        let d : i / 1 ≡ i = omega arith in
        rw (e, m, d)

    pub flat : Flat x i
    flat = record {
      border = borders;
      cover = cover_of i two within;
      best = (best_one eqb x i (best_best eqb x i) bests).0;
      count = (best_one eqb x i (best_best eqb x i) bests).1;
      weighed = weighs_one;
      normal = normals;
    }

  -- all of 1 .. n are its covers
  covers_up : (q : ℕ) → q ≤ n → up_to x n q ≡ tabulate suc q
  unfolding tabulate rising
  covers_up zero h = up_to_none x n
  covers_up (suc q) h = rw ((covers_iff eqb x n (suc q)).1 (flat_covers n (suc q) (omega arith) h (omega arith)))
      (ap (λ (l : List ℕ). l ++ (suc q ∷ [])) (covers_up q (omega arith)))

  pub flat_cover_list : cover_list eqb x ≡ tabulate suc n
  flat_cover_list = up_to_all x ∙ ap (λ (k : ℕ). up_to x k k) (length-replicate n a) ∙ covers_up n (omega arith)

-- the whole log: one theorem over its length
pub record FlatLog (x : List ℕ) (n : ℕ) : Type 0 where
  pub whole : Flat x n
  pub covers : cover_list eqb x ≡ tabulate suc n

pub flat_log : (a n : ℕ) → 2 ≤ n → FlatLog (replicate n a) n
flat_log a n two = record { whole = flat a n n two (omega arith); covers = flat_cover_list a n }
