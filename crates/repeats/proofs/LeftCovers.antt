-- The left cover. Where each reading agrees with itself it is the best so far of the enhanced table: the greatest Count at any j up to i, and of equals the
-- smaller Best. Where a border covers all, it is Best. Assumes nothing.
use Rattle.std.proofs.Common.{Bool, ◌≡◌, sym, ◌∙◌, List, ◌⊎◌, inl, inr, ⊎_elim, ℕ, zero, suc, ◌+◌, ◌≤◌, ◌<◌, add-one, arith}
use Rattle.words.specs.Words.{covered, best, count}
use Rattle.words.proofs.Search.{some_how_many}
use Rattle.words.proofs.Tops.{Top, Wins, Under, wins_or, top_one, top_join}
use Rattle.words.proofs.Occurrences.{Reflexive}
use Rattle.words.proofs.Borders.{Border}
use Rattle.words.proofs.Covers.{Covers, inside_iff, covers_border}
use Rattle.words.proofs.Counts.{covered_le, covered_all, all_covered, covered_wider}
use Rattle.words.proofs.Bests.{Best, Nonempty, best_best, best_zero, count_le}
use Rattle.repeats.specs.Repeats.{left_cover, left_count}
use Rattle.repeats.proofs.Repeating.{Repeats, Before, repeats_top, repeats_zero, repeats_wider, repeats_border, repeats_step}

-- q is the shortest of the prefixes of x[1..i] that repeat and cover the most, k positions; both are 0 where none repeats
abbrev pub LeftCover : (ℕ → ℕ → Bool) → List ℕ → ℕ → ℕ → ℕ → Type 0
LeftCover ag x i = Top (Repeats ag x i) (covered ag x i)

module _ (ag : ℕ → ℕ → Bool) (x : List ℕ) where
  -- what repeats covers its own first position
  pub repeats_covered : (i q : ℕ) → Repeats ag x i q → 0 < covered ag x i q
  unfolding covered
  repeats_covered i q t = some_how_many _ i t.first (omega (arith, t.apart, t.within, t.some)) ((inside_iff ag x i q t.first).1 (record {
    start = t.first;
    from = omega arith;
    to = omega (arith, t.some);
    ends = omega (arith, t.apart, t.within);
    occurs = t.one;
  }))

  module _ (i : ℕ) where
    pub left_left : LeftCover ag x i (left_cover ag x i) (left_count ag x i)
    unfolding left_cover left_count
    left_left = repeats_top ag x i (covered ag x i) (repeats_covered i)

    pub left_one : {b k c n : ℕ} → LeftCover ag x i b k → LeftCover ag x i c n → (b ≡ c) × (k ≡ n)
    left_one = top_one (repeats_covered i)

-- ---- one reading more: the better of the left cover before and of the new prefix's Best

module _ (ag : ℕ → ℕ → Bool) (x : List ℕ) (self : Reflexive ag) where
  module _ {i b k c l : ℕ} (s : LeftCover ag x i b k) (t : Best ag x (i + 1) c l) where
    under : (q : ℕ) → Repeats ag x (i + 1) q → Under (covered ag x (i + 1)) b k q ⊎ Under (covered ag x (i + 1)) c l q
    under q r = ⊎_elim
        (λ (d : Border ag x (i + 1) q). inr (t.most q (r.some, d), t.least q (r.some, d)))
        (λ (d : Before ag x i q). inl (omega (arith, d.covers, s.most q d.repeats), λ e. s.least q d.repeats (sym d.covers ∙ e)))
        (repeats_step ag x i q r)

    pub left_stays : Wins b k c l → LeftCover ag x (i + 1) b k
    left_stays = top_join
        (⊎_elim (λ z. inl z) (λ v. inr (repeats_wider ag x (i + 1) i b (omega arith) v.0, omega (arith, v.1, covered_wider ag x b i (i + 1) (omega arith)))) s.is)
        under

    pub left_moves : Wins c l b k → LeftCover ag x (i + 1) c l
    left_moves = top_join
        (⊎_elim (λ z. inl z) (λ v. inr (repeats_border ag x self (i + 1) c v.0.0 v.0.1, omega (arith, v.1))) t.is)
        (λ q r. ⊎_elim (λ u. inr u) (λ u. inl u) (under q r))

-- ---- the greatest Count so far

-- row j, up to i, of the enhanced table has these two numbers
pub record AtRow (ag : ℕ → ℕ → Bool) (x : List ℕ) (i b k : ℕ) : Type 0 where
  pub row : ℕ
  pub some : 0 < row
  pub within : row ≤ i
  pub best : best ag x row ≡ b
  pub count : count ag x row ≡ k

-- k is the greatest Count at any j up to i, and b the smallest Best that has it
pub record Greatest (ag : ℕ → ℕ → Bool) (x : List ℕ) (i b k : ℕ) : Type 0 where
  pub most : (j : ℕ) → j ≤ i → count ag x j ≤ k
  pub least : (j : ℕ) → j ≤ i → count ag x j ≡ k → b ≤ best ag x j
  pub at : AtRow ag x i b k

module _ (ag : ℕ → ℕ → Bool) (x : List ℕ) (self : Reflexive ag) where
  module _ (i : ℕ) where
    left_step : AtRow ag x i (left_cover ag x i) (left_count ag x i) → AtRow ag x (i + 1) (left_cover ag x (i + 1)) (left_count ag x (i + 1))
    left_step r = ⊎_elim
        (λ w. let e = left_one ag x (i + 1) (left_stays ag x self (left_left ag x i) (best_best ag x (i + 1)) w) (left_left ag x (i + 1)) in
        record { row = r.row; some = r.some; within = omega (arith, r.within); best = r.best ∙ e.0; count = r.count ∙ e.1 })
        (λ w. let e = left_one ag x (i + 1) (left_moves ag x self (left_left ag x i) (best_best ag x (i + 1)) w) (left_left ag x (i + 1)) in
        record { row = i + 1; some = omega arith; within = omega arith; best = e.0; count = e.1 })
        (wins_or (left_cover ag x i) (left_count ag x i) (best ag x (i + 1)) (count ag x (i + 1)))

  left_at : (n : ℕ) → AtRow ag x (suc n) (left_cover ag x (suc n)) (left_count ag x (suc n))
  left_at zero =
      let z = left_one ag x 1 (repeats_zero ag x 1 (covered ag x 1) (omega arith)) (left_left ag x 1) in
      let b = best_zero ag x 1 (λ m h. omega (arith, h.0, h.1.below)) in
      record { row = 1; some = omega arith; within = omega arith; best = b.0 ∙ z.0; count = b.1 ∙ z.1 }
  left_at (suc n) = rw add-one at (left_step (suc n) (left_at n))

  pub left_greatest : (i : ℕ) → 0 < i → Greatest ag x i (left_cover ag x i) (left_count ag x i)
  left_greatest i h = record { most = most; least = least; at = at i h }
    where
      repeated : (j : ℕ) → j ≤ i → Nonempty ag x j (best ag x j) → Repeats ag x i (best ag x j)
      repeated j l b = repeats_wider ag x i j (best ag x j) l (repeats_border ag x self j (best ag x j) b.0 b.1)

      most : (j : ℕ) → j ≤ i → count ag x j ≤ left_count ag x i
      most j l = ⊎_elim
          (λ z. omega (arith, z.1))
          (λ v. omega (arith, v.1, covered_wider ag x (best ag x j) j i l, (left_left ag x i).most (best ag x j) (repeated j l v.0)))
          (best_best ag x j).is

      least : (j : ℕ) → j ≤ i → count ag x j ≡ left_count ag x i → left_cover ag x i ≤ best ag x j
      least j l e = ⊎_elim
          (λ z. ⊎_elim (λ y. omega (arith, y.0)) (λ y. absurd (omega (arith, z.1, y.1, repeats_covered ag x i (left_cover ag x i) y.0))) (left_left ag x i).is)
          (λ v. let r = repeated j l v.0 in
          (left_left ag x i).least (best ag x j) r (omega (arith, v.1, covered_wider ag x (best ag x j) j i l, (left_left ag x i).most (best ag x j) r)))
          (best_best ag x j).is

      at : (i : ℕ) → 0 < i → AtRow ag x i (left_cover ag x i) (left_count ag x i)
      at zero g = absurd (omega arith)
      at (suc n) g = left_at n

-- ---- where a border covers all: the left cover is Best, and its Count

pub left_whole : (ag : ℕ → ℕ → Bool) (x : List ℕ) → Reflexive ag → (i q : ℕ) → Covers ag x i q → q < i → (left_cover ag x i ≡ best ag x i) × (left_count ag x i ≡ count ag x i)
left_whole ag x self i q c l = left_one ag x i (left_left ag x i) (record {
  most = λ m _. omega (arith, covered_le ag x i m, full);
  least = λ m r e. (best_best ag x i).least m (r.some, all_border m r (e ∙ full)) e;
  is = ⊎_elim (λ z. inl z) (λ v. inr (repeats_border ag x self i (best ag x i) v.0.0 v.0.1, v.1)) (best_best ag x i).is;
})
  where
    full : count ag x i ≡ i
    full = omega (arith, count_le ag x i, covered_all ag x i q c, (best_best ag x i).most q (c.some, covers_border ag x q i c l))

    all_border : (m : ℕ) → Repeats ag x i m → covered ag x i m ≡ i → Border ag x i m
    all_border m r e = covers_border ag x m i (all_covered ag x i m r.some (omega (arith, r.proper)) e) r.proper
