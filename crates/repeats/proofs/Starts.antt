-- The longest start of a pattern that ends a prefix and is not the pattern itself: the longest border shorter than the pattern. Under any rule it says what
-- the pattern reaches beyond its last occurrence, and whether one reading more is reached too. Assumes nothing.
use Rattle.std.proofs.Common.{Bool, true, false, ◌≡◌, refl, sym, ap, ◌∙◌, List, inl, inr, ⊎_elim, ℕ, zero, suc, ◌+◌, ◌-◌, ◌≤◌, ◌<◌, min, eq-or-lt_of_le, add-one, arith, get_or, eqb}
use Rattle.words.specs.Search.{greatest}
use Rattle.words.specs.Words.{is_border, border, inside, covered}
use Rattle.words.proofs.Tests.{not_passed, both_ways}
use Rattle.words.proofs.Search.{greatest_lt, greatest_passes, greatest_most, greatest_is, greatest_same, how_many_hit, how_many_last, how_many_same, how_many_mono, how_many_more, how_many_longer}
use Rattle.words.proofs.Occurrences.{Occurs, occurs_same}
use Rattle.words.proofs.Borders.{Border, is_border_iff, border_empty, border_border, border_most, border_grow, border_shrink, border_trans, border_inner}
use Rattle.words.proofs.Covers.{inside_iff, inside_wider}
use Rattle.words.proofs.Counts.{covered_stays}
use Rattle.repeats.specs.Repeats.{reached}
use Rattle.repeats.proofs.Seeds.{Reached, reaches, reached_iff}

module _ (ag : ℕ → ℕ → Bool) (x : List ℕ) where
  unfoldable pub start : ℕ → ℕ → ℕ
  start i q = greatest (is_border ag x i) q

  pub start_none : (i : ℕ) → start i 0 ≡ 0
  unfolding start greatest
  start_none i = refl

  pub start_lt : (i q : ℕ) → 0 < q → start i q < q
  unfolding start
  start_lt i q h = greatest_lt (is_border ag x i) q h

  pub start_border : (i q : ℕ) → 0 < i → Border ag x i (start i q)
  unfolding start
  start_border i q h = (is_border_iff ag x i (start i q)).0 (greatest_passes (is_border ag x i) q ((is_border_iff ag x i 0).1 (border_empty ag x i h)))

  pub start_most : (i q m : ℕ) → m < q → Border ag x i m → m ≤ start i q
  unfolding start
  start_most i q m l b = greatest_most (is_border ag x i) q m l ((is_border_iff ag x i m).1 b)

  pub start_is : (i q m : ℕ) → m < q → Border ag x i m → ((k : ℕ) → k < q → Border ag x i k → k ≤ m) → start i q ≡ m
  unfolding start
  start_is i q m l b most = greatest_is (is_border ag x i) q m l ((is_border_iff ag x i m).1 b) (λ k h e. most k h ((is_border_iff ag x i k).0 e))

  -- of a pattern longer than the border: the border; no start is longer
  pub start_whole : (i q : ℕ) → 0 < i → border ag x i < q → start i q ≡ border ag x i
  start_whole i q h l = start_is i q (border ag x i) l (border_border ag x i h) (λ k _ b. border_most ag x i k b)

  pub start_le : (i q : ℕ) → 0 < i → start i q ≤ border ag x i
  start_le i q h = border_most ag x i (start i q) (start_border i q h)

  -- ---- what a pattern reaches: what it covers, and from its last end on the start

  module _ (i q e : ℕ) (some : 0 < q) (from : q ≤ e) (within : e ≤ i) (o : Occurs ag x q (e - q)) (last : (s : ℕ) → s + q ≤ i → Occurs ag x q s → s + q ≤ e) where
    abbrev m : ℕ
    m = start i q

    abbrev u : ℕ → Bool
    u = reaches ag x i q

    -- up to the last end a start adds nothing
    low : (p : ℕ) → p < e → u p ≡ inside ag x e q p
    low p h = both_ways (u p) (inside ag x e q p)
        (λ t. (inside_iff ag x e q p).1 (⊎_elim
        (λ v. record { start = v.start; from = v.from; to = v.to; ends = last v.start v.ends v.occurs; occurs = v.occurs })
        (λ v. record { start = e - q; from = omega (arith, v.short, v.from); to = omega arith; ends = omega arith; occurs = o })
        ((reached_iff ag x i q p).0 t)))
        (λ t. (reached_iff ag x i q p).1 (inl (inside_wider ag x q e i p within ((inside_iff ag x e q p).0 t))))

    -- after it the start alone reaches
    high : (p : ℕ) → i - m ≤ p → p < i → u p ≡ true
    high p l h = (reached_iff ag x i q p).1 (inr (record { len = m; short = start_lt i q some; from = l; border = start_border i q (omega arith) }))

    gap : (p : ℕ) → e ≤ p → p < i - m → u p ≡ false
    gap p l h = not_passed (u p) (λ t. ⊎_elim
        (λ v. omega (arith, v.to, last v.start v.ends v.occurs))
        (λ v. omega (arith, v.from, start_most i q v.len v.short v.border))
        ((reached_iff ag x i q p).0 t))

    pub reached_count : reached ag x i q ≡ covered ag x i q + min m (i - e)
    unfolding reached covered
    reached_count =
        how_many_last u e i m within (omega (arith, (start_border i q (omega arith)).below)) high gap
        ∙ ap (λ (n : ℕ). n + min m (i - e)) (how_many_same u (inside ag x e q) e low ∙ sym (covered_stays ag x q e i within last))

  -- wherever its last end is, a start adds no more than its length
  pub reached_bound : (i q : ℕ) → 0 < i → reached ag x i q ≤ covered ag x i q + start i q
  unfolding reached covered
  reached_bound i q some =
      let u : ℕ → Bool = reaches ag x i q in
      let n : i - start i q + start i q ≡ i = omega (arith, (start_border i q some).below) in
      let low = how_many_mono u (inside ag x i q) (i - start i q) (λ p l t. ⊎_elim
      (λ v. (inside_iff ag x i q p).1 v)
      (λ v. absurd (omega (arith, v.from, start_most i q v.len v.short v.border)))
      ((reached_iff ag x i q p).0 t)) in
      omega (arith, low, rw n at (how_many_more u (i - start i q) (start i q)), how_many_longer (inside ag x i q) (i - start i q) i (omega arith))

  -- ---- the next reading follows the start: one position more is reached

  module _ (i q : ℕ) (some : 0 < i) (h : 0 < q) (follows : ag (get_or x (start i q) 0) (get_or x i 0) ≡ true) where
    grown : Border ag x (i + 1) (start i q + 1)
    grown = border_grow ag x i (start i q) (start_border i q some) follows

    -- the pattern itself ends there, or a longer start of it
    end : (p : ℕ) → i - start i q ≤ p → p < i + 1 → Reached ag x (i + 1) q p
    end p l u = ⊎_elim
        (λ (z : start i q + 1 ≡ q).
        let o : Occurs ag x (start i q + 1) (i - start i q) = occurs_same ag x _ (i + 1 - (start i q + 1)) (omega arith) grown.ends in
        inl (record { start = i - start i q; from = l; to = omega (arith, grown.below); ends = omega (arith, grown.below); occurs = rw z at o }))
        (λ (g : start i q + 1 < q). inr (record { len = start i q + 1; short = g; from = omega arith; border = grown }))
        (eq-or-lt_of_le (omega (arith, start_lt i q h)))

    on : (p : ℕ) → p < i → Reached ag x i q p → Reached ag x (i + 1) q p
    on p l r = ⊎_elim
        (λ v. inl (inside_wider ag x q i (i + 1) p (omega arith) v))
        (λ v. end p (omega (arith, v.from, start_most i q v.len v.short v.border)) (omega arith))
        r

    pub reached_on : reached ag x i q + 1 ≤ reached ag x (i + 1) q
    unfolding reached
    reached_on =
        let u : ℕ → Bool = reaches ag x (i + 1) q in
        let old = how_many_mono (reaches ag x i q) u i (λ p l e. (reached_iff ag x (i + 1) q p).1 (on p l ((reached_iff ag x i q p).0 e))) in
        let new = how_many_hit u i ((reached_iff ag x (i + 1) q i).1 (end i (omega arith) (omega arith))) in
        omega (arith, old, new)

    -- the start at the next reading
    pub start_grows : start i q + 1 < q → start (i + 1) q ≡ start i q + 1
    start_grows l = start_is (i + 1) q (start i q + 1) l grown (λ k g b. bound k g b)
      where
        bound : (k : ℕ) → k < q → Border ag x (i + 1) k → k ≤ start i q + 1
        bound zero g b = omega arith
        bound (suc k) g b = omega (arith, start_most i q k (omega arith) (border_shrink ag x i k (rw (← add-one k) at b)).0)

    pub start_ends : start i q + 1 ≡ q → Border ag x (i + 1) q
    start_ends z = rw z at grown

-- ---- where readings agree by being equal

module _ (x : List ℕ) where
  -- below a border its own borders are the borders: the start of whatever is no longer than the border is the border's own start
  pub start_inner : (i b q : ℕ) → Border eqb x i b → q ≤ b → start eqb x i q ≡ start eqb x b q
  unfolding start
  start_inner i b q h l = greatest_same (is_border eqb x i) (is_border eqb x b) q (λ m u. both_ways (is_border eqb x i m) (is_border eqb x b m)
      (λ e. (is_border_iff eqb x b m).1 (border_inner x i b m h ((is_border_iff eqb x i m).0 e) (omega arith)))
      (λ e. (is_border_iff eqb x i m).1 (border_trans x i b m h ((is_border_iff eqb x b m).0 e))))

  -- the start of a pattern that ends at i: its own border
  pub start_end : (i q : ℕ) → 0 < q → Border eqb x i q → start eqb x i q ≡ border eqb x q
  unfolding border start
  start_end i q h b = start_inner i q q b (omega arith)
