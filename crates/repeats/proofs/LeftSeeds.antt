-- The left seed, from one reading to the next and from the left cover. Assumes nothing.
use Rattle.std.proofs.Common.{Bool, true, ◌≡◌, List, ◌⊎◌, inl, inr, ⊎_elim, ℕ, ◌+◌, ◌-◌, ◌≤◌, ◌<◌, arith, eqb, get_or}
use Rattle.words.specs.Words.{border, cover, covered}
use Rattle.words.proofs.Tops.{Top, Wins, Under, Stand, top_join, top_all, top_within}
use Rattle.words.proofs.Occurrences.{Occurs, Reflexive}
use Rattle.words.proofs.Borders.{Border}
use Rattle.words.proofs.Covers.{Covers}
use Rattle.words.proofs.Bests.{Best}
use Rattle.words.proofs.Counts.{covered_through}
use Rattle.words.proofs.Lossless.{root}
use Rattle.repeats.specs.Repeats.{reached, left_count, seed_count, left_cover}
use Rattle.repeats.proofs.Repeating.{Repeats, Before, repeats_shorter, repeats_wider, repeats_border, repeats_step}
use Rattle.repeats.proofs.LeftCovers.{LeftCover, left_left}
use Rattle.repeats.proofs.Seeds.{LeftSeed, seed_seed, reached_covered, reached_border, reached_step, reached_through}
use Rattle.repeats.proofs.Starts.{start, start_whole, start_le, reached_count, reached_bound, reached_on}

module _ (ag : ℕ → ℕ → Bool) (x : List ℕ) where
  -- a left seed covers at least as many positions as the left cover
  pub seed_most : (i : ℕ) → left_count ag x i ≤ seed_count ag x i
  seed_most i = ⊎_elim
      (λ z. omega (arith, z.1))
      (λ v. omega (arith, v.1, reached_covered ag x i (left_cover ag x i), (seed_seed ag x i).most (left_cover ag x i) v.0))
      (left_left ag x i).is

  -- where the left cover is longer than the border, and its last end leaves room for the border: no start is longer, and no pattern covers more
  pub seed_rests : {i b k : ℕ} → 0 < i → LeftCover ag x i b k → border ag x i < b → (e : ℕ) → b ≤ e → e + border ag x i ≤ i
      → Occurs ag x b (e - b) → ((s : ℕ) → s + b ≤ i → Occurs ag x b s → s + b ≤ e) → LeftSeed ag x i b (k + border ag x i)
  seed_rests {i} {b} {k} some s l e from room o last = record {
    most = λ q t. omega (arith, reached_bound ag x i q some, start_le ag x i q some, s.most q t);
    least = λ q t d. s.least q t (omega (arith, reached_bound ag x i q some, start_le ag x i q some, s.most q t));
    is = ⊎_elim
        (λ z. absurd (omega (arith, z.0)))
        (λ v. inr (v.0, omega (arith, v.1, start_whole ag x i b some l, reached_count ag x i b e (omega arith) from (omega arith) o last)))
        s.is;
  }

  module _ (self : Reflexive ag) {i b k c l : ℕ} (s : LeftSeed ag x i b k) (t : Best ag x (i + 1) c l) where
    -- one reading more: at most one position more, unless the pattern ends there
    under : (q : ℕ) → Repeats ag x (i + 1) q → Under (reached ag x (i + 1)) b (k + 1) q ⊎ Under (reached ag x (i + 1)) c l q
    under q r = ⊎_elim
        (λ (d : Border ag x (i + 1) q). inr (rw (reached_border ag x (i + 1) q d) (t.most q (r.some, d), t.least q (r.some, d))))
        (λ (d : Before ag x i q).
        let u = reached_step ag x i q (omega (arith, d.repeats.proper)) in
        let v = s.most q d.repeats in
        inl (omega arith, λ e. s.least q d.repeats (omega arith)))
        (repeats_step ag x i q r)

    -- the new prefix's Best, where it wins over one position more
    pub seed_moves : Wins c l b (k + 1) → LeftSeed ag x (i + 1) c l
    seed_moves = top_join
        (⊎_elim (λ z. inl z) (λ v. inr (repeats_border ag x self (i + 1) c v.0.0 v.0.1, omega (arith, v.1, reached_covered ag x (i + 1) c))) t.is)
        (λ q r. ⊎_elim (λ u. inr u) (λ u. inl u) (under q r))

    -- the pattern goes on: the reading after its start is the next one
    pub seed_goes_on : 0 < i → 0 < b → ag (get_or x (start ag x i b) 0) (get_or x i 0) ≡ true → Wins b (k + 1) c l → LeftSeed ag x (i + 1) b (k + 1)
    seed_goes_on some h f = top_join
        (⊎_elim
        (λ z. absurd (omega (arith, z.0)))
        (λ v. inr (repeats_wider ag x (i + 1) i b (omega arith) v.0, omega (arith, v.1, reached_on ag x i b some h f)))
        s.is)
        under

-- ---- where readings agree by being equal: a pattern that has no proper cover is enough

-- q is longer than w, has no proper cover, and repeats
abbrev pub Bare : List ℕ → ℕ → ℕ → ℕ → Type 0
Bare x i w q = (w < q) × (cover eqb x q ≡ 0) × Repeats eqb x i q

module _ (x : List ℕ) (i : ℕ) where
  -- by any number that is no less for a cover, the shortest cover of a pattern stands for it
  module _ (g : ℕ → ℕ) (more : (r q : ℕ) → Covers eqb x q r → g q ≤ g r) where
    stands : (q : ℕ) → Repeats eqb x i q → Stand (Bare x i 0) g q
    stands q t =
        let r = root x q t.some in
        record {
          at = r.len;
          has = (r.covers.some, r.bare, repeats_shorter eqb x i q r.len t r.covers.some r.covers.most);
          less = r.covers.most;
          most = more r.len q r.covers;
        }

  pub seed_all : {b k : ℕ} → Top (Bare x i 0) (reached eqb x i) b k → LeftSeed eqb x i b k
  seed_all = top_all (stands (reached eqb x i) (λ r q c. reached_through x r q i c)) (λ q h. h.2)

  -- and the left cover has none
  pub left_bare : {b k : ℕ} → LeftCover eqb x i b k → 0 < b → cover eqb x b ≡ 0
  left_bare s h = ⊎_elim
      (λ z. absurd (omega (arith, z.0)))
      (λ v. v.0.1)
      (top_within (stands (covered eqb x i) (λ r q c. covered_through x r q i c)) (λ q u. u.2) s).is
