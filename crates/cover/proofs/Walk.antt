-- The walk up the tree of covers, from the border to the longest proper cover. Assumes nothing.
use Rattle.std.proofs.Common.{◌≡◌, List, ◌⊎◌, inl, inr, ⊎_elim, ℕ, ◌+◌, ◌≤◌, ◌<◌, le_antisymm, eq-zero-or-pos, arith, eqb}
use Rattle.words.specs.Words.{border, cover}
use Rattle.words.proofs.Occurrences.{eqb_refl}
use Rattle.words.proofs.Borders.{border_border}
use Rattle.words.proofs.Covers.{Covers, covers_self, covers_through, covers_nested, cover_covers, cover_lt, cover_most}
use Rattle.words.proofs.Periods.{covers_of_border}

-- q is 0 or a cover of the longest border of the prefix of length j + 1, and no proper cover of that prefix is longer than q
pub record Walk (x : List ℕ) (j q : ℕ) : Type 0 where
  pub below : q ≤ j
  pub covers : (q ≡ 0) ⊎ Covers eqb x (border eqb x (j + 1)) q
  pub most : (p : ℕ) → Covers eqb x (j + 1) p → p < j + 1 → p ≤ q

pos : (j : ℕ) → 0 < j + 1
pos j = omega arith

module _ {x : List ℕ} {j : ℕ} where
  pub walk_start : (q : ℕ) → q ≡ border eqb x (j + 1) → Walk x j q
  walk_start q e = record {
    below = omega (arith, border_border eqb x (j + 1) (pos j));
    covers = ⊎_elim (λ (z : q ≡ 0). inl z) (λ (h : 0 < q). inr (rw (← e) (covers_self eqb x eqb_refl q h))) (eq-zero-or-pos q);
    most = λ p c h. rw e (covers_of_border x p (j + 1) c h).most;
  }

  module _ {q : ℕ} (w : Walk x j q) where
    -- down to 0, or to the first that covers
    pub walk_none : q ≡ 0 → q ≡ cover eqb x (j + 1)
    walk_none z = ⊎_elim
        (λ e. omega arith)
        (λ (c : Covers eqb x (j + 1) (cover eqb x (j + 1))). omega (arith, c.some, w.most (cover eqb x (j + 1)) c (cover_lt eqb x (j + 1) (pos j))))
        (cover_covers eqb x (j + 1))

    pub walk_hit : Covers eqb x (j + 1) q → q ≡ cover eqb x (j + 1)
    walk_hit c =
        le_antisymm (cover_most eqb x (j + 1) q c (omega arith)) (⊎_elim
        (λ (z : cover eqb x (j + 1) ≡ 0). omega arith)
        (λ (d : Covers eqb x (j + 1) (cover eqb x (j + 1))). w.most (cover eqb x (j + 1)) d (cover_lt eqb x (j + 1) (pos j)))
        (cover_covers eqb x (j + 1)))

    -- on to a cover u of q that no cover of j + 1 passes by
    pub walk_next : (u : ℕ) → (u ≡ 0) ⊎ Covers eqb x q u → ((p : ℕ) → Covers eqb x q p → Covers eqb x (j + 1) p → p < j + 1 → p ≤ u) → Walk x j u
    walk_next u d most = ⊎_elim
        (λ (z : q ≡ 0). zero_next z d)
        (λ (c : Covers eqb x (border eqb x (j + 1)) q). record {
          below = ⊎_elim (λ z. omega arith) (λ (e : Covers eqb x q u). omega arith) d;
          covers = ⊎_elim (λ z. inl z) (λ e. inr (covers_through x u q (border eqb x (j + 1)) e c)) d;
          most = λ p e l. most p (covers_nested x p q (border eqb x (j + 1)) (covers_of_border x p (j + 1) e l) c (w.most p e l)) e l;
        })
        w.covers
      where
        zero_next : q ≡ 0 → (u ≡ 0) ⊎ Covers eqb x q u → Walk x j u
        zero_next z (inl e) = record { below = omega arith; covers = inl e; most = λ p c l. omega (arith, w.most p c l) }
        zero_next z (inr c) = absurd (omega arith)
