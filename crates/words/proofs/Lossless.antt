-- Weighing loses nothing, where readings agree by being equal: every nonempty border has a weighed one, no longer, that covers at least as much. So the
-- best of the weighed, in a walk from the longest to the shortest, is the best of all borders. Assumes nothing.
use mathlib.Core.Bool.{cond}
use mathlib.Core.Path.{◌≡◌}
use mathlib.Core.List.{List}
use mathlib.Core.Logic.{◌⊎◌, inl, inr, ⊎_elim}
use Prim.Native.Nat.{ℕ, zero, suc, ◌≤◌, ◌<◌, max}
use native.Mathlib.Nat.{eq-or-lt_of_le}
use native.Mathlib.Omega.{arith}
use lib.Dec.{eqb, leb}
use borrow.Author.Tests.{leb-true, leb-false}
use Rattle.words.specs.Words.{cover, covered, best, count}
use Rattle.words.proofs.Tests.{cond_case, le_or_lt}
use Rattle.words.proofs.Tops.{Top, Under, Stand, wins_later, top_none, top_join, top_all, top_within}
use Rattle.words.proofs.Occurrences.{eqb_refl}
use Rattle.words.proofs.Borders.{Border, border_trans}
use Rattle.words.proofs.Covers.{Covers, covers_self, covers_through, covers_border, cover_covers, cover_lt}
use Rattle.words.proofs.Counts.{covered_some, covered_through}
use Rattle.words.proofs.Bests.{Nonempty, Best, best_best, best_one}
use Rattle.words.proofs.Weighs.{Weighs, weighs_inner, heaviest, heaviest_most, heaviest_lt}

-- the shortest cover of q: it has no proper cover itself
pub record Root (x : List ℕ) (q : ℕ) : Type 0 where
  pub len : ℕ
  pub bare : cover eqb x len ≡ 0
  pub covers : Covers eqb x q len

-- down the cover table
root_by : (x : List ℕ) (n q : ℕ) → q ≤ n → 0 < q → Root x q
root_by x zero q l h = absurd (omega arith)
root_by x (suc n) q l h =
    let ih = root_by x n (cover eqb x q) in
    ⊎_elim
    (λ (z : cover eqb x q ≡ 0). record { len = q; bare = z; covers = covers_self eqb x eqb_refl q h })
    (λ (c : Covers eqb x q (cover eqb x q)).
    let r = ih (omega (arith, cover_lt eqb x q h)) c.some in
    record { len = r.len; bare = r.bare; covers = covers_through x r.len (cover eqb x q) q r.covers c })
    (cover_covers eqb x q)

pub root : (x : List ℕ) (q : ℕ) → 0 < q → Root x q
root x q = root_by x q q (omega arith)

-- of a border it is a border
root_weighs : (x : List ℕ) (i q : ℕ) → Border eqb x i q → (r : Root x q) → Weighs eqb x i r.len
root_weighs x i q b r = record {
  some = r.covers.some;
  border = ⊎_elim
      (λ (e : r.len ≡ q). rw e b)
      (λ (l : r.len < q). border_trans x i q r.len b (covers_border eqb x r.len q r.covers l))
      (eq-or-lt_of_le r.covers.most);
  bare = r.bare;
}

-- ---- the best so far: b is the shortest of the weighed borders of i above w that cover the most, k positions; both 0 where there is none

abbrev pub Above : List ℕ → ℕ → ℕ → ℕ → Type 0
Above x i w m = (w < m) × Weighs eqb x i m

abbrev pub Picked : List ℕ → ℕ → ℕ → ℕ → ℕ → Type 0
Picked x i w = Top (Above x i w) (covered eqb x i)

module _ {x : List ℕ} {i : ℕ} where
  pub picked_start : (w : ℕ) → w ≡ heaviest x i → Picked x i w 0 0
  picked_start w e = top_none (λ m v. omega (arith, v.0, heaviest_most x i m v.1))

  module _ {w b c : ℕ} (s : Picked x i w b c) (v : Weighs eqb x i w) (k : ℕ) (e : k ≡ covered eqb x i w) where
    lower : heaviest x w < w
    lower = heaviest_lt x w v.some

    -- above the next w are w and what is above w
    under : (m : ℕ) → Above x i (heaviest x w) m → Under (covered eqb x i) w k m ⊎ Under (covered eqb x i) b c m
    under m u = ⊎_elim
        (λ (g : m ≤ w). ⊎_elim
        (λ (z : m ≡ w). inl (rw (z, e) (omega arith), λ _. omega arith))
        (λ (g : m < w). absurd (omega (arith, u.0, heaviest_most x w m (weighs_inner x i w m v.border u.1 g))))
        (eq-or-lt_of_le g))
        (λ (g : w < m). inr (s.most m (g, u.1), s.least m (g, u.1)))
        (le_or_lt m w)

    better : c ≤ k → Picked x i (heaviest x w) w k
    better h = top_join (inr ((lower, v), omega arith)) under
        (wins_later w k s (λ m u. omega (arith, u.0)) (omega (arith, covered_some eqb x i w v.some v.border)) h)

    worse : k < c → Picked x i (heaviest x w) b c
    worse h = top_join
        (⊎_elim (λ z. inl z) (λ u. inr ((omega (arith, u.0.0, lower), u.0.1), omega (arith, u.1))) s.is)
        (λ m u. ⊎_elim (λ a. inr a) (λ a. inl a) (under m u))
        (inl h)

    -- of equals the later one, which is shorter
    pub picked_next : Picked x i (heaviest x w) (cond (leb c k) w b) (max c k)
    picked_next = cond_case (λ (r : ℕ). Picked x i (heaviest x w) r (max c k)) (leb c k)
        (λ t. let h = leb-true c k t in let z : max c k ≡ k = omega arith in rw z (better h))
        (λ t. let h = leb-false c k t in let z : max c k ≡ c = omega arith in rw z (worse h))

-- the shortest cover of a border is weighed, no longer, and covers what the border covers
pub stands : (x : List ℕ) (i m : ℕ) → Nonempty eqb x i m → Stand (Above x i 0) (covered eqb x i) m
stands x i m h =
    let r = root x m h.0 in
    record { at = r.len; has = (r.covers.some, root_weighs x i m h.1 r); less = r.covers.most; most = covered_through x r.len m i r.covers }

weighs_nonempty : (x : List ℕ) (i m : ℕ) → Above x i 0 m → Nonempty eqb x i m
weighs_nonempty x i m w = (w.0, w.1.border)

-- so the best of the weighed borders is the best of all borders, and back
pub picked_all : {x : List ℕ} {i b k : ℕ} → Picked x i 0 b k → Best eqb x i b k
picked_all {x} {i} = top_all (stands x i) (weighs_nonempty x i)

pub all_picked : {x : List ℕ} {i b k : ℕ} → Best eqb x i b k → Picked x i 0 b k
all_picked {x} {i} = top_within (stands x i) (weighs_nonempty x i)

module _ (x : List ℕ) (i : ℕ) {b k : ℕ} (s : Picked x i 0 b k) where
  pub picked_best : b ≡ best eqb x i
  picked_best = (best_one eqb x i (picked_all s) (best_best eqb x i)).0

  pub picked_count : k ≡ count eqb x i
  picked_count = (best_one eqb x i (picked_all s) (best_best eqb x i)).1
