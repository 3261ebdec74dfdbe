-- Borders and the border table. Under any rule: the table's entry is the longest border, and a border grows by one reading that agrees.
-- Where readings agree by being equal: a border of a border is a border, a shorter border is a border of a longer one, and so the
-- chain of the border table passes every border. Assumes nothing.
use mathlib.Core.Bool.{Bool, true}
use mathlib.Core.Path.{◌≡◌, refl, sym, ◌∙◌}
use mathlib.Core.List.{List}
use mathlib.Core.Logic.{◌⊎◌, inl, inr, ⊎_elim, ◌↔◌}
use Prim.Native.Nat.{ℕ, zero, suc, ◌+◌, ◌-◌, ◌≤◌, ◌<◌}
use native.Mathlib.Nat.{eq-or-lt_of_le}
use native.Mathlib.Numerals.{add-one}
use native.Mathlib.Omega.{arith}
use lib.ListN.{length, get_or}
use lib.Dec.{eqb, ltb}
use mir.Syntax.{w16}
use mir.Val.{Fits}
use borrow.Author.Tests.{ltb-true, lt-ltb, eqb-true, eq-eqb}
use Rattle.words.specs.Words.{occurs, is_border, border}
use Rattle.words.specs.Tables.{border_row}
use Rattle.words.specs.Refusals.{longest}
use Rattle.words.proofs.Tests.{and_left, and_right, and_both}
use Rattle.words.proofs.Search.{greatest_passes, greatest_most, greatest_is}
use Rattle.words.proofs.Occurrences.{Occurs, occurs_iff, occurs_none, same, is_same, at, agree_at}

pub record Border (ag : ℕ → ℕ → Bool) (x : List ℕ) (i m : ℕ) : Type 0 where
  pub below : m < i
  pub ends : Occurs ag x m (i - m)

module _ (ag : ℕ → ℕ → Bool) (x : List ℕ) where
  pub is_border_iff : (i m : ℕ) → (is_border ag x i m ≡ true) ↔ Border ag x i m
  unfolding is_border
  is_border_iff i m = (
    λ e. record {
      below = ltb-true m i (and_left (ltb m i) (occurs ag x m (i - m)) e);
      ends = (occurs_iff ag x m (i - m)).0 (and_right (ltb m i) (occurs ag x m (i - m)) e);
    },
    λ b. and_both (ltb m i) (occurs ag x m (i - m)) (lt-ltb m i b.below) ((occurs_iff ag x m (i - m)).1 b.ends),
  )

  pub border_empty : (i : ℕ) → 0 < i → Border ag x i 0
  border_empty i h = record { below = h; ends = occurs_none ag x (i - 0) }

  -- ---- the table's entry is a border, and none is longer; and whoever is both is the entry

  pub border_border : (i : ℕ) → 0 < i → Border ag x i (border ag x i)
  unfolding border
  border_border i h = (is_border_iff i (border ag x i)).0 (greatest_passes (is_border ag x i) i ((is_border_iff i 0).1 (border_empty i h)))

  pub border_lt : (i : ℕ) → 0 < i → border ag x i < i
  border_lt i h = (border_border i h).below

  pub border_most : (i m : ℕ) → Border ag x i m → m ≤ border ag x i
  unfolding border
  border_most i m b = greatest_most (is_border ag x i) i m b.below ((is_border_iff i m).1 b)

  pub border_is : (i r : ℕ) → Border ag x i r → ((m : ℕ) → Border ag x i m → m ≤ r) → border ag x i ≡ r
  unfolding border
  border_is i r b most = greatest_is (is_border ag x i) i r b.below ((is_border_iff i r).1 b) (λ m l e. most m ((is_border_iff i m).0 e))

  -- a prefix of length 1 has the empty border alone
  pub border_one : (i : ℕ) → i ≡ 0 → 0 ≡ border ag x (i + 1)
  border_one i z = omega (arith, border_lt (i + 1) (omega arith))

  -- ---- one reading more, and one less

  pub border_grow : (i m : ℕ) → Border ag x i m → ag (get_or x m 0) (get_or x i 0) ≡ true → Border ag x (i + 1) (m + 1)
  border_grow i m b e = record {
    below = omega arith;
    ends = record {
      agree = λ k h. ⊎_elim
          (λ (z : k ≡ m). rw z (agree_at ag x _ i (omega arith) e))
          (λ (l : k < m). agree_at ag x _ (i - m + k) (omega arith) (b.ends.agree k l))
          (eq-or-lt_of_le (omega arith));
    };
  }

  pub border_shrink : (i m : ℕ) → Border ag x (i + 1) (m + 1) → Border ag x i m × (ag (get_or x m 0) (get_or x i 0) ≡ true)
  border_shrink i m b = (
    record { below = omega arith; ends = record { agree = λ k h. agree_at ag x _ (i + 1 - (m + 1) + k) (omega arith) (b.ends.agree k (omega arith)) } },
    agree_at ag x _ (i + 1 - (m + 1) + m) (omega arith) (b.ends.agree m (omega arith)),
  )

  -- one reading more adds at most one, so the period i - border never falls
  pub border_step : (i : ℕ) → border ag x (i + 1) ≤ border ag x i + 1
  border_step i = bound (border ag x (i + 1)) (border_border (i + 1) (omega arith))
    where
      bound : (m : ℕ) → Border ag x (i + 1) m → m ≤ border ag x i + 1
      bound zero b = omega arith
      bound (suc l) b = omega (arith, border_most i l (border_shrink i l (rw (← add-one l) at b)).0)

-- ---- where readings agree by being equal

module _ (x : List ℕ) where
  -- a border of a border is a border
  pub border_trans : (i m l : ℕ) → Border eqb x i m → Border eqb x m l → Border eqb x i l
  border_trans i m l b c = record {
    below = omega arith;
    ends = is_same (λ k h. same c.ends k h ∙ same b.ends (m - l + k) (omega arith) ∙ at x (omega arith));
  }

  -- a shorter border is a border of a longer one
  pub border_inner : (i m l : ℕ) → Border eqb x i m → Border eqb x i l → l < m → Border eqb x m l
  border_inner i m l b c lm = record {
    below = lm;
    ends = is_same (λ k h. same c.ends k h ∙ sym (same b.ends (m - l + k) (omega arith) ∙ at x (omega arith)));
  }

  -- the chain: every border is the table's entry, or a border of the prefix that the entry names
  pub border_next : (i m : ℕ) → Border eqb x i m → (m ≡ border eqb x i) ⊎ Border eqb x (border eqb x i) m
  border_next i m b = ⊎_elim
      (λ (e : m ≡ border eqb x i). inl e)
      (λ (l : m < border eqb x i). inr (border_inner i (border eqb x i) m (border_border eqb x i (omega arith)) b l))
      (eq-or-lt_of_le (border_most eqb x i m b))

-- ---- from i to i + 1 along the chain: k is a border of x[1..i], and none that the next reading can follow is longer

pub record Candidate (x : List ℕ) (i k : ℕ) : Type 0 where
  pub border : Border eqb x i k
  pub most : (m : ℕ) → Border eqb x i m → get_or x m 0 ≡ get_or x i 0 → m ≤ k

module _ (x : List ℕ) where
  pub candidate_first : (i : ℕ) → 0 < i → Candidate x i (border eqb x i)
  candidate_first i h = record { border = border_border eqb x i h; most = λ m b _. border_most eqb x i m b }

  candidate_bound : (i k : ℕ) → Candidate x i k → (m : ℕ) → Border eqb x (i + 1) m → (m ≡ 0) ⊎ ((l : ℕ) × (m ≡ l + 1) × (l ≤ k) × (get_or x l 0 ≡ get_or x i 0))
  candidate_bound i k c zero b = inl refl
  candidate_bound i k c (suc l) b =
      let s = border_shrink eqb x i l (rw (← add-one l) at b) in
      let e = eqb-true _ _ s.1 in
      inr (l, sym (add-one l), c.most l s.0 e, e)

  -- the reading after k is the next one: the longest border at i + 1 is k + 1
  pub candidate_hit : (i k : ℕ) → Candidate x i k → get_or x k 0 ≡ get_or x i 0 → k + 1 ≡ border eqb x (i + 1)
  candidate_hit i k c e = sym (border_is eqb x (i + 1) (k + 1) (border_grow eqb x i k c.border (eq-eqb _ _ e))
      (λ m b. ⊎_elim (λ z. omega arith) (λ s. omega arith) (candidate_bound i k c m b)))

  -- it is not, and k is 0: there is no border at i + 1
  pub candidate_none : (i k : ℕ) → Candidate x i k → (get_or x k 0 ≡ get_or x i 0 → ⊥) → k ≡ 0 → 0 ≡ border eqb x (i + 1)
  candidate_none i k c ne z = sym (border_is eqb x (i + 1) 0 (border_empty eqb x (i + 1) (omega arith))
      (λ m b. ⊎_elim (λ e. omega arith) (λ s. absurd (ne (at x (omega arith) ∙ s.3))) (candidate_bound i k c m b)))

  -- it is not, and k is not 0: the next border of the chain
  pub candidate_next : (i k : ℕ) → Candidate x i k → (get_or x k 0 ≡ get_or x i 0 → ⊥) → 0 < k → Candidate x i (border eqb x k)
  candidate_next i k c ne h = record {
    border = border_trans x i k (border eqb x k) c.border (border_border eqb x k h);
    most = λ m b e. ⊎_elim
        (λ (q : m ≡ k). absurd (ne (at x (sym q) ∙ e)))
        (λ (l : m < k). border_most eqb x k m (border_inner x i k m c.border b l))
        (eq-or-lt_of_le (c.most m b e));
  }

-- in a log that is accepted a border is a table's entry
pub border_fits : (x : List ℕ) (r : ℕ) {b : ℕ} → b ≡ border_row x r → r < length x → length x ≤ longest → Fits w16 b
border_fits x r e h s = omega (arith, border_lt eqb x (r + 1) (omega arith))
