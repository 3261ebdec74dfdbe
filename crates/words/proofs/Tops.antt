-- The least of the numbers at which a value is greatest, among those that have a property. Assumes nothing.
use mathlib.Core.Path.{◌≡◌, refl, sym, ◌∙◌}
use mathlib.Core.Logic.{◌⊎◌, inl, inr, ⊎_elim}
use Prim.Native.Nat.{ℕ, ◌≤◌, ◌<◌}
use native.Mathlib.Nat.{eq-zero-or-pos, eq-or-lt_of_le, le_antisymm}
use native.Mathlib.Omega.{arith}
use Rattle.words.specs.Search.{peak}
use Rattle.words.proofs.Tests.{le_or_lt}
use Rattle.words.proofs.Search.{peak_most, peak_least}

-- b is the least of the numbers that have P and at which g is greatest, and k is g there; or both are 0, and then, where g is not 0 at them, none has P
pub record Top (P : ℕ → Type 0) (g : ℕ → ℕ) (b k : ℕ) : Type 0 where
  pub most : (m : ℕ) → P m → g m ≤ k
  pub least : (m : ℕ) → P m → g m ≡ k → b ≤ m
  pub is : ((b ≡ 0) × (k ≡ 0)) ⊎ (P b × (k ≡ g b))

module _ {P : ℕ → Type 0} {g : ℕ → ℕ} where
  pub top_none : ((m : ℕ) → P m → ⊥) → Top P g 0 0
  top_none none = record { most = λ m p. absurd (none m p); least = λ m p _. absurd (none m p); is = inl (refl, refl) }

  -- where g is not 0 at them, no other two numbers are
  module _ (some : (m : ℕ) → P m → 0 < g m) where
    module _ {b k c n : ℕ} (s : Top P g b k) (t : Top P g c n) where
      value_most : k ≤ n
      value_most = ⊎_elim (λ z. omega (arith, z.1)) (λ v. omega (arith, v.1, t.most b v.0)) s.is

      place_least : k ≡ n → b ≤ c
      place_least e = ⊎_elim
          (λ z. omega (arith, z.0))
          (λ v. ⊎_elim (λ y. absurd (omega (arith, y.1, v.1, some b v.0))) (λ u. s.least c u.0 (sym u.1 ∙ sym e)) t.is)
          s.is

    pub top_one : {b k c n : ℕ} → Top P g b k → Top P g c n → (b ≡ c) × (k ≡ n)
    top_one s t =
        let e = le_antisymm (value_most s t) (value_most t s) in
        (le_antisymm (place_least s t e) (place_least t s (sym e)), e)

    -- 0 says that none has P
    pub top_zero : {b : ℕ} → Top P g b 0 → (m : ℕ) → P m → ⊥
    top_zero t m p = omega (arith, t.most m p, some m p)

    -- the peak of a value that is g where P holds and 0 elsewhere
    pub top_peak : (v : ℕ → ℕ) (n : ℕ) → ((m : ℕ) → P m → (m < n) × (v m ≡ g m)) → ((m : ℕ) → 0 < v m → P m) → Top P g (peak v n) (v (peak v n))
    top_peak v n has back = record {
      most = λ m p. omega (arith, (has m p).1, peak_most v n m (has m p).0);
      least = λ m p e. ⊎_elim
          (λ (l : peak v n ≤ m). l)
          (λ (l : m < peak v n). absurd (omega (arith, (has m p).1, peak_least v n m l)))
          (le_or_lt (peak v n) m);
      is = ⊎_elim
          (λ (z : v (peak v n) ≡ 0). inl (
            ⊎_elim (λ (e : peak v n ≡ 0). e) (λ (l : 0 < peak v n). absurd (omega (arith, peak_least v n 0 l))) (eq-zero-or-pos (peak v n)),
            z,
          ))
          (λ (l : 0 < v (peak v n)). let p = back (peak v n) l in inr (p, (has (peak v n) p).1))
          (eq-zero-or-pos (v (peak v n)));
    }

-- of two properties that hold together
pub top_same : {P Q : ℕ → Type 0} {g : ℕ → ℕ} {b k : ℕ} → ((m : ℕ) → P m → Q m) → ((m : ℕ) → Q m → P m) → Top P g b k → Top Q g b k
top_same to from t = record {
  most = λ m q. t.most m (from m q);
  least = λ m q. t.least m (from m q);
  is = ⊎_elim (λ z. inl z) (λ v. inr (to _ v.0, v.1)) t.is;
}

-- ---- of fewer: m has one beside it that has Q, is no greater and is worth no less

pub record Stand (Q : ℕ → Type 0) (g : ℕ → ℕ) (m : ℕ) : Type 0 where
  pub at : ℕ
  pub has : Q at
  pub less : at ≤ m
  pub most : g m ≤ g at

-- where each that has P has one that has Q beside it, the top of those is the top of all, and back
module _ {P Q : ℕ → Type 0} {g : ℕ → ℕ} {b k : ℕ} (stands : (m : ℕ) → P m → Stand Q g m) (some : (m : ℕ) → Q m → P m) where
  pub top_all : Top Q g b k → Top P g b k
  top_all t = record {
    most = λ m p. let s = stands m p in omega (arith, s.most, t.most s.at s.has);
    least = λ m p e.
        let s = stands m p in
        let u = t.most s.at s.has in
        let l = t.least s.at s.has (omega (arith, s.most)) in
        omega (arith, s.less);
    is = ⊎_elim (λ z. inl z) (λ v. inr (some b v.0, v.1)) t.is;
  }

  pub top_within : Top P g b k → Top Q g b k
  top_within t = record {
    most = λ m q. t.most m (some m q);
    least = λ m q. t.least m (some m q);
    is = ⊎_elim (λ z. inl z) (λ v. inr (has v.0 v.1, v.1)) t.is;
  }
    where
      has : P b → k ≡ g b → Q b
      has p d =
          let s = stands b p in
          let l = t.least s.at (some s.at s.has) (omega (arith, s.most, t.most s.at (some s.at s.has))) in
          let e : s.at ≡ b = omega (arith, s.less) in
          rw e at s.has

-- ---- of two: b with k is worth more than c with l, or as much and is no longer

abbrev pub Wins : ℕ → ℕ → ℕ → ℕ → Type 0
Wins b k c l = (l < k) ⊎ ((l ≡ k) × (b ≤ c))

pub wins_or : (b k c l : ℕ) → Wins b k c l ⊎ Wins c l b k
wins_or b k c l = ⊎_elim
    (λ (h : k ≤ l). ⊎_elim
    (λ (z : k ≡ l). ⊎_elim (λ (u : b ≤ c). inl (inr (sym z, u))) (λ (u : c < b). inr (inr (z, omega arith))) (le_or_lt b c))
    (λ (h : k < l). inr (inl h))
    (eq-or-lt_of_le h))
    (λ (h : l < k). inl (inl h))
    (le_or_lt k l)

-- one that is less than all before it wins where it is worth as much
pub wins_later : {P : ℕ → Type 0} {g : ℕ → ℕ} {b c : ℕ} (w k : ℕ) → Top P g b c → ((m : ℕ) → P m → w ≤ m) → 0 < k → c ≤ k → Wins w k b c
wins_later {b = b} {c = c} w k t less some h = ⊎_elim
    (λ (z : c ≡ k). inr (z, ⊎_elim (λ y. absurd (omega (arith, y.1))) (λ v. less b v.0) t.is))
    (λ (l : c < k). inl l)
    (eq-or-lt_of_le h)

-- m is worth no more than k, and where as much it is no less than b
abbrev pub Under : (ℕ → ℕ) → ℕ → ℕ → ℕ → Type 0
Under g b k m = (g m ≤ k) × (g m ≡ k → b ≤ m)

-- whoever has P is under the one or under the other: then the one that wins is the top, if it is there
pub top_join : {P : ℕ → Type 0} {g : ℕ → ℕ} {b k c l : ℕ} → ((b ≡ 0) × (k ≡ 0)) ⊎ (P b × (k ≤ g b))
    → ((m : ℕ) → P m → Under g b k m ⊎ Under g c l m) → Wins b k c l → Top P g b k
top_join {P} {g} {b} {k} {c} {l} there under wins = record {
  most = most;
  least = λ m p e. ⊎_elim
      (λ u. u.1 e)
      (λ u. ⊎_elim (λ w. absurd (omega (arith, u.0))) (λ w. let h = u.1 (e ∙ sym w.0) in omega (arith, w.1)) wins)
      (under m p);
  is = ⊎_elim (λ z. inl z) (λ v. inr (v.0, le_antisymm v.1 (most b v.0))) there;
}
  where
    most : (m : ℕ) → P m → g m ≤ k
    most m p = ⊎_elim (λ u. u.0) (λ u. ⊎_elim (λ w. omega (arith, u.0)) (λ w. omega (arith, u.0, w.0)) wins) (under m p)
