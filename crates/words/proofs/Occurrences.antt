-- Occurrences: reading by reading, one reading more, and as parts of the log. Assumes nothing.
use mathlib.Core.Bool.{Bool, true}
use mathlib.Core.Path.{◌≡◌, refl, sym, ap, ◌∙◌}
use mathlib.Core.List.{List}
use mathlib.Core.Logic.{◌↔◌, ⊎_elim}
use Prim.Native.Nat.{ℕ, ◌+◌, ◌≤◌, ◌<◌}
use native.Mathlib.Nat.{not-suc-le-zero, eq-or-lt_of_le}
use native.Mathlib.Omega.{arith}
use lib.ListN.{length, get_or, take, drop, length-take, length-drop}
use lib.Seq.{get_or-take, get_or-drop, ext_get_or}
use lib.Dec.{eqb}
use borrow.Author.Tests.{eqb-true, eq-eqb}
use Rattle.words.specs.Words.{occurs}
use Rattle.words.proofs.Search.{all_at, at_all}

-- each reading agrees with itself
abbrev pub Reflexive : (ℕ → ℕ → Bool) → Type 0
Reflexive ag = (a : ℕ) → ag a a ≡ true

pub eqb_refl : Reflexive eqb
eqb_refl a = eq-eqb a a refl

-- the statement behind `occurs`: each reading of x[1..q] agrees with the one j places on
pub record Occurs (ag : ℕ → ℕ → Bool) (x : List ℕ) (q j : ℕ) : Type 0 where
  pub agree : (k : ℕ) → k < q → ag (get_or x k 0) (get_or x (j + k) 0) ≡ true

module _ (ag : ℕ → ℕ → Bool) (x : List ℕ) where
  pub occurs_iff : (q j : ℕ) → (occurs ag x q j ≡ true) ↔ Occurs ag x q j
  unfolding occurs
  occurs_iff q j = (λ e. record { agree = all_at _ q e }, λ o. at_all _ q o.agree)

  -- equal places hold equal readings: what is left of an index equation is omega's
  pub agree_at : (v c : ℕ) {d : ℕ} → c ≡ d → ag v (get_or x c 0) ≡ true → ag v (get_or x d 0) ≡ true
  agree_at v c e h = rw e at h

  pub occurs_none : (j : ℕ) → Occurs ag x 0 j
  occurs_none j = record { agree = λ k h. absurd (not-suc-le-zero h) }

  -- the same occurrence, its start said in another way
  pub occurs_same : (q j : ℕ) {j' : ℕ} → j ≡ j' → Occurs ag x q j → Occurs ag x q j'
  occurs_same q j e o = rw e at o

  pub occurs_shorter : (q r j : ℕ) → r ≤ q → Occurs ag x q j → Occurs ag x r j
  occurs_shorter q r j h o = record { agree = λ k l. o.agree k (omega arith) }

  -- one reading more, and one less
  pub occurs_more : (q j : ℕ) → Occurs ag x q j → ag (get_or x q 0) (get_or x (j + q) 0) ≡ true → Occurs ag x (q + 1) j
  occurs_more q j o e = record {
    agree = λ k h. ⊎_elim (λ (z : k ≡ q). rw z e) (λ (l : k < q). o.agree k l) (eq-or-lt_of_le (omega arith));
  }

  -- every prefix occurs at its own place
  pub occurs_self : Reflexive ag → (q : ℕ) → Occurs ag x q 0
  occurs_self self q = record { agree = λ k h. agree_at _ k (omega arith) (self (get_or x k 0)) }

-- ---- where readings agree by being equal

pub at : (x : List ℕ) {a b : ℕ} → a ≡ b → get_or x a 0 ≡ get_or x b 0
at x e = ap (λ (k : ℕ). get_or x k 0) e

module _ {x : List ℕ} {q j : ℕ} where
  pub same : Occurs eqb x q j → (k : ℕ) → k < q → get_or x k 0 ≡ get_or x (j + k) 0
  same o k h = eqb-true _ _ (o.agree k h)

  pub is_same : ((k : ℕ) → k < q → get_or x k 0 ≡ get_or x (j + k) 0) → Occurs eqb x q j
  is_same s = record { agree = λ k h. eq-eqb _ _ (s k h) }

module _ (x : List ℕ) where
  -- an occurrence inside an occurrence, and back
  pub occurs_through : (q r s j : ℕ) → Occurs eqb x q s → s + q ≤ r → Occurs eqb x r j → Occurs eqb x q (j + s)
  occurs_through q r s j a h b = is_same (λ k l. same a k l ∙ same b (s + k) (omega arith) ∙ at x (omega arith))

  pub occurs_back : (q r s j : ℕ) → Occurs eqb x q (j + s) → s + q ≤ r → Occurs eqb x r j → Occurs eqb x q s
  occurs_back q r s j a h b = is_same (λ k l. same a k l ∙ sym (same b (s + k) (omega arith) ∙ at x (omega arith)))

  -- within the log: x[1..q] is the part of x of that length after the first j readings
  pub occurs_part : (q j : ℕ) → j + q ≤ length x → (occurs eqb x q j ≡ true) ↔ (take q (drop j x) ≡ take q x)
  occurs_part q j fits = (to, from)
    where
      at_part : (k : ℕ) → k < q → get_or (take q (drop j x)) k 0 ≡ get_or x (j + k) 0
      at_part k l = rw (get_or-take, get_or-drop)

      to : occurs eqb x q j ≡ true → take q (drop j x) ≡ take q x
      to e = ext_get_or 0 (take q (drop j x)) (take q x) (simp (length-take, length-drop) (omega arith)) (λ k l.
          let h : k < q = omega (arith, simp (length-take, length-drop) at l) in
          at_part k h ∙ sym (same ((occurs_iff eqb x q j).0 e) k h) ∙ sym (get_or-take q x k 0 h))

      from : take q (drop j x) ≡ take q x → occurs eqb x q j ≡ true
      from e = (occurs_iff eqb x q j).1 (is_same (λ k l. sym (get_or-take q x k 0 l) ∙ ap (λ (y : List ℕ). get_or y k 0) (sym e) ∙ at_part k l))
