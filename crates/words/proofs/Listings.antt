-- Lists in a strict order: what they hold and the order fix them, entry by entry. Assumes nothing.
use mathlib.Core.Path.{◌≡◌, refl, sym, ap₂}
use mathlib.Core.List.{List, [], ◌∷◌}
use mathlib.Core.Logic.{⊎_elim}
use Prim.Native.Nat.{ℕ, zero, suc, ◌<◌}
use native.Mathlib.Nat.{not-suc-le-zero, le_of_suc-le-suc, eq-or-lt_of_le}
use native.Mathlib.Omega.{arith}
use lib.ListN.{length, get_or}

-- l has every number of which P holds and no other, each before the next in the order R
pub record Listing (R : ℕ → ℕ → Type 0) (P : ℕ → Type 0) (l : List ℕ) : Type 0 where
  pub only : (k : ℕ) → k < length l → P (get_or l k 0)
  pub all : (m : ℕ) → P m → (k : ℕ) × (k < length l) × (get_or l k 0 ≡ m)
  pub order : (k : ℕ) → suc k < length l → R (get_or l k 0) (get_or l (suc k) 0)

abbrev pub Rising : (ℕ → Type 0) → List ℕ → Type 0
Rising = Listing (λ a b. a < b)

abbrev pub Falling : (ℕ → Type 0) → List ℕ → Type 0
Falling = Listing (λ a b. b < a)

module _ (R : ℕ → ℕ → Type 0) (trans : (a b c : ℕ) → R a b → R b c → R a c) where
  -- each entry is before every one after it
  pub listing_before : (P : ℕ → Type 0) (l : List ℕ) → Listing R P l → (j k : ℕ) → j < k → k < length l → R (get_or l j 0) (get_or l k 0)
  listing_before P l s j zero h b = absurd (not-suc-le-zero h)
  listing_before P l s j (suc k) h b = ⊎_elim
      (λ (e : j ≡ k). rw e (s.order k b))
      (λ (a : j < k). trans (get_or l j 0) (get_or l k 0) (get_or l (suc k) 0) (listing_before P l s j k a (omega arith)) (s.order k b))
      (eq-or-lt_of_le (le_of_suc-le-suc h))

module _ (R : ℕ → ℕ → Type 0) (trans : (a b c : ℕ) → R a b → R b c → R a c) (asym : (a b : ℕ) → R a b → R b a → ⊥) where
  -- without its first entry a list has the numbers after that one
  tail_of : (P : ℕ → Type 0) (v : ℕ) (l : List ℕ) → Listing R P (v ∷ l) → Listing R (λ m. P m × R v m) l
  tail_of P v l s = record {
    only = λ k h. (s.only (suc k) (omega arith), listing_before R trans P (v ∷ l) s 0 (suc k) (omega arith) (omega arith));
    all = λ m p. place m p (s.all m p.0);
    order = λ k h. s.order (suc k) (omega arith);
  }
    where
      place : (m : ℕ) → P m × R v m → (k : ℕ) × (k < length (v ∷ l)) × (get_or (v ∷ l) k 0 ≡ m) → (k : ℕ) × (k < length l) × (get_or l k 0 ≡ m)
      place m p (zero, h, e) = absurd (asym v m p.1 (rw e (rw e at p.1)))
      place m p (suc k, h, e) = (k, le_of_suc-le-suc h, e)

  heads : (P : ℕ → Type 0) (v w : ℕ) (l m : List ℕ) → Listing R P (v ∷ l) → Listing R P (w ∷ m) → v ≡ w
  heads P v w l m s t = go (s.all w (t.only 0 (omega arith))) (t.all v (s.only 0 (omega arith)))
    where
      go : (k : ℕ) × (k < length (v ∷ l)) × (get_or (v ∷ l) k 0 ≡ w) → (k : ℕ) × (k < length (w ∷ m)) × (get_or (w ∷ m) k 0 ≡ v) → v ≡ w
      go (zero, h, e) b = e
      go (suc k, h, e) (zero, g, f) = sym f
      go (suc k, h, e) (suc j, g, f) =
          absurd (asym v w (rw e at (listing_before R trans P (v ∷ l) s 0 (suc k) (omega arith) h)) (rw f at (listing_before R trans P (w ∷ m) t 0 (suc j) (omega arith) g)))

  pub listing_one : (P : ℕ → Type 0) (l m : List ℕ) → Listing R P l → Listing R P m → l ≡ m
  listing_one P [] [] s t = refl
  listing_one P [] (w ∷ m) s t = absurd (not-suc-le-zero (s.all w (t.only 0 (omega arith))).1)
  listing_one P (v ∷ l) [] s t = absurd (not-suc-le-zero (t.all v (s.only 0 (omega arith))).1)
  listing_one P (v ∷ l) (w ∷ m) s t =
      let e = heads P v w l m s t in
      ap₂ (λ (a : ℕ) (r : List ℕ). a ∷ r) e (listing_one (λ k. P k × R v k) l m (tail_of P v l s) (rw e (tail_of P w m t)))

pub rising_one : (P : ℕ → Type 0) (l m : List ℕ) → Rising P l → Rising P m → l ≡ m
rising_one = listing_one (λ a b. a < b) (λ a b c h l. omega arith) (λ a b h l. omega arith)

pub falling_one : (P : ℕ → Type 0) (l m : List ℕ) → Falling P l → Falling P m → l ≡ m
falling_one = listing_one (λ a b. b < a) (λ a b c h l. omega arith) (λ a b h l. omega arith)
