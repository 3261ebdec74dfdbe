-- What each search of `specs/Search` finds. Assumes nothing.
use mathlib.Core.Bool.{Bool, true, false, cond, ◌||◌, true≢false}
use mathlib.Core.Path.{◌≡◌, refl, sym, ap, ◌∙◌}
use mathlib.Core.List.{List, [], ◌∷◌, ◌++◌}
use mathlib.Core.Logic.{◌⊎◌, inl, inr, ⊎_elim}
use Prim.Native.Nat.{ℕ, zero, suc, ◌+◌, ◌-◌, ◌*◌, ◌/◌, ◌^◌, ◌≤◌, ◌<◌, min}
use native.Mathlib.Nat.{not-suc-le-zero, le_of_suc-le-suc, eq-or-lt_of_le, le_antisymm, le_refl, add-zero, add-suc, two-pow-succ, suc-mul}
use native.Mathlib.Numerals.{add-one}
use native.Mathlib.Omega.{arith}
use lib.ListN.{length, get_or, length-append, get_or-append}
use lib.Seq.{get_or_at}
use lib.Dec.{ltb}
use borrow.Author.Tests.{ltb-true, ltb-false}
use Rattle.words.specs.Search.{all, any, how_many, greatest, peak, falling, rising, sum}
use Rattle.words.proofs.Tests.{by_test, cond_case, not_passed, or_cases, or_left, or_right, and_left, and_right, and_both, last_or, le_or_lt}

module _ (p : ℕ → Bool) where
  -- ---- all: every k below n passes

  pub all_at : (n : ℕ) → all p n ≡ true → (k : ℕ) → k < n → p k ≡ true
  unfolding all
  all_at zero e k h = absurd (not-suc-le-zero h)
  all_at (suc n) e k h = last_or (λ k. p k ≡ true) n (and_right (all p n) (p n) e) (all_at n (and_left (all p n) (p n) e)) k h

  pub at_all : (n : ℕ) → ((k : ℕ) → k < n → p k ≡ true) → all p n ≡ true
  unfolding all
  at_all zero h = refl
  at_all (suc n) h = and_both (all p n) (p n) (at_all n (λ k l. h k (omega arith))) (h n (omega arith))

  pub all_fails : (n k : ℕ) → k < n → p k ≡ false → all p n ≡ false
  all_fails n k h e = not_passed (all p n) (λ t. true≢false (sym (all_at n t k h) ∙ e))

  -- ---- any: some k below n passes

  pub any_some : (n : ℕ) → any p n ≡ true → (k : ℕ) × (k < n) × (p k ≡ true)
  unfolding any
  any_some zero e = absurd (true≢false (sym e))
  any_some (suc n) e =
      let ih = any_some n in
      ⊎_elim (λ h. let r = ih h in (r.0, omega arith, r.2)) (λ h. (n, omega arith, h)) (or_cases (any p n) (p n) e)

  pub some_any : (n k : ℕ) → k < n → p k ≡ true → any p n ≡ true
  unfolding any
  some_any zero k h e = absurd (not-suc-le-zero h)
  some_any (suc n) k h e =
      let ih = some_any n in
      last_or (λ k. p k ≡ true → any p n || p n ≡ true) n (or_right (any p n) (p n)) (λ k l t. or_left (any p n) (p n) (ih k l t)) k h e

  pub any_none : (n : ℕ) → ((k : ℕ) → k < n → p k ≡ false) → any p n ≡ false
  any_none n h = not_passed (any p n) (λ t. let r = any_some n t in true≢false (sym r.2 ∙ h r.0 r.1))

  -- ---- how many

  step_true : (n : ℕ) → p n ≡ true → how_many p (suc n) ≡ suc (how_many p n)
  unfolding how_many
  step_true n e = rw e

  step_false : (n : ℕ) → p n ≡ false → how_many p (suc n) ≡ how_many p n
  unfolding how_many
  step_false n e = rw e

  pub how_many_zero : how_many p 0 ≡ 0
  unfolding how_many
  how_many_zero = refl

  pub how_many_hit : (n : ℕ) → p n ≡ true → how_many p (n + 1) ≡ how_many p n + 1
  how_many_hit n e = rw add-one (step_true n e ∙ sym (add-one (how_many p n)))

  pub how_many_miss : (n : ℕ) → p n ≡ false → how_many p (n + 1) ≡ how_many p n
  how_many_miss n e = rw add-one (step_false n e)

  -- d numbers from m on that all pass, or all fail
  pub how_many_all : (m d : ℕ) → ((k : ℕ) → m ≤ k → k < m + d → p k ≡ true) → how_many p (m + d) ≡ how_many p m + d
  how_many_all m zero h = rw (add-zero, add-zero)
  how_many_all m (suc d) h =
      let ih = how_many_all m d (λ k a b. h k a (omega arith)) in
      rw (add-suc, add-suc) (step_true (m + d) (h (m + d) (omega arith) (omega arith)) ∙ ap suc ih)

  pub how_many_none : (m d : ℕ) → ((k : ℕ) → m ≤ k → k < m + d → p k ≡ false) → how_many p (m + d) ≡ how_many p m
  how_many_none m zero h = rw add-zero
  how_many_none m (suc d) h =
      let ih = how_many_none m d (λ k a b. h k a (omega arith)) in
      rw add-suc (step_false (m + d) (h (m + d) (omega arith) (omega arith)) ∙ ih)

  -- of the numbers from e on the last m pass, and those before them fail
  pub how_many_last : (e i m : ℕ) → e ≤ i → m ≤ i → ((k : ℕ) → i - m ≤ k → k < i → p k ≡ true) → ((k : ℕ) → e ≤ k → k < i - m → p k ≡ false)
      → how_many p i ≡ how_many p e + min m (i - e)
  how_many_last e i m h l top gap = ⊎_elim
      (λ (g : i - m ≤ e).
      let new = how_many_all e (i - e) (λ k a b. top k (omega arith) (omega arith)) in
      let n : e + (i - e) ≡ i = omega arith in
      omega (arith, rw n at new))
      (λ (g : e < i - m).
      let new = how_many_all (i - m) m (λ k a b. top k a (omega arith)) in
      let none = how_many_none e (i - m - e) (λ k a b. gap k a (omega arith)) in
      let n : i - m + m ≡ i = omega arith in
      let d : e + (i - m - e) ≡ i - m = omega arith in
      omega (arith, rw n at new, rw d at none))
      (le_or_lt (i - m) e)

  pub how_many_le : (n : ℕ) → how_many p n ≤ n
  unfolding how_many
  how_many_le zero = omega arith
  how_many_le (suc n) = let ih = how_many_le n in cond_case (λ (r : ℕ). r ≤ suc n) (p n) (λ _. omega arith) (λ _. omega arith)

  -- a count of all has every one
  pub how_many_full : (n : ℕ) → how_many p n ≡ n → (k : ℕ) → k < n → p k ≡ true
  unfolding how_many
  how_many_full zero e k h = absurd (not-suc-le-zero h)
  how_many_full (suc n) e k h =
      let ih = how_many_full n in
      cond_case (λ (r : ℕ). r ≡ suc n → p k ≡ true) (p n)
      (λ t d. last_or (λ k. p k ≡ true) n t (ih (omega arith)) k h)
      (λ _ d. absurd (omega (arith, how_many_le n))) e

  pub how_many_longer : (m n : ℕ) → m ≤ n → how_many p m ≤ how_many p n
  unfolding how_many
  how_many_longer m zero h = let z : m ≡ 0 = omega arith in rw z (omega arith)
  how_many_longer m (suc n) h =
      let ih = how_many_longer m n in ⊎_elim
      (λ (z : m ≡ suc n). rw z (omega arith))
      (λ (l : m < suc n). cond_case (λ (r : ℕ). how_many p m ≤ r) (p n) (λ _. omega (arith, ih (le_of_suc-le-suc l))) (λ _. ih (le_of_suc-le-suc l)))
      (eq-or-lt_of_le h)

  -- d numbers more add at most d
  pub how_many_more : (m d : ℕ) → how_many p (m + d) ≤ how_many p m + d
  how_many_more m zero = rw (add-zero, add-zero) (omega arith)
  how_many_more m (suc d) =
      let ih = how_many_more m d in
      by_test (p (m + d))
      (λ t. rw (add-suc, add-suc) (omega (arith, step_true (m + d) t)))
      (λ t. rw (add-suc, add-suc) (omega (arith, step_false (m + d) t)))

  -- one that passes is counted, and a count that is not 0 has one
  pub some_how_many : (n k : ℕ) → k < n → p k ≡ true → 0 < how_many p n
  unfolding how_many
  some_how_many zero k h e = absurd (not-suc-le-zero h)
  some_how_many (suc n) k h e =
      let ih = some_how_many n in
      last_or (λ k. p k ≡ true → 0 < cond (p n) (suc (how_many p n)) (how_many p n)) n (λ t. rw t (omega arith))
      (λ k l t. let i = ih k l t in cond_case (λ (r : ℕ). 0 < r) (p n) (λ _. omega arith) (λ _. i)) k h e

  pub how_many_some : (n : ℕ) → 0 < how_many p n → (k : ℕ) × (k < n) × (p k ≡ true)
  unfolding how_many
  how_many_some zero h = absurd (not-suc-le-zero h)
  how_many_some (suc n) h =
      let ih = how_many_some n in
      cond_case (λ (r : ℕ). 0 < r → (k : ℕ) × (k < suc n) × (p k ≡ true)) (p n) (λ e _. (n, omega arith, e)) (λ _ l. let w = ih l in (w.0, omega arith, w.2)) h

  -- two that pass are counted twice, and a count of two has two
  pub two_how_many : (n s t : ℕ) → s < t → t < n → p s ≡ true → p t ≡ true → 2 ≤ how_many p n
  unfolding how_many
  two_how_many zero s t h l a b = absurd (not-suc-le-zero l)
  two_how_many (suc n) s t h l a b =
      let ih = two_how_many n in
      last_or (λ t. (s : ℕ) → s < t → p s ≡ true → p t ≡ true → 2 ≤ cond (p n) (suc (how_many p n)) (how_many p n)) n
      (λ s h a b. rw b (omega (arith, some_how_many n s h a)))
      (λ t l s h a b. let i = ih s t h l a b in cond_case (λ (r : ℕ). 2 ≤ r) (p n) (λ _. omega arith) (λ _. i)) t l s h a b

  pub how_many_two : (n : ℕ) → 2 ≤ how_many p n → (s t : ℕ) × (s < t) × (t < n) × (p s ≡ true) × (p t ≡ true)
  unfolding how_many
  how_many_two zero h = absurd (omega arith)
  how_many_two (suc n) h =
      let ih = how_many_two n in
      cond_case (λ (r : ℕ). 2 ≤ r → (s t : ℕ) × (s < t) × (t < suc n) × (p s ≡ true) × (p t ≡ true)) (p n)
      (λ e l. let w = how_many_some n (omega arith) in (w.0, n, w.1, omega arith, w.2, e))
      (λ _ l. let w = ih l in (w.0, w.1, w.2, omega (arith, w.3), w.4, w.5)) h

  -- ---- the greatest

  greatest_le : (n : ℕ) → greatest p (suc n) ≤ n
  unfolding greatest
  greatest_le zero = cond_case (λ (r : ℕ). r ≤ zero) (p zero) (λ _. omega arith) (λ _. omega arith)
  greatest_le (suc n) = let ih = greatest_le n in cond_case (λ (r : ℕ). r ≤ suc n) (p (suc n)) (λ _. omega arith) (λ _. omega arith)

  pub greatest_lt : (n : ℕ) → 0 < n → greatest p n < n
  greatest_lt zero h = absurd (not-suc-le-zero h)
  greatest_lt (suc n) h = omega (arith, greatest_le n)

  -- 0 where nothing passes; else it passes
  pub greatest_or : (n : ℕ) → (greatest p n ≡ 0) ⊎ (p (greatest p n) ≡ true)
  unfolding greatest
  greatest_or zero = inl refl
  greatest_or (suc n) = let ih = greatest_or n in cond_case (λ (r : ℕ). (r ≡ 0) ⊎ (p r ≡ true)) (p n) (λ e. inr e) (λ _. ih)

  pub greatest_passes : (n : ℕ) → p 0 ≡ true → p (greatest p n) ≡ true
  greatest_passes n h = ⊎_elim (λ e. rw e h) (λ e. e) (greatest_or n)

  pub greatest_most : (n m : ℕ) → m < n → p m ≡ true → m ≤ greatest p n
  unfolding greatest
  greatest_most zero m l h = absurd (not-suc-le-zero l)
  greatest_most (suc n) m l h =
      let ih = greatest_most n in
      cond_case (λ (r : ℕ). m ≤ r) (p n) (λ _. le_of_suc-le-suc l) (λ e. last_or (λ k. p k ≡ true → k ≤ greatest p n) n
      (λ t. absurd (true≢false (sym t ∙ e))) ih m l h)

  -- the one number below n that passes and that no passing number exceeds
  pub greatest_is : (n r : ℕ) → r < n → p r ≡ true → ((m : ℕ) → m < n → p m ≡ true → m ≤ r) → greatest p n ≡ r
  greatest_is n r l h most = le_antisymm (⊎_elim
      (λ (e : greatest p n ≡ 0). omega arith)
      (λ (e : p (greatest p n) ≡ true). most (greatest p n) (greatest_lt n (omega arith)) e)
      (greatest_or n)) (greatest_most n r l h)

  -- ---- the falling list: its entries pass, and what passes is an entry

  pub falling_hit : (n : ℕ) → p n ≡ true → falling p (suc n) ≡ n ∷ falling p n
  unfolding falling
  falling_hit n e = rw e

  pub falling_miss : (n : ℕ) → p n ≡ false → falling p (suc n) ≡ falling p n
  unfolding falling
  falling_miss n e = rw e

  pub falling_entry : (n k : ℕ) → k < length (falling p n) → (get_or (falling p n) k 0 < n) × (p (get_or (falling p n) k 0) ≡ true)
  unfolding falling
  falling_entry zero k h = absurd (not-suc-le-zero h)
  falling_entry (suc n) k h =
      let ih = falling_entry n in
      cond_case (λ (l : List ℕ). (k : ℕ) → k < length l → (get_or l k 0 < suc n) × (p (get_or l k 0) ≡ true)) (p n)
      (λ e. hit e (ih))
      (λ _ k l. let r = ih k l in (omega (arith, r.0), r.1)) k h
    where
      hit : p n ≡ true → ((k : ℕ) → k < length (falling p n) → (get_or (falling p n) k 0 < n) × (p (get_or (falling p n) k 0) ≡ true))
          → (k : ℕ) → k < length (n ∷ falling p n) → (get_or (n ∷ falling p n) k 0 < suc n) × (p (get_or (n ∷ falling p n) k 0) ≡ true)
      hit e ih zero l = (omega arith, e)
      hit e ih (suc k) l = let r = ih k (le_of_suc-le-suc l) in (omega (arith, r.0), r.1)

  pub falling_place : (n m : ℕ) → m < n → p m ≡ true → (k : ℕ) × (k < length (falling p n)) × (get_or (falling p n) k 0 ≡ m)
  unfolding falling
  falling_place zero m h t = absurd (not-suc-le-zero h)
  falling_place (suc n) m h t =
      let ih = falling_place n in
      cond_case (λ (l : List ℕ). (k : ℕ) × (k < length l) × (get_or l k 0 ≡ m)) (p n)
      (λ _. last_or (λ m. p m ≡ true → (k : ℕ) × (k < length (n ∷ falling p n)) × (get_or (n ∷ falling p n) k 0 ≡ m)) n
      (λ _. (0, omega arith, refl))
      (λ m l t. let r = ih m l t in (suc r.0, omega (arith, r.1), r.2)) m h t)
      (λ e. last_or (λ m. p m ≡ true → (k : ℕ) × (k < length (falling p n)) × (get_or (falling p n) k 0 ≡ m)) n
      (λ t. absurd (true≢false (sym t ∙ e))) ih m h t)

  -- each entry is greater than the next
  pub falling_falls : (n k : ℕ) → suc k < length (falling p n) → get_or (falling p n) (suc k) 0 < get_or (falling p n) k 0
  unfolding falling
  falling_falls zero k h = absurd (not-suc-le-zero h)
  falling_falls (suc n) k h =
      let ih = falling_falls n in
      cond_case (λ (l : List ℕ). (k : ℕ) → suc k < length l → get_or l (suc k) 0 < get_or l k 0) (p n) (λ _. hit ih) (λ _. ih) k h
    where
      hit : ((k : ℕ) → suc k < length (falling p n) → get_or (falling p n) (suc k) 0 < get_or (falling p n) k 0)
          → (k : ℕ) → suc k < length (n ∷ falling p n) → get_or (n ∷ falling p n) (suc k) 0 < get_or (n ∷ falling p n) k 0
      hit ih zero l = (falling_entry n 0 (le_of_suc-le-suc l)).0
      hit ih (suc k) l = ih k (le_of_suc-le-suc l)

  pub falling_none : (n : ℕ) → ((k : ℕ) → k < n → p k ≡ false) → falling p n ≡ []
  unfolding falling
  falling_none zero h = refl
  falling_none (suc n) h = rw (h n (omega arith)) (falling_none n (λ k l. h k (omega arith)))

  -- a list whose test fails at 0 begins with the greatest number that passes
  module _ (z : p 0 ≡ false) where
    pub falling_greatest : (n : ℕ) → falling p (suc (greatest p n)) ≡ falling p n
    unfolding greatest falling
    falling_greatest zero = rw z
    falling_greatest (suc n) =
        let ih = falling_greatest n in
        cond_case (λ (r : ℕ). falling p (suc r) ≡ falling p (suc n)) (p n) (λ _. refl) (λ e. ih ∙ sym (falling_miss n e))

    passes_some : (n : ℕ) → p n ≡ true → 0 < n
    passes_some zero e = absurd (true≢false (sym e ∙ z))
    passes_some (suc n) e = omega arith

    -- of numbers of which each is more than twice the next: 2 to the power of how many they are is not above a bound on them
    pub falling_sparse : (n b : ℕ) → ((k m : ℕ) → k < m → m < n → p k ≡ true → p m ≡ true → k + k < m)
        → 0 < b → ((k : ℕ) → k < n → p k ≡ true → k < b) → 2 ^ length (falling p n) ≤ b
    unfolding falling
    falling_sparse zero b two h l = h
    falling_sparse (suc n) b two h l =
        let ih : (b : ℕ) → 0 < b → ((k : ℕ) → k < n → p k ≡ true → k < b) → 2 ^ length (falling p n) ≤ b =
        λ b. falling_sparse n b (λ k m u v. two k m u (omega arith)) in
        cond_case (λ (r : List ℕ). 2 ^ length r ≤ b) (p n)
        (λ e.
        let half : 2 ^ length (falling p n) ≤ (n + 1) / 2 =
        ih ((n + 1) / 2) (omega (arith, passes_some n e)) (λ k u f. omega (arith, two k n u (omega arith) f e)) in
        rw two-pow-succ (omega (arith, l n (omega arith) e)))
        (λ e. ih b h (λ k u. l k (omega arith)))

  -- ---- the rising list

  pub rising_hit : (n : ℕ) → p n ≡ true → rising p (suc n) ≡ rising p n ++ (n ∷ [])
  unfolding rising
  rising_hit n e = rw e

  rising_miss : (n : ℕ) → p n ≡ false → rising p (suc n) ≡ rising p n
  unfolding rising
  rising_miss n e = rw e

  -- numbers from m on that all fail add nothing
  pub rising_skip : (m d : ℕ) → ((k : ℕ) → m ≤ k → k < m + d → p k ≡ false) → rising p (m + d) ≡ rising p m
  rising_skip m zero h = rw add-zero
  rising_skip m (suc d) h = rw add-suc (rising_miss (m + d) (h (m + d) (omega arith) (omega arith)) ∙ rising_skip m d (λ k a b. h k a (omega arith)))

  -- its entries pass, what passes is an entry, and each entry is less than the next
  pub rising_entry : (n k : ℕ) → k < length (rising p n) → (get_or (rising p n) k 0 < n) × (p (get_or (rising p n) k 0) ≡ true)
  unfolding rising
  rising_entry zero k h = absurd (not-suc-le-zero h)
  rising_entry (suc n) k h =
      let ih = rising_entry n in
      cond_case (λ (l : List ℕ). (k : ℕ) → k < length l → (get_or l k 0 < suc n) × (p (get_or l k 0) ≡ true)) (p n)
      (λ e. hit e ih)
      (λ _ k l. let r = ih k l in (omega (arith, r.0), r.1)) k h
    where
      hit : p n ≡ true → ((k : ℕ) → k < length (rising p n) → (get_or (rising p n) k 0 < n) × (p (get_or (rising p n) k 0) ≡ true))
          → (k : ℕ) → k < length (rising p n ++ (n ∷ [])) → (get_or (rising p n ++ (n ∷ [])) k 0 < suc n) × (p (get_or (rising p n ++ (n ∷ [])) k 0) ≡ true)
      hit e ih k l = by_test (ltb k (length (rising p n)))
          (λ t. let r = ih k (ltb-true _ _ t) in
          rw (get_or-append (rising p n) (n ∷ []) 0 k (ltb-true _ _ t)) (omega (arith, r.0), r.1))
          (λ t. let z : length (rising p n) ≡ k = omega (arith, ltb-false k (length (rising p n)) t, simp length-append at l) in
          rw (get_or_at (rising p n) n [] 0 k z) (omega arith, e))

  pub rising_place : (n m : ℕ) → m < n → p m ≡ true → (k : ℕ) × (k < length (rising p n)) × (get_or (rising p n) k 0 ≡ m)
  unfolding rising
  rising_place zero m h t = absurd (not-suc-le-zero h)
  rising_place (suc n) m h t =
      let ih = rising_place n in
      cond_case (λ (l : List ℕ). (k : ℕ) × (k < length l) × (get_or l k 0 ≡ m)) (p n)
      (λ _. last_or (λ m. p m ≡ true → (k : ℕ) × (k < length (rising p n ++ (n ∷ []))) × (get_or (rising p n ++ (n ∷ [])) k 0 ≡ m)) n
      (λ _. (length (rising p n), simp length-append (omega arith), get_or_at (rising p n) n [] 0 _ refl))
      (λ m l t. let r = ih m l t in (r.0, simp length-append (omega (arith, r.1)), get_or-append (rising p n) (n ∷ []) 0 r.0 r.1 ∙ r.2)) m h t)
      (λ e. last_or (λ m. p m ≡ true → (k : ℕ) × (k < length (rising p n)) × (get_or (rising p n) k 0 ≡ m)) n
      (λ t. absurd (true≢false (sym t ∙ e))) ih m h t)

  pub rising_rises : (n k : ℕ) → suc k < length (rising p n) → get_or (rising p n) k 0 < get_or (rising p n) (suc k) 0
  unfolding rising
  rising_rises zero k h = absurd (not-suc-le-zero h)
  rising_rises (suc n) k h =
      let ih = rising_rises n in
      cond_case (λ (l : List ℕ). (k : ℕ) → suc k < length l → get_or l k 0 < get_or l (suc k) 0) (p n) (λ _. hit ih) (λ _. ih) k h
    where
      hit : ((k : ℕ) → suc k < length (rising p n) → get_or (rising p n) k 0 < get_or (rising p n) (suc k) 0)
          → (k : ℕ) → suc k < length (rising p n ++ (n ∷ [])) → get_or (rising p n ++ (n ∷ [])) k 0 < get_or (rising p n ++ (n ∷ [])) (suc k) 0
      hit ih k l =
          let s : k < length (rising p n) = omega (arith, simp length-append at l) in
          rw (get_or-append (rising p n) (n ∷ []) 0 k s)
          (by_test (ltb (suc k) (length (rising p n)))
          (λ t. rw (get_or-append (rising p n) (n ∷ []) 0 (suc k) (ltb-true _ _ t)) (ih k (ltb-true _ _ t)))
          (λ t. let z : length (rising p n) ≡ suc k = omega (arith, ltb-false (suc k) (length (rising p n)) t) in
          rw (get_or_at (rising p n) n [] 0 (suc k) z) (rising_entry n k s).0))

  -- where 0 fails, no more than there are numbers from 1 on
  pub rising_le : p 0 ≡ false → (n : ℕ) → length (rising p (suc n)) ≤ n
  unfolding rising
  rising_le z zero = rw z (omega arith)
  rising_le z (suc n) =
      let ih = rising_le z n in
      cond_case (λ (l : List ℕ). length l ≤ suc n) (p (suc n)) (λ _. simp length-append (omega arith)) (λ _. omega arith)

-- ---- two tests: equal below n, one within the other, apart at one number alone

module _ (p p' : ℕ → Bool) where
  pub greatest_same : (n : ℕ) → ((k : ℕ) → k < n → p k ≡ p' k) → greatest p n ≡ greatest p' n
  unfolding greatest
  greatest_same zero h = refl
  greatest_same (suc n) h = let ih = greatest_same n (λ k l. h k (omega arith)) in rw (h n (omega arith), ih)

  pub how_many_same : (n : ℕ) → ((k : ℕ) → k < n → p k ≡ p' k) → how_many p n ≡ how_many p' n
  unfolding how_many
  how_many_same zero h = refl
  how_many_same (suc n) h = let ih = how_many_same n (λ k l. h k (omega arith)) in rw (h n (omega arith), ih)

  pub falling_same : (n : ℕ) → ((k : ℕ) → k < n → p k ≡ p' k) → falling p n ≡ falling p' n
  unfolding falling
  falling_same zero h = refl
  falling_same (suc n) h = let ih = falling_same n (λ k l. h k (omega arith)) in rw (h n (omega arith), ih)

  pub how_many_mono : (n : ℕ) → ((k : ℕ) → k < n → p k ≡ true → p' k ≡ true) → how_many p n ≤ how_many p' n
  unfolding how_many
  how_many_mono zero h = omega arith
  how_many_mono (suc n) h =
      let ih = how_many_mono n (λ k l. h k (omega arith)) in
      cond_case (λ (r : ℕ). r ≤ cond (p' n) (suc (how_many p' n)) (how_many p' n)) (p n)
      (λ e. rw (h n (omega arith) e) (omega arith))
      (λ e. cond_case (λ (r : ℕ). how_many p n ≤ r) (p' n) (λ _. omega arith) (λ _. ih))

one_more : (b : Bool) (m n : ℕ) → m ≡ n + 1 → cond b (suc m) m ≡ cond b (suc n) n + 1
one_more true m n e = omega arith
one_more false m n e = e

pub how_many_drop : (p p' : ℕ → Bool) (n k : ℕ) → k < n → p k ≡ true → p' k ≡ false → ((m : ℕ) → (m ≡ k → ⊥) → p m ≡ p' m) → how_many p n ≡ how_many p' n + 1
unfolding how_many
how_many_drop p p' zero k h e e' same = absurd (not-suc-le-zero h)
how_many_drop p p' (suc n) k h e e' same =
    let ih = how_many_drop p p' n k in
    by_test (ltb k n)
    (λ t. rw (same n (λ u. omega (arith, ltb-true k n t))) (one_more (p' n) (how_many p n) (how_many p' n) (ih (ltb-true k n t) e e' same)))
    (λ t. let z : k ≡ n = omega (arith, ltb-false k n t) in
    rw (rw z at e, rw z at e', how_many_same p p' n (λ m l. same m (λ u. omega arith))) (omega arith))

-- ---- the peak: no value is greater, and each one before it is less

module _ (g : ℕ → ℕ) where
  -- both at once: the second needs the first
  peak_is : (n : ℕ) → ((k : ℕ) → k < n → g k ≤ g (peak g n)) × ((k : ℕ) → k < peak g n → g k < g (peak g n))
  unfolding peak
  peak_is zero = (λ k h. absurd (not-suc-le-zero h), λ k h. absurd (not-suc-le-zero h))
  peak_is (suc n) =
      let ih = peak_is n in
      cond_case (λ (r : ℕ). ((k : ℕ) → k < suc n → g k ≤ g r) × ((k : ℕ) → k < r → g k < g r)) (ltb (g (peak g n)) (g n))
      (λ t. let h = ltb-true (g (peak g n)) (g n) t in (
        last_or (λ m. g m ≤ g n) n (le_refl (g n)) (λ m l. omega (arith, ih.0 m l)),
        λ k l. omega (arith, ih.0 k l),
      ))
      (λ t. (last_or (λ m. g m ≤ g (peak g n)) n (ltb-false _ _ t) ih.0, ih.1))

  pub peak_most : (n k : ℕ) → k < n → g k ≤ g (peak g n)
  peak_most n = (peak_is n).0

  pub peak_least : (n k : ℕ) → k < peak g n → g k < g (peak g n)
  peak_least n = (peak_is n).1

  peak_le : (n : ℕ) → peak g (suc n) ≤ n
  unfolding peak
  peak_le zero = cond_case (λ (r : ℕ). r ≤ 0) (ltb (g 0) (g 0)) (λ _. omega arith) (λ _. omega arith)
  peak_le (suc n) =
      let ih = peak_le n in
      cond_case (λ (r : ℕ). r ≤ suc n) (ltb (g (peak g (suc n))) (g (suc n))) (λ _. omega arith) (λ _. omega arith)

  pub peak_lt : (n : ℕ) → 0 < n → peak g n < n
  peak_lt zero h = absurd (not-suc-le-zero h)
  peak_lt (suc n) h = omega (arith, peak_le n)

-- ---- sums

pub sum_zero : (g : ℕ → ℕ) → sum g 0 ≡ 0
unfolding sum
sum_zero g = refl

pub sum_more : (g : ℕ → ℕ) (n : ℕ) → sum g n + g n ≡ sum g (n + 1)
unfolding sum
sum_more g n = rw add-one

pub sum_bound : (g : ℕ → ℕ) (c : ℕ) → (n : ℕ) → ((k : ℕ) → k < n → g k ≤ c) → sum g n ≤ n * c
unfolding sum
sum_bound g c zero h = omega arith
sum_bound g c (suc n) h =
    let ih = sum_bound g c n (λ k l. h k (omega arith)) in
    rw suc-mul (omega (arith, h n (omega arith)))
