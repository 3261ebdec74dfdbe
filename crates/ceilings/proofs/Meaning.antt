-- What `held` means, in the sentence's own words, and what it comes to on every log. Assumes nothing.
use Rattle.std.proofs.Common.{true, false, cond, true≢false, ◌≡◌, refl, sym, ap, ◌∙◌, List, [], ◌∷◌, ◌++◌, ◌⊎◌, inl, inr, ⊎_elim, ◌↔◌, ℕ, suc, ◌+◌, ◌-◌, ◌≤◌, ◌<◌, min, zero-add, arith, eqb, leb, length, get_or, drop, replicate, length-drop, length-append, ext_get_or, get_or-drop, get_or-append-add, eq-eqb, ne_eqb, eqb-true, le-leb}
use lib.ListN.{length-replicate, get_or-replicate}
use lib.Seq.{get_or-append_seam}
use borrow.Author.Tests.{lt-leb}
use Rattle.words.specs.PlantFile.{ceiling_symbol}
use Rattle.words.proofs.Tests.{le_or_lt, eq_or_ne, not_passed}
use Rattle.words.proofs.Search.{all_at, at_all, how_many_all, how_many_none, how_many_zero}
use Rattle.ceilings.specs.Ceilings.{at_ceiling, ceiling, stuck, recent, latest, held}
use Rattle.ceilings.proofs.Steps.{latest_few}

-- n readings at the ceiling
abbrev pub flat : ℕ → List ℕ
flat n = replicate n ceiling_symbol

-- ---- the sentence: n is at least 60 and the last 60 symbols are all 20, or n is below 60 and every symbol is 20; else not

abbrev pub Held : List ℕ → Type 0
Held x = ((recent ≤ length x) × (drop (length x - recent) x ≡ flat recent)) ⊎ ((length x < recent) × (x ≡ flat (length x)))

pub stuck_iff : (x : List ℕ) → (stuck x ≡ true) ↔ (x ≡ flat (length x))
unfolding stuck
stuck_iff x = (
  λ e. ext_get_or 0 x (flat (length x)) (sym (length-replicate (length x) ceiling_symbol))
      (λ k h. eqb-true _ _ (all_at (at_ceiling x) (length x) e k h) ∙ sym (get_or-replicate (length x) k ceiling_symbol 0 h)),
  λ e. at_all (at_ceiling x) (length x) (λ k h. eq-eqb _ _ (ap (λ (y : List ℕ). get_or y k 0) e ∙ get_or-replicate (length x) k ceiling_symbol 0 h)),
)

module _ (x : List ℕ) where
  pub latest_length : length (latest x) ≡ min recent (length x)
  unfolding latest
  latest_length = simp length-drop (omega arith)

  many : recent ≤ length x → (held x ≡ true) ↔ (drop (length x - recent) x ≡ flat recent)
  unfolding held latest
  many h =
      let n : length (latest x) ≡ recent = omega (arith, latest_length) in
      let e : flat (length (latest x)) ≡ flat recent = ap flat n in
      (λ t. (stuck_iff (latest x)).0 t ∙ e, λ p. (stuck_iff (latest x)).1 (p ∙ sym e))

  few : length x < recent → (held x ≡ true) ↔ (x ≡ flat (length x))
  unfolding held
  few h = (λ t. (stuck_iff x).0 (ap stuck (latest_few x h) ∙ t), λ p. ap stuck (sym (latest_few x h)) ∙ (stuck_iff x).1 p)

  pub held_meaning : (held x ≡ true) ↔ Held x
  held_meaning = (
    λ t. ⊎_elim (λ (h : recent ≤ length x). inl (h, (many h).0 t)) (λ (h : length x < recent). inr (h, (few h).0 t)) (le_or_lt recent (length x)),
    λ s. ⊎_elim (λ m. (many m.0).1 m.1) (λ f. (few f.0).1 f.1) s,
  )

  pub held_else : (held x ≡ false) ↔ (Held x → ⊥)
  held_else = (λ e h. true≢false (sym (held_meaning.1 h) ∙ e), λ f. not_passed (held x) (λ t. f (held_meaning.0 t)))

  -- ---- reading by reading: from the first m on, and from the last 60 on

  pub stuck_from : (m : ℕ) → (stuck (drop m x) ≡ true) ↔ ((j : ℕ) → m ≤ j → j < length x → get_or x j 0 ≡ ceiling_symbol)
  unfolding stuck
  stuck_from m =
      let size = length-drop m x in (
        λ e j a b.
            let p : ℕ = j - m in
            let at : get_or (drop m x) p 0 ≡ get_or x j 0 = get_or-drop m x p 0 ∙ ap (λ (k : ℕ). get_or x k 0) (omega arith) in
            sym at ∙ eqb-true _ _ (all_at (at_ceiling (drop m x)) (length (drop m x)) e p (omega arith)),
        λ h. at_all (at_ceiling (drop m x)) (length (drop m x)) (λ p l. eq-eqb _ _ (get_or-drop m x p 0 ∙ h (m + p) (omega arith) (omega arith))),
      )

  pub held_iff : (held x ≡ true) ↔ ((j : ℕ) → length x - recent ≤ j → j < length x → get_or x j 0 ≡ ceiling_symbol)
  unfolding held latest
  held_iff = stuck_from (length x - recent)

  pub held_fails : (j : ℕ) → length x - recent ≤ j → j < length x → (get_or x j 0 ≡ ceiling_symbol → ⊥) → held x ≡ false
  held_fails j a b ne = not_passed (held x) (λ t. ne (held_iff.0 t j a b))

-- ---- a flat log, for every n: held exactly where it is flat at the ceiling, and then all of it counts

module _ (a n : ℕ) where
  size_flat : length (replicate n a) ≡ n
  size_flat = length-replicate n a

  reads : (k : ℕ) → k < n → get_or (replicate n a) k 0 ≡ a
  reads k h = get_or-replicate n k a 0 h

  pub flat_held : 0 < n → held (replicate n a) ≡ eqb a ceiling_symbol
  flat_held some = ⊎_elim
      (λ (e : a ≡ ceiling_symbol). (held_iff (replicate n a)).1 (λ j _ h. reads j (omega (arith, size_flat)) ∙ e) ∙ sym (eq-eqb _ _ e))
      (λ (ne : a ≡ ceiling_symbol → ⊥).
      held_fails (replicate n a) (n - 1) (omega (arith, size_flat)) (omega (arith, size_flat)) (λ e. ne (sym (reads (n - 1) (omega arith)) ∙ e)) ∙ sym (ne_eqb _ _ ne))
      (eq_or_ne a ceiling_symbol)

  pub flat_ceiling : ceiling (replicate n a) ≡ cond (eqb a ceiling_symbol) n 0
  unfolding ceiling
  flat_ceiling =
      let none = how_many_zero (at_ceiling (replicate n a)) in ⊎_elim
      (λ (e : a ≡ ceiling_symbol).
      let all = how_many_all (at_ceiling (replicate n a)) 0 n (λ k _ h. eq-eqb _ _ (reads k (omega arith) ∙ e)) in
      rw (size_flat, eq-eqb _ _ e) (omega (arith, rw (zero-add n) at all)))
      (λ (ne : a ≡ ceiling_symbol → ⊥).
      let nil = how_many_none (at_ceiling (replicate n a)) 0 n (λ k _ h. ne_eqb _ _ (λ e. ne (sym (reads k (omega arith)) ∙ e))) in
      rw (size_flat, ne_eqb _ _ ne) (omega (arith, rw (zero-add n) at nil)))
      (eq_or_ne a ceiling_symbol)

-- ---- any other log, whose last k readings are at the ceiling, after another one: held exactly where k is at least 60

module _ (x : List ℕ) (a k : ℕ) (other : a ≡ ceiling_symbol → ⊥) where
  abbrev y : List ℕ
  y = x ++ (a ∷ flat k)

  size : length y ≡ length x + suc k
  size = length-append x (a ∷ flat k) ∙ ap (λ (m : ℕ). length x + suc m) (length-replicate k ceiling_symbol)

  reads_run : (j : ℕ) → length x < j → j < length y → get_or y j 0 ≡ ceiling_symbol
  reads_run j h l =
      let i : ℕ = j - length x - 1 in
      ap (λ (m : ℕ). get_or y m 0) (omega arith) ∙ get_or-append-add x (a ∷ flat k) (suc i) 0 ∙ get_or-replicate k i ceiling_symbol 0 (omega (arith, size))

  pub held_run : held y ≡ leb recent k
  held_run = ⊎_elim
      (λ (h : recent ≤ k). (held_iff y).1 (λ j m l. reads_run j (omega (arith, size)) l) ∙ sym (le-leb _ _ h))
      (λ (h : k < recent).
      held_fails y (length x) (omega (arith, size)) (omega (arith, size)) (λ e. other (sym (get_or-append_seam x a (flat k) 0) ∙ e)) ∙ sym (lt-leb _ _ h))
      (le_or_lt recent k)

-- every log is of one of the two kinds
pub every_log : (z : List ℕ) → (z ≡ flat (length z)) ⊎ ((x : List ℕ) × (a : ℕ) × (k : ℕ) × (a ≡ ceiling_symbol → ⊥) × (z ≡ x ++ (a ∷ flat k)))
every_log [] = inl refl
every_log (c ∷ z) = ⊎_elim
    (λ (e : z ≡ flat (length z)). ⊎_elim
    (λ (d : c ≡ ceiling_symbol). inl (ap (λ (v : ℕ). v ∷ z) d ∙ ap (λ (l : List ℕ). ceiling_symbol ∷ l) e))
    (λ (ne : c ≡ ceiling_symbol → ⊥). inr ([], c, length z, ne, ap (λ (l : List ℕ). c ∷ l) e))
    (eq_or_ne c ceiling_symbol))
    (λ r. inr (c ∷ r.0, r.1, r.2, r.3, ap (λ (l : List ℕ). c ∷ l) r.4))
    (every_log z)
