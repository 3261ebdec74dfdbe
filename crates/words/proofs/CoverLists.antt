-- The list of covers. Under any rule it has every cover and nothing else, rising. Where readings agree by being equal it is the chain of the cover
-- table: the log, its longest proper cover, that one's longest proper cover, and so on. Assumes nothing.
use mathlib.Core.Bool.{Bool}
use mathlib.Core.Path.{◌≡◌, refl, ap, ◌∙◌}
use mathlib.Core.List.{List, [], ◌∷◌, ◌++◌}
use mathlib.Core.Logic.{◌⊎◌, inl, inr, ⊎_elim}
use Prim.Native.Nat.{ℕ, suc, ◌+◌, ◌-◌, ◌≤◌, ◌<◌}
use native.Mathlib.Nat.{eq-or-lt_of_le}
use native.Mathlib.Omega.{arith}
use lib.Dec.{eqb}
use lib.ListN.{length, get_or, length-append}
use Rattle.words.specs.Search.{rising}
use Rattle.words.specs.Words.{covers, cover, cover_list}
use Rattle.words.proofs.Tests.{not_passed}
use Rattle.words.proofs.Search.{rising_hit, rising_skip, rising_entry, rising_place, rising_rises, rising_le}
use Rattle.words.proofs.Covers.{Covers, covers_iff, covers_through, covers_nested, cover_covers, cover_lt, cover_most}

module _ (ag : ℕ → ℕ → Bool) (x : List ℕ) where
  pub cover_list_entry : (k : ℕ) → k < length (cover_list ag x) → Covers ag x (length x) (get_or (cover_list ag x) k 0)
  unfolding cover_list
  cover_list_entry k h = (covers_iff ag x (length x) _).0 (rising_entry (covers ag x (length x)) (suc (length x)) k h).1

  pub cover_list_place : (q : ℕ) → Covers ag x (length x) q → (k : ℕ) × (k < length (cover_list ag x)) × (get_or (cover_list ag x) k 0 ≡ q)
  unfolding cover_list
  cover_list_place q c = rising_place (covers ag x (length x)) (suc (length x)) q (omega (arith, c.most)) ((covers_iff ag x (length x) q).1 c)

  pub cover_list_rises : (k : ℕ) → suc k < length (cover_list ag x) → get_or (cover_list ag x) k 0 < get_or (cover_list ag x) (suc k) 0
  unfolding cover_list
  cover_list_rises k h = rising_rises (covers ag x (length x)) (suc (length x)) k h

  -- a log has no more covers than readings
  pub cover_list_le : length (cover_list ag x) ≤ length x
  unfolding cover_list
  cover_list_le = rising_le (covers ag x (length x)) (not_passed (covers ag x (length x) 0) (λ t. omega (arith, ((covers_iff ag x (length x) 0).0 t).some))) (length x)

-- ---- where readings agree by being equal

module _ (x : List ℕ) where
  -- the chain: every cover of i is i, or covers the longest proper cover of i
  pub cover_next : (i q : ℕ) → Covers eqb x i q → (q ≡ i) ⊎ Covers eqb x (cover eqb x i) q
  cover_next i q c = ⊎_elim
      (λ (e : q ≡ i). inl e)
      (λ (l : q < i).
      let m = cover_most eqb x i q c l in
      ⊎_elim (λ z. absurd (omega (arith, c.some))) (λ d. inr (covers_nested x q (cover eqb x i) i c d m)) (cover_covers eqb x i))
      (eq-or-lt_of_le c.most)

  -- the covers of i up to q
  abbrev pub up_to : ℕ → ℕ → List ℕ
  up_to i q = rising (covers eqb x i) (suc q)

  pub up_to_all : cover_list eqb x ≡ up_to (length x) (length x)
  unfolding cover_list
  up_to_all = refl

  pub up_to_none : (i : ℕ) → up_to i 0 ≡ []
  unfolding rising
  up_to_none i = rw (not_passed (covers eqb x i 0) (λ t. omega (arith, ((covers_iff eqb x i 0).0 t).some)))

  -- q and, before it, the covers of i up to the longest proper cover of q
  pub up_to_next : (i q : ℕ) → Covers eqb x i q → up_to i q ≡ up_to i (cover eqb x q) ++ (q ∷ [])
  up_to_next i q c =
      let l = cover_lt eqb x q c.some in
      let d : suc (cover eqb x q) + (q - suc (cover eqb x q)) ≡ q = omega arith in
      let skip = rising_skip (covers eqb x i) (suc (cover eqb x q)) (q - suc (cover eqb x q)) (λ k a b. not_passed (covers eqb x i k) (λ t.
      let w = covers_nested x k q i ((covers_iff eqb x i k).0 t) c (omega arith) in
      omega (arith, cover_most eqb x q k w (omega arith)))) in
      rising_hit (covers eqb x i) q ((covers_iff eqb x i q).1 c) ∙ ap (λ (r : List ℕ). r ++ (q ∷ [])) (rw d at skip)

  pub up_to_length : (i q : ℕ) → Covers eqb x i q → length (up_to i q) ≡ length (up_to i (cover eqb x q)) + 1
  up_to_length i q c = ap length (up_to_next i q c) ∙ simp length-append

  -- and the next one covers i too, or is 0
  pub up_to_covers : (i q : ℕ) → Covers eqb x i q → (cover eqb x q ≡ 0) ⊎ Covers eqb x i (cover eqb x q)
  up_to_covers i q c = ⊎_elim (λ z. inl z) (λ d. inr (covers_through x (cover eqb x q) q i d c)) (cover_covers eqb x q)
