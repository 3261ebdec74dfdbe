-- Lists in a fixed number of places: one entry more takes the next place. Assumes nothing.
use mathlib.Core.Path.{◌≡◌, sym, ◌∙◌}
use mathlib.Core.List.{List, [], ◌∷◌, ◌++◌, append_assoc}
use Prim.Native.Nat.{ℕ, suc, ◌+◌, ◌-◌, ◌≤◌, ◌<◌}
use native.Mathlib.Nat.{sub-zero}
use native.Mathlib.Omega.{arith}
use lib.ListN.{length, get_or, set, replicate, length-append, length-replicate, get_or-append}
use lib.Seq.{set_at}
use Rattle.words.specs.Answers.{places}

module _ {A : Type 0} (k : ℕ) (z : A) where
  pub places_none : places k z [] ≡ replicate k z
  unfolding places
  places_none = rw (sub-zero k)

  pub places_more : (l : List A) (d : ℕ) (v : A) → length l ≡ d → d < k → set (places k z l) d v ≡ places k z (l ++ (v ∷ []))
  unfolding places
  places_more l d v e h =
      let q : k - length l ≡ suc (k - (d + 1)) = omega arith in
      let n : length (l ++ (v ∷ [])) ≡ d + 1 = length-append l (v ∷ []) ∙ omega arith in
      rw (q, n, set_at l z (replicate (k - (d + 1)) z) v d e) (sym (append_assoc l (v ∷ []) _))

  pub length_places : (l : List A) → length l ≤ k → length (places k z l) ≡ k
  unfolding places
  length_places l h = simp (length-append, length-replicate) (omega arith)

  pub get_or_places : (l : List A) (r : ℕ) (y : A) → r < length l → get_or (places k z l) r y ≡ get_or l r y
  unfolding places
  get_or_places l r y h = get_or-append l (replicate (k - length l) z) y r h
