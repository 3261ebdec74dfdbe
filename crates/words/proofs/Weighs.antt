-- Weighed borders, where readings agree by being equal. The longest of them is found from the border and the cover table, and the next after w is the
-- longest at w. Each is more than twice the next, so there are no more than the limit says. Assumes nothing.
use mathlib.Core.Bool.{Bool, true, false}
use mathlib.Core.Path.{◌≡◌, refl, sym, ap, ◌∙◌}
use mathlib.Core.List.{List, [], ◌∷◌}
use mathlib.Core.Logic.{◌⊎◌, inl, inr, ⊎_elim, ◌↔◌}
use Prim.Native.Nat.{ℕ, suc, ◌+◌, ◌*◌, ◌^◌, ◌≤◌, ◌<◌}
use native.Mathlib.Nat.{le_antisymm}
use native.Mathlib.Omega.{arith}
use lib.ListN.{length, get_or}
use lib.Dec.{eqb, leb}
use borrow.Author.Tests.{eqb-true, eq-eqb, leb-true, le-leb}
use Rattle.words.specs.Search.{greatest, falling}
use Rattle.words.specs.Words.{is_border, border, cover, weighs, weighed, used, total, limit}
use Rattle.words.specs.Tables.{Column}
use Rattle.words.specs.Refusals.{longest}
use Rattle.words.specs.Answers.{weighed_places}
use Rattle.words.proofs.Tests.{and3, both_ways, le_or_lt}
use Rattle.words.proofs.Search.{greatest_lt, greatest_or, greatest_most, greatest_same, falling_greatest, falling_hit, falling_sparse, falling_entry, falling_place, falling_falls, sum_bound}
use Rattle.words.proofs.Occurrences.{eqb_refl}
use Rattle.words.proofs.Borders.{Border, is_border_iff, border_trans, border_inner, border_next, border_border, border_most}
use Rattle.words.proofs.Covers.{covers_half, cover_most}
use Rattle.words.proofs.Limits.{limit_most, limit_mono, weighed_places_lem}

-- m is a nonempty border of x[1..i], and has no proper cover
pub record Weighs (ag : ℕ → ℕ → Bool) (x : List ℕ) (i m : ℕ) : Type 0 where
  pub some : 0 < m
  pub border : Border ag x i m
  pub bare : cover ag x m ≡ 0

module _ (ag : ℕ → ℕ → Bool) (x : List ℕ) where
  pub weighs_iff : (i m : ℕ) → (weighs ag x i m ≡ true) ↔ Weighs ag x i m
  unfolding weighs
  weighs_iff i m = (
    λ e.
        let h = (and3 (leb 1 m) (is_border ag x i m) (eqb (cover ag x m) 0)).0 e in
        record { some = leb-true 1 m h.0; border = (is_border_iff ag x i m).0 h.1; bare = eqb-true _ _ h.2 },
    λ w. (and3 (leb 1 m) (is_border ag x i m) (eqb (cover ag x m) 0)).1 (le-leb 1 m w.some, (is_border_iff ag x i m).1 w.border, eq-eqb _ _ w.bare),
  )

  pub weighs_zero : (i : ℕ) → weighs ag x i 0 ≡ false
  unfolding weighs
  weighs_zero i = refl

  -- the list has these borders, and no other
  pub weighed_entry : (i k : ℕ) → k < length (weighed ag x i) → Weighs ag x i (get_or (weighed ag x i) k 0)
  unfolding weighed
  weighed_entry i k h = (weighs_iff i _).0 (falling_entry (weighs ag x i) i k h).1

  pub weighed_place : (i m : ℕ) → Weighs ag x i m → (k : ℕ) × (k < length (weighed ag x i)) × (get_or (weighed ag x i) k 0 ≡ m)
  unfolding weighed
  weighed_place i m w = falling_place (weighs ag x i) i m w.border.below ((weighs_iff i m).1 w)

  pub weighed_falls : (i k : ℕ) → suc k < length (weighed ag x i) → get_or (weighed ag x i) (suc k) 0 < get_or (weighed ag x i) k 0
  unfolding weighed
  weighed_falls i k h = falling_falls (weighs ag x i) i k h

module _ (x : List ℕ) where
  -- a weighed border of a border, and of two weighed borders the shorter
  pub weighs_outer : (i w m : ℕ) → Border eqb x i w → Weighs eqb x w m → Weighs eqb x i m
  weighs_outer i w m b c = record { some = c.some; border = border_trans x i w m b c.border; bare = c.bare }

  pub weighs_inner : (i w m : ℕ) → Border eqb x i w → Weighs eqb x i m → m < w → Weighs eqb x w m
  weighs_inner i w m b c h = record { some = c.some; border = border_inner x i w m b c.border h; bare = c.bare }

  -- ---- the longest

  unfoldable pub heaviest : ℕ → ℕ
  heaviest i = greatest (weighs eqb x i) i

  pub heaviest_weighs : (i : ℕ) → (heaviest i ≡ 0) ⊎ Weighs eqb x i (heaviest i)
  unfolding heaviest
  heaviest_weighs i = ⊎_elim (λ e. inl e) (λ e. inr ((weighs_iff eqb x i _).0 e)) (greatest_or (weighs eqb x i) i)

  pub heaviest_most : (i m : ℕ) → Weighs eqb x i m → m ≤ heaviest i
  unfolding heaviest
  heaviest_most i m w = greatest_most (weighs eqb x i) i m w.border.below ((weighs_iff eqb x i m).1 w)

  pub heaviest_lt : (i : ℕ) → 0 < i → heaviest i < i
  unfolding heaviest
  heaviest_lt i h = greatest_lt (weighs eqb x i) i h

  heaviest_is : (i r : ℕ) → Weighs eqb x i r → ((m : ℕ) → Weighs eqb x i m → m ≤ r) → heaviest i ≡ r
  heaviest_is i r w most = ⊎_elim
      (λ (z : heaviest i ≡ 0). omega (arith, w.some, heaviest_most i r w))
      (λ (v : Weighs eqb x i (heaviest i)). le_antisymm (most (heaviest i) v) (heaviest_most i r w))
      (heaviest_weighs i)

  heaviest_none : (i : ℕ) → ((m : ℕ) → Weighs eqb x i m → ⊥) → heaviest i ≡ 0
  heaviest_none i none = ⊎_elim (λ z. z) (λ v. absurd (none (heaviest i) v)) (heaviest_weighs i)

  -- from the tables: no border; a border with no proper cover; a border that has one
  module _ (i : ℕ) (h : 0 < i) where
    pub heaviest_empty : border eqb x i ≡ 0 → heaviest i ≡ 0
    heaviest_empty z = heaviest_none i (λ m w. omega (arith, w.some, border_most eqb x i m w.border))

    module _ (nz : border eqb x i ≡ 0 → ⊥) where
      pub heaviest_bare : cover eqb x (border eqb x i) ≡ 0 → heaviest i ≡ border eqb x i
      heaviest_bare e = heaviest_is i (border eqb x i)
          (record { some = omega arith; border = border_border eqb x i h; bare = e })
          (λ m w. border_most eqb x i m w.border)

      pub heaviest_down : (cover eqb x (border eqb x i) ≡ 0 → ⊥) → heaviest i ≡ heaviest (border eqb x i)
      heaviest_down ne = ⊎_elim
          (λ (z : heaviest b ≡ 0). heaviest_none i (λ m w. omega (arith, w.some, heaviest_most b m (below m w))) ∙ sym z)
          (λ (v : Weighs eqb x b (heaviest b)). heaviest_is i (heaviest b) (weighs_outer i b (heaviest b) (border_border eqb x i h) v) (λ m w. heaviest_most b m (below m w)))
          (heaviest_weighs b)
        where
          b : ℕ
          b = border eqb x i

          below : (m : ℕ) → Weighs eqb x i m → Weighs eqb x (border eqb x i) m
          below m w = ⊎_elim
              (λ (e : m ≡ border eqb x i). absurd (ne (rw (← e) w.bare)))
              (λ (l : Border eqb x (border eqb x i) m). record { some = w.some; border = l; bare = w.bare })
              (border_next x i m w.border)

  -- ---- the next after w: below w the tests at i and at w agree

  weighs_same : (i w : ℕ) → Border eqb x i w → (m : ℕ) → m < w → weighs eqb x i m ≡ weighs eqb x w m
  weighs_same i w b m h = both_ways (weighs eqb x i m) (weighs eqb x w m)
      (λ e. (weighs_iff eqb x w m).1 (weighs_inner i w m b ((weighs_iff eqb x i m).0 e) h))
      (λ e. (weighs_iff eqb x i m).1 (weighs_outer i w m b ((weighs_iff eqb x w m).0 e)))

  heaviest_next : (i w : ℕ) → Border eqb x i w → greatest (weighs eqb x i) w ≡ heaviest w
  unfolding heaviest
  heaviest_next i w b = greatest_same (weighs eqb x i) (weighs eqb x w) w (weighs_same i w b)

  -- the weighed borders of i up to w
  abbrev pub rest : ℕ → ℕ → List ℕ
  rest i w = falling (weighs eqb x i) (suc w)

  pub rest_first : (i : ℕ) → rest i (heaviest i) ≡ weighed eqb x i
  unfolding heaviest weighed
  rest_first i = falling_greatest (weighs eqb x i) (weighs_zero eqb x i) i

  pub rest_next : (i w : ℕ) → Weighs eqb x i w → rest i w ≡ w ∷ rest i (heaviest w)
  rest_next i w v =
      falling_hit (weighs eqb x i) w ((weighs_iff eqb x i w).1 v)
      ∙ ap (λ (l : List ℕ). w ∷ l) (sym (falling_greatest (weighs eqb x i) (weighs_zero eqb x i) w))
      ∙ ap (λ (n : ℕ). w ∷ rest i n) (heaviest_next i w v.border)

  pub rest_none : (i : ℕ) → rest i 0 ≡ []
  unfolding falling
  rest_none i = rw (weighs_zero eqb x i)

  -- ---- doubling, and the limit

  pub weighs_double : (i l m : ℕ) → l < m → Weighs eqb x i l → Weighs eqb x i m → l + l < m
  weighs_double i l m h a b = ⊎_elim
      (λ (g : m ≤ l + l). absurd (omega (arith, a.some, b.bare, cover_most eqb x m l (covers_half eqb x eqb_refl l m (border_inner x i m l b.border a.border h) g) h)))
      (λ (g : l + l < m). g)
      (le_or_lt m (l + l))

  doubles : (i k m : ℕ) → k < m → m < i → weighs eqb x i k ≡ true → weighs eqb x i m ≡ true → k + k < m
  doubles i k m l u a b = weighs_double i k m l ((weighs_iff eqb x i k).0 a) ((weighs_iff eqb x i m).0 b)

  -- each entry of the list is more than twice the next
  pub weighed_double : (i k : ℕ) → suc k < length (weighed eqb x i)
      → get_or (weighed eqb x i) (suc k) 0 + get_or (weighed eqb x i) (suc k) 0 < get_or (weighed eqb x i) k 0
  weighed_double i k h = weighs_double i _ _ (weighed_falls eqb x i k h) (weighed_entry eqb x i (suc k) h) (weighed_entry eqb x i k (omega arith))

  pub used_power : (i : ℕ) → 0 < i → 2 ^ used eqb x i ≤ i
  unfolding used weighed
  used_power i h = falling_sparse (weighs eqb x i) (weighs_zero eqb x i) i i (doubles i) h (λ k l _. l)

  pub used_limit : (i : ℕ) → 0 < i → used eqb x i ≤ limit i
  used_limit i h = limit_most (used eqb x i) i (used_power i h)

  -- in a log that is accepted
  pub used_places : (i : ℕ) → 0 < i → i ≤ longest → used eqb x i ≤ weighed_places
  used_places i h s = omega (arith, used_limit i h, limit_mono i longest h s, weighed_places_lem)

  pub total_places : length x ≤ longest → total eqb x ≤ length x * weighed_places
  unfolding total
  total_places s = sum_bound (λ r. used eqb x (r + 1)) weighed_places (length x) (λ r h. used_places (r + 1) (omega arith) (omega arith))

-- the longest weighed border of each prefix, as a column: the chain of weighed borders runs down it
abbrev pub heaviest_row : Column
heaviest_row x r = heaviest x (r + 1)
