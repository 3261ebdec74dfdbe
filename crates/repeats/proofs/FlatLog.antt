-- The flat log: at every prefix of two readings or more its left cover and its left seed are a pattern of one reading that accounts for all. Assumes nothing.
use Rattle.std.proofs.Common.{◌≡◌, ◌∙◌, List, inr, ℕ, ◌≤◌, le_antisymm, arith, eqb, replicate}
use Rattle.words.proofs.Occurrences.{eqb_refl}
use Rattle.words.proofs.Covers.{covers_border}
use Rattle.words.proofs.Counts.{covered_all}
use Rattle.words.proofs.FlatLog.{flat, flat_covers}
use Rattle.repeats.specs.Repeats.{left_cover, left_count, reached, left_seed, seed_count}
use Rattle.repeats.proofs.Repeating.{repeats_border}
use Rattle.repeats.proofs.LeftCovers.{left_whole}
use Rattle.repeats.proofs.Seeds.{reached_le, reached_covered, seed_seed, seed_one}

pub record FlatLeft (x : List ℕ) (i : ℕ) : Type 0 where
  pub cover : left_cover eqb x i ≡ 1
  pub count : left_count eqb x i ≡ i
  pub seed : left_seed eqb x i ≡ 1
  pub reach : seed_count eqb x i ≡ i

module _ (a n i : ℕ) (two : 2 ≤ i) (within : i ≤ n) where
  abbrev x : List ℕ
  x = replicate n a

  pub flat_left : FlatLeft x i
  flat_left =
      let c = flat_covers a n i 1 (omega arith) (omega arith) within in
      let whole = left_whole eqb x eqb_refl i 1 c (omega arith) in
      let best = flat a n i two within in
      let r = repeats_border eqb x eqb_refl i 1 (omega arith) (covers_border eqb x 1 i c (omega arith)) in
      let all : i ≡ reached eqb x i 1 = le_antisymm (omega (arith, covered_all eqb x i 1 c, reached_covered eqb x i 1)) (reached_le eqb x i 1) in
      let seed = seed_one eqb x i (seed_seed eqb x i) (record { most = λ q _. reached_le eqb x i q; least = λ q t _. t.some; is = inr (r, all) }) in
      record { cover = whole.0 ∙ best.best; count = whole.1 ∙ best.count; seed = seed.0; reach = seed.1 }
