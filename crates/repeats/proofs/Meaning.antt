-- What left covers and left seeds mean, in the words that ask for them. Positions are numbered from 1, and a part of the log is a list, as in words/proofs/Meaning.
-- Assumes nothing.
use Rattle.std.proofs.Common.{true, ◌≡◌, List, ◌⊎◌, inl, inr, ⊎_elim, ◌↔◌, ℕ, ◌+◌, ◌-◌, ◌≤◌, ◌<◌, arith, eqb, length}
use Rattle.words.specs.Words.{covered}
use Rattle.words.proofs.Tops.{Top, top_same}
use Rattle.words.proofs.Occurrences.{Occurs}
use Rattle.words.proofs.Meaning.{Suffix, OccursAt, LiesInside, suffix_iff, occurs_at_iff, lies_iff}
use Rattle.repeats.specs.Repeats.{repeats, left_cover, left_count, reached, left_seed, seed_count}
use Rattle.repeats.proofs.Repeating.{Repeats, repeats_iff}
use Rattle.repeats.proofs.LeftCovers.{left_left, left_one}
use Rattle.repeats.proofs.Seeds.{Begun, reaches, reached_iff, seed_seed, seed_one}

-- x[1..q] is a proper nonempty prefix of x[1..i] that occurs at least twice in it
pub record OccursTwice (x : List ℕ) (i q : ℕ) : Type 0 where
  pub some : 1 ≤ q
  pub proper : q < i
  pub first : ℕ
  pub second : ℕ
  pub apart : first < second
  pub ends : second + q ≤ i + 1
  pub one : OccursAt x q first
  pub two : OccursAt x q second

-- position p lies in the start of x[1..q], a start not yet read to its end: in an x[1..m] with m < q that is a suffix of x[1..i]
pub record LiesInStart (x : List ℕ) (i q p : ℕ) : Type 0 where
  pub len : ℕ
  pub short : len < q
  pub below : len < i  -- which follows where the pattern is a proper prefix
  pub suffix : Suffix x i len
  pub from : i < p + len

module _ (x : List ℕ) (i : ℕ) (within : i ≤ length x) where
  twice_iff : (q : ℕ) → OccursTwice x i q ↔ Repeats eqb x i q
  twice_iff q = (
    λ t. record {
      some = t.some;
      proper = t.proper;
      first = t.first - 1;
      second = t.second - 1;
      apart = omega (arith, t.apart, t.one.first);
      within = omega (arith, t.ends, t.two.first);
      one = ((occurs_at_iff x t.first t.one.first (omega (arith, t.apart, t.ends, t.some)) q).0 t.one).occurs;
      two = ((occurs_at_iff x t.second t.two.first (omega (arith, t.ends, t.some)) q).0 t.two).occurs;
    },
    λ t. record {
      some = t.some;
      proper = t.proper;
      first = t.first + 1;
      second = t.second + 1;
      apart = omega (arith, t.apart);
      ends = omega (arith, t.within);
      one = starts_at t.first q (omega (arith, t.apart, t.within)) t.some t.one;
      two = starts_at t.second q t.within t.some t.two;
    },
  )
    where
      starts_at : (s q : ℕ) → s + q ≤ i → 0 < q → Occurs eqb x q s → OccursAt x q (s + 1)
      starts_at s q h l o =
          let e : s + 1 - 1 ≡ s = omega arith in
          (occurs_at_iff x (s + 1) (omega arith) (omega arith) q).1 (rw e (record { within = omega arith; occurs = o }))

  pub repeats_meaning : (q : ℕ) → (repeats eqb x i q ≡ true) ↔ OccursTwice x i q
  repeats_meaning q = (λ e. (twice_iff q).1 ((repeats_iff eqb x i q).0 e), λ t. (repeats_iff eqb x i q).1 ((twice_iff q).0 t))

  -- ---- left cover: of the prefixes that occur at least twice, the shortest that covers the most positions, and how many; both 0 if there is none

  pub left_cover_meaning : (b k : ℕ) → ((left_cover eqb x i ≡ b) × (left_count eqb x i ≡ k)) ↔ Top (OccursTwice x i) (covered eqb x i) b k
  left_cover_meaning b k = (
    λ e. rw (← e.0, ← e.1) (top_same (λ q. (twice_iff q).1) (λ q. (twice_iff q).0) (left_left eqb x i)),
    λ t. left_one eqb x i (left_left eqb x i) (top_same (λ q. (twice_iff q).0) (λ q. (twice_iff q).1) t),
  )

  -- ---- left seed: the same prefixes, by the positions that lie in an occurrence or in the start of one not yet read to its end

  pub left_seed_meaning : (b k : ℕ) → ((left_seed eqb x i ≡ b) × (seed_count eqb x i ≡ k)) ↔ Top (OccursTwice x i) (reached eqb x i) b k
  left_seed_meaning b k = (
    λ e. rw (← e.0, ← e.1) (top_same (λ q. (twice_iff q).1) (λ q. (twice_iff q).0) (seed_seed eqb x i)),
    λ t. seed_one eqb x i (seed_seed eqb x i) (top_same (λ q. (twice_iff q).0) (λ q. (twice_iff q).1) t),
  )

  start_iff : (q p : ℕ) → p < i → LiesInStart x i q (p + 1) ↔ Begun eqb x i q p
  start_iff q p h = (
    λ t. record { len = t.len; short = t.short; from = omega (arith, t.from); border = (suffix_iff x i (omega arith) within t.len t.below).0 t.suffix },
    λ t. record {
      len = t.len;
      short = t.short;
      below = t.border.below;
      suffix = (suffix_iff x i (omega arith) within t.len t.border.below).1 t.border;
      from = omega (arith, t.from, t.border.below);
    },
  )

  -- what `reached` counts
  pub reached_meaning : (q p : ℕ) → p < i → (reaches eqb x i q p ≡ true) ↔ (LiesInside x i q (p + 1) ⊎ LiesInStart x i q (p + 1))
  reached_meaning q p h = (
    λ e. ⊎_elim (λ u. inl ((lies_iff x i within q p h).1 u)) (λ u. inr ((start_iff q p h).1 u)) ((reached_iff eqb x i q p).0 e),
    λ t. (reached_iff eqb x i q p).1 (⊎_elim (λ u. inl ((lies_iff x i within q p h).0 u)) (λ u. inr ((start_iff q p h).0 u)) t),
  )
