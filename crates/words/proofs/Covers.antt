-- Covers and the cover table. Under any rule: a cover ends where the prefix ends, covers each prefix that ends with it, and leaves no gap longer than
-- itself. Where each reading agrees with itself: a prefix covers itself, and a border of at least half the length covers. Where readings agree by
-- being equal: a cover of a cover covers, and of two covers of one prefix the shorter covers the longer. Assumes nothing.
use mathlib.Core.Bool.{Bool, true, ◌&&◌}
use mathlib.Core.Path.{◌≡◌}
use mathlib.Core.List.{List}
use mathlib.Core.Logic.{◌⊎◌, inl, inr, ⊎_elim, ◌↔◌}
use Prim.Native.Nat.{ℕ, suc, ◌+◌, ◌-◌, ◌≤◌, ◌<◌}
use native.Mathlib.Nat.{le_antisymm}
use native.Mathlib.Omega.{arith}
use lib.Dec.{eqb, leb, ltb}
use borrow.Author.Tests.{leb-true, le-leb, lt-ltb, ltb-true}
use Rattle.words.specs.Search.{all, any}
use Rattle.words.specs.Words.{occurs, inside, covers, cover}
use Rattle.words.proofs.Tests.{and3, le_or_lt}
use Rattle.words.proofs.Search.{all_at, at_all, any_some, some_any, greatest_lt, greatest_or, greatest_most, greatest_is}
use Rattle.words.proofs.Occurrences.{Occurs, Reflexive, occurs_iff, occurs_same, occurs_self, occurs_through, occurs_back}
use Rattle.words.proofs.Borders.{Border}

-- an occurrence of x[1..q] that ends at or before i, and the position after p readings inside it
pub record Inside (ag : ℕ → ℕ → Bool) (x : List ℕ) (i q p : ℕ) : Type 0 where
  pub start : ℕ
  pub from : start ≤ p
  pub to : p < start + q
  pub ends : start + q ≤ i
  pub occurs : Occurs ag x q start

-- every position of x[1..i] lies in one
pub record Covers (ag : ℕ → ℕ → Bool) (x : List ℕ) (i q : ℕ) : Type 0 where
  pub some : 0 < q
  pub most : q ≤ i
  pub each : (p : ℕ) → p < i → Inside ag x i q p

module _ (ag : ℕ → ℕ → Bool) (x : List ℕ) where
  pub inside_iff : (i q p : ℕ) → (inside ag x i q p ≡ true) ↔ Inside ag x i q p
  unfolding inside
  inside_iff i q p = (to, from)
    where
      test : ℕ → Bool
      test j = ltb p (j + q) && leb (j + q) i && occurs ag x q j

      to : any test (suc p) ≡ true → Inside ag x i q p
      to e =
          let r = any_some test (suc p) e in
          let h = (and3 (ltb p (r.0 + q)) (leb (r.0 + q) i) (occurs ag x q r.0)).0 r.2 in
          record { start = r.0; from = omega (arith, r.1); to = ltb-true _ _ h.0; ends = leb-true _ _ h.1; occurs = (occurs_iff ag x q r.0).0 h.2 }

      from : Inside ag x i q p → any test (suc p) ≡ true
      from r =
          some_any test (suc p) r.start (omega (arith, r.from))
          ((and3 (ltb p (r.start + q)) (leb (r.start + q) i) (occurs ag x q r.start)).1
          (lt-ltb _ _ r.to, le-leb _ _ r.ends, (occurs_iff ag x q r.start).1 r.occurs))

  pub covers_iff : (i q : ℕ) → (covers ag x i q ≡ true) ↔ Covers ag x i q
  unfolding covers
  covers_iff i q = (
    λ e.
        let h = (and3 (leb 1 q) (leb q i) (all (inside ag x i q) i)).0 e in record {
          some = leb-true 1 q h.0;
          most = leb-true q i h.1;
          each = λ p l. (inside_iff i q p).0 (all_at (inside ag x i q) i h.2 p l);
        },
    λ c. (and3 (leb 1 q) (leb q i) (all (inside ag x i q) i)).1
        (le-leb 1 q c.some, le-leb q i c.most, at_all (inside ag x i q) i (λ p l. (inside_iff i q p).1 (c.each p l))),
  )

  -- ---- the table's entry: 0 or a proper cover, and no proper cover is longer

  pub cover_covers : (i : ℕ) → (cover ag x i ≡ 0) ⊎ Covers ag x i (cover ag x i)
  unfolding cover
  cover_covers i = ⊎_elim (λ e. inl e) (λ e. inr ((covers_iff i (cover ag x i)).0 e)) (greatest_or (covers ag x i) i)

  pub cover_lt : (i : ℕ) → 0 < i → cover ag x i < i
  unfolding cover
  cover_lt i h = greatest_lt (covers ag x i) i h

  pub cover_most : (i q : ℕ) → Covers ag x i q → q < i → q ≤ cover ag x i
  unfolding cover
  cover_most i q c h = greatest_most (covers ag x i) i q h ((covers_iff i q).1 c)

  pub cover_is : (i q : ℕ) → Covers ag x i q → q < i → ((p : ℕ) → Covers ag x i p → p < i → p ≤ q) → cover ag x i ≡ q
  unfolding cover
  cover_is i q c h most = greatest_is (covers ag x i) i q h ((covers_iff i q).1 c) (λ p l e. most p ((covers_iff i p).0 e) l)

  -- where it is 0 there is none
  pub cover_zero : (i q : ℕ) → cover ag x i ≡ 0 → Covers ag x i q → q < i → ⊥
  cover_zero i q z c h = omega (arith, cover_most i q c h, c.some)

  pub cover_proper : (i : ℕ) → 0 < cover ag x i → Covers ag x i (cover ag x i)
  cover_proper i h = ⊎_elim (λ e. absurd (omega arith)) (λ c. c) (cover_covers i)

  -- ---- under any rule

  pub inside_wider : (q j i p : ℕ) → j ≤ i → Inside ag x j q p → Inside ag x i q p
  inside_wider q j i p h u = record { start = u.start; from = u.from; to = u.to; ends = omega arith; occurs = u.occurs }

  -- what covers ends at the end
  pub covers_end : (q i : ℕ) → Covers ag x i q → Occurs ag x q (i - q)
  covers_end q i c =
      let u = c.each (i - 1) (omega (arith, c.some, c.most)) in
      occurs_same ag x q u.start (omega (arith, u.to, u.ends)) u.occurs

  pub covers_border : (q i : ℕ) → Covers ag x i q → q < i → Border ag x i q
  covers_border q i c h = record { below = h; ends = covers_end q i c }

  -- a cover covers whatever prefix ends with it
  pub covers_inner : (q i j : ℕ) → Covers ag x i q → q ≤ j → j ≤ i → Occurs ag x q (j - q) → Covers ag x j q
  covers_inner q i j c h l a = record {
    some = c.some;
    most = h;
    each = λ p u. ⊎_elim
        (λ (w : j - q ≤ p). record { start = j - q; from = w; to = omega arith; ends = omega arith; occurs = a })
        (λ (w : p < j - q).
        let v = c.each p (omega arith) in
        record { start = v.start; from = v.from; to = v.to; ends = omega (arith, v.from); occurs = v.occurs })
        (le_or_lt (j - q) p);
  }

  -- the cover step: an occurrence more, with no gap before it; and back, the occurrence before the last
  pub covers_on : (q r i : ℕ) → Covers ag x r q → Occurs ag x q (i - q) → i - q ≤ r → r ≤ i → q ≤ i → Covers ag x i q
  covers_on q r i c a h l m = record {
    some = c.some;
    most = m;
    each = λ p u. ⊎_elim
        (λ (w : i - q ≤ p). record { start = i - q; from = w; to = omega arith; ends = omega arith; occurs = a })
        (λ (w : p < i - q). inside_wider q r i p l (c.each p (omega arith)))
        (le_or_lt (i - q) p);
  }

  pub covers_back : (q i : ℕ) → Covers ag x i q → q < i → (r : ℕ) × (i - q ≤ r) × (r < i) × Covers ag x r q
  covers_back q i c h =
      let u = c.each (i - q - 1) (omega arith) in
      let e : u.start + q - q ≡ u.start = omega arith in (
        u.start + q,
        omega (arith, u.to),
        omega (arith, u.from),
        covers_inner q i (u.start + q) c (omega arith) u.ends (rw e u.occurs),
      )

  -- ---- where each reading agrees with itself

  module _ (self : Reflexive ag) where
    pub covers_self : (i : ℕ) → 0 < i → Covers ag x i i
    covers_self i h = record {
      some = h;
      most = omega arith;
      each = λ p l. record { start = 0; from = omega arith; to = omega arith; ends = omega arith; occurs = occurs_self ag x self i };
    }

    -- a border of at least half the length covers
    pub covers_half : (q i : ℕ) → Border ag x i q → i ≤ q + q → Covers ag x i q
    covers_half q i b h =
        covers_on q q i (covers_self q (omega (arith, b.below))) b.ends (omega arith) (omega (arith, b.below)) (omega (arith, b.below))

-- ---- where readings agree by being equal

module _ (x : List ℕ) where
  -- through: a cover of a cover covers
  pub covers_through : (q r i : ℕ) → Covers eqb x r q → Covers eqb x i r → Covers eqb x i q
  covers_through q r i a b = record {
    some = a.some;
    most = omega (arith, a.most, b.most);
    each = λ t l.
        let u = b.each t l in
        let v = a.each (t - u.start) (omega (arith, u.to)) in record {
          start = u.start + v.start;
          from = omega (arith, v.from, u.from);
          to = omega (arith, v.to);
          ends = omega (arith, v.ends, u.ends);
          occurs = occurs_through x q r v.start u.start v.occurs v.ends u.occurs;
        };
  }

  -- back: of two covers the shorter covers the longer
  pub covers_nested : (q r i : ℕ) → Covers eqb x i q → Covers eqb x i r → q ≤ r → Covers eqb x r q
  covers_nested q r i a b h =
      covers_inner eqb x q i r a h b.most
      (occurs_back x q r (r - q) (i - r) (occurs_same eqb x q (i - q) (omega (arith, a.most, b.most)) (covers_end eqb x q i a)) (omega arith) (covers_end eqb x r i b))

  -- two prefixes that cover each other have equal length
  pub covers_antisym : (q r : ℕ) → Covers eqb x r q → Covers eqb x q r → q ≡ r
  covers_antisym q r a b = le_antisymm a.most b.most

  -- an occurrence more, with no gap before it, of what q covers
  pub covers_join : (q b r i : ℕ) → Covers eqb x r q → Covers eqb x b q → Occurs eqb x b (i - b) → i - b ≤ r → r ≤ i → b ≤ i → Covers eqb x i q
  covers_join q b r i c d a h l m = record {
    some = c.some;
    most = omega (arith, c.most);
    each = λ p u. ⊎_elim
        (λ (w : i - b ≤ p).
        let v = d.each (p - (i - b)) (omega arith) in record {
          start = i - b + v.start;
          from = omega (arith, v.from);
          to = omega (arith, v.to);
          ends = omega (arith, v.ends);
          occurs = occurs_through x q b v.start (i - b) v.occurs v.ends a;
        })
        (λ (w : p < i - b). inside_wider eqb x q r i p l (c.each p (omega arith)))
        (le_or_lt (i - b) p);
  }
