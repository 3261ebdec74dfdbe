-- What the definitions mean, in the words of the scope: each executable number is exactly the one that its sentence describes. Positions are numbered
-- from 1 here, and a part of the log is a list: x[1..m] is `take m x`. Assumes nothing.
use mathlib.Core.Bool.{Bool, true}
use mathlib.Core.Path.{◌≡◌, sym, ap, ◌∙◌}
use mathlib.Core.List.{List}
use mathlib.Core.Logic.{◌⊎◌, inl, inr, ⊎_elim, ◌↔◌}
use Prim.Native.Nat.{ℕ, ◌+◌, ◌-◌, ◌≤◌, ◌<◌}
use native.Mathlib.Nat.{le_antisymm}
use native.Mathlib.Omega.{arith}
use lib.Dec.{eqb}
use lib.ListN.{length, get_or, take, drop, length-take, length-drop}
use lib.Seq.{ext_get_or, get_or-take, get_or-drop}
use Rattle.words.specs.Words.{border, prefix, covers, cover, best, count, cover_list, weighed}
use Rattle.words.proofs.Listings.{Falling, Rising, falling_one, rising_one}
use Rattle.words.proofs.Occurrences.{occurs_iff, occurs_part, occurs_same, same, is_same}
use Rattle.words.proofs.Borders.{Border, border_border, border_most}
use Rattle.words.proofs.Prefixes.{Reaches, prefix_reaches, prefix_most}
use Rattle.words.proofs.Covers.{Inside, Covers, covers_iff, cover_covers, cover_lt, cover_most}
use Rattle.words.proofs.Bests.{Best, best_best, best_one}
use Rattle.words.proofs.Weighs.{Weighs, weighed_entry, weighed_place, weighed_falls}
use Rattle.words.proofs.CoverLists.{cover_list_entry, cover_list_place, cover_list_rises}

-- x[1..m] is a suffix of x[1..i]
abbrev pub Suffix : List ℕ → ℕ → ℕ → Type 0
Suffix x i m = take m x ≡ drop (i - m) (take i x)

-- x[1..q] occurs at s: the q readings from s on equal it in full
pub record OccursAt (x : List ℕ) (q s : ℕ) : Type 0 where
  pub first : 1 ≤ s
  pub full : s - 1 + q ≤ length x
  pub equal : take q (drop (s - 1) x) ≡ take q x

-- ---- Border table: the greatest length below i that is both a prefix and a suffix of x[1..i]; 0 if none

pub record IsBorder (x : List ℕ) (i r : ℕ) : Type 0 where
  pub below : r < i
  pub suffix : Suffix x i r
  pub greatest : (m : ℕ) → m < i → Suffix x i m → m ≤ r

module _ (x : List ℕ) (i : ℕ) (some : 1 ≤ i) (within : i ≤ length x) where
  end_at : (m k : ℕ) → m < i → k < m → get_or (drop (i - m) (take i x)) k 0 ≡ get_or x (i - m + k) 0
  end_at m k b l = rw (get_or-drop, get_or-take i x (i - m + k) 0 (omega arith))

  pub suffix_iff : (m : ℕ) → m < i → Suffix x i m ↔ Border eqb x i m
  suffix_iff m b = (
    λ e. record { below = b; ends = is_same (λ k l. sym (get_or-take m x k 0 l) ∙ ap (λ (y : List ℕ). get_or y k 0) e ∙ end_at m k b l) },
    λ d. ext_get_or 0 (take m x) (drop (i - m) (take i x)) (simp (length-drop, length-take) (omega arith)) (λ k h.
        let l : k < m = omega (arith, length-take m x) in
        get_or-take m x k 0 l ∙ same d.ends k l ∙ sym (end_at m k b l)),
  )

  pub border_meaning : (r : ℕ) → (border eqb x i ≡ r) ↔ IsBorder x i r
  border_meaning r = (λ e. rw (← e) is, λ b. le_antisymm (b.greatest (border eqb x i) is.below is.suffix) (is.greatest r b.below b.suffix))
    where
      is : IsBorder x i (border eqb x i)
      is =
          let d = border_border eqb x i some in record {
            below = d.below;
            suffix = (suffix_iff (border eqb x i) d.below).1 d;
            greatest = λ m l e. border_most eqb x i m ((suffix_iff m l).0 e);
          }

-- ---- Prefix table: the greatest length m such that the m readings from i on equal x[1..m]

pub record IsPrefix (x : List ℕ) (i r : ℕ) : Type 0 where
  pub occurs : OccursAt x r i
  pub greatest : (m : ℕ) → OccursAt x m i → m ≤ r

module _ (x : List ℕ) (i : ℕ) (some : 1 ≤ i) (within : i ≤ length x) where
  pub occurs_at_iff : (m : ℕ) → OccursAt x m i ↔ Reaches eqb x (i - 1) m
  occurs_at_iff m = (
    λ o. record { within = o.full; occurs = (occurs_iff eqb x m (i - 1)).0 ((occurs_part x m (i - 1) o.full).1 o.equal) },
    λ r. record { first = some; full = r.within; equal = (occurs_part x m (i - 1) r.within).0 ((occurs_iff eqb x m (i - 1)).1 r.occurs) },
  )

  pub prefix_meaning : (r : ℕ) → (prefix eqb x i ≡ r) ↔ IsPrefix x i r
  prefix_meaning r = (λ e. rw (← e) is, λ b. le_antisymm (b.greatest (prefix eqb x i) is.occurs) (is.greatest r b.occurs))
    where
      back : i - 1 + 1 ≡ i
      back = omega arith

      is : IsPrefix x i (prefix eqb x i)
      is = record {
        occurs = (occurs_at_iff (prefix eqb x i)).1 (rw back at (prefix_reaches eqb x (i - 1) (omega arith)));
        greatest = λ m o. rw back at (prefix_most eqb x (i - 1) m ((occurs_at_iff m).0 o));
      }

-- ---- Cover: every position 1..i lies inside an occurrence that ends at or before i

pub record LiesInside (x : List ℕ) (i q p : ℕ) : Type 0 where
  pub at : ℕ
  pub occurs : OccursAt x q at
  pub from : at ≤ p
  pub to : p < at + q
  pub ends : at + q ≤ i + 1

pub record CoversAll (x : List ℕ) (i q : ℕ) : Type 0 where
  pub some : 1 ≤ q
  pub most : q ≤ i
  pub every : (p : ℕ) → 1 ≤ p → p ≤ i → LiesInside x i q p

module _ (x : List ℕ) (i : ℕ) (within : i ≤ length x) where
  pub lies_iff : (q p : ℕ) → p < i → LiesInside x i q (p + 1) ↔ Inside eqb x i q p
  lies_iff q p h = (
    λ l. record {
      start = l.at - 1;
      from = omega (arith, l.from, l.occurs.first);
      to = omega (arith, l.to, l.occurs.first);
      ends = omega (arith, l.ends, l.occurs.first);
      occurs = (occurs_iff eqb x q (l.at - 1)).0 ((occurs_part x q (l.at - 1) l.occurs.full).1 l.occurs.equal);
    },
    λ u. record {
      at = u.start + 1;
      occurs = record {
        first = omega arith;
        full = omega (arith, u.ends);
        equal = (occurs_part x q (u.start + 1 - 1) (omega (arith, u.ends))).0
            ((occurs_iff eqb x q (u.start + 1 - 1)).1 (occurs_same eqb x q u.start (omega arith) u.occurs));
      };
      from = omega (arith, u.from);
      to = omega (arith, u.to);
      ends = omega (arith, u.ends);
    },
  )

  covers_all_iff : (q : ℕ) → CoversAll x i q ↔ Covers eqb x i q
  covers_all_iff q = (
    λ c. record { some = c.some; most = c.most; each = λ p l. (lies_iff q p l).0 (c.every (p + 1) (omega arith) (omega arith)) },
    λ c. record {
      some = c.some;
      most = c.most;
      every = λ p a b. let e : p - 1 + 1 ≡ p = omega arith in rw e at ((lies_iff q (p - 1) (omega arith)).1 (c.each (p - 1) (omega arith)));
    },
  )

  pub covers_meaning : (q : ℕ) → (covers eqb x i q ≡ true) ↔ CoversAll x i q
  covers_meaning q = (λ e. (covers_all_iff q).1 ((covers_iff eqb x i q).0 e), λ c. (covers_iff eqb x i q).1 ((covers_all_iff q).0 c))

-- ---- Cover table: the longest proper cover of x[1..i]; 0 if none

pub record IsCover (x : List ℕ) (i r : ℕ) : Type 0 where
  pub proper : (r ≡ 0) ⊎ ((r < i) × Covers eqb x i r)
  pub longest : (q : ℕ) → q < i → Covers eqb x i q → q ≤ r

pub cover_meaning : (x : List ℕ) (i : ℕ) → 1 ≤ i → (r : ℕ) → (cover eqb x i ≡ r) ↔ IsCover x i r
cover_meaning x i some r = (λ e. rw (← e) is, λ c. le_antisymm (bound is c) (bound c is))
  where
    is : IsCover x i (cover eqb x i)
    is = record {
      proper = ⊎_elim (λ z. inl z) (λ c. inr (cover_lt eqb x i some, c)) (cover_covers eqb x i);
      longest = λ q l c. cover_most eqb x i q c l;
    }

    bound : {a b : ℕ} → IsCover x i a → IsCover x i b → a ≤ b
    bound {a} s t = ⊎_elim (λ z. omega arith) (λ c. t.longest a c.0 c.1) s.proper

-- ---- Best and Count: no nonempty border covers more, no shorter one as many; both 0 if there is none

pub best_meaning : (ag : ℕ → ℕ → Bool) (x : List ℕ) (i b k : ℕ) → ((best ag x i ≡ b) × (count ag x i ≡ k)) ↔ Best ag x i b k
best_meaning ag x i b k = (λ e. rw (← e.0, ← e.1) (best_best ag x i), λ s. best_one ag x i (best_best ag x i) s)

-- ---- Weighed list: exactly the nonempty borders that have no proper cover, longest first

pub weighed_meaning : (ag : ℕ → ℕ → Bool) (x : List ℕ) (i : ℕ) (l : List ℕ) → (weighed ag x i ≡ l) ↔ Falling (Weighs ag x i) l
weighed_meaning ag x i l = (λ e. rw (← e) is, λ s. falling_one (Weighs ag x i) (weighed ag x i) l is s)
  where
    is : Falling (Weighs ag x i) (weighed ag x i)
    is = record { only = weighed_entry ag x i; all = weighed_place ag x i; order = weighed_falls ag x i }

-- ---- List of covers: all q that cover x, rising

pub cover_list_meaning : (ag : ℕ → ℕ → Bool) (x l : List ℕ) → (cover_list ag x ≡ l) ↔ Rising (Covers ag x (length x)) l
cover_list_meaning ag x l = (λ e. rw (← e) is, λ s. rising_one (Covers ag x (length x)) (cover_list ag x) l is s)
  where
    is : Rising (Covers ag x (length x)) (cover_list ag x)
    is = record { only = cover_list_entry ag x; all = cover_list_place ag x; order = cover_list_rises ag x }
