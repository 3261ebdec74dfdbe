-- A prefix is judged by its own readings alone: two logs whose first n readings are equal are judged alike at every i up to n. Assumes nothing.
use mathlib.Core.Bool.{Bool}
use mathlib.Core.Path.{◌≡◌, sym}
use mathlib.Core.List.{List}
use Prim.Native.Nat.{ℕ, ◌+◌, ◌-◌, ◌≤◌, ◌<◌}
use native.Mathlib.Omega.{arith}
use lib.ListN.{get_or, take}
use lib.Seq.{get_or-take}
use Rattle.words.specs.Words.{is_border, border, normal, covers, cover, weighs, weighed}
use Rattle.words.proofs.Tests.{both_ways}
use Rattle.words.proofs.Search.{greatest_same, falling_same}
use Rattle.words.proofs.Occurrences.{Occurs}
use Rattle.words.proofs.Borders.{Border, is_border_iff}
use Rattle.words.proofs.Covers.{Covers, covers_iff}

-- the first n readings of x are those of y
abbrev pub Alike : List ℕ → List ℕ → ℕ → Type 0
Alike x y n = (k : ℕ) → k < n → get_or x k 0 ≡ get_or y k 0

back : (x y : List ℕ) (n : ℕ) → Alike x y n → Alike y x n
back x y n a k h = sym (a k h)

module _ (ag : ℕ → ℕ → Bool) where
  module _ (x y : List ℕ) (n : ℕ) (a : Alike x y n) where
    occurs_on : (q j : ℕ) → j + q ≤ n → Occurs ag x q j → Occurs ag y q j
    occurs_on q j h o = record { agree = λ k l. rw (sym (a k (omega arith)), sym (a (j + k) (omega arith))) (o.agree k l) }

    border_on : (i m : ℕ) → i ≤ n → Border ag x i m → Border ag y i m
    border_on i m h b = record { below = b.below; ends = occurs_on m (i - m) (omega (arith, b.below)) b.ends }

    covers_on : (i q : ℕ) → i ≤ n → Covers ag x i q → Covers ag y i q
    covers_on i q h c = record {
      some = c.some;
      most = c.most;
      each = λ p l. let u = c.each p l in
          record { start = u.start; from = u.from; to = u.to; ends = u.ends; occurs = occurs_on q u.start (omega (arith, u.ends)) u.occurs };
    }

  module _ (x y : List ℕ) (n : ℕ) (a : Alike x y n) (i : ℕ) (h : i ≤ n) where
    is_border_local : (m : ℕ) → is_border ag x i m ≡ is_border ag y i m
    is_border_local m = both_ways (is_border ag x i m) (is_border ag y i m)
        (λ t. (is_border_iff ag y i m).1 (border_on x y n a i m h ((is_border_iff ag x i m).0 t)))
        (λ t. (is_border_iff ag x i m).1 (border_on y x n (back x y n a) i m h ((is_border_iff ag y i m).0 t)))

    pub covers_local : (q : ℕ) → covers ag x i q ≡ covers ag y i q
    covers_local q = both_ways (covers ag x i q) (covers ag y i q)
        (λ t. (covers_iff ag y i q).1 (covers_on x y n a i q h ((covers_iff ag x i q).0 t)))
        (λ t. (covers_iff ag x i q).1 (covers_on y x n (back x y n a) i q h ((covers_iff ag y i q).0 t)))

    pub border_local : border ag x i ≡ border ag y i
    unfolding border
    border_local = greatest_same (is_border ag x i) (is_border ag y i) i (λ m _. is_border_local m)

    pub cover_local : cover ag x i ≡ cover ag y i
    unfolding cover
    cover_local = greatest_same (covers ag x i) (covers ag y i) i (λ q _. covers_local q)

    pub normal_local : normal ag x i ≡ normal ag y i
    unfolding normal
    normal_local = rw border_local

  pub weighed_local : (x y : List ℕ) (n : ℕ) → Alike x y n → (i : ℕ) → i ≤ n → weighed ag x i ≡ weighed ag y i
  unfolding weighed weighs
  weighed_local x y n a i h = falling_same (weighs ag x i) (weighs ag y i) i (λ m l.
      rw (is_border_local x y n a i h m, cover_local x y n a m (omega arith)))

-- the first i readings, as a log of their own
pub take_alike : (i : ℕ) (x : List ℕ) → Alike (take i x) x i
take_alike i x k h = get_or-take i x k 0 h
