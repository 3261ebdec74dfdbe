-- The prefix table. `Reaches ag x j m`: the first m readings occur after j, within the log. The table's entry is the m at which they stop;
-- and where readings agree by being equal, a stretch that is known to occur tells of the places inside it. Assumes nothing.
use mathlib.Core.Bool.{Bool, true}
use mathlib.Core.Path.{◌≡◌, sym, ◌∙◌}
use mathlib.Core.List.{List}
use Prim.Native.Nat.{ℕ, suc, ◌+◌, ◌-◌, ◌≤◌, ◌<◌}
use native.Mathlib.Nat.{add-sub_cancel}
use native.Mathlib.Omega.{arith}
use lib.ListN.{length, get_or}
use lib.Dec.{eqb}
use Rattle.words.specs.Words.{occurs, prefix}
use Rattle.words.proofs.Search.{greatest_lt, greatest_passes, greatest_most, greatest_is}
use Rattle.words.proofs.Occurrences.{Occurs, Reflexive, occurs_iff, occurs_none, occurs_shorter, occurs_more, occurs_self, same, is_same, at}

pub record Reaches (ag : ℕ → ℕ → Bool) (x : List ℕ) (j m : ℕ) : Type 0 where
  pub within : j + m ≤ length x
  pub occurs : Occurs ag x m j

module _ (ag : ℕ → ℕ → Bool) (x : List ℕ) where
  pub reaches_none : (j : ℕ) → j ≤ length x → Reaches ag x j 0
  reaches_none j h = record { within = omega arith; occurs = occurs_none ag x j }

  pub reaches_more : (j m : ℕ) → Reaches ag x j m → j + m < length x → ag (get_or x m 0) (get_or x (j + m) 0) ≡ true → Reaches ag x j (m + 1)
  reaches_more j m c h e = record { within = omega arith; occurs = occurs_more ag x m j c.occurs e }

  pub reaches_shorter : (j m n : ℕ) → Reaches ag x j n → m ≤ n → Reaches ag x j m
  reaches_shorter j m n c h = record { within = omega arith; occurs = occurs_shorter ag x n m j h c.occurs }

  -- ---- the table's entry at position j + 1

  test : ℕ → ℕ → Bool
  test j m = occurs ag x m j

  pub prefix_reaches : (j : ℕ) → j ≤ length x → Reaches ag x j (prefix ag x (j + 1))
  unfolding prefix test
  prefix_reaches j h = rw (add-sub_cancel) (record {
    within = omega (arith, greatest_lt (test j) (suc (length x - j)) (omega arith));
    occurs = (occurs_iff ag x _ j).0 (greatest_passes (test j) (suc (length x - j)) ((occurs_iff ag x 0 j).1 (occurs_none ag x j)));
  })

  pub prefix_most : (j m : ℕ) → Reaches ag x j m → m ≤ prefix ag x (j + 1)
  unfolding prefix test
  prefix_most j m c = rw (add-sub_cancel) (greatest_most (test j) (suc (length x - j)) m (omega (arith, c.within)) ((occurs_iff ag x m j).1 c.occurs))

  -- what reaches m, and that the end of the log or the next reading stops, is the longest
  pub prefix_is : (j m : ℕ) → Reaches ag x j m → (j + m < length x → ag (get_or x m 0) (get_or x (j + m) 0) ≡ true → ⊥) → m ≡ prefix ag x (j + 1)
  unfolding prefix test
  prefix_is j m c stop = rw (add-sub_cancel)
      (sym (greatest_is (test j) (suc (length x - j)) m (omega (arith, c.within)) ((occurs_iff ag x m j).1 c.occurs) (λ n u e.
      let no_more : m < n → ⊥ = λ g. stop (omega arith) (((occurs_iff ag x n j).0 e).agree m g) in
      omega arith)))

  -- at 1 it is the log's length
  pub prefix_first : Reflexive ag → prefix ag x 1 ≡ length x
  prefix_first self = sym (prefix_is 0 (length x) (record { within = omega arith; occurs = occurs_self ag x self (length x) }) (λ l. absurd (omega arith)))

-- ---- where readings agree by being equal: x[1..r-l] occurs after l, and inside of it x[1..m] after i
module _ (x : List ℕ) where
  pub reaches_inside : (l r i m : ℕ) → Reaches eqb x l (r - l) → l ≤ i → Reaches eqb x (i - l) m → i + m ≤ r → Reaches eqb x i m
  reaches_inside l r i m b h c u = record {
    within = omega (arith, b.within);
    occurs = is_same (λ k v. same c.occurs k v ∙ same b.occurs (i - l + k) (omega arith) ∙ at x (omega arith));
  }
