-- Prefixes that occur twice. Under any rule: a shorter one occurs twice too, and one reading more brings in the borders of the new prefix alone. Assumes nothing.
use Rattle.std.proofs.Common.{Bool, true, ◌&&◌, true≢false, ◌≡◌, sym, ◌∙◌, List, ◌⊎◌, inl, inr, ⊎_elim, ◌↔◌, ℕ, suc, ◌+◌, ◌-◌, ◌≤◌, ◌<◌, eq-or-lt_of_le, arith, leb, ltb, leb-true, le-leb, ltb-true, lt-ltb}
use Rattle.words.specs.Search.{peak}
use Rattle.words.specs.Words.{occurs, is_border, covered}
use Rattle.words.proofs.Tests.{and_left, and_right, and_both, and3, by_test, cond_case}
use Rattle.words.proofs.Search.{two_how_many, how_many_two}
use Rattle.words.proofs.Tops.{Top, top_none, top_peak}
use Rattle.words.proofs.Occurrences.{Occurs, Reflexive, occurs_iff, occurs_same, occurs_shorter, occurs_self}
use Rattle.words.proofs.Borders.{Border, is_border_iff}
use Rattle.words.proofs.Counts.{covered_stays}
use Rattle.repeats.specs.Repeats.{times, repeats, worth_by}

-- x[1..q] is a proper nonempty prefix of x[1..i], and occurs in it after `first` and after `second` readings
pub record Repeats (ag : ℕ → ℕ → Bool) (x : List ℕ) (i q : ℕ) : Type 0 where
  pub some : 0 < q
  pub proper : q < i
  pub first : ℕ
  pub second : ℕ
  pub apart : first < second
  pub within : second + q ≤ i
  pub one : Occurs ag x q first
  pub two : Occurs ag x q second

module _ (ag : ℕ → ℕ → Bool) (x : List ℕ) where
  module _ (i q : ℕ) where
    abbrev test : ℕ → Bool
    test j = leb (j + q) i && occurs ag x q j

    lies : (j : ℕ) → test j ≡ true → (j + q ≤ i) × Occurs ag x q j
    lies j e = (leb-true _ _ (and_left (leb (j + q) i) (occurs ag x q j) e), (occurs_iff ag x q j).0 (and_right (leb (j + q) i) (occurs ag x q j) e))

    tested : (j : ℕ) → j + q ≤ i → Occurs ag x q j → test j ≡ true
    tested j h o = and_both (leb (j + q) i) (occurs ag x q j) (le-leb _ _ h) ((occurs_iff ag x q j).1 o)

    pub repeats_iff : (repeats ag x i q ≡ true) ↔ Repeats ag x i q
    unfolding repeats times
    repeats_iff = (to, from)
      where
        to : leb 1 q && ltb q i && leb 2 (times ag x i q) ≡ true → Repeats ag x i q
        to e =
            let h = (and3 (leb 1 q) (ltb q i) (leb 2 (times ag x i q))).0 e in
            let w = how_many_two test (suc i) (leb-true _ _ h.2) in record {
              some = leb-true 1 q h.0;
              proper = ltb-true q i h.1;
              first = w.0;
              second = w.1;
              apart = w.2;
              within = (lies w.1 w.5).0;
              one = (lies w.0 w.4).1;
              two = (lies w.1 w.5).1;
            }

        from : Repeats ag x i q → leb 1 q && ltb q i && leb 2 (times ag x i q) ≡ true
        from r = (and3 (leb 1 q) (ltb q i) (leb 2 (times ag x i q))).1 (
          le-leb 1 q r.some,
          lt-ltb q i r.proper,
          le-leb _ _ (two_how_many test (suc i) r.first r.second r.apart (omega (arith, r.within)) (tested r.first (omega (arith, r.apart, r.within)) r.one) (tested r.second r.within r.two)),
        )

  pub repeats_shorter : (i q r : ℕ) → Repeats ag x i q → 0 < r → r ≤ q → Repeats ag x i r
  repeats_shorter i q r t h l = record {
    some = h;
    proper = omega (arith, t.proper);
    first = t.first;
    second = t.second;
    apart = t.apart;
    within = omega (arith, t.within);
    one = occurs_shorter ag x q r t.first l t.one;
    two = occurs_shorter ag x q r t.second l t.two;
  }

  pub repeats_wider : (i j q : ℕ) → j ≤ i → Repeats ag x j q → Repeats ag x i q
  repeats_wider i j q h t = record {
    some = t.some;
    proper = omega (arith, t.proper);
    first = t.first;
    second = t.second;
    apart = t.apart;
    within = omega (arith, t.within);
    one = t.one;
    two = t.two;
  }

  -- a prefix of one reading has no proper nonempty one
  pub repeats_none : (i q : ℕ) → i ≤ 1 → Repeats ag x i q → ⊥
  repeats_none i q h t = omega (arith, t.some, t.proper)

  -- so both numbers are 0 there, whatever a pattern accounts for
  pub repeats_zero : (i : ℕ) (g : ℕ → ℕ) → i ≤ 1 → Top (Repeats ag x i) g 0 0
  repeats_zero i g h = top_none (λ q t. repeats_none i q h t)

  -- where each reading agrees with itself, a nonempty border repeats: it occurs at the front, and at the end
  pub repeats_border : Reflexive ag → (i q : ℕ) → 0 < q → Border ag x i q → Repeats ag x i q
  repeats_border self i q h b = record {
    some = h;
    proper = b.below;
    first = 0;
    second = i - q;
    apart = omega (arith, b.below);
    within = omega (arith, b.below);
    one = occurs_self ag x self q;
    two = b.ends;
  }

  -- one reading more: what repeats ends there, or repeated before and covers what it covered
  pub record Before (i q : ℕ) : Type 0 where
    pub repeats : Repeats ag x i q
    pub covers : covered ag x (i + 1) q ≡ covered ag x i q

  pub repeats_step : (i q : ℕ) → Repeats ag x (i + 1) q → Border ag x (i + 1) q ⊎ Before i q
  repeats_step i q t = by_test (is_border ag x (i + 1) q)
      (λ e. inl ((is_border_iff ag x (i + 1) q).0 e))
      (λ e.
      let not_end : (s : ℕ) → s + q ≡ i + 1 → Occurs ag x q s → ⊥ = λ s z o. true≢false (sym ((is_border_iff ag x (i + 1) q).1 (record { below = t.proper; ends = occurs_same ag x q s (omega arith) o })) ∙ e) in
      let up_to : (s : ℕ) → s + q ≤ i + 1 → Occurs ag x q s → s + q ≤ i =
      λ s h o. ⊎_elim (λ (z : s + q ≡ i + 1). absurd (not_end s z o)) (λ (l : s + q < i + 1). omega arith) (eq-or-lt_of_le h) in
      let last = up_to t.second t.within t.two in
      inr (record {
        repeats = record { some = t.some; proper = omega (arith, t.apart); first = t.first; second = t.second; apart = t.apart; within = last; one = t.one; two = t.two };
        covers = covered_stays ag x q i (i + 1) (omega arith) up_to;
      }))

  -- the best of the prefixes that repeat, by any number that is not 0 at them
  pub repeats_top : (i : ℕ) (g : ℕ → ℕ) → ((q : ℕ) → Repeats ag x i q → 0 < g q)
      → Top (Repeats ag x i) g (peak (worth_by ag x g i) i) (worth_by ag x g i (peak (worth_by ag x g i) i))
  unfolding worth_by
  repeats_top i g some = top_peak some (worth_by ag x g i) i
      (λ q t. (t.proper, rw ((repeats_iff i q).1 t)))
      (λ q. cond_case (λ (r : ℕ). 0 < r → Repeats ag x i q) (repeats ag x i q) (λ e _. (repeats_iff i q).0 e) (λ _ l. absurd (omega arith)))
