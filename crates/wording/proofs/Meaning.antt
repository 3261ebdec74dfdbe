-- What the band tells of a log: its run is the one that ends the log, and HELD stands exactly over a run of at least 60 readings, or of all. Assumes nothing.
use Rattle.std.proofs.Common.{Bool, true, false, ◌≡◌, sym, List, ◌++◌, ◌⊎◌, inl, inr, ⊎_elim, ◌↔◌, ℕ, suc, ◌+◌, ◌-◌, ◌≤◌, ◌<◌, eq-or-lt_of_le, arith, length, get_or, drop, eq-eqb, ne_eqb}
use Rattle.words.specs.PlantFile.{ceiling_symbol}
use Rattle.words.proofs.Tests.{le_or_lt}
use Rattle.words.proofs.Search.{greatest_lt, greatest_passes, greatest_most, greatest_is, how_many_hit}
use Rattle.lines.specs.Text.{bytes}
use Rattle.ceilings.specs.Ceilings.{at_ceiling, stuck, recent, held, ceiling, ceiling_of}
use Rattle.ceilings.proofs.Meaning.{stuck_from, held_iff}
use Rattle.marks.specs.Marks.{LastRun}
use Rattle.wording.specs.Wording.{pick, kind, last_of, of_all, last_run, band}

module _ (x : List ℕ) where
  -- the last k readings are at the ceiling
  abbrev lasts : ℕ → Bool
  lasts k = stuck (drop (length x - k) x)

  from : (k : ℕ) → (lasts k ≡ true) ↔ ((j : ℕ) → length x - k ≤ j → j < length x → get_or x j 0 ≡ ceiling_symbol)
  from k = stuck_from x (length x - k)

  pub last_run_is : (k : ℕ) → LastRun x ceiling_symbol k → k ≡ last_run x
  unfolding last_run
  last_run_is k l = sym (greatest_is lasts (suc (length x)) k (omega (arith, l.few)) ((from k).1 l.run.same) (λ m h t. ⊎_elim
      (λ (g : m ≤ k). g)
      (λ (g : k < m). absurd (l.no_more (omega arith) ((from m).0 t (length x - k - 1) (omega arith) (omega arith))))
      (le_or_lt m k)))

  pub last_run_run : LastRun x ceiling_symbol (last_run x)
  unfolding last_run
  last_run_run =
      let k : ℕ = last_run x in
      let few : k ≤ length x = omega (arith, greatest_lt lasts (suc (length x)) (omega arith)) in
      let same = (from k).0 (greatest_passes lasts (suc (length x)) ((from 0).1 (λ j a b. absurd (omega arith)))) in
      record {
        few = few;
        run = record { rises = omega arith; within = omega arith; same = same };
        no_more = λ l e. omega (
          arith,
          greatest_most lasts (suc (length x)) (k + 1) (omega arith) ((from (k + 1)).1 (λ j a b. ⊎_elim
              (λ (z : length x - k - 1 ≡ j). rw (← z) e)
              (λ (g : length x - k - 1 < j). same j (omega arith) b)
              (eq-or-lt_of_le (omega arith)))),
        );
      }

  pub held_last : (held x ≡ true) ↔ ((recent ≤ last_run x) ⊎ (last_run x ≡ length x))
  held_last =
      let l = last_run_run in
      let k : ℕ = last_run x in (
        λ t. ⊎_elim
            (λ (h : recent ≤ k). inl h)
            (λ (h : k < recent). ⊎_elim
            (λ (e : k ≡ length x). inr e)
            (λ (m : k < length x). absurd (l.no_more m ((held_iff x).0 t (length x - k - 1) (omega arith) (omega arith))))
            (eq-or-lt_of_le l.few))
            (le_or_lt recent k),
        λ s. (held_iff x).1 (λ j a b. l.run.same j (⊎_elim (λ (h : recent ≤ k). omega arith) (λ (e : k ≡ length x). omega arith) s) b),
      )

  -- ---- the words: where the log ends at the ceiling, HELD or ENDS by `held`

  some_there : 0 < last_run x → 0 < ceiling x
  unfolding ceiling
  some_there h =
      let l = last_run_run in
      let e : length x - 1 + 1 ≡ length x = omega (arith, l.few) in
      let hit = how_many_hit (at_ceiling x) (length x - 1) (eq-eqb _ _ (l.run.same (length x - 1) (omega (arith, l.few)) (omega (arith, l.few)))) in
      omega (arith, rw e at hit)

  ends : 0 < last_run x → band x ≡ kind (ceiling_of x).held ++ last_of (length x) (last_run x) ++ of_all (length x)
  unfolding band ceiling_of pick
  ends h =
      let some = some_there h in
      rw (ne_eqb (ceiling x) 0 (λ z. omega arith), ne_eqb (last_run x) 0 (λ z. omega arith))

  pub band_ends : 0 < last_run x → held x ≡ false → band x ≡ bytes "ENDS AT CEILING: " ++ last_of (length x) (last_run x) ++ of_all (length x)
  unfolding ceiling_of pick
  band_ends h e = rw e at (ends h)

  pub band_held : 0 < length x → held x ≡ true → band x ≡ bytes "HELD AT CEILING: " ++ last_of (length x) (last_run x) ++ of_all (length x)
  unfolding ceiling_of pick
  band_held some e = rw e at (ends (⊎_elim (λ (h : recent ≤ last_run x). omega arith) (λ (h : last_run x ≡ length x). omega arith) (held_last.0 e)))
