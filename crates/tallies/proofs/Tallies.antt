-- The tallies, carried from j to j + 1 down the weighed borders of the prefix of length j + 1. Assumes nothing.
use Rattle.std.proofs.Common.{◌≡◌, sym, ◌∙◌, List, inl, inr, ⊎_elim, ℕ, ◌+◌, ◌-◌, ◌≤◌, ◌<◌, min, eq-or-lt_of_le, add-sub_cancel, arith, length, get_or, set, length-set, get_or-set_same, get_or-set_other, eqb}
use native.Mathlib.Nat.{sub_self}
use Rattle.words.specs.Words.{cover, covered}
use Rattle.words.proofs.Tests.{le_or_lt}
use Rattle.words.proofs.Occurrences.{Occurs, eqb_refl, occurs_same, occurs_self}
use Rattle.words.proofs.Covers.{covers_self}
use Rattle.words.proofs.Counts.{covered_le, covered_all, covered_next}
use Rattle.words.proofs.Weighs.{Weighs, weighs_inner, weighs_outer, heaviest, heaviest_weighs, heaviest_most, heaviest_lt}
use Rattle.tallies.specs.Tallies.{Tally, Flags, Tallies, Round}

module _ (x : List ℕ) where
  pub tally_self : (i : ℕ) → 0 < i → Tally x i i i i
  tally_self i pos = record {
    from = omega arith;
    within = omega arith;
    occurs = rw (sub_self i) (occurs_self eqb x eqb_refl i);
    last = λ s h _. h;
    counts = sym (covered_all eqb x i i (covers_self eqb x eqb_refl i pos));
  }

  module _ {q j e k : ℕ} (t : Tally x q j e k) where
    -- an occurrence that ends at j + 1, and none
    pub tally_hit : Occurs eqb x q (j + 1 - q) → Tally x q (j + 1) (j + 1) (k + min q (j + 1 - e))
    tally_hit a = record {
      from = omega (arith, t.from, t.within);
      within = omega arith;
      occurs = a;
      last = λ s h _. h;
      counts = rw t.counts (sym (covered_next eqb x q e (j + 1) t.occurs a t.from (omega (arith, t.within)) (λ s h b. t.last s (omega arith) b)));
    }

    pub tally_miss : (Occurs eqb x q (j + 1 - q) → ⊥) → Tally x q (j + 1) e k
    tally_miss un = record {
      from = t.from;
      within = omega (arith, t.within);
      occurs = t.occurs;
      last = λ s h a. ⊎_elim
          (λ (z : s + q ≡ j + 1). absurd (un (occurs_same eqb x q s (omega arith) a)))
          (λ (l : s + q < j + 1). t.last s (omega arith) a)
          (eq-or-lt_of_le h);
      counts = t.counts;
    }

ends_weighs : (x : List ℕ) (i n : ℕ) → 0 < n → n < i → cover eqb x n ≡ 0 → Occurs eqb x n (i - n) → Weighs eqb x i n
ends_weighs x i n h l e a = record { some = h; border = record { below = l; ends = a }; bare = e }

module _ {x l h : List ℕ} {j : ℕ} where
  -- what is longer than the longest weighed border, and uncovered, does not end at j + 1. Only row j is new; of h only where j + 1 has no proper cover
  pub round_start : (v : ℕ) (g : List ℕ) → Tallies x l h j → j < length x → length x ≤ length g → ((k : ℕ) → (k ≡ j → ⊥) → get_or g k 0 ≡ get_or h k 0)
      → (cover eqb x (j + 1) ≡ 0 → (v ≡ j + 1) × (get_or g j 0 ≡ j + 1)) → ((cover eqb x (j + 1) ≡ 0 → ⊥) → v ≡ 0) → Round x (set l j v) g j (heaviest x (j + 1))
  round_start v g t i room same own none =
      let b : heaviest x (j + 1) ≤ j = omega (arith, heaviest_lt x (j + 1) (omega arith)) in record {
        lasts = rw (length-set l j v) t.lasts;
        holds = room;
        inside = i;
        below = b;
        weighs = heaviest_weighs x (j + 1);
        done = λ n u p z. ⊎_elim
            (λ (s : n ≡ j + 1). rw (s, add-sub_cancel, get_or-set_same l j v 0 (omega (arith, t.lasts)), (own (rw s at z)).1, (own (rw s at z)).0) (tally_self x (j + 1) (omega arith)))
            (λ (s : n < j + 1). rw (get_or-set_other l j (n - 1) v 0 (omega arith), same (n - 1) (omega arith))
            (tally_miss x (t.each n (omega arith) (omega arith) z) (λ a. omega (arith, heaviest_most x (j + 1) n (ends_weighs x (j + 1) n (omega arith) s z a)))))
            (eq-or-lt_of_le u);
        none = λ n a u c. ⊎_elim
            (λ (s : n ≡ j + 1). rw (s, add-sub_cancel, get_or-set_same l j v 0 (omega (arith, t.lasts))) (none (rw s at c)))
            (λ (s : n < j + 1). get_or-set_other l j (n - 1) v 0 (omega arith) ∙ t.none n a (omega arith) c)
            (eq-or-lt_of_le u);
        todo = λ n a u z. rw (get_or-set_other l j (n - 1) v 0 (omega arith), same (n - 1) (omega arith)) (t.each n a (omega arith) z);
      }

  module _ {w : ℕ} (r : Round x l h j w) (nz : w ≡ 0 → ⊥) where
    pub round_weighs : Weighs eqb x (j + 1) w
    round_weighs = ⊎_elim (λ z. absurd (nz z)) (λ c. c) r.weighs

    same : (n : ℕ) → 0 < n → n - 1 ≡ w - 1 → n ≡ w
    same n a z = omega arith

    tally : Tally x w j (get_or l (w - 1) 0) (get_or h (w - 1) 0)
    tally = r.todo w (omega arith) (omega arith) round_weighs.bare

    pub round_last : get_or l (w - 1) 0 ≤ j
    round_last = tally.within

    pub round_held : get_or h (w - 1) 0 ≤ j
    round_held = omega (arith, tally.counts, tally.within, covered_le eqb x (get_or l (w - 1) 0) w)

    module _ (k : ℕ) (e : k ≡ get_or h (w - 1) 0 + min w (j + 1 - get_or l (w - 1) 0)) where
      hit : Tally x w (j + 1) (j + 1) k
      hit = rw e (tally_hit x tally round_weighs.border.ends)

      pub round_count : k ≡ covered eqb x (j + 1) w
      round_count = hit.counts

      pub round_next : (p v : ℕ) → p ≡ heaviest x w → v ≡ j + 1 → Round x (set l (w - 1) v) (set h (w - 1) k) j p
      round_next p v ep ev =
          let b : p < w = omega (arith, heaviest_lt x w (omega arith)) in
          record {
            lasts = rw (length-set l (w - 1) v) r.lasts;
            holds = rw (length-set h (w - 1) k) r.holds;
            inside = r.inside;
            below = omega (arith, r.below);
            weighs = rw ep (⊎_elim (λ z. inl z) (λ (d : Weighs eqb x w (heaviest x w)). inr (weighs_outer x (j + 1) w (heaviest x w) round_weighs.border d)) (heaviest_weighs x w));
            done = λ n u g z. ⊎_elim
                (λ (s : n ≤ w). ⊎_elim
                (λ (s : n ≡ w). rw (s, get_or-set_same l (w - 1) v 0 (omega (arith, r.lasts, r.inside, r.below)), get_or-set_same h (w - 1) k 0 (omega (arith, r.holds, r.inside, r.below)), ev) hit)
                (λ (s : n < w). rw (get_or-set_other l (w - 1) (n - 1) v 0 (omega arith), get_or-set_other h (w - 1) (n - 1) k 0 (omega arith))
                (tally_miss x (r.todo n (omega arith) (omega arith) z)
                (λ a. omega (arith, heaviest_most x w n (weighs_inner x (j + 1) w n round_weighs.border (ends_weighs x (j + 1) n (omega arith) (omega (arith, r.below)) z a) s)))))
                (eq-or-lt_of_le s))
                (λ (s : w < n). rw (get_or-set_other l (w - 1) (n - 1) v 0 (omega arith), get_or-set_other h (w - 1) (n - 1) k 0 (omega arith)) (r.done n u s z))
                (le_or_lt n w);
            none = λ n a u c. get_or-set_other l (w - 1) (n - 1) v 0 (λ z. c (rw (same n a z) round_weighs.bare)) ∙ r.none n a u c;
            todo = λ n a u z. rw (get_or-set_other l (w - 1) (n - 1) v 0 (omega arith), get_or-set_other h (w - 1) (n - 1) k 0 (omega arith)) (r.todo n a (omega arith) z);
          }

  pub round_done : (w : ℕ) → Round x l h j w → w ≡ 0 → Tallies x l h (j + 1)
  round_done w r z = record { lasts = r.lasts; holds = r.holds; each = λ n a u e. r.done n u (omega arith) e; none = r.none }

  -- the last ends flag which lengths have no proper cover
  pub tallies_flags : Tallies x l h j → Flags x l j
  tallies_flags t = record { room = t.lasts; bare = λ n p u z. omega (arith, (t.each n p u z).from); covered = t.none }
