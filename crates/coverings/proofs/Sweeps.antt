-- The sweep that tests a cover: all up to the last end is covered, and no occurrence before s ends later. Assumes nothing.
use Rattle.std.proofs.Common.{false, ◌≡◌, sym, ◌∙◌, List, ⊎_elim, ℕ, ◌+◌, ◌-◌, ◌≤◌, ◌<◌, eq-or-lt_of_le, arith, eqb, length, get_or, eq-eqb, ne_eqb}
use Rattle.words.specs.Words.{covers}
use Rattle.words.specs.Tables.{prefix_row}
use Rattle.words.proofs.Tests.{not_passed, le_or_lt}
use Rattle.words.proofs.Tables.{Holds}
use Rattle.words.proofs.Occurrences.{Occurs, occurs_shorter}
use Rattle.words.proofs.Prefixes.{prefix_reaches, prefix_most}
use Rattle.words.proofs.Covers.{Inside, covers_iff, inside_wider}

pub record Swept (x : List ℕ) (q s end : ℕ) : Type 0 where
  pub done : s + q ≤ length x + 1
  pub bound : end < s + q
  pub each : (p : ℕ) → p < end → Inside eqb x end q p
  pub last : (t : ℕ) → t < s → Occurs eqb x q t → t + q ≤ end

module _ {x : List ℕ} {q s end : ℕ} (w : Swept x q s end) (some : 0 < q) where
  -- the position after `end` readings lies in no occurrence that starts before s, and none that starts later begins before it
  gap : (e : ℕ) → end < e → (t : ℕ) → t ≤ end → t < s → Occurs eqb x q t → end < t + q → ⊥
  gap e h t l u o v = omega (arith, w.last t u o)

  -- a start beyond the last end: that position is left over
  pub swept_gap : q ≤ length x → s < length x - q + 1 → end < s → false ≡ covers eqb x (length x) q
  swept_gap l m h = sym (not_passed (covers eqb x (length x) q) (λ t.
      let u = ((covers_iff eqb x (length x) q).0 t).each end (omega arith) in
      gap (end + 1) (omega arith) u.start u.from (omega (arith, u.from)) u.occurs u.to))

  module _ (in_reach : s ≤ end) (l : q ≤ length x) (m : s < length x - q + 1) {t : List ℕ} (h : Holds prefix_row x t) (v : ℕ) (e : v ≡ get_or t s 0) where
    is_row : v ≡ prefix_row x s
    is_row = e ∙ h.rows s (omega (arith, some))

    -- an occurrence at s takes the end further, and one that is not there leaves it
    pub swept_hit : q ≤ v → Swept x q (s + 1) (s + q)
    swept_hit g =
        let o = occurs_shorter eqb x (prefix_row x s) q s (omega (arith, is_row)) (prefix_reaches eqb x s (omega arith)).occurs in record {
          done = omega arith;
          bound = omega arith;
          each = λ p u. ⊎_elim
              (λ (a : s ≤ p). record { start = s; from = a; to = u; ends = omega arith; occurs = o })
              (λ (a : p < s). inside_wider eqb x q end (s + q) p (omega (arith, w.bound)) (w.each p (omega arith)))
              (le_or_lt s p);
          last = λ t u _. omega arith;
        }

    pub swept_miss : v < q → Swept x q (s + 1) end
    swept_miss g = record {
      done = omega arith;
      bound = omega (arith, w.bound);
      each = w.each;
      last = λ t u o. ⊎_elim
          (λ (z : t ≡ s). absurd (omega (arith, is_row, prefix_most eqb x s q (record { within = omega arith; occurs = rw z at o }))))
          (λ (a : t < s). w.last t a o)
          (eq-or-lt_of_le (omega arith));
    }

  -- past the last start: covered exactly where the last end is the log's
  pub swept_done : q ≤ length x → length x - q + 1 ≤ s → eqb end (length x) ≡ covers eqb x (length x) q
  swept_done l m = ⊎_elim
      (λ (z : end ≡ length x). eq-eqb _ _ z ∙ sym ((covers_iff eqb x (length x) q).1 (record {
        some = some;
        most = l;
        each = λ p u. rw z at (w.each p (omega arith));
      })))
      (λ (g : end < length x). ne_eqb end (length x) (λ z. omega arith) ∙ sym (not_passed (covers eqb x (length x) q) (λ t.
      let u = ((covers_iff eqb x (length x) q).0 t).each end g in
      gap (length x) g u.start u.from (omega (arith, u.ends)) u.occurs u.to)))
      (eq-or-lt_of_le (omega (arith, w.bound, w.done)))
