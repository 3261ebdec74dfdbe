-- What an accepted call hands to floor 2: a log that is judged, tables with room, and the first readings of a log as a log of their own. Assumes nothing.
use Rattle.std.proofs.Common.{◌≡◌, refl, sym, ap, ◌∙◌, List, [], ◌∷◌, ℕ, ◌+◌, ◌≤◌, ◌<◌, arith, eqb, length, take, length-take-le, w16, Fits}
use Rattle.words.specs.Words as W
use Rattle.words.specs.Refusals.{longest, table_no, log_no, prefix_no, cover_test_no, best_no, window_no}
use Rattle.words.specs.Answers as A
use Rattle.words.proofs.Tables.{Room}
use Rattle.words.proofs.Refusals.{Judged, log_judged, log_refused, table_judged, table_lent, room_at, prefix_judged, prefix_inside, cover_test_judged, cover_test_inside, cover_test_pattern, window_judged, window_inside, window_room}
use Rattle.words.proofs.Locality.{take_alike, normal_local, covers_local, weighed_local}
use Rattle.words.proofs.Breakdowns.{normal_len}
use Rattle.words.proofs.CoverLists.{cover_list_le}
use Rattle.refusals.proofs.Numbers.{some_number, known}
use Rattle.windowed.specs.Within.{Within}
use Rattle.finder.proofs.Patterns.{pattern_cut, cut_length, cut_within}

-- ---- the lent tables

pub room_lent : (x t : List ℕ) → table_no (length x) (length t ∷ []) ≡ 0 → Room x t
room_lent x t z = table_lent 0 x t _ (sym z) refl refl refl

pub rooms_lent : (x b c : List ℕ) → table_no (length x) (length b ∷ length c ∷ []) ≡ 0 → Room x b × Room x c
rooms_lent x b c z = (table_lent 0 x b _ (sym z) refl refl refl, table_lent 1 x c _ (sym z) refl refl refl)

pub list_lent : (x t : List ℕ) → table_no (length x) (length t ∷ []) ≡ 0 → Room x t × (0 < length x)
list_lent x t z = (room_lent x t z, (table_judged (length x) _ z).some)

-- the list of covers has no more entries than a table's number can say
pub list_fits : (x t : List ℕ) {n : ℕ} → table_no (length x) (length t ∷ []) ≡ 0 → n ≡ length (W.cover_list eqb x) → Fits w16 n
list_fits x t z d = omega (arith, cover_list_le eqb x, (table_judged (length x) _ z).most)

pub window_lent : (x : List ℕ) (a m : ℕ) (b p c e k : List ℕ) → window_no (length x) a m (length b ∷ length p ∷ length c ∷ length e ∷ length k ∷ []) ≡ 0 → Within x a m b p c e k
window_lent x a m b p c e k z =
    let room = room_at _ (a + m) (window_room (length x) a m _ z) in record {
      most = (window_judged (length x) a m _ z).most;
      inside = (window_inside (length x) a m _ z).1;
      borders = room 0 (omega arith);
      prefixes = room 1 (omega arith);
      covers = room 2 (omega arith);
      bests = room 3 (omega arith);
      counts = room 4 (omega arith);
    }

-- ---- the whole log

pub log_short : (x : List ℕ) → log_no (length x) ≡ 0 → length x ≤ longest
log_short x z = (log_judged (length x) z).most

-- where the log is refused, so is the pattern
pub log_first : (n b : ℕ) → (log_no n ≡ 0 → ⊥) → best_no n b ≡ log_no n
unfolding best_no
log_first n b nz = sym (log_refused n _ (log_no n) refl nz)

-- ---- one prefix: the first i readings

front_lent : (x : List ℕ) (i : ℕ) → 0 < i → i ≤ length x → Judged (length x) → Judged (length (take i x))
front_lent x i s h j = let d = length-take-le i x h in record { some = omega arith; most = omega (arith, j.most) }

module _ (x : List ℕ) (i : ℕ) (z : prefix_no (length x) i ≡ 0) where
  within : i ≤ length x
  within = (prefix_inside (length x) i z).1

  pub front_length : i ≡ length (take i x)
  front_length = sym (length-take-le i x within)

  pub front_judged : Judged (length (take i x))
  front_judged = front_lent x i (prefix_inside (length x) i z).0 within (prefix_judged (length x) i z)

  pub front_normal : W.normal eqb (take i x) (length (take i x)) ≡ W.normal eqb x i
  front_normal = ap (W.normal eqb (take i x)) (sym front_length) ∙ normal_local eqb (take i x) x i (take_alike i x) i (omega arith)

  pub front_weighed : A.listed 0 (W.weighed eqb (take i x) (length (take i x))) (W.limit (length (take i x))) ≡ A.listed 0 (W.weighed eqb x i) (W.limit i)
  front_weighed =
      ap (λ (n : ℕ). A.listed 0 (W.weighed eqb (take i x) n) (W.limit n)) (sym front_length)
      ∙ ap (λ (l : List ℕ). A.listed 0 l (W.limit i)) (weighed_local eqb (take i x) x i (take_alike i x) i (omega arith))

module _ (x : List ℕ) (i q : ℕ) (z : cover_test_no (length x) i q ≡ 0) where
  test_within : i ≤ length x
  test_within = (cover_test_inside (length x) i q z).1

  pub test_length : i ≡ length (take i x)
  test_length = sym (length-take-le i x test_within)

  pub test_lent : Judged (length (take i x)) × (0 < q) × (q ≤ length (take i x))
  test_lent =
      let h = cover_test_pattern (length x) i q z in
      (front_lent x i (cover_test_inside (length x) i q z).0 test_within (cover_test_judged (length x) i q z), h.0, omega (arith, test_length))

  pub test_front : W.covers eqb (take i x) (length (take i x)) q ≡ W.covers eqb x i q
  test_front = ap (λ (n : ℕ). W.covers eqb (take i x) n q) (sym test_length) ∙ covers_local eqb (take i x) x i (take_alike i x) i (omega arith) q

-- ---- all of these, and what is read off the best pattern: with them the check proves every call by itself

pub ruleset accepted = (room_lent, rooms_lent, list_lent, list_fits, window_lent, log_judged, log_short, log_first, front_length, front_judged, front_normal, front_weighed, normal_len, test_length, test_lent, test_front, pattern_cut, cut_length, cut_within, some_number, known)
