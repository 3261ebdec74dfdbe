-- Refusals: what an accepted call may rely on, and the two ways of an answer. Assumes nothing.
use mathlib.Core.Bool.{Bool, true, false, cond, ◌||◌}
use mathlib.Core.Path.{◌≡◌, refl, sym, ap, ◌∙◌}
use mathlib.Core.List.{List, [], ◌∷◌, map}
use Prim.Native.Nat.{ℕ, zero, suc, ◌+◌, ◌≤◌, ◌<◌, min}
use native.Mathlib.Nat.{not-suc-le-zero}
use native.Mathlib.Omega.{arith}
use lib.Dec.{eqb, ltb}
use lib.ListN.{length, get_or}
use borrow.Author.Tests.{eqb-false, ltb-false, ltb-true, le-ltb, eq-eqb, ne_eqb}
use Rattle.words.specs.Refusals.{Refusal, first_no, empty, long, fewer, longest, outside, table_no, log_no, prefix_no, cover_test_no, best_no, window_no}
use Rattle.words.specs.Answers.{accepted, answer, Lent, outcome}
use Rattle.words.proofs.Tests.{by_test}
use Rattle.words.proofs.Tables.{Room}

-- any two outcomes that a contract allows are equal: each call's contract gives its whole outcome as an equation
pub unique : {A : Type 0} {a b c : A} → a ≡ c → b ≡ c → a ≡ b
unique e d = e ∙ sym d

module _ {A : Type 0} where
  pub accepted_yes : (k : ℕ) (v r : A) → k ≡ 0 → accepted k v r ≡ v
  unfolding accepted
  accepted_yes k v r e = rw (eq-eqb k 0 e)

  pub accepted_no : (k : ℕ) (v r : A) → (k ≡ 0 → ⊥) → accepted k v r ≡ r
  unfolding accepted
  accepted_no k v r e = rw (ne_eqb k 0 e)

-- ---- the two ways of a call, over its number and what it answers on each

module _ {A : Type 0} (code : ℕ) (value : A) (refusal : ℕ → A) where
  pub answer_yes : code ≡ 0 → answer code value refusal ≡ value
  unfolding answer
  answer_yes z = accepted_yes code value (refusal code) z

  pub answer_no : (code ≡ 0 → ⊥) → answer code value refusal ≡ refusal code
  unfolding answer
  answer_no nz = accepted_no code value (refusal code) nz

  -- as the code of a call takes them: k is the number that it found
  pub refused : {k : ℕ} → k ≡ code → (k ≡ 0 → ⊥) → refusal k ≡ answer code value refusal
  refused e nz = ap refusal e ∙ sym (answer_no (λ z. nz (e ∙ z)))

  pub done : code ≡ 0 → {r : A} → r ≡ value → r ≡ answer code value refusal
  done z d = d ∙ sym (answer_yes z)

-- ---- the same of a call that is lent tables

module _ {A : Type 0} (code : ℕ) (value : A) (refusal : ℕ → A) (ts : List Lent) where
  pub left_alone : {k : ℕ} → k ≡ code → (k ≡ 0 → ⊥) → record { answer = refusal k; tables = map (λ t. t.before) ts } ≡ outcome code value refusal ts
  unfolding outcome
  left_alone e nz = refused code _ _ e nz

  pub written_to : code ≡ 0 → {r : A} {ls : List (List ℕ)} → r ≡ value → ls ≡ map (λ t. t.made) ts → record { answer = r; tables = ls } ≡ outcome code value refusal ts
  unfolding outcome
  written_to z d f = done code _ _ z (rw (d, f))

-- table by table
pub each : {t s : List ℕ} {ts ss : List (List ℕ)} → t ≡ s → ts ≡ ss → t ∷ ts ≡ s ∷ ss
each d e = rw (d, e)

-- ---- the tests of a log come first

module _ (n : ℕ) (ts : List Refusal) where
  -- one of them passed: that is the answer
  pub log_refused : (k : ℕ) → k ≡ log_no n → (k ≡ 0 → ⊥) → k ≡ first_no (empty n ∷ long n ∷ ts)
  unfolding log_no first_no
  log_refused k e nz = by_test (eqb n 0)
      (λ t. e ∙ simp t)
      (λ t. by_test (ltb longest n) (λ u. e ∙ simp (t, u)) (λ u. absurd (nz (e ∙ simp (t, u)))))

  -- none did: the rest decides
  pub log_passed : log_no n ≡ 0 → first_no ts ≡ first_no (empty n ∷ long n ∷ ts)
  unfolding log_no first_no
  log_passed e = by_test (eqb n 0)
      (λ t. absurd (omega (arith, simp t at e)))
      (λ t. by_test (ltb longest n) (λ u. absurd (omega (arith, simp (t, u) at e))) (λ u. simp (t, u)))

-- where the log is judged, the best pattern is refused exactly where Best is 0
pub best_passed : (n b : ℕ) → log_no n ≡ 0 → best_no n b ≡ cond (eqb b 0) 5 0
unfolding best_no first_no
best_passed n b z = sym (log_passed n ((eqb b 0, 5) ∷ []) z)

-- a test that passes, and one that fails
pub first_yes : (b : Bool) (k : ℕ) (ts : List Refusal) → b ≡ true → k ≡ first_no ((b, k) ∷ ts)
unfolding first_no
first_yes b k ts e = simp e

pub first_no_lem : (b : Bool) (k : ℕ) (ts : List Refusal) → b ≡ false → first_no ts ≡ first_no ((b, k) ∷ ts)
unfolding first_no
first_no_lem b k ts e = simp e

pub first_none : 0 ≡ first_no []
unfolding first_no
first_none = refl

-- of two tables the smaller decides
pub fewer_least : (a b : ℕ) (rs : List ℕ) (n : ℕ) → fewer (a ∷ b ∷ rs) n ≡ fewer (min a b ∷ rs) n
unfolding fewer
fewer_least a b rs n = by_test (ltb (min a b) n)
    (λ t. by_test (ltb a n)
    (λ u. simp (t, u))
    (λ u. by_test (ltb b n) (λ v. simp (t, u, v)) (λ v. absurd (omega (arith, ltb-true (min a b) n t, ltb-false a n u, ltb-false b n v)))))
    (λ t. let h = ltb-false (min a b) n t in simp (t, le-ltb a n (omega arith), le-ltb b n (omega arith)))

-- ---- no test passed

pub first_zero : (b : Bool) (k : ℕ) (ts : List Refusal) → 0 < k → first_no ((b, k) ∷ ts) ≡ 0 → (b ≡ false) × (first_no ts ≡ 0)
unfolding first_no
first_zero true k ts h e = absurd (omega arith)
first_zero false k ts h e = (refl, e)

or_false : (a b : Bool) → a || b ≡ false → (a ≡ false) × (b ≡ false)
or_false true b e = absurd (omega (arith, wrong e))
  where
    wrong : true ≡ false → ◌≡◌ {A = ℕ} 0 1
    wrong e = cc
or_false false b e = (refl, e)

fewer_none : (r : ℕ) (rs : List ℕ) (n : ℕ) → fewer (r ∷ rs) n ≡ false → (n ≤ r) × (fewer rs n ≡ false)
unfolding fewer
fewer_none r rs n e = let d = or_false (ltb r n) (fewer rs n) e in (ltb-false r n d.0, d.1)

-- each of the tables has room
pub room_at : (rs : List ℕ) (n : ℕ) → fewer rs n ≡ false → (k : ℕ) → k < length rs → n ≤ get_or rs k 0
room_at [] n e k h = absurd (not-suc-le-zero h)
room_at (r ∷ rs) n e zero h = (fewer_none r rs n e).0
room_at (r ∷ rs) n e (suc k) h = room_at rs n (fewer_none r rs n e).1 k (omega arith)

-- a log that is judged
pub record Judged (n : ℕ) : Type 0 where
  pub some : 0 < n
  pub most : n ≤ longest

judged : (n : ℕ) (ts : List Refusal) → first_no ((eqb n 0, 1) ∷ (ltb longest n, 2) ∷ ts) ≡ 0 → Judged n × (first_no ts ≡ 0)
judged n ts e =
    let a = first_zero (eqb n 0) 1 ((ltb longest n, 2) ∷ ts) (omega arith) e in
    let b = first_zero (ltb longest n) 2 ts (omega arith) a.1 in
    let z = eqb-false n 0 a.0 in
    (record { some = omega arith; most = ltb-false longest n b.0 }, b.1)

pub log_judged : (n : ℕ) → log_no n ≡ 0 → Judged n
unfolding log_no
log_judged n e = (judged n [] e).0

pub best_judged : (n b : ℕ) → best_no n b ≡ 0 → Judged n
unfolding best_no
best_judged n b e = (judged n _ e).0

module _ (n : ℕ) (rooms : List ℕ) (e : table_no n rooms ≡ 0) where
  pub table_judged : Judged n
  unfolding table_no
  table_judged = (judged n _ e).0

  pub table_room : fewer rooms n ≡ false
  unfolding table_no
  table_room = (first_zero (fewer rooms n) 4 [] (omega arith) (judged n _ e).1).0

-- as the code of a table call takes it: a log with readings, and room in the j-th of its tables
pub table_some : (x rs : List ℕ) {k : ℕ} → k ≡ table_no (length x) rs → k ≡ 0 → 0 < length x
table_some x rs e z = (table_judged (length x) rs (sym e ∙ z)).some

pub table_lent : (j : ℕ) (x t rs : List ℕ) {k : ℕ} → k ≡ table_no (length x) rs → k ≡ 0 → ltb j (length rs) ≡ true → get_or rs j 0 ≡ length t → Room x t
table_lent j x t rs e z h d = record {
  most = (table_judged (length x) rs (sym e ∙ z)).most;
  room = rw (← d) (room_at rs (length x) (table_room (length x) rs (sym e ∙ z)) j (ltb-true j (length rs) h));
}

inside_of : (n i : ℕ) → outside n i ≡ false → (0 < i) × (i ≤ n)
inside_of n i e =
    let d = or_false (eqb i 0) (ltb n i) e in
    let z = eqb-false i 0 d.0 in
    (omega arith, ltb-false n i d.1)

module _ (n i : ℕ) (e : prefix_no n i ≡ 0) where
  pub prefix_judged : Judged n
  unfolding prefix_no
  prefix_judged = (judged n _ e).0

  pub prefix_inside : (0 < i) × (i ≤ n)
  unfolding prefix_no
  prefix_inside = inside_of n i (first_zero (outside n i) 3 [] (omega arith) (judged n _ e).1).0

module _ (n i q : ℕ) (e : cover_test_no n i q ≡ 0) where
  pub cover_test_judged : Judged n
  unfolding cover_test_no
  cover_test_judged = (judged n _ e).0

  places_inside : (outside n i ≡ false) × (outside i q ≡ false)
  unfolding cover_test_no
  places_inside = or_false (outside n i) (outside i q) (first_zero (outside n i || outside i q) 3 [] (omega arith) (judged n _ e).1).0

  pub cover_test_inside : (0 < i) × (i ≤ n)
  cover_test_inside = inside_of n i places_inside.0

  pub cover_test_pattern : (0 < q) × (q ≤ i)
  cover_test_pattern = inside_of i q places_inside.1

module _ (n a m : ℕ) (rooms : List ℕ) (e : window_no n a m rooms ≡ 0) where
  pub window_judged : Judged n
  unfolding window_no
  window_judged = (judged n _ e).0

  after_place : ((0 < m) × (a + m ≤ n)) × (fewer rooms (a + m) ≡ false)
  unfolding window_no
  after_place =
      let p = first_zero (eqb m 0 || ltb n (a + m)) 3 _ (omega arith) (judged n _ e).1 in
      let d = or_false (eqb m 0) (ltb n (a + m)) p.0 in
      let z = eqb-false m 0 d.0 in
      ((omega arith, ltb-false n (a + m) d.1), (first_zero (fewer rooms (a + m)) 4 [] (omega arith) p.1).0)

  pub window_inside : (0 < m) × (a + m ≤ n)
  window_inside = after_place.0

  pub window_room : fewer rooms (a + m) ≡ false
  window_room = after_place.1
