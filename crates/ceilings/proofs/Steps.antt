-- What each way through the functions comes to, on plain lists and numbers. Assumes nothing.
use Rattle.std.proofs.Common.{Bool, true, false, cond, ◌≡◌, refl, sym, ap, ◌∙◌, List, zero, suc, add-one, ◌↔◌, IsTrue, EachIndex, slice_index, count_by, ◌==◌, eqb-true, ℕ, ◌+◌, ◌-◌, ◌≤◌, ◌<◌, arith, length, take, drop, length-drop, take_all, eq-eqb, w16, Fits}
use mir.Val.{bool_byte}
use Rattle.words.specs.Search.{how_many}
use Rattle.words.specs.Refusals.{longest}
use Rattle.words.specs.PlantFile.{ceiling_symbol}
use Rattle.words.proofs.Tests.{by_test, both_ways}
use Rattle.std.proofs.lemmas.List.Sums.{count_by_more_yes, count_by_more_no}
use Rattle.words.proofs.Search.{at_all, all_at, how_many_zero, how_many_hit, how_many_miss, how_many_le}
use Rattle.ceilings.specs.Ceilings as C

-- ---- `count` and `stuck`: over the readings, as over their places

module _ (x : List ℕ) where
  counted : (n : ℕ) → n ≤ length x → count_by (λ s. s == ceiling_symbol) (take n x) ≡ how_many (C.at_ceiling x) n
  counted zero h = sym (how_many_zero (C.at_ceiling x))
  counted (suc n) h =
      let ih = counted n (omega arith) in
      let l : n < length x = h in
      rw (← add-one n) (by_test (C.at_ceiling x n)
      (λ t. count_by_more_yes (λ s. s == ceiling_symbol) x n 0 l t ∙ ap (λ (k : ℕ). k + 1) ih ∙ sym (how_many_hit (C.at_ceiling x) n t))
      (λ t. count_by_more_no (λ s. s == ceiling_symbol) x n 0 l t ∙ ih ∙ sym (how_many_miss (C.at_ceiling x) n t)))

  pub ceiling_counted : (n : ℕ) → length x ≤ n → count_by (λ s. s == ceiling_symbol) (take n x) ≡ C.ceiling x
  unfolding C.ceiling
  ceiling_counted n h = ap (count_by (λ s. s == ceiling_symbol)) (take_all n x h ∙ sym (take_all (length x) x (omega arith))) ∙ counted (length x) (omega arith)

  pub stuck_each : {b : Bool} → IsTrue b ↔ EachIndex x (λ k. slice_index x k ≡ ceiling_symbol) → b ≡ C.stuck x
  unfolding C.stuck
  stuck_each {b} e =
      both_ways b (C.stuck x) (λ t. at_all (C.at_ceiling x) (length x) (λ k l. eq-eqb _ _ (e.0 t k l))) (λ t. e.1 (λ k l. eqb-true _ _ (all_at (C.at_ceiling x) (length x) t k l)))

-- ---- `latest`

pub latest_rest : (x : List ℕ) (k : ℕ) → k ≡ length x - C.recent → take (length x - k) (drop k x) ≡ C.latest x
unfolding C.latest
latest_rest x k e = rw e (take_all (length x - (length x - C.recent)) (drop (length x - C.recent) x) (simp length-drop (omega arith)))

pub latest_few : (x : List ℕ) → length x < C.recent → x ≡ C.latest x
unfolding C.latest
latest_few x h =
    let z : length x - C.recent ≡ 0 = omega arith in
    rw z

-- ---- `of`

-- a test as a number
byte_cond : (b : Bool) → bool_byte b ≡ cond b 1 0
byte_cond true = refl
byte_cond false = refl

module _ (x : List ℕ) where
  pub ceiling_fits : {k : ℕ} → length x ≤ longest → k ≡ C.ceiling x → Fits w16 k
  unfolding C.ceiling
  ceiling_fits h e = omega (arith, how_many_le (C.at_ceiling x) (length x))

  pub of_is : {y : List ℕ} {b : Bool} {h k : ℕ} → y ≡ C.latest x → b ≡ C.stuck y → h ≡ bool_byte b → k ≡ C.ceiling x
      → record { number = 0; held = h; ceiling = k } ≡ C.ceiling_of x
  unfolding C.ceiling_of C.held
  of_is part e d c = rw (d, e, part, c, byte_cond (C.stuck (C.latest x)))
