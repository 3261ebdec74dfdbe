-- The best pattern's number, its length and the part are one answer: what is read off it. Assumes nothing.
use Rattle.std.proofs.Common.{◌≡◌, refl, sym, ap, ◌∙◌, List, [], ⊎_elim, ℕ, ◌≤◌, ◌<◌, eq-zero-or-pos, arith, eqb, length, take, length-take-le, Result, Ok, Err}
use Rattle.std.specs.Result.{result_unwrap_or}
use Rattle.words.specs.declared.Pattern.{Pattern}
use Rattle.words.specs.Words as W
use Rattle.words.specs.Answers as A
use Rattle.words.proofs.Refusals.{accepted_yes, accepted_no, answer_yes, answer_no, best_judged}
use Rattle.words.proofs.Bests.{best_lt}
use Rattle.refusals.specs.declared.Refusal.{Refusal}
use Rattle.refusals.specs.Numbers.{number}
use Rattle.finder.specs.Told.{pattern_of}

module _ (x : List ℕ) {p : Pattern} (e : p ≡ A.pattern_answer x) where
  -- what holds of a pattern that is there and of one that is refused
  by_number : (P : Pattern → Type 0)
      → (A.best_pattern_no x ≡ 0 → P (record { number = 0; len = W.best eqb x (length x) }))
      → ((A.best_pattern_no x ≡ 0 → ⊥) → P (record { number = A.best_pattern_no x; len = 0 })) → P p
  unfolding A.pattern_answer
  by_number P there none =
      let refusal : ℕ → Pattern = λ k. record { number = k; len = 0 } in rw e (⊎_elim
      (λ (z : A.best_pattern_no x ≡ 0). rw (answer_yes (A.best_pattern_no x) (record { number = 0; len = W.best eqb x (length x) }) refusal z) (there z))
      (λ (h : 0 < A.best_pattern_no x). rw (answer_no (A.best_pattern_no x) (record { number = 0; len = W.best eqb x (length x) }) refusal (λ z. omega arith)) (none (λ z. omega arith)))
      (eq-zero-or-pos (A.best_pattern_no x)))

  pub pattern_number : p.number ≡ A.best_pattern_no x
  pattern_number = by_number (λ q. q.number ≡ A.best_pattern_no x) (λ z. sym z) (λ nz. refl)

  pub pattern_within : p.len ≤ length x
  unfolding A.best_pattern_no
  pattern_within = by_number (λ q. q.len ≤ length x) (λ z. omega (arith, best_lt eqb x (length x) (best_judged (length x) _ z).some)) (λ nz. omega arith)

  pub pattern_part : take p.len x ≡ A.best_pattern_part x
  unfolding A.best_pattern_part W.best_pattern
  pattern_part = by_number (λ q. take q.len x ≡ A.accepted (A.best_pattern_no x) (take (W.best eqb x (length x)) x) [])
      (λ z. sym (accepted_yes _ _ [] z))
      (λ nz. sym (accepted_no _ (take (W.best eqb x (length x)) x) [] nz))

  pub pattern_length : p.len ≡ length (A.best_pattern_part x)
  pattern_length = sym (length-take-le p.len x pattern_within) ∙ ap length pattern_part

-- ---- the same, read off the answer in Rust

length_told : (r : Result ℕ Refusal) → result_unwrap_or r 0 ≡ (pattern_of r).len
length_told (Ok n) = refl
length_told (Err k) = refl

number_told : (r : Result ℕ Refusal) → number r ≡ (pattern_of r).number
number_told (Ok n) = refl
number_told (Err k) = refl

module _ (x : List ℕ) (r : Result ℕ Refusal) (e : pattern_of r ≡ A.pattern_answer x) where
  pub pattern_no : number r ≡ A.best_pattern_no x
  pattern_no = number_told r ∙ pattern_number x e

  pub part_length : result_unwrap_or r 0 ≡ length (A.best_pattern_part x)
  part_length = length_told r ∙ pattern_length x e

  -- `best_pattern`: the part, as the code cuts it
  pub pattern_cut : take (result_unwrap_or r 0) x ≡ A.best_pattern_part x
  pattern_cut = rw (length_told r) (pattern_part x e)

  pub cut_length : result_unwrap_or r 0 ≡ length (take (result_unwrap_or r 0) x)
  cut_length = rw (length_told r) (sym (length-take-le (pattern_of r).len x (pattern_within x e)))

  -- it lies within the log
  pub cut_within : result_unwrap_or r 0 ≤ length x
  cut_within = rw (length_told r) (pattern_within x e)
