-- What the contract comes to for a caller whose log is accepted. Assumes nothing.
use Rattle.std.proofs.Common.{Bool, true, false, cond, true≢false, ◌≡◌, refl, sym, ap, ◌∙◌, List, ◌↔◌, ℕ, arith, length}
use lib.ListN.{length-replicate}
use Rattle.words.specs.Refusals.{log_no}
use Rattle.words.specs.PlantFile.{ceiling_symbol}
use Rattle.words.proofs.Refusals.{answer_yes, log_judged}
use Rattle.ceilings.specs.declared.Ceiling.{Ceiling}
use Rattle.ceilings.specs.Ceilings.{held, ceiling_of, ceiling_answer}
use Rattle.ceilings.proofs.Meaning.{Held, held_meaning, held_else, flat, flat_held, flat_ceiling}

-- a test as a number
one_iff : (b : Bool) → (◌≡◌ {A = ℕ} (cond b 1 0) 1) ↔ (b ≡ true)
one_iff true = (λ _. refl, λ _. refl)
one_iff false = (λ e. absurd (omega arith), λ e. absurd (true≢false (sym e)))

zero_iff : (b : Bool) → (◌≡◌ {A = ℕ} (cond b 1 0) 0) ↔ (b ≡ false)
zero_iff true = (λ e. absurd (omega arith), λ e. absurd (true≢false e))
zero_iff false = (λ _. refl, λ _. refl)

module _ (x : List ℕ) {r : Ceiling} (e : r ≡ ceiling_answer x) (z : log_no (length x) ≡ 0) where
  is : r ≡ ceiling_of x
  unfolding ceiling_answer
  is = e ∙ answer_yes (log_no (length x)) (ceiling_of x) _ z

  held_is : r.held ≡ cond (held x) 1 0
  unfolding ceiling_of
  held_is = ap (λ (c : Ceiling). c.held) is

  pub answer_held : (r.held ≡ 1) ↔ Held x
  answer_held = rw held_is (λ a. (held_meaning x).0 ((one_iff (held x)).0 a), λ h. (one_iff (held x)).1 ((held_meaning x).1 h))

  pub answer_else : (r.held ≡ 0) ↔ (Held x → ⊥)
  answer_else = rw held_is (λ a. (held_else x).0 ((zero_iff (held x)).0 a), λ h. (zero_iff (held x)).1 ((held_else x).1 h))

-- the stuck head, for every n
pub flat_answer : (n : ℕ) {r : Ceiling} → r ≡ ceiling_answer (flat n) → log_no n ≡ 0 → r ≡ record { number = 0; held = 1; ceiling = n }
unfolding ceiling_of
flat_answer n e z =
    let l : length (flat n) ≡ n = length-replicate n ceiling_symbol in
    let h : held (flat n) ≡ true = flat_held ceiling_symbol n (log_judged n z).some in
    is (flat n) e (ap log_no l ∙ z) ∙ rw (h, flat_ceiling ceiling_symbol n)
