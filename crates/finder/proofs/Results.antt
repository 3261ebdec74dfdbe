-- What the answers in Rust that `told` makes of a number and a value stand for in the document, and the number of each. Assumes nothing.
use Rattle.std.proofs.Common.{Bool, true, false, ◌≡◌, ◌∙◌, ap, List, [], ◌∷◌, ℕ, ◌≤◌, arith, eqb, ltb, length, Result, IfOk}
use Rattle.words.specs.declared.Part.{Part}
use Rattle.words.specs.declared.Breakdown.{Breakdown}
use Rattle.words.specs.declared.Weighed.{Weighed}
use Rattle.words.specs.Words as W
use Rattle.words.specs.Refusals.{Refusal, longest, outside, first_no, log_no, prefix_no}
use Rattle.words.specs.Answers as A
use Rattle.words.proofs.Breakdowns.{normal_len}
use Rattle.ceilings.specs.declared.Ceiling.{Ceiling}
use Rattle.ceilings.specs.Ceilings as C
use Rattle.refusals.specs.declared.Refusal as Why
use Rattle.refusals.specs.Numbers.{number_of, number, refusal_of, told}
use Rattle.refusals.proofs.Numbers.{told_stands, told_number, told_value, number_back}
use Rattle.finder.specs.Told.{normal_of, weighed_of, breakdown_of, ceiling_of}

first_most : (b : Bool) (k : ℕ) (ts : List Refusal) → k ≤ 3 → first_no ts ≤ 3 → first_no ((b, k) ∷ ts) ≤ 3
unfolding first_no
first_most true k ts h l = h
first_most false k ts h l = l

none_most : first_no [] ≤ 3
unfolding first_no
none_most = omega arith

log_most : (n : ℕ) → log_no n ≤ 3
unfolding log_no
log_most n = first_most (eqb n 0) 1 _ (omega arith) (first_most (ltb longest n) 2 [] (omega arith) none_most)

prefix_most : (n i : ℕ) → prefix_no n i ≤ 3
unfolding prefix_no
prefix_most n i = first_most (eqb n 0) 1 _ (omega arith) (first_most (ltb longest n) 2 _ (omega arith) (first_most (outside n i) 3 [] (omega arith) none_most))

module _ (x : List ℕ) (i : ℕ) where
  pub normal_told : (r : Result Part Why.Refusal) → r ≡ told (prefix_no (length x) i) (W.normal eqb x i) → normal_of r ≡ A.normal_answer x i
  unfolding A.normal_answer
  normal_told r e = ap normal_of e ∙ told_stands _ _ _ _ (prefix_most (length x) i)

  pub normal_length : (r : Result Part Why.Refusal) → r ≡ told (prefix_no (length x) i) (W.normal eqb x i) → IfOk r (λ p. p.len ≡ i)
  normal_length r e = rw e (told_value (W.normal eqb x i) (λ p. p.len ≡ i) (normal_len eqb x i) (prefix_no (length x) i))

  pub weighed_told : (r : Result Weighed Why.Refusal) → r ≡ told (prefix_no (length x) i) (A.listed 0 (W.weighed eqb x i) (W.limit i)) → weighed_of r ≡ A.weighed_answer x i
  unfolding A.weighed_answer
  weighed_told r e = ap weighed_of e ∙ told_stands _ _ _ _ (prefix_most (length x) i)

module _ (x : List ℕ) where
  pub breakdown_told : (r : Result Breakdown Why.Refusal) → r ≡ told (log_no (length x)) (A.broken 0 (W.breakdown eqb x A.breakdown_places (length x))) → breakdown_of r ≡ A.breakdown_answer x
  unfolding A.breakdown_answer
  breakdown_told r e = ap breakdown_of e ∙ told_stands _ _ _ _ (log_most (length x))

  pub ceiling_told : (r : Result Ceiling Why.Refusal) → r ≡ told (log_no (length x)) (C.ceiling_of x) → ceiling_of r ≡ C.ceiling_answer x
  unfolding C.ceiling_answer
  ceiling_told r e = ap ceiling_of e ∙ told_stands _ _ _ _ (log_most (length x))

-- the number of each: that of the call
module _ {V : Type 0} (v : V) (r : Result V Why.Refusal) where
  pub prefix_told : (n i : ℕ) → r ≡ told (prefix_no n i) v → number r ≡ prefix_no n i
  prefix_told n i e = ap number e ∙ told_number v _ (prefix_most n i)

  pub log_told : (n : ℕ) → r ≡ told (log_no n) v → number r ≡ log_no n
  log_told n e = ap number e ∙ told_number v _ (log_most n)

-- the refusal that a call's number stands for has that number
pub log_back : (n : ℕ) → (log_no n ≡ 0 → ⊥) → number_of (refusal_of (log_no n)) ≡ log_no n
log_back n = number_back _ (log_most n)

pub prefix_back : (n i : ℕ) → (prefix_no n i ≡ 0 → ⊥) → number_of (refusal_of (prefix_no n i)) ≡ prefix_no n i
prefix_back n i = number_back _ (prefix_most n i)
