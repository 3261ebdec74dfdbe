-- A refusal's number is its own and never 0: the document's answer tells which answer in Rust it stands for. Assumes nothing.
use Rattle.std.proofs.Common.{◌≡◌, ℕ, zero, suc, ◌≤◌, arith, Result, Ok, Err, IfOk, refl, sym, ap, ◌∙◌, ne_eqb}
use Rattle.refusals.specs.declared.Refusal.{Refusal}
use Rattle.refusals.specs.declared.Refusal.TheVariants.{Empty, Long, Place, Short, NoPattern, Version, File, Symbol}
use Rattle.words.specs.Answers.{accepted, answer}
use Rattle.refusals.specs.Numbers.{number_of, number, stands_for, refusal_of, told}

pub some_number : (r : Refusal) → number_of r ≡ 0 → ⊥
some_number Empty e = cc
some_number Long e = cc
some_number Place e = cc
some_number Short e = cc
some_number NoPattern e = cc
some_number Version e = cc
some_number File e = cc
some_number Symbol e = cc

pub known : (r : Refusal) → refusal_of (number_of r) ≡ r
unfolding refusal_of
known Empty = refl
known Long = refl
known Place = refl
known Short = refl
known NoPattern = refl
known Version = refl
known File = refl
known Symbol = refl

pub one_refusal : {r s : Refusal} → number_of r ≡ number_of s → r ≡ s
one_refusal {r} {s} e = sym (known r) ∙ ap refusal_of e ∙ known s

-- where the document's answer shows its number and the value, it is that of one answer in Rust alone
module _ {A B : Type 0} (made : A → B) (refusal : ℕ → B) (code : B → ℕ)
    (taken : (v : A) → code (made v) ≡ 0) (refused : (k : ℕ) → code (refusal k) ≡ k) (one : (v w : A) → made v ≡ made w → v ≡ w) where
  pub stands_for_one : (r s : Result A Refusal) → stands_for made refusal r ≡ stands_for made refusal s → r ≡ s
  stands_for_one (Ok v) (Ok w) e = ap Ok (one v w e)
  stands_for_one (Ok v) (Err t) e = absurd (some_number t (sym (refused (number_of t)) ∙ sym (ap code e) ∙ taken v))
  stands_for_one (Err t) (Ok w) e = absurd (some_number t (sym (refused (number_of t)) ∙ ap code e ∙ taken w))
  stands_for_one (Err t) (Err u) e = ap Err (one_refusal (sym (refused (number_of t)) ∙ ap code e ∙ refused (number_of u)))

-- ---- `told`, where the call's number is one of 0 to 3: what it stands for in the document, and its number

pub number_back : (k : ℕ) → k ≤ 3 → (k ≡ 0 → ⊥) → number_of (refusal_of k) ≡ k
unfolding refusal_of
number_back zero h nz = absurd (nz refl)
number_back (suc zero) h nz = refl
number_back (suc (suc zero)) h nz = refl
number_back (suc (suc (suc zero))) h nz = refl
number_back (suc (suc (suc (suc k)))) h nz = absurd (omega arith)

pub told_stands : {A B : Type 0} (made : A → B) (refusal : ℕ → B) (v : A) (k : ℕ) → k ≤ 3 → stands_for made refusal (told k v) ≡ answer k (made v) refusal
unfolding told accepted answer
told_stands made refusal v zero h = refl
told_stands made refusal v (suc k) h = rw (ne_eqb (suc k) 0 (λ z. omega arith)) (ap refusal (number_back (suc k) h (λ z. omega arith)))

pub told_number : {A : Type 0} (v : A) (k : ℕ) → k ≤ 3 → number (told k v) ≡ k
unfolding told
told_number v zero h = refl
told_number v (suc k) h = rw (ne_eqb (suc k) 0 (λ z. omega arith)) (number_back (suc k) h (λ z. omega arith))

-- what is said of the value is said of the answer
pub told_value : {A : Type 0} (v : A) (P : A → Type 0) → P v → (k : ℕ) → IfOk (told k v) P
unfolding told
told_value v P p zero = p
told_value v P p (suc k) = rw (ne_eqb (suc k) 0 (λ z. omega arith)) tt
