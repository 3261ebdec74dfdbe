-- What the order is claimed of is what the calls answer: their contracts, as the checker reads them off the code. Assumes nothing.
use Rattle.std.proofs.Common.{◌≡◌, [], ◌∷◌, ℕ, Bool, true, false, Result, Ok, Err, refl}
use contract.Lifetimes.{Lfts}
use Rattle.words.specs.Answers.{Yes}
use Rattle.words.specs.Answers.{cover_test_answer, cover_list_outcome}
use Rattle.refusals.specs.declared.Refusal.{Refusal}
use Rattle.finder.specs.Told.{test_of, listed_of}
use Rattle.finder.proofs.cover_test.Reads as cover_test
use Rattle.finder.proofs.cover_list.Reads as cover_list

pub test_answer : (κs : Lfts 1) (x : _) (i q : ℕ) (r : Result Bool Refusal) (e : _) → cover_test.Learnt κs (x, (i, (q, tt))) r e → test_of r ≡ cover_test_answer x.now i q
test_answer κs x i q r e l = l

pub list_outcome : (κs : Lfts 2) (x t : _) (r : Result ℕ Refusal) (e : _) → cover_list.Learnt κs (x, (t, tt)) r e
    → record { answer = listed_of r; tables = e.1.0.now ∷ [] } ≡ cover_list_outcome x.now t.now
list_outcome κs x t r e l = l

-- the document's Yes is the answer Ok(true), and no other
pub yes_answer : (r : Result Bool Refusal) → test_of r ≡ Yes → r ≡ Ok true
yes_answer (Ok true) e = refl
yes_answer (Ok false) e = cc
yes_answer (Err k) e = cc
