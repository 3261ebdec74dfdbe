-- Where the pattern starts: the test that the code makes, part against part. Each premise stands as the code's tests give it. Assumes nothing.
use Rattle.std.proofs.Common.{Bool, ◌≡◌, sym, ◌∙◌, List, ℕ, ◌+◌, ◌-◌, ◌≤◌, ◌<◌, arith, leb, length, take, drop}
use Rattle.std.proofs.lemmas.Bool.{lt-leb, le-leb}
use Rattle.std.proofs.lemmas.Slice.Eq.{bytes_eq-Decides}
use Rattle.std.specs.Str.{bytes_eq}
use Rattle.words.proofs.Tests.{both_ways}
use Rattle.words.proofs.Occurrences.{occurs_part}
use Rattle.marks.specs.Marks.{starts}

module _ (x : List ℕ) (q p : ℕ) (i : p < length x) where
  pub past_end : length x - p < q → leb q (length x - p) ≡ starts x q p
  unfolding starts
  past_end h = rw (lt-leb q (length x - p) h, lt-leb (p + q) (length x) (omega arith))

  pub in_log : {b : Bool} → q ≤ length x - p → b ≡ bytes_eq (take q x) (take (p + q - p) (drop p x)) → b ≡ starts x q p
  unfolding starts
  in_log h e =
      let part = occurs_part x q p (omega arith) in
      let same = bytes_eq-Decides (take q x) (take q (drop p x)) in
      let z : p + q - p ≡ q = omega arith in
      rw (le-leb (p + q) (length x) (omega arith)) (rw z at e ∙ both_ways _ _ (λ t. part.1 (sym (same.0 t))) (λ o. same.1 (sym (part.0 o))))

pub ruleset tested = (past_end, in_log)
