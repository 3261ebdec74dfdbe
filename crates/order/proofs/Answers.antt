-- On an accepted log the cover test answers Yes exactly where the prefix is there and the pattern covers it. Assumes nothing.
use Rattle.std.proofs.Common.{Bool, true, false, cond, true≢false, ◌||◌, ◌≡◌, sym, ap, ◌∙◌, List, [], ◌∷◌, ℕ, ◌≤◌, ◌<◌, arith, eqb, length, eqb-true, ne_eqb, le-ltb}
use Rattle.words.specs.Answers.{CoverTest, Yes, No, Refused}
use Rattle.words.specs.Refusals.{log_no, cover_test_no, outside, place}
use Rattle.words.specs.Answers.{answer, accepted, cover_test_answer}
use Rattle.words.proofs.Tests.{by_test}
use Rattle.words.proofs.Covers.{Covers, covers_iff}
use Rattle.words.proofs.Refusals.{answer_yes, log_passed, first_no_lem, first_none, cover_test_inside}

is_yes : CoverTest → Bool
is_yes Yes = true
is_yes No = false
is_yes (Refused k) = false

-- a Yes is no refusal and no No
yes_only : (k : ℕ) (b : Bool) → answer k (cond b Yes No) Refused ≡ Yes → (k ≡ 0) × (b ≡ true)
unfolding answer accepted is_yes
yes_only k b y = by_test (eqb k 0)
    (λ t. (eqb-true k 0 t, by_test b (λ s. s) (λ s. absurd (true≢false (sym (ap is_yes (rw (t, s) at y)))))))
    (λ t. absurd (true≢false (sym (ap is_yes (rw t at y)))))

module _ (x : List ℕ) (i q : ℕ) where
  -- no test of the call's passes
  passed : log_no (length x) ≡ 0 → 0 < i → i ≤ length x → 0 < q → q ≤ i → cover_test_no (length x) i q ≡ 0
  unfolding cover_test_no
  passed z a b c d =
      let e : outside (length x) i || outside i q ≡ false = simp (ne_eqb i 0 (λ y. omega arith), le-ltb (length x) i b, ne_eqb q 0 (λ y. omega arith), le-ltb i q d) in
      sym (first_none ∙ first_no_lem _ 3 [] e ∙ log_passed (length x) (place (outside (length x) i || outside i q) ∷ []) z)

  pub yes_covers : cover_test_answer x i q ≡ Yes → (i ≤ length x) × Covers eqb x i q
  unfolding cover_test_answer
  yes_covers y = let s = yes_only _ _ y in ((cover_test_inside (length x) i q s.0).1, (covers_iff eqb x i q).0 s.1)

  pub covers_yes : log_no (length x) ≡ 0 → i ≤ length x → Covers eqb x i q → cover_test_answer x i q ≡ Yes
  unfolding cover_test_answer
  covers_yes z h c =
      answer_yes _ _ Refused (passed z (omega (arith, c.some, c.most)) h c.some c.most) ∙ rw ((covers_iff eqb x i q).1 c)
