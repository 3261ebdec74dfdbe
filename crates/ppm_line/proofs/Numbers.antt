-- What `says` means in plain words: blanks, then digits, then blanks say the number that the digits spell, or that they are too many. Assumes nothing.
use mathlib.Core.Bool.{true, false, cond, true≢false}
use mathlib.Core.Path.{◌≡◌, refl, sym, ◌∙◌}
use mathlib.Core.List.{List, [], ◌∷◌, ◌++◌}
use Prim.Native.Nat.{ℕ, suc, ◌+◌, ◌-◌, ◌*◌, ◌^◌, ◌≤◌, ◌<◌, min}
use native.Mathlib.Omega.{arith}
use native.Mathlib.Nat.{mod-eq_of_lt, pow-suc, pow-le-pow_right}
use lib.Dec.{eqb, leb, lit<}
use lib.ListN.{length}
use borrow.Author.Tests.{leb-true, leb-false, le-leb, lt-leb, ne_eqb}
use Rattle.words.proofs.Tests.{by_test, not_passed, and_left, and_right}
use Rattle.ppm_line.specs.declared.Number.{Number}
use Rattle.std.specs.Prelude.{Some, None, Ok, Err}
use Rattle.ppm_line.specs.declared.LineFault.TheVariants.{LongNumber}
use Rattle.ppm_line.specs.Lines.{blank, digit, mark, blanks, no_digits, longer, of_number, after_number, after_digits, says, digits, spelt}

-- the digits as the code keeps them
unfoldable kept : Number → List ℕ → Number
kept n [] = n
kept n (b ∷ t) = kept (longer n b) t

-- a byte is at most one of the three
module _ (b : ℕ) (d : digit b ≡ true) where
  from_48 : 48 ≤ b
  unfolding digit
  from_48 = leb-true 48 b (and_left _ _ d)

  to_57 : b ≤ 57
  unfolding digit
  to_57 = leb-true b 57 (and_right (leb 48 b) _ d)

  not_blank : blank b ≡ false
  unfolding blank
  not_blank =
      let l = from_48 in
      rw (ne_eqb b 32 (λ e. omega arith), ne_eqb b 9 (λ e. omega arith), ne_eqb b 13 (λ e. omega arith))

  not_mark : eqb b mark ≡ false
  not_mark = let l = from_48 in ne_eqb b mark (λ e. omega arith)

not_digit : (b : ℕ) → blank b ≡ true → digit b ≡ false
not_digit b h = not_passed (digit b) (λ d. true≢false (sym h ∙ not_blank b d))

-- blanks in front, digits, blanks behind
says_blanks : (before t : List ℕ) → blanks before ≡ true → says (before ++ t) ≡ says t
unfolding says blanks
says_blanks [] t h = refl
says_blanks (b ∷ before) t h = rw (and_left (blank b) _ h) (says_blanks before t (and_right (blank b) _ h))

more_digits : (n : Number) (ds t : List ℕ) → digits ds ≡ true → after_digits n (ds ++ t) ≡ after_digits (kept n ds) t
unfolding after_digits digits kept
more_digits n [] t h = refl
more_digits n (b ∷ ds) t h = rw (and_left (digit b) _ h) (more_digits (longer n b) ds t (and_right (digit b) _ h))

first_of : (b : ℕ) (ds : List ℕ) → digits (b ∷ ds) ≡ true → digit b ≡ true
unfolding digits
first_of b ds h = and_left (digit b) (digits ds) h

first_blank : (b : ℕ) (t : List ℕ) → blanks (b ∷ t) ≡ true → blank b ≡ true
unfolding blanks
first_blank b t h = and_left (blank b) (blanks t) h

blanks_behind : (n : Number) (t : List ℕ) → blanks t ≡ true → after_digits n t ≡ of_number n
unfolding after_digits after_number
blanks_behind n [] h = refl
blanks_behind n (b ∷ t) h = rw (not_digit b (first_blank b t h), h)

-- what is kept of the digits
kept_count : (n : Number) (ds : List ℕ) → n.digits ≤ 7 → (kept n ds).digits ≡ min (n.digits + length ds) 7
unfolding longer kept
kept_count n [] h = omega arith
kept_count n (b ∷ ds) h = kept_count (longer n b) ds (omega arith) ∙ omega arith

record Exact (n : Number) (v : ℕ) : Type 0 where
  pub is : n.ppm ≡ v
  pub below : v < 10 ^ n.digits

longer_exact : (n : Number) (v b : ℕ) → Exact n v → digit b ≡ true → n.digits < 6 → Exact (longer n b) (v * 10 + (b - 48))
unfolding longer
longer_exact n v b e d h =
    let d₁ : min (n.digits + 1) 7 ≡ suc n.digits = omega arith in
    let k : n.digits ≤ 5 = omega arith in
    let p : 10 ^ n.digits ≤ 10 ^ 5 = pow-le-pow_right (lit< tt) k in
    let l : n.ppm < 100000 = omega (arith, e.is, e.below) in
    record {
      is = rw (mod-eq_of_lt l, e.is);
      below = rw (d₁, pow-suc) (omega (arith, e.below, to_57 b d));
    }

longer_count : (n : Number) (b k : ℕ) → n.digits + suc k ≤ 6 → (longer n b).digits + k ≤ 6
unfolding longer
longer_count n b k l = omega arith

kept_exact : (n : Number) (v : ℕ) (ds : List ℕ) → Exact n v → digits ds ≡ true → n.digits + length ds ≤ 6 → (kept n ds).ppm ≡ spelt v ds
unfolding digits spelt kept
kept_exact n v [] e h l = e.is
kept_exact n v (b ∷ ds) e h l =
    kept_exact (longer n b) (v * 10 + (b - 48)) ds
    (longer_exact n v b e (and_left (digit b) _ h) (omega arith))
    (and_right (digit b) _ h)
    (longer_count n b (length ds) l)

-- Blanks, then digits, then blanks say the number that the digits spell, where they are at most six; more are too many
first_digit_said : (b : ℕ) (t : List ℕ) → digit b ≡ true → says (b ∷ t) ≡ after_digits no_digits (b ∷ t)
unfolding says after_digits
first_digit_said b t d = rw (not_blank b d, not_mark b d, d)

number_kept : (ds : List ℕ) → digits ds ≡ true → of_number (kept no_digits ds) ≡ cond (leb (length ds) 6) (Ok (Some (spelt 0 ds))) (Err LongNumber)
unfolding of_number no_digits
number_kept ds h =
    let c : (kept no_digits ds).digits ≡ min (0 + length ds) 7 = kept_count no_digits ds (omega arith) in
    by_test (leb (length ds) 6)
    (λ t. let l : length ds ≤ 6 = leb-true (length ds) 6 t in
    rw (t, le-leb (kept no_digits ds).digits 6 (omega arith), kept_exact no_digits 0 ds record { is = refl; below = lit< tt } h (omega arith)))
    (λ t. let l : 6 < length ds = leb-false (length ds) 6 t in
    rw (t, lt-leb (kept no_digits ds).digits 6 (omega arith)))

pub number_said : (before : List ℕ) (b : ℕ) (ds after : List ℕ) → blanks before ≡ true → digits (b ∷ ds) ≡ true → blanks after ≡ true
    → says (before ++ ((b ∷ ds) ++ after)) ≡ cond (leb (length (b ∷ ds)) 6) (Ok (Some (spelt 0 (b ∷ ds)))) (Err LongNumber)
number_said before b ds after p d q =
    says_blanks before ((b ∷ ds) ++ after) p
    ∙ first_digit_said b (ds ++ after) (first_of b ds d)
    ∙ more_digits no_digits (b ∷ ds) after d
    ∙ blanks_behind (kept no_digits (b ∷ ds)) after q
    ∙ number_kept (b ∷ ds) d

-- Blanks alone say nothing, and so does a remark
pub blank_said : (t : List ℕ) → blanks t ≡ true → says t ≡ Ok None
unfolding says blanks
blank_said [] h = refl
blank_said (b ∷ t) h = rw (and_left (blank b) _ h) (blank_said t (and_right (blank b) _ h))

mark_said : (t : List ℕ) → says (mark ∷ t) ≡ Ok None
unfolding says blank
mark_said t = refl

pub remark_said : (before t : List ℕ) → blanks before ≡ true → says (before ++ (mark ∷ t)) ≡ Ok None
remark_said before t h = says_blanks before (mark ∷ t) h ∙ mark_said t
