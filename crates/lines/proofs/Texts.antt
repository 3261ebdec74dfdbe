-- Digits, and text put behind text. Assumes nothing.
use Rattle.std.proofs.Common.{◌≡◌, refl, sym, ap, ◌∙◌, List, [], ◌∷◌, ◌++◌, append_assoc, append-nil, ⊎_elim, ℕ, zero, suc, ◌+◌, ◌-◌, ◌*◌, ◌/◌, ◌%◌, ◌^◌, ◌≤◌, ◌<◌, arith, add-one, ltb, lt-ltb, le-ltb, length, get_or, take, length-append, mod-eq_of_lt, w64, Fits}
use Rattle.std.proofs.Math.Nat.{pow-suc, div-lt_iff_lt-mul, le-div_iff_mul-le, one-le-pow, pow-le-pow_right}
use Rattle.std.proofs.Math.Seq.{take-suc}
use Rattle.io.specs.Digits as Io
use Rattle.words.proofs.Tests.{by_test, le_or_lt}
use Rattle.lines.specs.Text.{digits, decimal, field, fields, decimal_room, field_room, Page, Put}

-- ---- digits

-- the tenth of a number has one digit less
tenth_below : (k n : ℕ) → n < 10 ^ suc k → n / 10 < 10 ^ k
tenth_below k n h = (div-lt_iff_lt-mul {k = 10} (omega arith)).1 (rw pow-suc at h)

tenth_above : (k n : ℕ) → 10 ^ suc k ≤ n → 10 ^ k ≤ n / 10
tenth_above k n h = (le-div_iff_mul-le {k = 10} (omega arith)).1 (rw pow-suc at h)

two_digits : (k : ℕ) → 10 ≤ 10 ^ suc k
two_digits k = rw pow-suc (omega (arith, one-le-pow k 10 (omega arith)))

tenth_fewest : (k n : ℕ) → 10 ^ suc k ≤ n → 10 ^ (suc k - 1) ≤ n / 10
tenth_fewest k n h =
    let e : suc k - 1 ≡ k = omega arith in
    rw e (tenth_above k n h)

-- the fewest digits are those of the definition
digits_are : (d k n : ℕ) → Io.IsDigitCount 10 1 n k → k ≤ d → Io.last_digits 10 k n ≡ digits d n
unfolding digits
digits_are d zero n f h = absurd (omega arith)
digits_are zero (suc k) n f h = absurd (omega arith)
digits_are (suc d) (suc zero) n f h =
    let one : n < 10 = f.1 in
    simp (mod-eq_of_lt one, lt-ltb n 10 one)
digits_are (suc d) (suc (suc k)) n f h =
    let e : suc (suc k) - 1 ≡ suc k = omega arith in
    let two : 10 ^ suc k ≤ n = rw e at (f.2 (omega arith)) in
    let rest = digits_are d (suc k) (n / 10) (omega arith, tenth_below (suc k) n f.1, λ u. tenth_fewest k n two) (omega arith) in
    rw (le-ltb n 10 (omega (arith, two_digits k)), lt-ltb (n % 10) 10 (omega arith)) (ap (λ (l : List ℕ). l ++ ((48 + n % 10) ∷ [])) rest)

-- a number below 10 ^ p takes no more than p of them
digits_few : (p k n : ℕ) → Io.IsDigitCount 10 1 n k → n < 10 ^ suc p → k ≤ suc p
digits_few p k n f h = ⊎_elim
    (λ (l : k ≤ suc p). l)
    (λ (g : suc p < k). absurd (omega (arith, f.2 (omega arith), pow-le-pow_right {n = 10} (omega arith) {i = suc p} {j = k - 1} (omega arith))))
    (le_or_lt k (suc p))

-- a number below 10 ^ p has at most p digits
digits_le : (d p n : ℕ) → n < 10 ^ suc p → length (digits d n) ≤ suc p
unfolding digits
digits_le zero p n h = omega arith
digits_le (suc d) zero n h = rw (lt-ltb n 10 h) (omega arith)
digits_le (suc d) (suc p) n h =
    let rest = digits_le d p (n / 10) (tenth_below (suc p) n h) in
    by_test (ltb n 10) (λ t. rw t (omega arith)) (λ t. rw t (simp length-append (omega arith)))

decimal_le : (p n : ℕ) → n < 10 ^ suc p → length (decimal n) ≤ suc p
unfolding decimal
decimal_le p n h = digits_le decimal_room p n h

digits_most : (d n : ℕ) → length (digits d n) ≤ d
unfolding digits
digits_most zero n = omega arith
digits_most (suc d) n = by_test (ltb n 10) (λ t. rw t (omega arith)) (λ t. rw t (simp length-append (omega (arith, digits_most d (n / 10)))))

pub decimal_most : (n : ℕ) → length (decimal n) ≤ decimal_room
unfolding decimal
decimal_most n = digits_most decimal_room n

-- ---- numbers

-- what `io` makes of a number are its digits
pub decimal_is : {k n : ℕ} {s : List ℕ} → s ≡ Io.last_digits 10 k n → Io.IsDigitCount 10 1 n k → Fits w64 n → s ≡ decimal n
unfolding decimal
decimal_is {k = k} {n = n} e f w = e ∙ digits_are decimal_room k n f (digits_few 19 k n f (omega arith))

-- an entry of a table has at most five digits
entry_le : (n : ℕ) → n < 65536 → length (decimal n) ≤ 5
entry_le n h = decimal_le 4 n (omega arith)

length_field : (n : ℕ) → length (field n) ≡ 1 + length (decimal n)
unfolding field
length_field n = omega arith

fields_append : (s t : List ℕ) → fields (s ++ t) ≡ fields s ++ fields t
unfolding fields
fields_append [] t = refl
fields_append (n ∷ s) t = rw (fields_append s t) (sym (append_assoc (field n) (fields s) (fields t)))

pub fields_one : (n : ℕ) → fields (n ∷ []) ≡ field n
unfolding fields
fields_one n = append-nil (field n)

-- ---- text put behind the first `at` bytes of a buffer

pub put_put : {a b c s t : List ℕ} {at e r : ℕ} → Put a at s b e → Put b e t c r → Put a at (s ++ t) c r
put_put {a = a} {s = s} {t = t} {at = at} p q = record {
  end = omega (arith, p.end, q.end, length-append s t);
  says = q.says ∙ rw p.says (append_assoc (take at a) s t);
}

-- ---- the loop of `fields`

-- the first i entries of t are put
pub record Listed (t : List ℕ) (before after : Page) (i : ℕ) : Type 0 where
  pub said : after.said ≡ before.said ++ fields (take i t)
  pub room : after.room ≡ before.room
  pub short : length after.said ≤ length before.said + field_room * i

pub listed_none : (t : List ℕ) (p : Page) → Listed t p p 0
unfolding fields
listed_none t p = record { said = sym (append-nil p.said); room = refl; short = omega arith }

module _ {t : List ℕ} {before after : Page} {i n : ℕ} (c : Listed t before after i) (e : n ≡ get_or t i 0) (s : n < 65536) (h : i < length t) where
  pub listed_room : length before.said + field_room * length t ≤ before.room → length after.said + (1 + length (decimal n)) ≤ after.room
  listed_room l = omega (arith, entry_le n s, c.short, c.room)

  pub listed_more : {r : Page} → r.said ≡ after.said ++ field n → r.room ≡ after.room → Listed t before r (i + 1)
  listed_more f g = record {
    said = rw (f, c.said, add-one, take-suc t i 0 h, fields_append, ← e, fields_one, append_assoc) refl;
    room = g ∙ c.room;
    short = omega (arith, c.short, entry_le n s, length_field n, length-append after.said (field n), ap length f);
  }

-- the same in one buffer
pub record ListedHere (t : List ℕ) (before after : Page) (i : ℕ) : Type 0 where
  pub listed : Listed t before after i
  pub buffer : after.buffer ≡ before.buffer

pub listed_here_none : (t : List ℕ) (p : Page) → ListedHere t p p 0
listed_here_none t p = record { listed = listed_none t p; buffer = refl }

module _ {t : List ℕ} {before after : Page} {i n : ℕ} (c : ListedHere t before after i) (e : n ≡ get_or t i 0) (s : n < 65536) (h : i < length t) where
  pub listed_here_more : {r : Page} → r.said ≡ after.said ++ field n → r.room ≡ after.room → r.buffer ≡ after.buffer → ListedHere t before r (i + 1)
  listed_here_more f g b = record { listed = listed_more c.listed e s h f g; buffer = b ∙ c.buffer }
