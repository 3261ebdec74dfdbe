-- Any two outcomes that a call's contract allows are equal: each contract is an equation with a definition, which gives the whole outcome. Assumes nothing.
use Rattle.std.proofs.Common.{Bool, true, false, cond, ◌≡◌, refl, sym, ap, List, [], ℕ, Result, Ok, Err, IfOk}
use Rattle.words.specs.declared.Part.{Part}
use Rattle.words.specs.declared.Written.{Written}
use Rattle.words.specs.declared.Weighing.{Weighing}
use Rattle.words.specs.declared.Listed.{Listed}
use Rattle.words.specs.declared.Normal.{Normal}
use Rattle.words.specs.declared.Breakdown.{Breakdown}
use Rattle.words.specs.declared.Weighed.{Weighed}
use Rattle.words.specs.declared.Pattern.{Pattern}
use Rattle.words.specs.Answers.{CoverTest, Yes, No, Refused}
use Rattle.words.specs.Tables.{Column}
use Rattle.words.specs.Answers as A
use Rattle.words.proofs.Refusals.{unique}
use Rattle.ceilings.specs.declared.Ceiling.{Ceiling}
use Rattle.ceilings.specs.Ceilings.{ceiling_answer}
use Rattle.refusals.specs.declared.Refusal.{Refusal}
use Rattle.refusals.specs.Numbers.{number, stands_for, told}
use Rattle.refusals.proofs.Numbers.{some_number, one_refusal, stands_for_one}
use Rattle.finder.specs.Told.{written_of, weighing_of, listed_of, normal_of, test_of, weighed_of, breakdown_of, pattern_of, ceiling_of}

-- with tables: the answer and every table afterwards. border_table, prefix_table and cover_table, with their columns
pub one_table : (f : Column) (x t : List ℕ) {o o' : A.Outcome Written} → o ≡ A.table_outcome f x t → o' ≡ A.table_outcome f x t → o ≡ o'
one_table f x t = unique

pub one_enhanced : (x b c : List ℕ) {o o' : A.Outcome Weighing} → o ≡ A.enhanced_outcome x b c → o' ≡ A.enhanced_outcome x b c → o ≡ o'
one_enhanced x b c = unique

-- left_covers and left_seeds, with their columns
pub one_pair : (f g : Column) (x b c : List ℕ) {o o' : A.Outcome Written} → o ≡ A.pair_outcome f g x b c → o' ≡ A.pair_outcome f g x b c → o ≡ o'
one_pair f g x b c = unique

pub one_window : (x : List ℕ) (a m : ℕ) (b p c e k : List ℕ) {o o' : A.Outcome Weighing}
    → o ≡ A.window_outcome x a m b p c e k → o' ≡ A.window_outcome x a m b p c e k → o ≡ o'
one_window x a m b p c e k = unique

pub one_list : (x t : List ℕ) {o o' : A.Outcome Listed} → o ≡ A.cover_list_outcome x t → o' ≡ A.cover_list_outcome x t → o ≡ o'
one_list x t = unique

-- without: normal_form, weighed_list, cover_test, breakdown, pattern, ceiling
pub one_normal : (x : List ℕ) (i : ℕ) {r r' : Normal} → r ≡ A.normal_answer x i → r' ≡ A.normal_answer x i → r ≡ r'
one_normal x i = unique

pub one_weighed : (x : List ℕ) (i : ℕ) {r r' : Weighed} → r ≡ A.weighed_answer x i → r' ≡ A.weighed_answer x i → r ≡ r'
one_weighed x i = unique

pub one_test : (x : List ℕ) (i q : ℕ) {r r' : CoverTest} → r ≡ A.cover_test_answer x i q → r' ≡ A.cover_test_answer x i q → r ≡ r'
one_test x i q = unique

pub one_breakdown : (x : List ℕ) {r r' : Breakdown} → r ≡ A.breakdown_answer x → r' ≡ A.breakdown_answer x → r ≡ r'
one_breakdown x = unique

pub one_length : (x : List ℕ) {r r' : Pattern} → r ≡ A.pattern_answer x → r' ≡ A.pattern_answer x → r ≡ r'
one_length x = unique

pub one_ceiling : (x : List ℕ) {r r' : Ceiling} → r ≡ ceiling_answer x → r' ≡ ceiling_answer x → r ≡ r'
one_ceiling x = unique

-- best_pattern and best_pattern_number: the part's readings and its place, and the number
pub one_pattern : (x : List ℕ) (at : ℕ × ℕ) {p p' : List ℕ} {l l' : ℕ × ℕ} {k k' : ℕ}
    → (p ≡ A.best_pattern_part x) × (l ≡ at) × (k ≡ A.best_pattern_no x) → (p' ≡ A.best_pattern_part x) × (l' ≡ at) × (k' ≡ A.best_pattern_no x)
    → (p ≡ p') × (l ≡ l') × (k ≡ k')
one_pattern x at a b = (unique a.0 b.0, unique a.1 b.1, unique a.2 b.2)

-- ---- the answers in Rust: the document's answer is that of one of them alone

no_number : CoverTest → ℕ
no_number Yes = 0
no_number No = 0
no_number (Refused k) = k

pub one_written : (r s : Result (Unit {0}) Refusal) → written_of r ≡ written_of s → r ≡ s
one_written = stands_for_one _ _ (λ w. w.number) (λ v. refl) (λ k. refl) (λ v w e. refl)

pub one_weighing : (r s : Result ℕ Refusal) → weighing_of r ≡ weighing_of s → r ≡ s
one_weighing = stands_for_one _ A.no_weighing (λ w. w.number) (λ v. refl) (λ k. refl) (λ v w e. ap (λ (u : Weighing). u.total) e)

pub one_listed : (r s : Result ℕ Refusal) → listed_of r ≡ listed_of s → r ≡ s
one_listed = stands_for_one _ (λ k. record { number = k; used = 0 }) (λ l. l.number) (λ v. refl) (λ k. refl) (λ v w e. ap (λ (u : Listed). u.used) e)

pub one_told : (r s : Result Bool Refusal) → test_of r ≡ test_of s → r ≡ s
unfolding no_number
one_told = stands_for_one _ Refused no_number zero (λ k. refl) same
  where
    zero : (b : Bool) → no_number (cond b Yes No) ≡ 0
    zero true = refl
    zero false = refl

    same : (b c : Bool) → cond b Yes No ≡ cond c Yes No → b ≡ c
    same true true e = refl
    same true false e = cc
    same false true e = cc
    same false false e = refl

pub one_found : (r s : Result ℕ Refusal) → pattern_of r ≡ pattern_of s → r ≡ s
one_found = stands_for_one _ (λ k. record { number = k; len = 0 }) (λ p. p.number) (λ v. refl) (λ k. refl) (λ v w e. ap (λ (u : Pattern). u.len) e)

-- a normal form, of so many readings
pub one_form : (i : ℕ) (r s : Result Part Refusal) → IfOk r (λ p. p.len ≡ i) → IfOk s (λ p. p.len ≡ i) → normal_of r ≡ normal_of s → r ≡ s
one_form i (Ok p) (Ok q) a b e =
    let l : p.len ≡ q.len = unique a b in
    ap Ok (rw (l, ap (λ (u : Normal). u.k1) e, ap (λ (u : Normal). u.k2) e, ap (λ (u : Normal). u.k) e))
one_form i (Ok p) (Err k) a b e = absurd (some_number k (sym (ap (λ (u : Normal). u.number) e)))
one_form i (Err k) (Ok q) a b e = absurd (some_number k (ap (λ (u : Normal). u.number) e))
one_form i (Err k) (Err l) a b e = ap Err (one_refusal (ap (λ (u : Normal). u.number) e))

-- weighed_list, breakdown and ceiling: where both are refused, or neither is
module _ {A : Type 0} (refusal : ℕ → A) where
  one_struct : (r s : Result A Refusal) → number r ≡ number s → stands_for (λ v. v) refusal r ≡ stands_for (λ v. v) refusal s → r ≡ s
  one_struct (Ok v) (Ok w) n e = ap Ok e
  one_struct (Ok v) (Err k) n e = absurd (some_number k (sym n))
  one_struct (Err k) (Ok w) n e = absurd (some_number k n)
  one_struct (Err k) (Err l) n e = ap Err (one_refusal n)

pub one_weights : (r s : Result Weighed Refusal) → number r ≡ number s → weighed_of r ≡ weighed_of s → r ≡ s
one_weights = one_struct (λ k. A.listed k [] 0)

pub one_parts : (r s : Result Breakdown Refusal) → number r ≡ number s → breakdown_of r ≡ breakdown_of s → r ≡ s
one_parts = one_struct (λ k. A.broken k [])

pub one_head : (r s : Result Ceiling Refusal) → number r ≡ number s → ceiling_of r ≡ ceiling_of s → r ≡ s
one_head = one_struct (λ k. record { number = k; held = 0; ceiling = 0 })

-- ---- the whole of a call: its clauses allow one answer in Rust, and one state of every lent table

module _ {V B : Type 0} (read : Result V Refusal → B) (one : (r s : Result V Refusal) → read r ≡ read s → r ≡ s) where
  one_outcome : {o : A.Outcome B} {r s : Result V Refusal} {t u : List (List ℕ)}
      → record { answer = read r; tables = t } ≡ o → record { answer = read s; tables = u } ≡ o → (r ≡ s) × (t ≡ u)
  one_outcome {o} {r} {s} a b = let e = unique a b in (one r s (ap (λ (p : A.Outcome B). p.answer) e), ap (λ (p : A.Outcome B). p.tables) e)

-- border_table, prefix_table and cover_table, with their columns
module _ (f : Column) (x t : List ℕ) {r s : Result (Unit {0}) Refusal} {ts us : List (List ℕ)} where
  pub one_table_result : record { answer = written_of r; tables = ts } ≡ A.table_outcome f x t
      → record { answer = written_of s; tables = us } ≡ A.table_outcome f x t → (r ≡ s) × (ts ≡ us)
  one_table_result = one_outcome written_of one_written

module _ (x b c : List ℕ) {r s : Result ℕ Refusal} {ts us : List (List ℕ)} where
  pub one_enhanced_result : record { answer = weighing_of r; tables = ts } ≡ A.enhanced_outcome x b c
      → record { answer = weighing_of s; tables = us } ≡ A.enhanced_outcome x b c → (r ≡ s) × (ts ≡ us)
  one_enhanced_result = one_outcome weighing_of one_weighing

-- left_covers and left_seeds, with their columns
module _ (f g : Column) (x b c : List ℕ) {r s : Result (Unit {0}) Refusal} {ts us : List (List ℕ)} where
  pub one_pair_result : record { answer = written_of r; tables = ts } ≡ A.pair_outcome f g x b c
      → record { answer = written_of s; tables = us } ≡ A.pair_outcome f g x b c → (r ≡ s) × (ts ≡ us)
  one_pair_result = one_outcome written_of one_written

module _ (x : List ℕ) (a m : ℕ) (b p c e k : List ℕ) {r s : Result ℕ Refusal} {ts us : List (List ℕ)} where
  pub one_window_result : record { answer = weighing_of r; tables = ts } ≡ A.window_outcome x a m b p c e k
      → record { answer = weighing_of s; tables = us } ≡ A.window_outcome x a m b p c e k → (r ≡ s) × (ts ≡ us)
  one_window_result = one_outcome weighing_of one_weighing

module _ (x t : List ℕ) {r s : Result ℕ Refusal} {ts us : List (List ℕ)} where
  pub one_list_result : record { answer = listed_of r; tables = ts } ≡ A.cover_list_outcome x t
      → record { answer = listed_of s; tables = us } ≡ A.cover_list_outcome x t → (r ≡ s) × (ts ≡ us)
  one_list_result = one_outcome listed_of one_listed

-- normal_form, weighed_list, breakdown and ceiling, with their number and value
pub one_told_result : {V : Type 0} (k : ℕ) (v : V) {r s : Result V Refusal} → r ≡ told k v → s ≡ told k v → r ≡ s
one_told_result k v = unique

pub one_test_result : (x : List ℕ) (i q : ℕ) {r s : Result Bool Refusal} → test_of r ≡ A.cover_test_answer x i q → test_of s ≡ A.cover_test_answer x i q → r ≡ s
one_test_result x i q a b = one_told _ _ (unique a b)

pub one_length_result : (x : List ℕ) {r s : Result ℕ Refusal} → pattern_of r ≡ A.pattern_answer x → pattern_of s ≡ A.pattern_answer x → r ≡ s
one_length_result x a b = one_found _ _ (unique a b)
