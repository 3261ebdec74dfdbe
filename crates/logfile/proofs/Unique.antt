-- Any two outcomes that a call's contract allows are equal: each contract gives the whole outcome as an equation. Assumes nothing.
use Rattle.std.proofs.Common.{◌≡◌, ap, List, ℕ, Result, Ok, Err, IfOk, Bor}
use Rattle.words.specs.PlantFile.{file_no, symbols}
use Rattle.words.proofs.Refusals.{unique}
use Rattle.refusals.specs.declared.Refusal.{Refusal}
use Rattle.refusals.specs.Numbers.{number}
use Rattle.refusals.proofs.Numbers.{some_number, one_refusal}
use Rattle.logfile.specs.Place.{part_place}

-- number and symbols: the number, the part's symbols and its place in a file that lies at p
pub one_file : (f : List ℕ) (p : ℕ × ℕ) {k k' : ℕ} {s s' : List ℕ} {l l' : ℕ × ℕ}
    → (k ≡ file_no f) × (s ≡ symbols f) × (l ≡ part_place f p) → (k' ≡ file_no f) × (s' ≡ symbols f) × (l' ≡ part_place f p)
    → (k ≡ k') × (s ≡ s') × (l ≡ l')
one_file f p a b = (unique a.0 b.0, unique a.1 b.1, unique a.2 b.2)

-- read: what its contract says of its answer, for a file that lies at p
pub record Read (f : List ℕ) (p : ℕ × ℕ) (r : Result (Bor (List ℕ)) Refusal) : Type 0 where
  pub refusal : number r ≡ file_no f
  pub part : IfOk r (λ s. s.now ≡ symbols f)
  pub place : IfOk r (λ s. s.ref_ptr ≡ part_place f p)

pub one_read : (f : List ℕ) (p : ℕ × ℕ) (r r' : Result (Bor (List ℕ)) Refusal) → Read f p r → Read f p r' → r ≡ r'
one_read f p (Ok s) (Ok t) a b =
    let n : s.now ≡ t.now = unique a.part b.part in
    let l : s.ref_ptr ≡ t.ref_ptr = unique a.place b.place in
    ap Ok (rw (n, l))
one_read f p (Ok s) (Err k) a b = absurd (some_number k (unique b.refusal a.refusal))
one_read f p (Err k) (Ok t) a b = absurd (some_number k (unique a.refusal b.refusal))
one_read f p (Err k) (Err l) a b = ap Err (one_refusal (unique a.refusal b.refusal))
