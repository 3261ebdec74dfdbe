-- The symbols of an accepted file are an accepted log. Assumes nothing.
use Rattle.std.proofs.Common.{not, ◌≡◌, sym, ap, ◌∙◌, List, [], ℕ, ◌+◌, arith, eqb, ltb, length, get_or, drop, length-drop, ltb-false, eqb-true}
use borrow.Author.Tests.{eqb-false, not-false}
use Rattle.words.specs.Refusals.{longest}
use Rattle.words.specs.PlantFile as F
use Rattle.words.proofs.Refusals.{Judged, accepted_yes, first_zero}

file_judged : (f : List ℕ) → F.file_no f ≡ 0 → Judged (length (F.symbols f))
unfolding F.file_no F.symbols
file_judged f z =
    let a = first_zero (ltb (length f) 3) 7 _ (omega arith) z in
    let b = first_zero (not (eqb (get_or f 0 0) 1)) 6 _ (omega arith) a.1 in
    let c = first_zero (eqb (F.field_of f) 0) 1 _ (omega arith) b.1 in
    let d = first_zero (ltb longest (F.field_of f)) 2 _ (omega arith) c.1 in
    let e = first_zero (not (eqb (length f) (3 + F.field_of f))) 7 _ (omega arith) d.1 in
    let size = eqb-true (length f) (3 + F.field_of f) (not-false _ e.0) in
    let n : length (F.symbols f) ≡ F.field_of f = ap length (accepted_yes (F.file_no f) (drop 3 f) [] z) ∙ simp length-drop (omega arith) in
    let nz = eqb-false (F.field_of f) 0 c.0 in record {
      some = omega arith;
      most = omega (arith, ltb-false longest (F.field_of f) d.0);
    }

-- as the code finds it: the number k of a file, and its symbols x
pub file_lent : (f : List ℕ) {k : ℕ} {x : List ℕ} → k ≡ F.file_no f → k ≡ 0 → x ≡ F.symbols f → Judged (length x)
file_lent f e z d = rw d (file_judged f (sym e ∙ z))
