-- A text that came in pieces, and the file that is made of it. Assumes nothing.
use mathlib.Core.Bool.{false}
use Rattle.std.specs.Prelude.{Some, None, Ok, Err}
use mathlib.Core.Path.{◌≡◌, refl, sym, ◌∙◌}
use mathlib.Core.List.{List, [], ◌∷◌, ◌++◌, append_assoc, append-nil}
use Prim.Native.Nat.{ℕ, suc, ◌+◌, ◌≤◌, ◌<◌}
use native.Mathlib.Omega.{arith}
use native.Mathlib.Nat.{div-add-mod'}
use lib.Dec.{eqb, ltb}
use lib.ListN.{length, get_or, take, length-append, get_or-append}
use lib.Seq.{get_or-append_seam}
use borrow.Author.Tests.{ltb-true, ltb-false, eqb-false, eq-eqb, ne_eqb, le-ltb}
use Rattle.words.specs.Search.{any}
use Rattle.words.specs.Refusals.{longest, first_no}
use Rattle.words.specs.PlantFile.{ceiling_symbol, field_of, file_no}
use Rattle.words.proofs.Tests.{by_test}
use Rattle.words.proofs.Search.{any_none}
use Rattle.ppm_text.specs.declared.State.{State}
use Rattle.ppm_line.specs.Lines.{Said, symbol_of, says, says_after}
use Rattle.ppm_text.specs.Texts.{Outcome, symbols, no_reading, lines, next_number, whole, given, from, outcome, file_of, Made}
use Rattle.ppm_text.proofs.Readings.{room_of}
use Rattle.ppm_text.specs.States.{heard, line_gives, ahead, stopped, gives, ended, start_state, Takes, EndsText, After}

-- Pieces

start_gives : (file : List ℕ) (xs : List (List ℕ)) → gives start_state file xs ≡ from 1 [] xs
unfolding gives stopped ahead line_gives heard says_after says given from
start_gives file [] = refl
start_gives file (x ∷ xs) = refl

pub at_start : (s : State) (file : List ℕ) → s ≡ start_state → length file ≡ 3 + longest → After s file
unfolding outcome
at_start s file e l = rw e record { text = []; room = room_of start_state file l; meaning = λ t. start_gives file (lines t) }

pub one_more_piece : (piece : List ℕ) (s : State) (file : List ℕ) (r : State) (file' : List ℕ) → After s file → Takes piece s file r file' → After r file'
one_more_piece piece s file r file' d e = record {
  text = d.text ++ piece;
  room = e.room;
  meaning = λ t. e.meaning t ∙ d.meaning (piece ++ t) ∙ rw append_assoc;
}

-- What the readings of a text are

record Known (ss : List ℕ) : Type 0 where
  pub few : length ss ≤ longest
  pub low : (k : ℕ) → k < length ss → get_or ss k 0 ≤ ceiling_symbol

record Whole (ss : List ℕ) : Type 0 where
  pub some : 0 < length ss
  pub known : Known ss

none_known : Known []
none_known = record { few = omega arith; low = λ k h. omega arith }

module _ (ss : List ℕ) (ppm : ℕ) (m : Known ss) where
  low_more : (k : ℕ) → k < length ss + 1 → get_or (ss ++ (symbol_of ppm ∷ [])) k 0 ≤ ceiling_symbol
  low_more k q =
      by_test (ltb k (length ss))
      (λ t. let i : k < length ss = ltb-true k (length ss) t in rw (get_or-append ss (symbol_of ppm ∷ []) 0 k i) (m.low k i))
      (λ t. let i : k ≡ length ss = omega (arith, ltb-false k (length ss) t) in rw (i, get_or-append_seam ss (symbol_of ppm) [] 0) (omega arith))

  more_known : length ss < longest → Known (ss ++ (symbol_of ppm ∷ []))
  more_known h = record {
    few = rw length-append (omega arith);
    low = λ k q. low_more k (rw length-append at q);
  }

whole_known : (ss rs : List ℕ) → Known ss → whole ss ≡ symbols rs → Whole rs
unfolding whole
whole_known ss rs m e =
    by_test (eqb (length ss) 0)
    (λ t. absurd (let z : no_reading ≡ symbols rs = rw t at e in let y : ◌≡◌ {A = ℕ} 0 1 = cc in omega arith))
    (λ t. let z : symbols ss ≡ symbols rs = rw t at e in let y : ss ≡ rs = cc in rw (sym y) record { some = omega (arith, eqb-false (length ss) 0 t); known = m })

given_known : (w : Said) (k : ℕ) (ss rs : List ℕ) (go : List ℕ → Outcome) → ((q : List ℕ) → Known q → go q ≡ symbols rs → Whole rs) → Known ss → given w k ss go ≡ symbols rs → Whole rs
unfolding given
given_known (Ok None) k ss rs go f m e = f ss m e
given_known (Ok (Some ppm)) k ss rs go f m e =
    by_test (ltb (length ss) longest)
    (λ t. f (ss ++ (symbol_of ppm ∷ [])) (more_known ss ppm m (ltb-true (length ss) longest t)) (rw t at e))
    (λ t. absurd (let z = rw t at e in let y : ◌≡◌ {A = ℕ} 0 1 = cc in omega arith))
given_known (Err _) k ss rs go f m e = absurd (let y : ◌≡◌ {A = ℕ} 0 1 = cc in omega arith)

from_known : (xs : List (List ℕ)) (k : ℕ) (ss rs : List ℕ) → Known ss → from k ss xs ≡ symbols rs → Whole rs
unfolding from
from_known [] k ss rs m e = whole_known ss rs m e
from_known (x ∷ xs) k ss rs m e = given_known (says x) k ss rs (λ r. from (next_number k) r xs) (λ q. from_known xs (next_number k) q rs) m e

outcome_known : (text rs : List ℕ) → outcome text ≡ symbols rs → Whole rs
unfolding outcome
outcome_known text rs e = from_known (lines text) 1 [] rs none_known e

-- The plant's reader accepts the file of such readings
field_is : (ss : List ℕ) → field_of (file_of ss) ≡ length ss
unfolding field_of file_of
field_is ss = div-add-mod' (length ss) 256

at_file : (ss : List ℕ) (k : ℕ) → get_or (file_of ss) (3 + k) 0 ≡ get_or ss k 0
unfolding file_of
at_file ss k = let e : 3 + k ≡ suc (suc (suc k)) = omega arith in rw e

known_symbols : (ss : List ℕ) → Known ss → any (λ p. ltb ceiling_symbol (get_or (file_of ss) (3 + p) 0)) (length ss) ≡ false
known_symbols ss m = any_none _ (length ss) (λ k h. le-ltb ceiling_symbol (get_or (file_of ss) (3 + k) 0) (rw at_file (m.low k h)))

long_file : (ss : List ℕ) → length (file_of ss) ≡ 3 + length ss
unfolding file_of
long_file ss = omega arith

version_of : (ss : List ℕ) → get_or (file_of ss) 0 0 ≡ 1
unfolding file_of
version_of ss = refl

accepts : (ss : List ℕ) → Whole ss → file_no (file_of ss) ≡ 0
unfolding file_no first_no
accepts ss w =
    rw (
      long_file ss,
      le-ltb (3 + length ss) 3 (omega arith),
      version_of ss,
      field_is ss,
      ne_eqb (length ss) 0 (λ e. omega arith),
      le-ltb longest (length ss) (omega arith),
      eq-eqb (3 + length ss) (3 + length ss) refl,
      known_symbols ss w.known,
    )

-- What the code has made at the end
module _ (s : State) (file : List ℕ) (d : After s file) (r : State) (file' : List ℕ) (e : EndsText s file r file') (p : r.fault ≡ None) where
  text_gives : outcome d.text ≡ symbols (heard r.readings file')
  unfolding lines ended stopped
  text_gives = rw append-nil at (sym (d.meaning []) ∙ sym e.meaning) ∙ rw p

  pub file_made : Made (take (3 + r.readings) file')
  file_made = record {
    text = d.text;
    readings = heard r.readings file';
    meaning = text_gives;
    is = e.made p;
    accepted = rw (e.made p) (accepts (heard r.readings file') (outcome_known d.text (heard r.readings file') text_gives));
  }
