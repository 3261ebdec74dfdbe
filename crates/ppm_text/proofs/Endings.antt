-- The end of a text and its file. Each premise stands as the code's tests give it. Assumes nothing.
use Rattle.std.specs.Prelude.{Some, None}
use mathlib.Core.Path.{◌≡◌, sym, ap, ◌∙◌}
use mathlib.Core.List.{List, [], ◌∷◌}
use Prim.Native.Nat.{ℕ, suc, ◌+◌, ◌/◌, ◌%◌, ◌≤◌}
use native.Mathlib.Omega.{arith}
use lib.ListN.{length, take, set, length-set}
use lib.Seq.{drop-set-lt}
use borrow.Author.Tests.{ne_eqb}
use Rattle.ppm_line.specs.declared.Line.TheVariants.{Blank}
use Rattle.ppm_text.specs.declared.Fault.{Fault}
use Rattle.ppm_text.specs.declared.Fault.TheVariants as fault
use Rattle.ppm_text.specs.declared.State.{State}
use Rattle.words.specs.Refusals.{longest}
use Rattle.ppm_line.specs.Lines.{says, says_after}
use Rattle.ppm_text.specs.Texts.{symbols, no_reading, whole, given, from, file_of}
use Rattle.ppm_text.specs.States.{heard, Room, line_gives, ahead, stopped, gives, ended, stop_at, headed, AtFront, EndsLine, EndsText}
use Rattle.ppm_text.proofs.Readings.{length_heard, room_of}

-- the header
pub heard_headed : (n m : ℕ) (file : List ℕ) → heard n (headed m file) ≡ heard n file
unfolding heard
heard_headed n m file =
    ap (take n)
    (drop-set-lt 3 (set (set file 0 1) 1 (m / 256)) 2 (m % 256) (omega arith)
    ∙ drop-set-lt 3 (set file 0 1) 1 (m / 256) (omega arith)
    ∙ drop-set-lt 3 file 0 1 (omega arith))

front_headed : (n m : ℕ) (file : List ℕ) → 3 ≤ length file → take (3 + n) (headed m file) ≡ 1 ∷ m / 256 ∷ m % 256 ∷ heard n file
unfolding heard
front_headed n m [] h = absurd (omega arith)
front_headed n m (a ∷ []) h = absurd (omega arith)
front_headed n m (a ∷ b ∷ []) h = absurd (omega arith)
front_headed n m (a ∷ b ∷ c ∷ file) h = let e : 3 + n ≡ suc (suc (suc n)) = omega arith in rw e

pub file_headed : (n : ℕ) (file : List ℕ) → Room n file → take (3 + n) (headed n file) ≡ file_of (heard n (headed n file))
unfolding file_of
file_headed n file m =
    let l : length (heard n file) ≡ n = length_heard n file m.long ∙ omega arith in
    rw (heard_headed n n file, l) (front_headed n n file (omega arith))

-- the end
ended_gives : (s : State) (file : List ℕ) (f : Fault) → s.fault ≡ Some f → ended s file ≡ gives s file []
unfolding ended gives stopped
ended_gives s file f p = rw p

front_gives : (s : State) (file : List ℕ) → s.fault ≡ None → s.line ≡ Blank → gives s file [] ≡ whole (heard s.readings file)
unfolding gives stopped ahead line_gives says_after says given from
front_gives s file p q = rw (p, q)

ended_heard : (s : State) (file : List ℕ) → s.fault ≡ None → ended s file ≡ symbols (heard s.readings file)
unfolding ended stopped
ended_heard s file p = rw p

none_whole : (n : ℕ) (file : List ℕ) → n ≡ 0 → no_reading ≡ whole (heard n file)
unfolding whole heard
none_whole n file z = rw z

some_whole : (n : ℕ) (file : List ℕ) → Room n file → (n ≡ 0 → ⊥) → symbols (heard n file) ≡ whole (heard n file)
unfolding whole
some_whole n file m z =
    let l : length (heard n file) ≡ n = length_heard n file m.long ∙ omega arith in
    rw (l, ne_eqb n 0 z)

pub wrong_before : (s : State) (file : List ℕ) (f : Fault) → length file ≡ 3 + longest → s.fault ≡ Some f → EndsText s file s file
wrong_before s file f l p = record { room = room_of s file l; meaning = ended_gives s file f p; made = λ h. cc }

module _ (s : State) (file : List ℕ) (d : AtFront s file) (p : s.fault ≡ None) where
  all_heard : whole (heard s.readings file) ≡ gives s file []
  all_heard = sym (front_gives s file p (d.front p))

  pub none_heard : (r : State) → s.readings ≡ 0 → r ≡ stop_at s fault.Empty → EndsText s file r file
  unfolding ended stopped
  none_heard r z e = record {
    room = rw e d.room;
    meaning = rw e (none_whole s.readings file z ∙ all_heard);
    made = λ h. cc;
  }

  header_put : (s.readings ≡ 0 → ⊥) → EndsText s file s (headed s.readings file)
  header_put z = record {
    room = record { few = d.room.few; long = simp length-set d.room.long };
    meaning =
        ended_heard s (headed s.readings file) p
        ∙ ap symbols (heard_headed s.readings s.readings file)
        ∙ some_whole s.readings file d.room z
        ∙ all_heard;
    made = λ h. file_headed s.readings file d.room;
  }

  pub some_heard : (file' : List ℕ) → (s.readings ≡ 0 → ⊥) → file' ≡ headed s.readings file → EndsText s file s file'
  some_heard file' z e = rw e (header_put z)

-- the last line ends, and then the text
module _ (s : State) (file : List ℕ) (p : s.fault ≡ None) (t : State) (file₁ : List ℕ) (d : EndsLine s file (says_after s.line []) t file₁) where
  last_line : gives t file₁ [] ≡ gives s file []
  unfolding gives stopped ahead
  last_line = d.meaning [] ∙ rw p

  pub then_ends : (r : State) (file₂ : List ℕ) → EndsText t file₁ r file₂ → EndsText s file r file₂
  then_ends r file₂ e = record { room = e.room; meaning = e.meaning ∙ last_line; made = e.made }
