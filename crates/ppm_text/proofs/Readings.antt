-- The readings of a text, line by line: what is left to give stays the same. Each premise stands as the code's tests give it. Assumes nothing.
use Rattle.std.specs.Prelude.{Some, None, Ok, Err}
use mathlib.Core.Path.{◌≡◌, refl, ◌∙◌}
use mathlib.Core.List.{List, [], ◌∷◌, ◌++◌}
use Prim.Native.Nat.{ℕ, ◌+◌, ◌≤◌, ◌<◌, min}
use native.Mathlib.Omega.{arith}
use native.Mathlib.Numerals.{add-one}
use lib.ListN.{length, drop, set, length-take, length-drop, length-set}
use lib.Seq.{take-suc-set, drop-set-add}
use borrow.Author.Tests.{lt-ltb, le-ltb, eq-eqb, ne_eqb}
use Rattle.words.specs.Refusals.{longest}
use Rattle.ppm_line.specs.declared.Line.{Line}
use Rattle.ppm_line.specs.declared.LineFault.{LineFault}
use Rattle.ppm_line.specs.declared.LineFault.TheVariants as line_fault
use Rattle.ppm_text.specs.declared.Fault.{Fault}
use Rattle.ppm_text.specs.declared.Fault.TheVariants as fault
use Rattle.ppm_text.specs.declared.State.{State}
use Rattle.ppm_line.specs.Lines.{Said, symbol_of, says, says_after}
use Rattle.ppm_text.specs.Texts.{wrong, line_end, joined, lines, next_number, fault_of, given, from}
use Rattle.ppm_text.specs.States.{heard, Room, line_gives, ahead, fault_at, stopped, gives, stop_at, with_line, line_after, AtFront, EndsLine, Takes}

-- the symbols heard, with one more
module _ (n : ℕ) (file : List ℕ) (l : length file ≡ 3 + longest) where
  pub length_heard : length (heard n file) ≡ min n longest
  unfolding heard
  length_heard = simp (length-take, length-drop) (omega arith)

  pub heard_more : (v : ℕ) → n < longest → heard (n + 1) (set file (3 + n) v) ≡ heard n file ++ (v ∷ [])
  unfolding heard
  heard_more v h = rw (drop-set-add, add-one) (take-suc-set (drop 3 file) n v (simp length-drop (omega arith)))

-- a new line stands at its front
pub blank_ahead : (s : State) (n : ℕ) (h : n ≤ longest) (file : List ℕ) (xs : List (List ℕ)) → gives (line_after s n h) file xs ≡ from (next_number s.number) (heard n file) xs
unfolding gives stopped ahead line_gives says_after says given from
blank_ahead s n h file [] = refl
blank_ahead s n h file (x ∷ xs) = refl

-- the states that the code makes are at the front of a line, or stopped
pub room_of : (s : State) (file : List ℕ) → length file ≡ 3 + longest → Room s.readings file
room_of s file l = record { few = s.few; long = l }

module _ (s r : State) (file : List ℕ) (l : length file ≡ 3 + longest) where
  new_front : (n : ℕ) (h : n ≤ longest) → r ≡ line_after s n h → AtFront r file
  new_front n h q = rw q record { room = record { few = h; long = l }; front = λ e. refl }

  no_more : (f : Fault) → r ≡ stop_at s f → AtFront r file
  no_more f q = rw q record { room = room_of s file l; front = λ h. cc }

-- a fault of a line is told with the line's number
line_fault_at : (f : LineFault) (k : ℕ) → fault_at (fault_of f) k ≡ wrong (fault_of f) k
line_fault_at line_fault.NoNumber k = refl
line_fault_at line_fault.LongNumber k = refl

-- a line ends
module _ (s : State) (file : List ℕ) (w : Said) (r : State) (l : length file ≡ 3 + longest) where
  pub nothing_said : (h : s.readings ≤ longest) → w ≡ Ok None → r ≡ line_after s s.readings h → EndsLine s file w r file
  unfolding line_gives given
  nothing_said h e q = record {
    after = new_front s r file l s.readings h q;
    meaning = λ xs. rw (q, e) (blank_ahead s s.readings h file xs);
  }

  pub fault_said : (f : LineFault) (g : Fault) → w ≡ Err f → g ≡ fault_of f → r ≡ stop_at s g → EndsLine s file w r file
  unfolding line_gives given gives stopped
  fault_said f g e h q = record { after = no_more s r file l g q; meaning = λ xs. rw (q, e, h) (line_fault_at f s.number) }

module _ (s : State) (file : List ℕ) (ppm : ℕ) (r : State) (l : length file ≡ 3 + longest) where
  pub reading_said : (v : ℕ) (h' : s.readings + 1 ≤ longest) → s.readings < longest → v ≡ symbol_of ppm → r ≡ line_after s (s.readings + 1) h' → EndsLine s file (Ok (Some ppm)) r (set file (3 + s.readings) v)
  unfolding line_gives given
  reading_said v h' h e q = record {
    after = new_front s r (set file (3 + s.readings) v) (length-set file (3 + s.readings) v ∙ l) (s.readings + 1) h' q;
    meaning = λ xs.
        rw (q, length_heard s.readings file l, lt-ltb (min s.readings longest) longest (omega arith))
        (blank_ahead s (s.readings + 1) h' (set file (3 + s.readings) v) xs ∙ rw (heard_more s.readings file l v h, e));
  }

  pub too_many_said : longest ≤ s.readings → r ≡ stop_at s fault.Many → EndsLine s file (Ok (Some ppm)) r file
  unfolding line_gives given gives stopped
  too_many_said h q = record {
    after = no_more s r file l fault.Many q;
    meaning = λ xs. rw (q, length_heard s.readings file l, le-ltb (min s.readings longest) longest (omega arith));
  }

-- one byte more
joined_ahead : (s : State) (file : List ℕ) (b : ℕ) (l : Line) → ((t : List ℕ) → says_after l t ≡ says_after s.line (b ∷ t))
    → (xs : List (List ℕ)) → ahead (with_line s l) file xs ≡ ahead s file (joined b xs)
unfolding ahead joined line_gives
joined_ahead s file b l m [] = rw (m [])
joined_ahead s file b l m (x ∷ xs) = rw (m x)

module _ (s : State) (file : List ℕ) (b : ℕ) where
  pub byte_after_fault : (f : Fault) → s.fault ≡ Some f → length file ≡ 3 + longest → Takes (b ∷ []) s file s file
  unfolding gives stopped
  byte_after_fault f p l = record { room = room_of s file l; meaning = λ t. rw p }

  ended_line : s.fault ≡ None → (xs : List (List ℕ)) → line_gives s file (says_after s.line []) xs ≡ gives s file ([] ∷ xs)
  unfolding gives stopped ahead
  ended_line p xs = rw p

  pub line_end_lem : (r : State) (file' : List ℕ) → s.fault ≡ None → b ≡ line_end → EndsLine s file (says_after s.line []) r file' → Takes (b ∷ []) s file r file'
  unfolding lines
  line_end_lem r file' p e d = record { room = d.after.room; meaning = λ t. rw (eq-eqb b line_end e) (d.meaning (lines t) ∙ ended_line p (lines t)) }

pub byte_inside : (s : State) (file : List ℕ) (b : ℕ) (l : Line) (r : State) → length file ≡ 3 + longest → (b ≡ line_end → ⊥)
    → ((t : List ℕ) → says_after l t ≡ says_after s.line (b ∷ t)) → r ≡ with_line s l → Takes (b ∷ []) s file r file
unfolding lines gives
byte_inside s file b l r m e d q = rw q record { room = room_of s file m; meaning = λ t. rw (ne_eqb b line_end e, joined_ahead s file b l d (lines t)) }
