-- A piece behind a text. Each premise stands as the code's tests give it. Assumes nothing.
use Rattle.std.proofs.Common.{Bool, true, ◌≡◌, refl, sym, ◌∙◌, List, ℕ, ◌+◌, ◌≤◌, arith, length, leb-true, w64, Fits}
use Rattle.std.proofs.Math.Seq.{length-paste}
use Rattle.io.specs.Digits as Io
use Rattle.words.proofs.Tests.{by_test, and_left}
use Rattle.lines.proofs.Texts.{decimal_is}
use Rattle.pen.specs.declared.Place.{Place}
use Rattle.pen.specs.Pens.{takes, pen_after, out_after, pen_after_number, out_after_number}

module _ (p : Place) (b : Bool) where
  pub taken_room : (room n : ℕ) → b ≡ takes room p n → b ≡ true → p.at + n ≤ room
  unfolding takes
  taken_room room n e t = leb-true (p.at + n) room (and_left _ _ (sym e ∙ t))

-- ---- `put`

pub out_length : (out : List ℕ) (p : Place) (piece : List ℕ) → length (out_after out p piece) ≡ length out
unfolding out_after
out_length out p piece =
    by_test
    (takes (length out) p (length piece))
    (λ t. rw t (length-paste out p.at piece (length piece) (taken_room p true (length out) (length piece) (sym t) refl) (omega arith)))
    (λ t. rw t refl)

-- what `io` makes of a number are its digits
module _ {k n : ℕ} {s : List ℕ} (e : s ≡ Io.last_digits 10 k n) (f : Io.IsDigitCount 10 1 n k) (w : Fits w64 n) where
  module _ (out : List ℕ) (p : Place) (piece : List ℕ) {mid : List ℕ} {named : Place} (h : mid ≡ out_after out p piece) (g : named ≡ pen_after (length out) p piece) where
    pub number_pen : {r : Place} → r ≡ pen_after (length mid) named s → r ≡ pen_after_number (length out) p piece n
    unfolding pen_after_number
    number_pen q = q ∙ rw (h, out_length out p piece, g, decimal_is e f w)

    pub number_out : {after : List ℕ} → after ≡ out_after mid named s → after ≡ out_after_number out p piece n
    unfolding out_after_number
    number_out q = q ∙ rw (h, g, decimal_is e f w)
