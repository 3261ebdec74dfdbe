-- A text in a buffer, piece behind piece: what a call leaves in the buffer, and where the pen stands then. Assumes nothing.
use Rattle.std.specs.Prelude.{Bool, true, false, cond, ◌&&◌, ◌≡◌, List, [], ℕ, ◌+◌, leb, length, take}
use Rattle.std.proofs.Math.Seq.{paste}
use Rattle.lines.specs.Text.{decimal, Put}
use Rattle.pen.specs.declared.Place.{Place}
use Rattle.pen.specs.declared.Pen.{Pen}

-- before the first piece
unfoldable pub first : Place
first = record { at = 0; fits = true }

-- a piece of n bytes is put where all before it were, and there is room for the whole of it
unfoldable pub takes : ℕ → Place → ℕ → Bool
takes room p n = leb (p.at + n) room && p.fits

-- after a piece: behind it where it was put; where it was left, as before, and nothing is put from then on
unfoldable pub pen_after : ℕ → Place → List ℕ → Place
pen_after room p piece =
    cond (takes room p (length piece)) (record { at = p.at + length piece; fits = true }) (record { at = p.at; fits = false })

-- the whole buffer: the first bytes, the piece, and what stood behind
unfoldable pub out_after : List ℕ → Place → List ℕ → List ℕ
out_after out p piece = cond (takes (length out) p (length piece)) (paste out p.at piece (length piece)) out

-- the same, with a number's digits as a piece of their own
unfoldable pub pen_after_number : ℕ → Place → List ℕ → ℕ → Place
pen_after_number room p piece n = pen_after room (pen_after room p piece) (decimal n)

unfoldable pub out_after_number : List ℕ → Place → List ℕ → ℕ → List ℕ
out_after_number out p piece n = out_after (out_after out p piece) (pen_after (length out) p piece) (decimal n)

-- the text, if it is whole
unfoldable pub text_of : List ℕ → Place → List ℕ
text_of out p = cond (takes (length out) p 0) (take p.at out) []

-- What pieces together come to, as a text: it fits exactly where one piece of its length would be put, and then stands behind what was there
pub record Said (out : List ℕ) (p : Place) (text out' : List ℕ) (p' : Place) : Type 0 where
  pub kept : length out' ≡ length out
  pub fits : p'.fits ≡ takes (length out) p (length text)
  pub put : p'.fits ≡ true → Put out p.at text out' p'.at

-- what a call leaves of a pen that wrote the text: still in its buffer, and what stands there
pub record Wrote (p : Pen) (text : List ℕ) (p' : Pen) : Type 0 where
  pub buffer : p'.out.ghost_name ≡ p.out.ghost_name
  pub said : Said p.out.now p.place text p'.out.now p'.place

-- what any call leaves of a pen: it is still in its buffer, which keeps its length
pub record Keeps (p p' : Pen) : Type 0 where
  pub buffer : p'.out.ghost_name ≡ p.out.ghost_name
  pub room : length p'.out.now ≡ length p.out.now
