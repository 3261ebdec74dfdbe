-- What the contracts say in words: a piece that fits stands behind the text, and one that does not changes nothing but the pen, for good. Assumes nothing.
use Rattle.std.proofs.Common.{true, false, cond, true≢false, ◌≡◌, refl, sym, ap, ◌∙◌, List, [], ◌++◌, ◌↔◌, ℕ, ◌+◌, ◌≤◌, arith, leb, length, take, length-append, le-leb, leb-true, w64, Fits}
use Rattle.std.proofs.Math.Seq.{take-paste, take-length}
use Rattle.io.specs.Digits as Io
use Rattle.words.proofs.Tests.{by_test, not_passed, both_ways, and_left, and_right, and_both}
use Rattle.lines.specs.Text.{decimal, Put}
use Rattle.lines.proofs.Texts.{put_put, decimal_is}
use Rattle.pen.specs.declared.Place.{Place}
use Rattle.pen.specs.declared.Pen.{Pen}
use Rattle.pen.specs.Pens.{takes, pen_after, out_after, pen_after_number, out_after_number, text_of, Said, Wrote}
use Rattle.pen.proofs.Pieces.{taken_room, out_length}

module _ (out : List ℕ) (p : Place) (piece : List ℕ) where
  -- the pen tells which it was
  fits_is : (pen_after (length out) p piece).fits ≡ takes (length out) p (length piece)
  unfolding pen_after
  fits_is = by_test (takes (length out) p (length piece)) (λ t. rw t) (λ t. rw t)

  -- it fits: the first bytes are those before and then the piece
  pub put_behind : (pen_after (length out) p piece).fits ≡ true → Put out p.at piece (out_after out p piece) (pen_after (length out) p piece).at
  unfolding pen_after out_after
  put_behind f =
      let t : takes (length out) p (length piece) ≡ true = sym fits_is ∙ f in
      let room = taken_room p true (length out) (length piece) (sym t) refl in
      rw t (record {
        end = refl;
        says = take-paste out p.at piece (length piece) (omega arith) (omega arith) ∙ ap (λ (l : List ℕ). take p.at out ++ l) (take-length piece);
      })

  -- it does not: the buffer is as it was
  pub left_out : (pen_after (length out) p piece).fits ≡ false → out_after out p piece ≡ out
  unfolding out_after
  left_out f = rw (sym fits_is ∙ f)

-- and stays so
pub left_for_good : (room : ℕ) (p : Place) (piece : List ℕ) → p.fits ≡ false → (pen_after room p piece).fits ≡ false
unfolding pen_after takes
left_for_good room p piece f = rw f (by_test (leb (p.at + length piece) room) (λ t. rw t) (λ t. rw t))

-- one piece, one text behind another, and a piece with a number
pub said_piece : (out : List ℕ) (p : Place) (piece : List ℕ) {out' : List ℕ} {r : Place} → r ≡ pen_after (length out) p piece → out' ≡ out_after out p piece
    → Said out p piece out' r
said_piece out p piece e d = rw (e, d) (record { kept = out_length out p piece; fits = fits_is out p piece; put = put_behind out p piece })

-- a text of n bytes is taken
pub record Taken (room : ℕ) (p : Place) (n : ℕ) : Type 0 where
  pub within : p.at + n ≤ room
  pub fits : p.fits ≡ true

pub takes_iff : (room : ℕ) (p : Place) (n : ℕ) → (takes room p n ≡ true) ↔ Taken room p n
unfolding takes
takes_iff room p n = (
  λ t. record { within = leb-true (p.at + n) room (and_left _ _ t); fits = and_right (leb (p.at + n) room) p.fits t },
  λ k. and_both _ _ (le-leb (p.at + n) room k.within) k.fits,
)

module _ {out s mid t out' : List ℕ} {p q r : Place} (a : Said out p s mid q) (b : Said mid q t out' r) where
  sizes : length (s ++ t) ≡ length s + length t
  sizes = length-append s t

  both_taken : r.fits ≡ true → (q.fits ≡ true) × (takes (length out) p (length (s ++ t)) ≡ true)
  both_taken f =
      let second = (takes_iff (length mid) q (length t)).0 (sym b.fits ∙ f) in
      let first = (takes_iff (length out) p (length s)).0 (sym a.fits ∙ second.fits) in (
        second.fits,
        (takes_iff (length out) p (length (s ++ t))).1
            (record { within = omega (arith, second.within, (a.put second.fits).end, a.kept, sizes); fits = first.fits }),
      )

  taken_both : takes (length out) p (length (s ++ t)) ≡ true → r.fits ≡ true
  taken_both f =
      let whole = (takes_iff (length out) p (length (s ++ t))).0 f in
      let first : q.fits ≡ true = a.fits ∙ (takes_iff (length out) p (length s)).1 (record { within = omega (arith, whole.within, sizes); fits = whole.fits }) in
      b.fits ∙ (takes_iff (length mid) q (length t)).1 (record { within = omega (arith, whole.within, (a.put first).end, a.kept, sizes); fits = first })

  pub said_said : Said out p (s ++ t) out' r
  said_said = record {
    kept = b.kept ∙ a.kept;
    fits = both_ways r.fits (takes (length out) p (length (s ++ t))) (λ f. (both_taken f).1) taken_both;
    put = λ f. put_put (a.put (both_taken f).0) (b.put f);
  }

pub said_number : (out : List ℕ) (p : Place) (piece : List ℕ) (n : ℕ) {out' : List ℕ} {r : Place} → r ≡ pen_after_number (length out) p piece n
    → out' ≡ out_after_number out p piece n → Said out p (piece ++ decimal n) out' r
unfolding pen_after_number out_after_number
said_number out p piece n e d =
    let named = pen_after (length out) p piece in
    let mid = out_after out p piece in
    said_said (said_piece out p piece refl refl) (said_piece mid named (decimal n) (e ∙ ap (λ (m : ℕ). pen_after m named (decimal n)) (sym (out_length out p piece))) d)

-- the same of a pen
pub wrote_wrote : {p q r : Pen} {s t : List ℕ} → Wrote p s q → Wrote q t r → Wrote p (s ++ t) r
wrote_wrote a b = record { buffer = b.buffer ∙ a.buffer; said = said_said a.said b.said }

-- .. and of a piece with the digits that `io` makes
pub wrote_number : {k n : ℕ} {s piece : List ℕ} {p q r : Pen} → s ≡ Io.last_digits 10 k n → Io.IsDigitCount 10 1 n k → Fits w64 n
    → Wrote p piece q → Wrote q s r → Wrote p (piece ++ decimal n) r
wrote_number e f w a b = wrote_wrote a (rw (decimal_is e f w) at b)

-- what is written in the end, and nothing where the text does not fit
pub said_text : {out text out' : List ℕ} {p r : Place} → Said out p text out' r
    → text_of out' r ≡ cond (takes (length out) p (length text)) (take p.at out ++ text) []
unfolding text_of
said_text {out} {text} {out'} {p} {r} s = by_test (takes (length out) p (length text))
    (λ t.
    let f : r.fits ≡ true = s.fits ∙ t in
    let k = (takes_iff (length out) p (length text)).0 t in
    let u : takes (length out') r 0 ≡ true = (takes_iff (length out') r 0).1 (record { within = omega (arith, k.within, (s.put f).end, s.kept); fits = f }) in
    rw (t, u) (s.put f).says)
    (λ t.
    let u : takes (length out') r 0 ≡ false = not_passed _ (λ v. true≢false (sym ((takes_iff (length out') r 0).0 v).fits ∙ s.fits ∙ t)) in
    rw (t, u))
