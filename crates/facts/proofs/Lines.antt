-- The lists of an accepted log that its lines are made of. Assumes nothing.
use Rattle.std.proofs.Common.{◌≡◌, refl, ap, ◌∙◌, List, ◌++◌, ℕ, ◌≤◌, arith, eqb, length, take, length-append}
use Rattle.std.proofs.lemmas.List.{take_at}
use Rattle.words.specs.declared.Weighed.{Weighed}
use Rattle.words.specs.Words as W
use Rattle.words.specs.Refusals.{longest}
use Rattle.words.specs.Answers.{weighed_places, places, listed}
use Rattle.words.proofs.Places.{length_places}
use Rattle.words.proofs.Refusals.{Judged}
use Rattle.words.proofs.CoverLists.{cover_list_le}
use Rattle.words.proofs.Weighs.{used_places}
use Rattle.lines.specs.Text.{Page}
use Rattle.ceilings.specs.declared.Ceiling.{Ceiling}
use Rattle.ceilings.specs.Ceilings.{ceiling_of}
use Rattle.summary.specs.declared.Summary.{Summary}
use Rattle.summary.specs.Whole.{outline_of, summary_of}
use Rattle.facts.specs.Report as R

-- ---- the lists of an accepted log

module _ (x : List ℕ) (j : Judged (length x)) where
  covers_few : length (W.cover_list eqb x) ≤ longest
  covers_few = omega (arith, cover_list_le eqb x, j.most)

  weighed_few : length (W.weighed eqb x (length x)) ≤ weighed_places
  unfolding W.used
  weighed_few = used_places x (length x) j.some j.most

part_is : (s t : List ℕ) {u : ℕ} → u ≡ length s → take u (s ++ t) ≡ s
part_is s t {u} e = rw e (take_at s t (length s) refl)

module _ (x : List ℕ) {s : Summary} (e : s ≡ summary_of x) where
  covers_used : s.outline.covers ≡ length (W.cover_list eqb x)
  unfolding summary_of outline_of
  covers_used = ap (λ (a : Summary). a.outline.covers) e

  module _ {t : List ℕ} (after : List ℕ) (made : t ≡ W.cover_list eqb x ++ after) where
    pub covers_within : s.outline.covers ≤ length t
    covers_within = omega (arith, covers_used, ap length made, length-append (W.cover_list eqb x) after)

    pub covers_part : take s.outline.covers t ≡ W.cover_list eqb x
    covers_part = rw made (part_is (W.cover_list eqb x) after covers_used)

  weighed_is : s.outline.weighed ≡ listed 0 (W.weighed eqb x (length x)) (W.limit (length x))
  unfolding summary_of outline_of
  weighed_is = ap (λ (a : Summary). a.outline.weighed) e

  module _ {k : ℕ} (used : k ≡ s.outline.weighed.used) where
    weighed_used : k ≡ length (W.weighed eqb x (length x))
    unfolding listed
    weighed_used = used ∙ ap (λ (w : Weighed). w.used) weighed_is

    pub weighed_within : Judged (length x) → k ≤ length s.outline.weighed.lens
    unfolding listed
    weighed_within j = omega (
      arith,
      weighed_used,
      weighed_few x j,
      ap (λ (w : Weighed). length w.lens) weighed_is,
      length_places weighed_places 0 (W.weighed eqb x (length x)) (weighed_few x j),
    )

    pub weighed_part : take k s.outline.weighed.lens ≡ W.weighed eqb x (length x)
    unfolding listed places
    weighed_part = rw weighed_is (part_is (W.weighed eqb x (length x)) _ weighed_used)

-- ---- all lines

module _ {x : List ℕ} {s : Summary} {covers weighed : List ℕ} {text : Page} (f : R.Facts x s covers weighed text) where
  pub told_covers : length covers ≤ longest
  told_covers = rw f.covered (covers_few x f.judged)

  pub told_weighed : length weighed ≤ weighed_places
  told_weighed = rw f.weighs (weighed_few x f.judged)

  pub told_is : {h : Ceiling} → h ≡ ceiling_of x → R.shape_lines (length x) s.outline.normal covers ++ R.border_lines s.best s.count weighed ++ R.ceiling_lines h ≡ R.report_text x
  unfolding R.report_text summary_of outline_of
  told_is h = rw (h, f.summed, f.covered, f.weighs) refl
