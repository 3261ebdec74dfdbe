-- What each way through the functions comes to: the words that its test picks. Assumes nothing.
use Rattle.std.proofs.Common.{◌≡◌, List, ℕ, length, eq-eqb, ne_eqb}
use Rattle.words.specs.PlantFile.{ceiling_symbol}
use Rattle.ceilings.specs.declared.Ceiling.{Ceiling}
use Rattle.ceilings.specs.Ceilings.{ceiling_of}
use Rattle.marks.specs.Marks.{LastRun}
use Rattle.pen.specs.declared.Pen.{Pen}
use Rattle.pen.specs.Pens.{Wrote}
use Rattle.wording.specs.Wording.{pick, told, band}
use Rattle.wording.proofs.Meaning.{last_run_is}

module _ (n m : ℕ) (s t : List ℕ) where
  -- what holds of the text that is picked holds of the pick
  pub pick_first : (P : List ℕ → Type 0) → n ≡ m → P s → P (pick n m s t)
  unfolding pick
  pick_first P e a = rw (eq-eqb n m e) a

  pub pick_second : (P : List ℕ → Type 0) → (n ≡ m → ⊥) → P t → P (pick n m s t)
  unfolding pick
  pick_second P e a = rw (ne_eqb n m e) a

  pub wrote_first : {p r : Pen} → n ≡ m → Wrote p s r → Wrote p (pick n m s t) r
  wrote_first {p} {r} e a = pick_first (λ (l : List ℕ). Wrote p l r) e a

  pub wrote_second : {p r : Pen} → (n ≡ m → ⊥) → Wrote p t r → Wrote p (pick n m s t) r
  wrote_second {p} {r} e a = pick_second (λ (l : List ℕ). Wrote p l r) e a

-- the band over the log's own ceiling and run
pub band_told : (x : List ℕ) {c : Ceiling} {k : ℕ} {p r : Pen} → c ≡ ceiling_of x → LastRun x ceiling_symbol k
    → Wrote p (told (length x) c k) r → Wrote p (band x) r
unfolding band
band_told x e l s = rw (← e, ← last_run_is x _ l) s
